use Rattle.std.proofs.Common.{◌≡◌, length}
use Rattle.low_tests.proofs.datagrams.a_datagram_is_kept_once.Given as goal

-- the network has both processes
abbrev pub invariant-loop : goal.invariant-loop
invariant-loop g l = length l.net ≡ 2
