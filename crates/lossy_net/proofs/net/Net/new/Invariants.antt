use Rattle.std.proofs.Common.{◌≡◌, replicate}
use Rattle.lossy_net.specs.Network.{no_traffic}
use Rattle.lossy_net.proofs.net.Net.new.Given as goal

abbrev pub invariant-loop : goal.invariant-loop
invariant-loop l = l.endpoints.items ≡ replicate l.counter no_traffic
