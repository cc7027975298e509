-- What is sent into a group is for one of its processes.
use Rattle.std.proofs.Common.{◌≡◌, ◌<◌, ℕ, true, arith}
use Rattle.std.proofs.lemmas.Bool.Decides.{nat_tests}
use Rattle.call_table.specs.declared.kind.Kind.{Kind}
use Rattle.call_table.specs.declared.kind.Kind.TheVariants.{Send}
use Rattle.lib_calls.specs.declared.entry.Entry.{Entry}
use Rattle.lib_calls.specs.Traffic.{is_sent, sends_as}

below : (k : Kind) (count : ℕ) (e : Entry) → sends_as k count e ≡ true → e.call.a0 < count
below Send count e sent = grind (arith, nat_tests)
below _ count e sent = cc

pub below_count : (count : ℕ) (e : Entry) → is_sent count e ≡ true → e.call.a0 < count
unfolding is_sent
below_count count e sent = below e.call.kind count e sent
