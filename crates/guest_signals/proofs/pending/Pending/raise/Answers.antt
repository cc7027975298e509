use Rattle.std.proofs.Common.{◌<◌, length, sym, rules}
use Rattle.guest_signals.proofs.AnyOf.{any_set}
use Rattle.guest_signals.proofs.pending.Pending.raise.Goals as goal

pub invariant_of-self : goal.invariant_of-self
invariant_of-self c =
    let within : c.args.signal < length c.self.inside.signals = search rules in
    sym (any_set c.self.inside.signals c.args.signal within)
