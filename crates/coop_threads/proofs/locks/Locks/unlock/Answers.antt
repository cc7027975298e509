use Rattle.std.proofs.Common.{ap, ◌∙◌}
use Rattle.std.specs.FinMap as map
use Rattle.coop_threads.specs.Locks.{LockHolders}
use Rattle.coop_threads.proofs.LockHolders.{held-remove}
use Rattle.coop_threads.proofs.locks.Locks.unlock.Goals as goal

pub returns-clause-freed : goal.returns-clause-freed
returns-clause-freed c =
    let gone = held-remove c.self.inside.holders.entries c.remove.new.self.entries c.args.lock c.remove.ensures.updates.0 in
    gone ∙ ap (λ (h : LockHolders). map.remove h c.args.lock) c.self.view_is
