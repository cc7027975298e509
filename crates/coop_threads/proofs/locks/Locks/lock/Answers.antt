use Rattle.std.proofs.Common.{◌≡◌, None, ap, ◌∙◌}
use Rattle.std.specs.FinMap as map
use Rattle.coop_threads.proofs.LockHolders.{held-insert}
use Rattle.coop_threads.specs.Locks.{LockHolders, holders_after}
use Rattle.coop_threads.proofs.locks.Locks.lock.Goals as goal

pub returns-in_ok-insert-in-None-clause-ok : goal.returns-in_ok-insert-in-None-clause-ok
returns-in_ok-insert-in-None-clause-ok c =
    let put = held-insert c.self.inside.holders.entries c.insert.new.self.entries c.args.lock c.args.thread c.in_ok-insert-in-None.ensures.updates.0 in
    let free : None ≡ map.get c.args.self.now c.args.lock = c.in-None.ensures in
    put ∙ ap (λ (h : LockHolders). map.insert h c.args.lock c.args.thread) c.self.view_is ∙ ap (holders_after c.args.self.now c.args.lock c.args.thread) free
