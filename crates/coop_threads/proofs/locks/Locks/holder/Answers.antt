use Rattle.std.proofs.Common.{sym, ap, ◌∙◌}
use Rattle.std.specs.FinMap as map
use Rattle.coop_threads.specs.Locks.{LockHolders}
use Rattle.coop_threads.proofs.LockHolders.{get-held}
use Rattle.coop_threads.proofs.locks.Locks.holder.Goals as goal

pub returns : goal.returns
returns c = c.copied.ensures ∙ c.get.ensures.value ∙ sym (get-held _ c.args.lock) ∙ ap (λ (h : LockHolders). map.get h c.args.lock) c.self.view_is
