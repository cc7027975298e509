use Rattle.std.proofs.Common.{◌≡◌, ◌∙◌, ℕ, List, ap, length}
use Rattle.std.specs.List.{insert}
use Rattle.call_log.specs.Head.{Head}
use Rattle.proc_replay.specs.Replaying.{Replaying}
use Rattle.log_pairs.proofs.PlacedReplays.{lower, put_behind}
use Rattle.log_pairs.proofs.pairs.insert_replay.Goals as goal

pub returns : goal.returns
returns c =
    let rs = c.args.sorted.now.items in
    let r = c.args.replay in
    let process : c.head.result.process ≡ r.head.process = ap (λ (h : Head). h.process) c.head.ensures in
    c.in_ok-insert.ensures.items
    ∙ ap (λ (n : ℕ). insert rs n r) (c.index_of-index.ensures ∙ ap (λ (xs : List Replaying). length (lower c.head.result.process xs)) c.deref.ensures.value ∙ ap (λ (p : ℕ). length (lower p rs)) process)
    ∙ put_behind r rs
