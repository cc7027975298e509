use Rattle.std.proofs.Common.{◌≡◌, ℕ, Some, get_or, sym, ap, ◌∙◌}
use Rattle.std.specs.FinMap as map
use Rattle.std.proofs.lemmas.List.{get_or_default}
use Rattle.group_order.specs.Sends.{SendReceivers}
use Rattle.group_order.proofs.SendReceivers.{get-kept}
use Rattle.group_order.proofs.SortedSends.{kept_nowhere, kept_there}
use Rattle.group_order.proofs.send_index.SendIndex.find_send.Goals as goal

pub returns-in-Ok : goal.returns-in-Ok
returns-in-Ok c =
    let sends = c.self.inside.sends.items in
    let sender : ℕ × ℕ = (c.args.p, c.args.clock) in
    let at = rw c.deref.ensures.value at c.in-Ok.ensures.found in
    let read : c.index.result.now ≡ get_or sends c.in-Ok.place ((0, 0), 0) = c.index.ensures ∙ get_or_default sends c.in-Ok.place c.index.result.now ((0, 0), 0) at.within in
    ap (λ (x : (ℕ × ℕ) × ℕ). Some x.1) read ∙ sym (kept_there sends sender c.in-Ok.place c.self.invariant at) ∙ sym (get-kept sends sender) ∙ ap (λ (s : SendReceivers). map.get s sender) c.self.view_is

pub returns-in-Err : goal.returns-in-Err
returns-in-Err c =
    let sends = c.self.inside.sends.items in
    let sender : ℕ × ℕ = (c.args.p, c.args.clock) in
    sym (kept_nowhere sends sender c.in-Err.field-0 (rw c.deref.ensures.value at c.in-Err.ensures.absent)) ∙ sym (get-kept sends sender) ∙ ap (λ (s : SendReceivers). map.get s sender) c.self.view_is
