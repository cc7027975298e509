use Rattle.std.proofs.Common.{ℕ, List, sym, ap, subst, ◌∙◌}
use Rattle.std.specs.List.{insert}
use Rattle.std.specs.FinMap as map
use Rattle.group_order.specs.Sends.{SendReceivers}
use Rattle.group_order.specs.inside.SortedSends.{AreInOrder}
use Rattle.group_order.proofs.SendReceivers.{get-kept, kept-insert}
use Rattle.group_order.proofs.SortedSends.{kept_more, kept_there, none_before, ordered_more}
use Rattle.group_order.proofs.send_index.SendIndex.add.Goals as goal

-- no send is there that was to be added
pub unreachable-requires : goal.unreachable-requires
unreachable-requires c =
    let sends = c.self.inside.sends.items in
    let sender : ℕ × ℕ = (c.args.p, c.args.clock) in
    let there = kept_there sends sender c.in-Ok.field-0 c.self.invariant (rw c.deref.ensures.value at c.in-Ok.ensures.found) in
    let clash = sym there ∙ sym (get-kept sends sender) ∙ ap (λ (s : SendReceivers). map.get s sender) c.self.view_is ∙ c.requires in
    cc

pub invariant_of-self-in-Err : goal.invariant_of-self-in-Err
invariant_of-self-in-Err c =
    let sends = c.self.inside.sends.items in
    let gap = rw c.deref.ensures.value at c.in-Err.ensures.absent in
    subst AreInOrder (sym c.in_ok-insert-in-Err.ensures.items) (ordered_more sends (c.args.p, c.args.clock) c.in-Err.place gap c.args.to c.self.invariant)

pub returns-clause-ok : goal.returns-clause-ok
returns-clause-ok c =
    let sends = c.self.inside.sends.items in
    let sender : ℕ × ℕ = (c.args.p, c.args.clock) in
    let gap = rw c.deref.ensures.value at c.in-Err.ensures.absent in
    ap (λ (es : List ((ℕ × ℕ) × ℕ)). map.from_entries es) c.in_ok-insert-in-Err.ensures.items
    ∙ kept-insert sends (insert sends c.in-Err.place (sender, c.args.to)) sender c.args.to (kept_more sends sender c.args.to c.in-Err.place (none_before sends sender c.in-Err.place gap))
    ∙ ap (λ (s : SendReceivers). map.insert s sender c.args.to) c.self.view_is
