use Rattle.std.proofs.Common.{◌≡◌, ◌-◌, ℕ, get_or, length, sym, ap, ◌∙◌, arith, rules}
use Rattle.std.proofs.lemmas.List.Sorted.{answers_always}
use Rattle.std.proofs.lemmas.Option.{get_or_from_slice_get, slice_get_within}
use Rattle.group_order.specs.Sends.{by_sender}
use Rattle.group_order.proofs.SortedSends.{after_last, searched}
use Rattle.group_order.proofs.send_index.search.Goals as goal

pub returns-in-Less : goal.returns-in-Less
returns-in-Less c =
    let sends = c.args.sends.now in
    let there = sym c.in-Some.ensures.value in
    let within = slice_get_within sends (length sends - 1) c.in-Some.last.now there in
    let last : get_or sends (length sends - 1) ((0, 0), 0) ≡ c.in-Some.last.now = get_or_from_slice_get sends (length sends - 1) c.in-Some.last.now ((0, 0), 0) there in
    record { found = tt; absent = after_last sends c.args.sender c.requires (omega (arith, within)) (ap (λ (x : (ℕ × ℕ) × ℕ). by_sender x.0 c.args.sender) last ∙ sym c.in-Less.ensures) }

pub returns-in_default-cmp : goal.returns-in_default-cmp
returns-in_default-cmp c =
    let facts = c.binary_search_by_key.ensures in
    let by_key = facts.position (λ send. send.0) (answers_always _ _ _ (λ f a r g called. search rules)) in
    searched c.args.sends.now c.requires c.args.sender _ facts.bound by_key
