use Rattle.std.proofs.Common.{rules, ℕ, sym, ap, take, add-one, ◌∙◌}
use Rattle.conversation.proofs.WholeLines.{whole_part-at, whole_part-nowhere}
use Rattle.conversation.proofs.conversing.split_whole.Goals as goal

pub returns-in-Some-clause-whole : goal.returns-in-Some-clause-whole
returns-in-Some-clause-whole c =
    let found = whole_part-at c.args.bytes.now c.in-Some.last (search rules) (search rules) (search rules) in
    c.split_at.ensures.front ∙ ap (λ (m : ℕ). take m c.args.bytes.now) (add-one c.in-Some.last) ∙ sym found

pub returns-in-Some-clause-parts : goal.returns-in-Some-clause-parts
returns-in-Some-clause-parts c = c.split_at.ensures.by_index.0

pub returns-in-None-clause-whole : goal.returns-in-None-clause-whole
returns-in-None-clause-whole c = sym (whole_part-nowhere c.args.bytes.now (search rules))
