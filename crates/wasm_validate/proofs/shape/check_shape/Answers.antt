use Rattle.std.proofs.Common.{sym, ◌∙◌}
use Rattle.wasm_validate.proofs.ShapeLemmas.{shaped_from, within_by, linked_by, own_names, own_names_shown}
use Rattle.wasm_validate.proofs.shape.check_shape.Goals as goal

pub returns-then-not-is_within_limits : goal.returns-then-not-is_within_limits
returns-then-not-is_within_limits c = λ shaped. let h = within_by _ shaped in let n = c.if-not-is_within_limits.true in let e = c.is_within_limits.ensures in cc

pub returns-then-not-is_linked : goal.returns-then-not-is_linked
returns-then-not-is_linked c = λ shaped. let h = linked_by _ shaped in let n = c.if-not-is_linked.true in let e = c.is_linked.ensures in cc

pub returns-then-branch : goal.returns-then-branch
returns-then-branch c =
    shaped_from _ (sym c.is_within_limits.ensures ∙ c.if-not-is_within_limits.false) (sym c.is_linked.ensures ∙ c.if-not-is_linked.false)
    (own_names c.args.«module».now _ c.deref.ensures.value (c.in_ok-have_own_names.ensures.0 c.if-branch.true))

pub returns-else-branch : goal.returns-else-branch
returns-else-branch c = λ shaped. let own = c.in_ok-have_own_names.ensures.1 (own_names_shown c.args.«module».now _ c.deref.ensures.value shaped.names) in let n = c.if-branch.false in cc
