use Rattle.std.proofs.Common.{sym, ◌∙◌}
use Rattle.wasm_validate.proofs.ShapeLemmas.{last_is}
use Rattle.wasm_validate.proofs.shape.is_linked.Goals as goal

pub returns : goal.returns
returns c =
    last_is c.args.«module».now
    (sym c.have_types.ensures ∙ c.if-not-have_types.false) (sym c.are_initial.ensures ∙ c.if-not-are_initial.false)
    (sym c.are_exports.ensures ∙ c.if-not-are_exports.false) (sym c.is_start.ensures ∙ c.if-not-is_start.false)
    (sym c.are_elems.ensures ∙ c.if-not-are_elems.false) c.are_segments.ensures
