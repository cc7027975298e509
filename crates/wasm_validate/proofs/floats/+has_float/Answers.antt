use Rattle.std.proofs.Common.{sym, ◌∙◌}
use Rattle.wasm_validate.proofs.FloatLemmas.{block_is, first_is, second_is}
use Rattle.wasm_validate.proofs.floats.+has_float.Goals as goal

pub has_float-returns-then-have_float : goal.has_float-returns-then-have_float
has_float-returns-then-have_float t c =
    first_is _ _ _ _ _ c.in-If.is (sym c.is_float_result.ensures ∙ c.if-is_float_result.false) c.deref.ensures.value (sym c.have_float.ensures ∙ c.if-have_float.true)

pub has_float-returns-else-have_float : goal.has_float-returns-else-have_float
has_float-returns-else-have_float t c =
    second_is _ _ _ _ _ _ _ c.in-If.is (sym c.is_float_result.ensures ∙ c.if-is_float_result.false) c.deref.ensures.value (sym c.have_float.ensures ∙ c.if-have_float.false) c.deref-in-If.ensures.value c.have_float-in-If.ensures

pub has_float-returns-else-is_float_result-2 : goal.has_float-returns-else-is_float_result-2
has_float-returns-else-is_float_result-2 t c =
    block_is _ _ _ _ _ c.in-Block.is (sym c.is_float_result-in-Block.ensures ∙ c.if-is_float_result-2.false) c.deref-else-is_float_result-2.ensures.value c.have_float-else-is_float_result-2.ensures
