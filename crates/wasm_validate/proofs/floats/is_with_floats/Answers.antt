use Rattle.std.proofs.Common.{sym, ◌∙◌}
use Rattle.wasm_validate.proofs.FloatLemmas.{last_is}
use Rattle.wasm_validate.proofs.floats.is_with_floats.Goals as goal

pub returns-else-in_elems : goal.returns-else-in_elems
returns-else-in_elems c =
    last_is c.args.«module».now
    (sym c.in_types.ensures ∙ c.if-in_types.false) (sym c.in_imports.ensures ∙ c.if-in_imports.false)
    (sym c.in_funcs.ensures ∙ c.if-in_funcs.false) (sym c.in_globals.ensures ∙ c.if-in_globals.false)
    (sym c.in_elems.ensures ∙ c.if-in_elems.false) c.in_segments.ensures
