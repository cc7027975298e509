use Rattle.std.proofs.Common.{◌≡◌, length, sym, ◌∙◌}
use Rattle.wasm_typing.proofs.Heights.{has_none_above}
use Rattle.wasm_typing.proofs.operands.Operands.leave.Goals as goal

pub returns-in_default-clause-exact : goal.returns-in_default-clause-exact
returns-in_default-clause-exact c =
    let types = c.self.inside.types in
    let len : length types.items ≡ c.len.result = sym (c.len.ensures ∙ types.ok.0) in
    rw (← c.self.view_is, ← len) (has_none_above types.items c.self.inside.current.height c.self.invariant.0)
