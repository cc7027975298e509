use Rattle.std.proofs.Common.{◌≡◌, length, sym, ◌∙◌}
use Rattle.wasm_typing.proofs.Heights.{has_none_above}
use Rattle.wasm_typing.proofs.operands.Operands.is_unknown.Goals as goal

pub returns-then-self : goal.returns-then-self
returns-then-self c =
    let types = c.self.inside.types in
    let len : length types.items ≡ c.len.result = sym (c.len.ensures ∙ types.ok.0) in
    rw (← c.self.view_is, ← len, c.if-self.true) (has_none_above types.items c.self.inside.current.height c.self.invariant.0)
