use Rattle.std.proofs.Common.{◌≡◌, map, take}
use Rattle.wasm_types.specs.declared.modules.Export.{Export}
use Rattle.wasm_validate.proofs.exports.have_own_names.Given as goal

abbrev pub invariant-loop-e : goal.invariant-loop-e
invariant-loop-e l = map (λ n. n.now) l.names.items ≡ map (λ (e : Export). e.name.items) (take l.e-index l.exports)
