use Rattle.std.proofs.Common.{◌≡◌, take}
use Rattle.wasm_store.specs.inside.Begun.{first_globals}
use Rattle.wasm_store.proofs.start.first_globals.Given as goal

abbrev pub invariant-loop-global : goal.invariant-loop-global
invariant-loop-global l = l.first.items ≡ first_globals (take l.global-index l.globals)
