use Rattle.std.proofs.Common.{◌≡◌, take}
use Rattle.wasm_store.specs.Start.{put_funcs}
use Rattle.wasm_store.proofs.start.put_funcs.Given as goal

abbrev pub invariant-loop-i : goal.invariant-loop-i
invariant-loop-i l = l.table ≡ put_funcs l.initial.table l.at (take l.i l.funcs)
