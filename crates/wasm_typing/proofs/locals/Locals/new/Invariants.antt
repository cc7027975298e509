use Rattle.std.proofs.Common.{◌≡◌, ◌++◌, drop}
use Rattle.wasm_typing.specs.inside.Locals.{ends_from}
use Rattle.wasm_typing.proofs.locals.Locals.new.Given as goal

abbrev pub invariant-loop-run : goal.invariant-loop-run
invariant-loop-run l = l.ends.items ++ ends_from l.end (drop l.run-index l.runs) ≡ ends_from 0 l.runs
