-- How the end of a process is shown.
use Rattle.std.specs.Prelude.{ℕ, List, ◌++◌, codes}
use Rattle.std.specs.Fmt.{signed_decimal}
use Rattle.wasm_types.specs.declared.traps.Trap.{Trap}
use Rattle.wasm_types.specs.declared.traps.Trap.TheVariants as trap
use Rattle.guest_process.specs.declared.end.End.{End}
use Rattle.guest_process.specs.declared.end.End.TheVariants as ended

-- why a thread trapped
abbrev pub trap_text : Trap → List ℕ
trap_text trap.Unreachable = codes "unreachable"
trap_text trap.ZeroDivisor = codes "zero divisor"
trap_text trap.Overflow = codes "overflow"
trap_text trap.MemoryRange = codes "memory range"
trap_text trap.TableRange = codes "table range"
trap_text trap.EmptyElement = codes "empty element"
trap_text trap.TypeDiffers = codes "type differs"
trap_text trap.Exhausted = codes "exhausted"
trap_text trap.Spent = codes "spent"

-- how a process stands
abbrev pub end_text : End → List ℕ
end_text ended.Running = codes "running"
end_text ended.Finished = codes "finished"
end_text (ended.Exited code) = codes "exited " ++ signed_decimal code
end_text (ended.Trapped why) = codes "trapped " ++ trap_text why
