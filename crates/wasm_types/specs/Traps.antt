-- The numbers of the traps.
use Rattle.std.specs.Prelude.{ℕ}
use Rattle.wasm_types.specs.declared.traps.Trap.{Trap}
use Rattle.wasm_types.specs.declared.traps.Trap.TheVariants.{Unreachable, ZeroDivisor, Overflow, MemoryRange, TableRange, EmptyElement, TypeDiffers, Exhausted, Spent}

-- the number that stands for a trap, from 1 to 9
abbrev pub trap_number : Trap → ℕ
trap_number Unreachable = 1
trap_number ZeroDivisor = 2
trap_number Overflow = 3
trap_number MemoryRange = 4
trap_number TableRange = 5
trap_number EmptyElement = 6
trap_number TypeDiffers = 7
trap_number Exhausted = 8
trap_number Spent = 9
