-- What the kinds of calls do to a thread.
use Rattle.std.specs.Prelude.{ℕ, ◌==◌, ◌%◌, ◌^◌, Bool, true, false, if◌then◌else◌, Option, Some, None}
use Rattle.call_table.specs.Table.{row}
use Rattle.call_table.specs.declared.kind.Kind.{Kind}
use Rattle.call_table.specs.declared.kind.Kind.TheVariants.{Exit}
use Rattle.wasm_types.specs.declared.code.Value.{Value}
use Rattle.wasm_types.specs.declared.code.Value.TheVariants.{I32, I64}

-- a reply as a value of this width in bits, or none
abbrev pub value_of_width : ℕ → ℕ → Option Value
value_of_width width reply = if width == 0 then None else if width == 32 then Some (I32 (reply % 2 ^ 32)) else Some (I64 reply)

-- what a reply puts on the operand stack
abbrev pub reply_value : Kind → ℕ → Option Value
reply_value kind reply = value_of_width (row kind).signature.result reply

-- `exit` ends the process
abbrev pub ends_process : Kind → Bool
ends_process Exit = true
ends_process _ = false
