-- Threads that stay within their limits.
use Rattle.std.proofs.Common.{◌≡◌, ℕ, ◌+◌, ◌<◌, ◌≤◌, Bool, true, ◌∷◌, Option, length, drop, ap, arith, rules, tests}
use Rattle.wasm_types.specs.declared.code.ValType.{ValType}
use Rattle.wasm_types.specs.declared.code.Value.{Value}
use Rattle.wasm_types.specs.Code.{Trees}
use Rattle.wasm_stack.specs.Limits.{ThreadWithin}
use Rattle.wasm_stack.specs.Thread.{Thread, fits_limits, opened_level, size_of_thread, with_operand, without_operands}

pub within_is : (t : Thread) → ThreadWithin t → fits_limits t ≡ true
within_is t h =
    let size : size_of_thread t + 0 ≤ 16384 = omega (arith, h.size) in
    let frames = h.frames in
    search (rules, tests)

pub within_pushed : (t : Thread) (v : Value) → ThreadWithin t → size_of_thread t < 16384 → ThreadWithin (with_operand t v)
within_pushed t v h lt = record { frames = h.frames; size = omega (arith, lt) }

pub within_without : (n : ℕ) (t : Thread) → ThreadWithin t → ThreadWithin (without_operands n t)
within_without n t h = record { frames = h.frames; size = omega (arith, h.size, Rattle.std.proofs.Common.length-drop n t.stack) }

-- whatever is left to do
pub within_elsewhere : (t : Thread) (rest : Trees) → ThreadWithin t → ThreadWithin (record t { todo = rest })
within_elsewhere t rest h = record { frames = h.frames; size = h.size }

pub within_opened : (t : Thread) (gives : Option ValType) (body target : Trees) (carries loops : Bool) → ThreadWithin t → size_of_thread t < 16384 → ThreadWithin (opened_level t gives body target carries loops)
within_opened t gives body target carries loops h lt = record { frames = h.frames; size = omega (arith, lt) }
