-- What a load reads and a store writes, whatever thread it is of.
use Rattle.std.specs.Prelude.{◌≡◌, ℕ, Some}
use Rattle.guest_memory.specs.Memory.{Memory}
use Rattle.wasm_types.specs.declared.code.Value.{Value}
use Rattle.wasm_values.specs.Access.{load_width, store_width}
use Rattle.wasm_values.specs.Values.{bits_of}
use Rattle.wasm_store.specs.Store.{Store}
use Rattle.wasm_stack.specs.After.{Goes}
use Rattle.wasm_stack.specs.Thread.{Thread, with_operand}
use Rattle.wasm_step.specs.Reduce.{load_at, store_stays, write_at}

-- the load at this address gives this operand
abbrev pub Loads : ℕ → ℕ → Memory → Value → Type 0
Loads op addr memory v = (t : Thread) → load_at (load_width op) op addr memory t ≡ Goes (with_operand t v)

-- the store of this operand at this address goes on with the other store
abbrev pub Stores : ℕ → ℕ → Value → Store → Store → Type 0
Stores op addr v g g' = (t : Thread) → write_at (store_width op v) addr (bits_of (Some v)) g t ≡ store_stays g' (Goes t)
