-- Loads, stores and globals, by what is on top.
use Rattle.std.proofs.Common.{◌≡◌, ℕ, ◌+◌, ◌≤◌, Bool, true, false, List, [], ◌∷◌, Option, Some, None, length, drop, refl, sym, ap, ◌∙◌, subst, arith}
use Rattle.std.specs.Prelude.{if◌then◌else◌}
use Rattle.guest_memory.specs.Memory.{Memory, is_inside, after_store}
use Rattle.wasm_types.specs.declared.code.Value.{Value}
use Rattle.wasm_types.specs.declared.code.Value.TheVariants.{I32, I64}
use Rattle.wasm_types.specs.declared.traps.Trap.TheVariants.{MemoryRange}
use Rattle.wasm_types.specs.Code.{Trees}
use Rattle.wasm_values.specs.Access.{store_width}
use Rattle.wasm_values.specs.Values.{bits_of}
use Rattle.wasm_store.specs.Store.{Store}
use Rattle.wasm_stack.specs.Limits.{ThreadWithin}
use Rattle.wasm_stack.specs.After.{Goes, Sticks, Stops, at_trap}
use Rattle.wasm_step.specs.Reduce.{load, write, write_at, write_top}
use Rattle.wasm_step.specs.inside.Accesses.{Loads, Stores}
use Rattle.wasm_types.specs.Slots.{IsLong, IsNarrow}
use Rattle.wasm_stack.specs.Thread.{Thread, without_operands}

-- what an opcode loads, as the literal that it is
pub loads_as : (op k addr : ℕ) (v : Value) (memory : Memory) → op ≡ k → Loads k addr memory v → Loads op addr memory v
loads_as op k addr v memory same h = subst (λ op. Loads op addr memory v) (sym same) h

pub stored_i32 : (op k : ℕ) (v : Value) → op ≡ k → (store_width op v ≡ None → ⊥) → ((x : ℕ) → store_width k (I64 x) ≡ None) → IsNarrow v
stored_i32 op k (I32 x) same rule only = (x, refl)
stored_i32 op k (I64 x) same rule only = absurd (rule (ap (λ op. store_width op (I64 x)) same ∙ only x))

pub stored_i64 : (op k : ℕ) (v : Value) → op ≡ k → (store_width op v ≡ None → ⊥) → ((x : ℕ) → store_width k (I32 x) ≡ None) → IsLong v
stored_i64 op k (I64 x) same rule only = (x, refl)
stored_i64 op k (I32 x) same rule only = absurd (rule (ap (λ op. store_width op (I32 x)) same ∙ only x))

pub stores_by : (op k addr w : ℕ) (v : Value) (g : Store) → op ≡ k → store_width k v ≡ Some w → is_inside g.memory addr w ≡ true → Stores op addr v g (record g { memory = after_store g.memory addr w (bits_of (Some v)) })
stores_by op k addr w v g same writes at t =
    ap (λ (o : Option ℕ). write_at o addr (bits_of (Some v)) g t) (ap (λ op. store_width op v) same ∙ writes)
    ∙ ap (λ b. record { after = if b then Goes t else at_trap t MemoryRange; store = record g { memory = after_store g.memory addr w (bits_of (Some v)) } }) at

pub load_by : (op offset base : ℕ) (v : Value) (memory : Memory) (t : Thread) → t.stack ≡ I32 base ∷ drop 1 t.stack → Loads op (base + offset) memory v → Goes (record t { stack = v ∷ drop 1 t.stack }) ≡ load op offset memory t
load_by op offset base v memory t st loads =
    sym (ap (λ o. load op offset memory (record t { stack = o })) st ∙ loads (record t { stack = drop 1 t.stack }))

pub within_without : (n : ℕ) (t : Thread) → ThreadWithin t → ThreadWithin (without_operands n t)
within_without n t h = record { frames = h.frames; size = omega (arith, h.size, Rattle.std.proofs.Common.length-drop n t.stack) }

-- whatever is left to do
at_sticks_anywhere : (o : Option ℕ) (addr bits : ℕ) (g : Store) (t u : Thread) → (write_at o addr bits g t).after ≡ Stops Sticks → (write_at o addr bits g u).after ≡ Stops Sticks
at_sticks_anywhere None addr bits g t u e = refl
at_sticks_anywhere (Some w) addr bits g t u e = by_test (is_inside g.memory addr w) e
  where
    by_test : (b : Bool) → (if b then Goes t else at_trap t MemoryRange) ≡ Stops Sticks → (if b then Goes u else at_trap u MemoryRange) ≡ Stops Sticks
    by_test true e = cc
    by_test false e = cc

top_sticks_anywhere : (op offset : ℕ) (s : List Value) (t : Thread) (g : Store) (rest : Trees) → (write_top op offset s g t).after ≡ Stops Sticks → (write_top op offset s g (record t { todo = rest })).after ≡ Stops Sticks
top_sticks_anywhere op offset [] t g rest e = refl
top_sticks_anywhere op offset (v ∷ []) t g rest e = refl
top_sticks_anywhere op offset (v ∷ (I64 x ∷ s)) t g rest e = refl
top_sticks_anywhere op offset (v ∷ (I32 x ∷ s)) t g rest e = at_sticks_anywhere (store_width op v) (x + offset) (bits_of (Some v)) g _ _ e

pub write_sticks_anywhere : (op offset : ℕ) (t : Thread) (g : Store) (rest : Trees) → (write op offset g t).after ≡ Stops Sticks → (write op offset g (record t { todo = rest })).after ≡ Stops Sticks
write_sticks_anywhere op offset t g rest = top_sticks_anywhere op offset t.stack t g rest
