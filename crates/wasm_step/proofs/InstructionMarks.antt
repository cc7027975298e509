-- What an instruction leaves of the marks.
use Rattle.std.proofs.Common.{ℕ, zero, suc, ◌+◌, Bool, true, false, List, [], ◌∷◌, Option, Some, None}
use Rattle.std.specs.Prelude.{length, nat_lt, if◌then◌else◌}
use Rattle.guest_memory.specs.LittleEndian.{low_bytes}
use Rattle.guest_memory.specs.Memory.{is_inside, with_bytes}
use Rattle.wasm_types.specs.declared.code.Value.{Value}
use Rattle.wasm_types.specs.declared.code.Value.TheVariants.{I32, I64}
use Rattle.wasm_types.specs.Code.{Tree, GlobalSet, Store as StoreIn, MemoryGrow}
use Rattle.wasm_values.specs.Access.{store_width}
use Rattle.wasm_values.specs.Values.{bits_of}
use Rattle.wasm_store.specs.Marks.{MarkedByGrowth, MarkedStore, MarkedTransitive, MarkedReflexive, SetMarks, WritesMark}
use Rattle.wasm_store.specs.Store.{Store}
use Rattle.wasm_step.specs.Burst.{BurstResult, SettledThread, At, Done, after_step, burst, one_step, one_step_at, settle}
use Rattle.wasm_stack.specs.After.{AfterStep, Goes, Stops}
use Rattle.wasm_step.specs.Reduce.{ThreadAndStore, reduce_instruction, set_global, write_at, write_value, write_top, grow_top}
use Rattle.wasm_stack.specs.Thread.{Thread}

choice : (g : Store) (b : Bool) (p q : ThreadAndStore) → MarkedStore g p.store → MarkedStore g q.store → MarkedStore g (if b then p else q).store
choice g true p q hp hq = hp
choice g false p q hp hq = hq

module _ (set : SetMarks) (grown : MarkedByGrowth) (written : WritesMark) (same : MarkedReflexive) (follow : MarkedTransitive) where
  set_marks : (x : ℕ) (g : Store) (stack : List Value) (t : Thread) → MarkedStore g (set_global x g stack t).store
  set_marks x g [] t = same g
  set_marks x g (v ∷ rest) t = choice g (nat_lt x (length g.globals)) _ _ (set g x v) (same g)

  stored : (b : Bool) (g : Store) (addr : ℕ) (piece : List ℕ) → MarkedStore g (record g { memory = if b then with_bytes g.memory addr piece else g.memory })
  stored true g addr piece = written g addr piece
  stored false g addr piece = same g

  write_at_marks : (width : Option ℕ) (addr bits : ℕ) (g : Store) (t : Thread) → MarkedStore g (write_at width addr bits g t).store
  write_at_marks None addr bits g t = same g
  write_at_marks (Some width) addr bits g t = stored (is_inside g.memory addr width) g addr (low_bytes width bits)

  write_value_marks : (op offset : ℕ) (v : Value) (stack : List Value) (g : Store) (t : Thread) → MarkedStore g (write_value op offset v stack g t).store
  write_value_marks op offset v [] g t = same g
  write_value_marks op offset v (I64 base ∷ rest) g t = same g
  write_value_marks op offset v (I32 base ∷ rest) g t =
      write_at_marks (store_width op v) (base + offset) (bits_of (Some v)) g (record t { stack = rest })

  write_marks : (op offset : ℕ) (stack : List Value) (g : Store) (t : Thread) → MarkedStore g (write_top op offset stack g t).store
  write_marks op offset [] g t = same g
  write_marks op offset (v ∷ rest) g t = write_value_marks op offset v rest g t

  grow_marks : (stack : List Value) (g : Store) (t : Thread) → MarkedStore g (grow_top stack g t).store
  grow_marks [] g t = same g
  grow_marks (I64 x ∷ rest) g t = same g
  grow_marks (I32 pages ∷ rest) g t = grown g pages

  instr_marks : (i : Tree) (t : Thread) (g : Store) → MarkedStore g (reduce_instruction i t g).store
  instr_marks (GlobalSet x) t g = set_marks x g t.stack t
  instr_marks (StoreIn op align offset) t g = write_marks op offset t.stack g t
  instr_marks MemoryGrow t g = grow_marks t.stack g t
  instr_marks _ t g = same g

  step_at_marks : (s : SettledThread) (g : Store) → MarkedStore g (one_step_at s g).store
  step_at_marks (At i t) g = instr_marks i t g
  step_at_marks (Done stop) g = same g

  after_step_marks : (a : AfterStep) (g : Store) (go : Thread → Store → BurstResult) → ((t : Thread) → MarkedStore g (go t g).store) → MarkedStore g (after_step a g go).store
  after_step_marks (Goes t) g go next = next t
  after_step_marks (Stops s) g go next = same g

  pub burst_marks : (n : ℕ) (t : Thread) (g : Store) → MarkedStore g (burst n t g).store
  unfolding burst
  burst_marks zero t g = same g
  burst_marks (suc n) t g =
      let step = one_step t g in
      follow g step.store (burst (suc n) t g).store (step_at_marks (settle t) g)
      (after_step_marks step.after step.store (burst n) (λ u. burst_marks n u step.store))
