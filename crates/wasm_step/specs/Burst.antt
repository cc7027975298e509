-- A burst: instructions until a call of the library, the thread's end or a trap.
use Rattle.std.specs.Prelude.{ℕ, zero, suc}
use Rattle.wasm_types.specs.declared.traps.Trap.TheVariants.{Spent}
use Rattle.wasm_types.specs.Code.{Tree, Trees, End, Then}
use Rattle.wasm_store.specs.Store.{Store}
use Rattle.wasm_stack.specs.After.{Halt, Traps, Sticks, AfterStep, Goes, Stops}
use Rattle.wasm_stack.specs.Control.{ended_level}
use Rattle.wasm_stack.specs.Thread.{Thread, functions_of, levels_left}
use Rattle.wasm_step.specs.Reduce.{ThreadAndStore, store_stays, reduce_instruction}

-- a thread at its next instruction, with those after it, or at a stop
pub data SettledThread : Type 0 where
  At : Tree → Thread → SettledThread
  Done : Halt → SettledThread

abbrev pub after_end : AfterStep → (Thread → SettledThread) → SettledThread
after_end (Goes t) go = go t
after_end (Stops s) go = Done s

abbrev pub at_next_instruction : Trees → Thread → SettledThread → SettledThread
at_next_instruction End t otherwise = otherwise
at_next_instruction (Then i rest) t otherwise = At i (record t { todo = rest })

-- past at most n ends of levels and frames
abbrev pub settle_by : ℕ → Thread → SettledThread
settle_by zero t = at_next_instruction t.todo t (after_end (ended_level t) (λ t'. Done Sticks))
settle_by (suc n) t = at_next_instruction t.todo t (after_end (ended_level t) (settle_by n))

-- past the ends of levels and frames; there are no more than `levels_left` of them
abbrev pub settle : Thread → SettledThread
settle t = settle_by (levels_left t) t

-- where a burst stops, and the store then
pub record BurstResult : Type 0 where
  pub stop : Halt
  pub store : Store

abbrev pub after_step : AfterStep → Store → (Thread → Store → BurstResult) → BurstResult
after_step (Goes t) g go = go t g
after_step (Stops s) g go = record { stop = s; store = g }

abbrev pub after_both : ThreadAndStore → (Thread → Store → BurstResult) → BurstResult
after_both r go = after_step r.after r.store go

-- one instruction more, past the ends before it
abbrev pub one_step_at : SettledThread → Store → ThreadAndStore
one_step_at (At i t) g = reduce_instruction i t g
one_step_at (Done s) g = store_stays g (Stops s)

abbrev pub one_step : Thread → Store → ThreadAndStore
one_step t g = one_step_at (settle t) g

-- where there is one instruction too many
abbrev pub spent_burst : SettledThread → Halt
spent_burst (At i t) = Traps Spent (functions_of t)
spent_burst (Done s) = s

-- a burst has at most so many instructions
abbrev pub most_instructions : ℕ
most_instructions = 10000000

-- at most n instructions, and `Spent` where there is one more
unfoldable pub burst : ℕ → Thread → Store → BurstResult
burst zero t g = record { stop = spent_burst (settle t); store = g }
burst (suc n) t g = after_both (one_step t g) (burst n)
