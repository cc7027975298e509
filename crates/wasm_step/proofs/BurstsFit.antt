-- A burst of a thread that fits never sticks, and keeps what fits.
use Rattle.std.proofs.Common.{◌≡◌, ℕ, zero, suc, true, false, Option, None, refl, sym, ap, ◌∙◌, subst}
use Rattle.std.specs.Prelude.{if◌then◌else◌}
use Rattle.wasm_types.specs.declared.code.Value.TheVariants.{I32, I64}
use Rattle.wasm_types.specs.declared.traps.Trap.TheVariants.{Exhausted}
use Rattle.wasm_types.specs.Code.{Tree, Unreachable, Nop, Block, Loop, If, Br, BrIf, BrTable, Return, CallFunc, CallIndirect, DropTop, Select, LocalGet, LocalSet, LocalTee, GlobalGet, GlobalSet, Load, Store as StoreIn, MemorySize, MemoryGrow, ConstI32, ConstI64, ConstF32, ConstF64, Op, Trees, End, Then}
use Rattle.wasm_types.specs.Context.{Context}
use Rattle.guest_module.specs.Laws.{TypesAgree}
use Rattle.wasm_types.specs.Modules.{Module}
use Rattle.guest_module.specs.Valid.{IsValid}
use Rattle.wasm_step.specs.declared.run.Stopped.{Stopped}
use Rattle.wasm_step.specs.inside.Paused.{stopped_of, stopped_result}
use Rattle.wasm_step.specs.Burst.{SettledThread, At, Done, BurstResult, at_next_instruction, after_end, settle_by, settle, one_step_at, one_step, spent_burst, after_step, burst}
use Rattle.wasm_values.specs.Values.{types_of_values}
use Rattle.wasm_store.specs.Suits.{SuitsModule}
use Rattle.wasm_step.specs.Fits.{IsTypedRemainder, ThreadFits, HaltFits, BurstFits}
use Rattle.wasm_step.specs.inside.Rules.{RunsByRules}
use Rattle.wasm_step.specs.inside.Standing.{AfterFits, StandsFit}
use Rattle.wasm_step.specs.Reduce.{ThreadAndStore, instr_row}
use Rattle.wasm_stack.specs.After.{AfterStep, Goes, Halt, Stops, limited_thread, at_trap}
use Rattle.wasm_stack.specs.Control.{ended_level}
use Rattle.wasm_store.specs.Store.{Store}
use Rattle.wasm_stack.specs.Thread.{Thread, with_operand, fits_limits, levels_left}
use Rattle.wasm_step.proofs.BranchesFit.{block_fits, loop_fits, choose_fits, br_fits, br_if_fits, br_table_fits, return_row_fits}
use Rattle.wasm_step.proofs.CallsFit.{call_row_fits, call_indirect_fits}
use Rattle.wasm_step.proofs.ThreadsFit.{never_none, RestOf, labels_at, goes, rest_of, ended_fits}
use Rattle.wasm_step.proofs.PlainRowsFit.{Before, numeric_fits, local_get_fits, local_set_fits, local_tee_fits, drop_fits, select_fits}
use Rattle.wasm_step.proofs.SameModule.{keeps_module}
use Rattle.wasm_step.proofs.LevelRuns.{zero_depth, less_depth}
use Rattle.wasm_step.proofs.StoreRowsFit.{global_get_fits, global_set_fits, load_row_fits, store_row_fits, size_fits, grow_fits}

one_step_at_module : (s : SettledThread) (g : Store) → (one_step_at s g).store.«module» ≡ g.«module»
one_step_at_module (At i t) g = keeps_module i t g
one_step_at_module (Done stop) g = refl

-- an instruction leaves the module as it is
pub one_step_module : (t : Thread) (g : Store) → (one_step t g).store.«module» ≡ g.«module»
one_step_module t g = one_step_at_module (settle t) g

module _ (agree : TypesAgree) (m : Module) where
  abbrev BothFit : ThreadAndStore → Type 0
  BothFit b = AfterFits m b.after × SuitsModule b.store

  -- each instruction keeps what fits
  row_fits : (c : Context) (i : Tree) (t : Thread) (g : Store) → IsValid m → g.«module» ≡ m → SuitsModule g → RestOf m c t → Before m c i t (types_of_values t.stack) → BothFit (instr_row i t g)
  row_fits c Unreachable t g v same s r h = (tt, s)
  row_fits c Nop t g v same s r h = (goes m c t r (record { typed = h.typed; no_float = h.no_float }), s)
  row_fits c (Block gives body) t g v same s r h = (block_fits m c gives body t r h, s)
  row_fits c (Loop gives body) t g v same s r h = (loop_fits m c gives body t r h, s)
  row_fits c (If gives on_true on_false) t g v same s r h = (choose_fits m c gives on_true on_false t r h, s)
  row_fits c (Br n) t g v same s r h = (br_fits m c n t r h, s)
  row_fits c (BrIf n) t g v same s r h = (br_if_fits m c n t r h, s)
  row_fits c (BrTable labels default) t g v same s r h = (br_table_fits m c labels default t r h, s)
  row_fits c Return t g v same s r h = (return_row_fits m c t r h, s)
  row_fits c (CallFunc f) t g v same s r h =
      (subst (λ (m' : Module). AfterFits m (Rattle.wasm_step.specs.Reduce.call m' f t)) (sym same) (call_row_fits m c agree f t v r h), s)
  row_fits c (CallIndirect k) t g v same s r h = (call_indirect_fits m c k g t same s v r h, s)
  row_fits c DropTop t g v same s r h = (drop_fits m c t.stack t r h, s)
  row_fits c Select t g v same s r h = (select_fits m c t.stack t r h, s)
  row_fits c (LocalGet x) t g v same s r h = (local_get_fits m c x t r h, s)
  row_fits c (LocalSet x) t g v same s r h = (local_set_fits m c x t r h, s)
  row_fits c (LocalTee x) t g v same s r h = (local_tee_fits m c x t r h, s)
  row_fits c (GlobalGet x) t g v same s r h = (global_get_fits m c g same s x t r h, s)
  row_fits c (GlobalSet x) t g v same s r h = global_set_fits m c g same s x t r h
  row_fits c (Load op align offset) t g v same s r h = (load_row_fits m c g same s op align offset t r h, s)
  row_fits c (StoreIn op align offset) t g v same s r h = store_row_fits m c g same s op align offset t r h
  row_fits c MemorySize t g v same s r h = (size_fits m c g same s t r h, s)
  row_fits c MemoryGrow t g v same s r h = grow_fits m c g same s t r h
  row_fits c (ConstI32 bits) t g v same s r h =
      (goes m c (with_operand t (I32 bits)) r (record { typed = h.typed; no_float = h.no_float }), s)
  row_fits c (ConstI64 bits) t g v same s r h =
      (goes m c (with_operand t (I64 bits)) r (record { typed = h.typed; no_float = h.no_float }), s)
  row_fits c (ConstF32 bits) t g v same s r h = never_none (sym h.no_float)
  row_fits c (ConstF64 bits) t g v same s r h = never_none (sym h.no_float)
  row_fits c (Op op) t g v same s r h = (numeric_fits m c op t r h, s)

  limited_fits : (a : AfterStep) → AfterFits m a → AfterFits m (limited_thread a)
  limited_fits (Stops s) h = h
  limited_fits (Goes t) h =
      elim (fits_limits t) as (λ b. AfterFits m (if b then Goes t else at_trap t Exhausted)) [ true ↦ h | false ↦ tt ]

  -- ---- the ends, and bursts

  abbrev SettledFits : SettledThread → Type 0
  SettledFits (At i t) = ThreadFits m (record t { todo = Then i t.todo })
  SettledFits (Done s) = HaltFits m s

  next_fits : (todo : Trees) (t : Thread) (rest : SettledThread) → t.todo ≡ todo → ThreadFits m t → (todo ≡ End → SettledFits rest) → SettledFits (at_next_instruction todo t rest)
  next_fits End t rest e h otherwise = otherwise refl
  next_fits (Then i is) t rest e h otherwise =
      goes m h.0.context (record t { todo = Then i is }) (rest_of m t h) (subst (λ x. IsTypedRemainder h.0.context (labels_at m t) t.gives x (types_of_values t.stack)) e h.0.todo)

  after_end_fits : (a : AfterStep) (go : Thread → SettledThread) → AfterFits m a → ((t : Thread) → a ≡ Goes t → ThreadFits m t → SettledFits (go t)) → SettledFits (after_end a go)
  after_end_fits (Goes t) go h next = next t refl h
  after_end_fits (Stops s) go h next = h

  settle_by_fits : (n : ℕ) (t : Thread) → levels_left t ≡ n → ThreadFits m t → SettledFits (settle_by n t)
  settle_by_fits zero t d h =
      next_fits t.todo t _ refl h (λ none. after_end_fits (ended_level t) _ (ended_fits m t none h) (λ u e hu. absurd (zero_depth t u d e)))
  settle_by_fits (suc n) t d h =
      next_fits t.todo t _ refl h (λ none. after_end_fits (ended_level t) _ (ended_fits m t none h) (λ u e hu. settle_by_fits n u (less_depth t u n d e) hu))

  one_step_at_fits : (s : SettledThread) (g : Store) → IsValid m → g.«module» ≡ m → SuitsModule g → SettledFits s → BothFit (one_step_at s g)
  one_step_at_fits (At i t) g v same s h =
      let b = row_fits h.0.context i t g v same s (rest_of m (record t { todo = Then i t.todo }) h) h.0.todo in
      (limited_fits (instr_row i t g).after b.0, b.1)
  one_step_at_fits (Done stop) g v same s h = (h, s)

  spent_fits : (s : SettledThread) → SettledFits s → HaltFits m (spent_burst s)
  spent_fits (At i t) h = tt
  spent_fits (Done stop) h = h

  after_step_fits : (a : AfterStep) (g : Store) (go : Thread → Store → BurstResult) → AfterFits m a → SuitsModule g → ((t : Thread) → ThreadFits m t → BurstFits m (go t g)) → BurstFits m (after_step a g go)
  after_step_fits (Goes t) g go h hg next = next t h
  after_step_fits (Stops s) g go h hg next = (h, hg)

  -- a burst keeps what fits, and does not stick
  pub burst_fits : (n : ℕ) (t : Thread) (g : Store) → IsValid m → g.«module» ≡ m → SuitsModule g → ThreadFits m t → BurstFits m (burst n t g)
  unfolding burst
  burst_fits zero t g v same s h = (spent_fits (settle t) (settle_by_fits (levels_left t) t refl h), s)
  burst_fits (suc n) t g v same s h =
      let b = one_step_at_fits (settle t) g v same s (settle_by_fits (levels_left t) t refl h) in
      after_step_fits (one_step t g).after (one_step t g).store _ b.0 b.1 (λ u hu. burst_fits n u (one_step t g).store v (one_step_module t g ∙ same) b.1 hu)

  -- the same of what equals the burst
  pub result_fits : (n : ℕ) (t : Thread) (g : Store) (r : BurstResult) → r ≡ burst n t g → IsValid m → g.«module» ≡ m → SuitsModule g → ThreadFits m t → BurstFits m r
  result_fits n t g r e v same s h = subst (λ r. BurstFits m r) (sym e) (burst_fits n t g v same s h)

after_step_module : (a : AfterStep) (g : Store) (go : Thread → Store → BurstResult) → ((t : Thread) → (go t g).store.«module» ≡ g.«module») → (after_step a g go).store.«module» ≡ g.«module»
after_step_module (Goes t) g go next = next t
after_step_module (Stops s) g go next = refl

-- a burst leaves the module as it is
pub burst_module : (n : ℕ) (t : Thread) (g : Store) → (burst n t g).store.«module» ≡ g.«module»
unfolding burst
burst_module zero t g = refl
burst_module (suc n) t g =
    after_step_module (one_step t g).after (one_step t g).store (burst n) (λ u. burst_module n u (one_step t g).store)
    ∙ one_step_module t g

result_module : (n : ℕ) (t : Thread) (g : Store) (r : BurstResult) → r ≡ burst n t g → r.store.«module» ≡ g.«module»
result_module n t g r e = ap (λ (r : BurstResult). r.store.«module») e ∙ burst_module n t g

-- what a burst of the module leaves: a stop that fits, a store that suits, and the module
pub record Leaving (m : Module) (stopped : Stopped) (u : Thread) (g : Store) : Type 0 where
  pub stop : HaltFits m (stopped_of stopped u)
  pub suits : SuitsModule g
  pub same_module : g.«module» ≡ m

pub leaving : TypesAgree → (m : Module) (t u : Thread) (g g' : Store) (stopped : Stopped) (call : Option ℕ) → stopped_result stopped u g' ≡ burst 10000000 t g → IsValid m → m ≡ g.«module» → SuitsModule g → StandsFit m t call → call ≡ None → Leaving m stopped u g'
leaving agree m t u g g' stopped call e v same s stands runs =
    let fits = subst (λ (call : Option ℕ). StandsFit m t call) runs stands in
    let r = result_fits agree m 10000000 t g (stopped_result stopped u g') e v (sym same) s fits in
    record { stop = r.0; suits = r.1; same_module = result_module 10000000 t g (stopped_result stopped u g') e ∙ sym same }

-- so a burst of the module has a rule wherever it comes
pub never_sticks : TypesAgree → (m : Module) (t : Thread) (g : Store) (call : Option ℕ) → IsValid m → m ≡ g.«module» → SuitsModule g → StandsFit m t call → call ≡ None → RunsByRules t g
never_sticks agree m t g call v same s stands runs sticks =
    let fits = subst (λ (call : Option ℕ). StandsFit m t call) runs stands in
    subst (λ (h : Halt). HaltFits m h) sticks (burst_fits agree m 10000000 t g v (sym same) s fits).0
