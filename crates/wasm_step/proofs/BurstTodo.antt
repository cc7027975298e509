-- A burst that has the instructions left of its thread's innermost level at hand, and not in the thread.
use Rattle.std.proofs.Common.{◌≡◌, ℕ, suc, ◌-◌, ◌<◌, ◌≤◌, Bool, true, false, List, [], ◌∷◌, length, drop, take, get_or, Option, Some, None, IfNone, IfSome, refl, sym, ap, ◌∙◌, subst, arith}
use Rattle.std.proofs.lemmas.List.{take_rest}
use Rattle.wasm_types.specs.declared.code.Value.{Value}
use Rattle.wasm_types.specs.declared.code.Instr.{Instr}
use Rattle.wasm_types.specs.Code.{Trees, End, Then, tree, trees}
use Rattle.wasm_types.specs.Modules.{Module}
use Rattle.wasm_store.specs.Store.{Store}
use Rattle.wasm_stack.specs.declared.halt.Way.{Way}
use Rattle.wasm_stack.specs.declared.halt.Way.TheVariants as way
use Rattle.wasm_stack.specs.declared.halt.Next.{Next}
use Rattle.wasm_stack.specs.declared.halt.Next.TheVariants.{Going}
use Rattle.wasm_stack.specs.Answer.{after_of, way_of}
use Rattle.wasm_step.specs.inside.Paused.{halt_of}
use Rattle.wasm_step.specs.inside.Rules.{HasRule, RunsByRules}
use Rattle.wasm_step.specs.Burst.{At, BurstResult, burst, settle}
use Rattle.wasm_stack.specs.Limits.{ThreadWithin}
use Rattle.wasm_step.specs.Reduce.{ThreadAndStore, instr_row, store_stays, reduce_instruction}
use Rattle.wasm_stack.specs.After.{Halt, AfterStep, Goes, Sticks, Stops, limited_thread}
use Rattle.wasm_stack.specs.Control.{at_end_of_level, carried_operand, ended_level, resumed_caller, leave_frame, with_carried}
use Rattle.wasm_stack.specs.Thread.{Level, Thread, closed_level, closed_to, is_end, left_frame}
use Rattle.wasm_step.proofs.LevelEnds.{end_same, within_elsewhere}
use Rattle.wasm_step.proofs.InPlace.{step_by}
use Rattle.wasm_step.proofs.LevelRuns.{burst_ended, burst_stop, settle_here, step_on, step_stop, way_halts}
use Rattle.wasm_step.proofs.SameModule.{keeps_module}

-- the limits do not count what is left
pub todo_within : (t t' : Thread) (T : Trees) → t' ≡ record t { todo = T } → ThreadWithin t → ThreadWithin t'
todo_within t t' T e h = subst (λ (t : Thread). ThreadWithin t) (sym e) (within_elsewhere t T h)

-- a list of instructions that has a first, and one that has none
trees_first : (xs : List Instr) (i : Instr) → 1 ≤ length xs → i ≡ get_or xs 0 i → trees xs ≡ Then (tree i) (trees (drop 1 xs))
trees_first [] i some e = absurd (omega (arith, some))
trees_first (x ∷ xs) i some e = ap (λ x. Then (tree x) (trees xs)) (sym e)

trees_none : (xs : List Instr) → length xs < 1 → trees xs ≡ End
trees_none [] none = refl
trees_none (x ∷ xs) none = absurd (omega (arith, none))

-- the end of a level, or of a frame, does not ask what is left
closed_same : (outer : List Level) (T : Trees) (t : Thread) → closed_to outer (record t { todo = T }) ≡ closed_to outer t
closed_same [] T t = refl
closed_same (l ∷ ls) T t = refl

carried_same : (b : Bool) (stack : List Value) (T : Trees) (t : Thread) → with_carried (carried_operand b (record t { todo = T; stack = stack })) (λ o t'. resumed_caller (left_frame t') o) ≡ with_carried (carried_operand b (record t { stack = stack })) (λ o t'. resumed_caller (left_frame t') o)
carried_same false stack T t = refl
carried_same true [] T t = refl
carried_same true (v ∷ rest) T t = refl

at_end_same : (o : Option Thread) (T : Trees) (t : Thread) → at_end_of_level o (record t { todo = T }) ≡ at_end_of_level o t
at_end_same None T t = carried_same t.returns t.stack T t
at_end_same (Some u) T t = refl

ended_same : (T : Trees) (t : Thread) → ended_level (record t { todo = T }) ≡ ended_level t
ended_same T t = ap (λ (o : Option Thread). at_end_of_level o (record t { todo = T })) (closed_same t.outer T t) ∙ at_end_same (closed_level t) T t

-- a level that ends, and a frame with its outermost level
pub closing : (t u : Thread) → closed_level t ≡ Some u → Goes u ≡ ended_level t
closing t u e = sym (ap (λ (o : Option Thread). at_end_of_level o t) e)

pub returning : (t : Thread) (a : AfterStep) → closed_level t ≡ None → a ≡ leave_frame t → a ≡ ended_level t
returning t a e goes = goes ∙ sym (ap (λ (o : Option Thread). at_end_of_level o t) e)

module _ (xs : List Instr) (t : Thread) (none : length xs < 1) where
  at_its_end : is_end (trees xs) ≡ true
  at_its_end = ap is_end (trees_none xs none)

  pub ends : (ys : List Instr) (u : Thread) → Goes u ≡ ended_level t → trees ys ≡ u.todo → (n : ℕ) (g : Store) → burst n (record t { todo = trees xs }) g ≡ burst n (record u { todo = trees ys }) g
  ends ys u goes same n g =
      end_same (record t { todo = trees xs }) u at_its_end (goes ∙ sym (ended_same (trees xs) t)) n g
      ∙ ap (λ T. burst n (record u { todo = T }) g) (sym same)

  pub ends_here : (n : ℕ) (g : Store) (s : Halt) → ended_level t ≡ Stops s → burst n (record t { todo = trees xs }) g ≡ record { stop = s; store = g }
  ends_here n g s stops = burst_ended n (record t { todo = trees xs }) g s at_its_end (ended_same (trees xs) t ∙ stops)

-- a burst of a thread that has an instruction left
module _ (xs : List Instr) (x : Instr) (s : Thread) (some : 1 ≤ length xs) (first : x ≡ get_or xs 0 x) (n : ℕ) (more : 0 < n) (g : Store) where
  abbrev pub standing : Thread
  standing = record s { todo = trees xs }

  -- past it
  abbrev pub past_it : Thread
  past_it = record s { todo = trees (take (length xs - 1) (drop 1 xs)) }

  here : standing ≡ record past_it { todo = Then (tree x) past_it.todo }
  here = ap (λ T. record s { todo = T }) (trees_first xs x some first ∙ ap (λ rest. Then (tree x) (trees rest)) (sym (take_rest xs 1)))

  at : settle standing ≡ At (tree x) past_it
  at = ap settle here ∙ settle_here (record past_it { todo = Then (tree x) past_it.todo }) refl

  one_more : burst n standing g ≡ burst (suc (n - 1)) standing g
  one_more = let e : n ≡ suc (n - 1) = omega (arith, more) in ap (λ k. burst k standing g) e

  -- which has a rule, where the burst that this is the end of has one for each
  pub has_rule : (t : Thread) (h : Store) → burst n standing g ≡ burst 10000000 t h → RunsByRules t h → HasRule (tree x) past_it g
  has_rule t h same never sticks =
      let stops = burst_stop (n - 1) standing past_it g (reduce_instruction (tree x) past_it g).store (tree x) Sticks at (ap limited_thread sticks) refl in
      never (ap (λ (r : BurstResult). r.stop) (sym same ∙ one_more ∙ stops))

  -- which is done in place
  module _ (o : Option Way) (w : Way) (u : Thread) (T : Trees) (g' : Store) (is : o ≡ Some w) (done : IfSome o (λ w. instr_row (tree x) past_it g ≡ store_stays g' (way_of w (record u { todo = T })))) where
    does : instr_row (tree x) past_it g ≡ store_stays g' (way_of w (record u { todo = T }))
    does = subst (λ (o : Option Way). IfSome o (λ w. instr_row (tree x) past_it g ≡ store_stays g' (way_of w (record u { todo = T })))) is done

    pub row_goes : w ≡ way.Goes → ThreadWithin u → (burst n standing g ≡ burst (n - 1) (record u { todo = T }) g') × (g.«module» ≡ g'.«module»)
    row_goes goes h =
        let on = does ∙ ap (λ w. store_stays g' (way_of w (record u { todo = T }))) goes in (
          one_more ∙ step_by standing past_it (record u { todo = T }) (tree x) g g' here on (todo_within u _ T refl h) (n - 1),
          sym (keeps_module (tree x) past_it g) ∙ ap (λ (b : ThreadAndStore). b.store.«module») does,
        )

    pub row_stops : (m : Next) → after_of m u ≡ way_of w u → (w ≡ way.Goes → ⊥) → burst n standing g ≡ record { stop = halt_of (after_of m u); store = g' }
    row_stops m e halts =
        let stops = does ∙ ap (store_stays g') (way_halts w m u (record u { todo = T }) e halts) in
        one_more ∙ burst_stop (n - 1) standing past_it g g' (tree x) _ at (ap (λ (b : ThreadAndStore). limited_thread b.after) stops) (ap (λ (b : ThreadAndStore). b.store) stops)

  -- or not, with what is left put back
  module _ (o : Option Way) (r v : Thread) (T : Trees) (h : Store) (none : o ≡ None) (same : IfNone o (record r { todo = T } ≡ past_it)) (kept : IfNone o (h ≡ g)) (put : v ≡ record r { todo = T }) where
    as_it_was : v ≡ past_it
    as_it_was = put ∙ subst (λ (o : Option Way). IfNone o (record r { todo = T } ≡ past_it)) none same

    is_kept : h ≡ g
    is_kept = subst (λ (o : Option Way). IfNone o (h ≡ g)) none kept

    -- where it calls the library
    pub calls_library : (m : Module) (a : Next) → ((t : Thread) (g : Store) → ThreadWithin t → m ≡ g.«module» → reduce_instruction (tree x) t g ≡ store_stays g (after_of a t)) → ThreadWithin s → m ≡ g.«module» → (a ≡ Going → ⊥) → burst n standing g ≡ record { stop = halt_of (after_of a v); store = h }
    calls_library m a calls within same_module halts =
        let does = calls v h (todo_within s v past_it.todo as_it_was within) (same_module ∙ ap (λ (g : Store). g.«module») (sym is_kept)) in
        one_more ∙ step_stop standing past_it v v g h h (tree x) here as_it_was is_kept (sym (ap (λ (b : ThreadAndStore). b.store) does)) (n - 1) a (sym (ap (λ (b : ThreadAndStore). b.after) does)) halts

    -- or by its full case
    module _ (u : Thread) (g' : Store) (store : g' ≡ (reduce_instruction (tree x) v h).store) where
      pub full_goes : (T' : Trees) → T' ≡ u.todo → Goes u ≡ (reduce_instruction (tree x) v h).after → (burst n standing g ≡ burst (n - 1) (record u { todo = T' }) g') × (g.«module» ≡ g'.«module»)
      full_goes T' own e = (
        one_more
            ∙ step_on standing past_it v u g h g' (tree x) here as_it_was is_kept store (n - 1) e
            ∙ ap (λ T. burst (n - 1) (record u { todo = T }) g') (sym own),
        ap (λ (g : Store). g.«module») (sym is_kept) ∙ sym (keeps_module (tree x) v h) ∙ ap (λ (g : Store). g.«module») (sym store),
      )

      pub full_stops : (m : Next) → after_of m u ≡ (reduce_instruction (tree x) v h).after → (m ≡ Going → ⊥) → burst n standing g ≡ record { stop = halt_of (after_of m u); store = g' }
      full_stops m e halts = one_more ∙ step_stop standing past_it v u g h g' (tree x) here as_it_was is_kept store (n - 1) m e halts
