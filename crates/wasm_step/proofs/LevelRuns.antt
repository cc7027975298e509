-- The ends of levels and frames, and runs.
use Rattle.std.proofs.Common.{◌≡◌, ℕ, zero, suc, Bool, true, false, List, [], ◌∷◌, length, Option, Some, None, refl, sym, ap, ◌∙◌, arith}
use Rattle.wasm_types.specs.declared.code.Value.{Value}
use Rattle.wasm_types.specs.Code.{Tree, Trees, End, Then}
use Rattle.wasm_step.specs.inside.Paused.{settled_of, halt_of}
use Rattle.wasm_stack.specs.Answer.{after_of, way_of}
use Rattle.wasm_stack.specs.declared.halt.Next.{Next}
use Rattle.wasm_stack.specs.declared.halt.Way.{Way}
use Rattle.wasm_stack.specs.declared.halt.Way.TheVariants as way
use Rattle.wasm_stack.specs.declared.halt.Next.TheVariants.{Going, Calling, Ended, Trapped, Stuck}
use Rattle.wasm_store.specs.Store.{Store}
use Rattle.wasm_stack.specs.Thread.{Level, Frame, Thread, is_end, closed_to, left_frame, left_to_caller, waiting_levels, levels_left}
use Rattle.wasm_stack.specs.After.{Halt, Sticks, AfterStep, Goes, Stops}
use Rattle.wasm_stack.specs.Control.{carried_operand, with_carried, resumed_caller, at_end_of_level, ended_level}
use Rattle.wasm_step.specs.Reduce.{reduce_instruction}
use Rattle.wasm_step.specs.Burst.{SettledThread, At, Done, at_next_instruction, after_end, settle_by, settle, after_step, after_both, one_step_at, spent_burst, burst}

-- each end leaves one less to end
abbrev depth_after : AfterStep → ℕ
depth_after (Goes t) = levels_left t
depth_after (Stops s) = 0

resumed_depth : (callers : List Frame) (o : Option Value) (t' : Thread) → resumed_caller (left_to_caller callers) o ≡ Goes t' → waiting_levels callers ≡ suc (levels_left t')
resumed_depth [] o t' e = cc
resumed_depth (f ∷ fs) None t' e = let d = ap depth_after e in omega arith
resumed_depth (f ∷ fs) (Some v) t' e = let d = ap depth_after e in omega arith

carried_depth : (b : Bool) (stack : List Value) (t t' : Thread) → with_carried (carried_operand b (record t { stack = stack })) (λ o u. resumed_caller (left_frame u) o) ≡ Goes t' → waiting_levels t.callers ≡ suc (levels_left t')
carried_depth false stack t t' e = resumed_depth t.callers None t' e
carried_depth true [] t t' e = cc
carried_depth true (v ∷ rest) t t' e = resumed_depth t.callers (Some v) t' e

at_end_depth : (outer : List Level) (t t' : Thread) → t.outer ≡ outer → at_end_of_level (closed_to outer t) t ≡ Goes t' → levels_left t ≡ suc (levels_left t')
at_end_depth [] t t' eo e = omega (arith, ap length eo, carried_depth t.returns t.stack t t' e)
at_end_depth (l ∷ ls) t t' eo e = omega (arith, ap length eo, ap depth_after e)

pub ended_depth : (t t' : Thread) → ended_level t ≡ Goes t' → levels_left t ≡ suc (levels_left t')
ended_depth t t' e = at_end_depth t.outer t t' refl e

at_next_same : (todo : Trees) (t : Thread) (a b : SettledThread) → is_end todo ≡ false → at_next_instruction todo t a ≡ at_next_instruction todo t b
at_next_same End t a b e = cc
at_next_same (Then i is) t a b e = refl

settle_by_here : (n : ℕ) (t : Thread) → is_end t.todo ≡ false → settle_by n t ≡ at_next_instruction t.todo t (Done Sticks)
settle_by_here zero t e = at_next_same t.todo t _ _ e
settle_by_here (suc n) t e = at_next_same t.todo t _ _ e

pub settle_end : (t t' : Thread) → t.todo ≡ End → ended_level t ≡ Goes t' → settle t' ≡ settle t
settle_end t t' none e =
    let n = ended_depth t t' e in
    sym (
    ap (λ k. settle_by k t) n
    ∙ ap (λ is. at_next_instruction is t (after_end (ended_level t) (settle_by (levels_left t')))) none
    ∙ ap (λ a. after_end a (settle_by (levels_left t'))) e)

pub none_left : (todo : Trees) → is_end todo ≡ true → todo ≡ End
none_left End e = refl
none_left (Then i is) e = cc

-- a thread that stands at an instruction, and is then past it
pub standing : (t u v : Thread) (i : Tree) → settled_of (Goes u) ≡ settle t → u ≡ record v { todo = Then i v.todo } → settle t ≡ At i v
standing t u v i e f = sym e ∙ ap (λ v. settled_of (Goes v)) f

-- a thread with an instruction left is at it
pub settle_here : (t : Thread) → is_end t.todo ≡ false → settle t ≡ at_next_instruction t.todo t (Done Sticks)
settle_here t e = settle_by_here (levels_left t) t e

halted_is : (n : Next) (t : Thread) → (n ≡ Going → ⊥) → after_of n t ≡ Stops (halt_of (after_of n t))
halted_is Going t h = absurd (h refl)
halted_is (Calling f n) t h = refl
halted_is Ended t h = refl
halted_is (Trapped trap) t h = refl
halted_is Stuck t h = refl

pub settle_halts : (n : Next) (t u : Thread) → settled_of (after_of n u) ≡ settle t → (n ≡ Going → ⊥) → settle t ≡ Done (halt_of (after_of n u))
settle_halts n t u e h = sym e ∙ ap settled_of (halted_is n u h)

pub burst_done : (n : ℕ) (t : Thread) (g : Store) (s : Halt) → settle t ≡ Done s → burst n t g ≡ record { stop = s; store = g }
unfolding burst
burst_done zero t g s e = ap (λ x. record { stop = spent_burst x; store = g }) e
burst_done (suc n) t g s e = ap (λ x. after_both (one_step_at x g) (burst n)) e

pub burst_on : (n : ℕ) (t v u : Thread) (g g' : Store) (i : Tree) → settle t ≡ At i v → (reduce_instruction i v g).after ≡ Goes u → (reduce_instruction i v g).store ≡ g' → burst (suc n) t g ≡ burst n u g'
unfolding burst
burst_on n t v u g g' i e f h =
    ap (λ x. after_both (one_step_at x g) (burst n)) e
    ∙ ap (λ a. after_step a (reduce_instruction i v g).store (burst n)) f
    ∙ ap (burst n u) h

pub burst_stop : (n : ℕ) (t v : Thread) (g g' : Store) (i : Tree) (s : Halt) → settle t ≡ At i v → (reduce_instruction i v g).after ≡ Stops s → (reduce_instruction i v g).store ≡ g' → burst (suc n) t g ≡ record { stop = s; store = g' }
unfolding burst
burst_stop n t v g g' i s e f h =
    ap (λ x. after_both (one_step_at x g) (burst n)) e
    ∙ ap (λ a. after_step a (reduce_instruction i v g).store (burst n)) f
    ∙ ap (λ a. record { stop = s; store = a }) h

pub burst_spent : (t : Thread) (g : Store) (s : Halt) → s ≡ spent_burst (settle t) → burst 0 t g ≡ record { stop = s; store = g }
unfolding burst
burst_spent t g s e = ap (λ s. record { stop = s; store = g }) (sym e)

pub zero_depth : (t t' : Thread) → levels_left t ≡ 0 → ended_level t ≡ Goes t' → ⊥
zero_depth t t' d e = omega (arith, ended_depth t t' e)

pub less_depth : (t t' : Thread) (n : ℕ) → levels_left t ≡ suc n → ended_level t ≡ Goes t' → levels_left t' ≡ n
less_depth t t' n d e = omega (arith, ended_depth t t' e)

-- what does not go on makes no further instruction
pub stopped_step : (n : Next) (t : Thread) (g : Store) (k : ℕ) → (n ≡ Going → ⊥) → after_step (after_of n t) g (burst k) ≡ record { stop = halt_of (after_of n t); store = g }
stopped_step Going t g k h = absurd (h refl)
stopped_step (Calling f n) t g k h = refl
stopped_step Ended t g k h = refl
stopped_step (Trapped trap) t g k h = refl
stopped_step Stuck t g k h = refl

settle_stops : (n : ℕ) (t : Thread) (s : Halt) → t.todo ≡ End → ended_level t ≡ Stops s → settle_by n t ≡ Done s
settle_stops zero t s none e = ap (λ is. at_next_instruction is t (after_end (ended_level t) (λ u. Done Sticks))) none ∙ ap (λ a. after_end a (λ u. Done Sticks)) e
settle_stops (suc n) t s none e = ap (λ is. at_next_instruction is t (after_end (ended_level t) (settle_by n))) none ∙ ap (λ a. after_end a (settle_by n)) e

-- a thread that ends, or sticks, at an end
pub burst_ended : (n : ℕ) (t : Thread) (g : Store) (s : Halt) → is_end t.todo ≡ true → ended_level t ≡ Stops s → burst n t g ≡ record { stop = s; store = g }
burst_ended n t g s e stops = burst_done n t g s (settle_stops (levels_left t) t s (none_left t.todo e) stops)

pub way_halts : (w : Way) (n : Next) (t u : Thread) → after_of n t ≡ way_of w t → (w ≡ way.Goes → ⊥) → way_of w u ≡ Stops (halt_of (after_of n t))
way_halts way.Goes n t u e h = absurd (h refl)
way_halts way.Ends n t u e h = ap (λ a. Stops (halt_of a)) (sym e)
way_halts way.Sticks n t u e h = ap (λ a. Stops (halt_of a)) (sym e)

pub first_on : (k : ℕ) (t v u : Thread) (g h : Store) (i : Tree) (n : Next) → settle t ≡ At i v → after_of n u ≡ (reduce_instruction i v g).after → h ≡ (reduce_instruction i v g).store → after_step (after_of n u) h (burst k) ≡ burst (suc k) t g
unfolding burst
first_on k t v u g h i n at e store =
    ap (λ a. after_step a h (burst k)) e
    ∙ ap (λ (x : Store). after_step (reduce_instruction i v g).after x (burst k)) store
    ∙ sym (ap (λ x. after_both (one_step_at x g) (burst k)) at)

-- an instruction on a thread and a store that are as they were
module _ (t v v' u : Thread) (g h h' : Store) (i : Tree) (here : t ≡ record v { todo = Then i v.todo }) (same : v' ≡ v) (kept : h ≡ g) (store : h' ≡ (reduce_instruction i v' h).store) where
  at : settle t ≡ At i v
  at = ap settle here ∙ settle_here (record v { todo = Then i v.todo }) refl

  store_is : (reduce_instruction i v g).store ≡ h'
  store_is = sym (store ∙ ap (λ (x : Thread). (reduce_instruction i x h).store) same ∙ ap (λ (x : Store). (reduce_instruction i v x).store) kept)

  after_is : (a : AfterStep) → a ≡ (reduce_instruction i v' h).after → (reduce_instruction i v g).after ≡ a
  after_is a e = sym (e ∙ ap (λ (x : Thread). (reduce_instruction i x h).after) same ∙ ap (λ (x : Store). (reduce_instruction i v x).after) kept)

  pub step_on : (n : ℕ) → Goes u ≡ (reduce_instruction i v' h).after → burst (suc n) t g ≡ burst n u h'
  step_on n e = burst_on n t v u g h' i at (after_is (Goes u) e) store_is

  pub step_stop : (n : ℕ) (a : Next) → after_of a u ≡ (reduce_instruction i v' h).after → (a ≡ Going → ⊥) → burst (suc n) t g ≡ record { stop = halt_of (after_of a u); store = h' }
  step_stop n a e halted = burst_stop n t v g h' i (halt_of (after_of a u)) at (after_is (after_of a u) e ∙ halted_is a u halted) store_is
