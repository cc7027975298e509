-- Levels that open and end, of threads within their limits.
use Rattle.std.proofs.Common.{◌≡◌, ℕ, zero, suc, ◌+◌, ◌-◌, ◌*◌, ◌<◌, ◌≤◌, true, List, [], ◌∷◌, ◌++◌, length, Option, Some, refl, sym, ap, subst, arith, length-append, ◌⊎◌, inl, inr, ◌∙◌}
use Rattle.wasm_types.specs.declared.code.ValType.{ValType}
use Rattle.std.specs.Global.{Vec}
use Rattle.wasm_types.specs.declared.code.Instr.{Instr}
use Rattle.wasm_types.specs.declared.code.Instr.TheVariants as instr
use Rattle.wasm_types.specs.Code.{Tree, Trees, Block, Loop, If, tree, trees}
use Rattle.wasm_types.specs.CodeLaws.{tree-block, tree-if, tree-loop}
use Rattle.wasm_store.specs.Store.{Store}
use Rattle.wasm_step.specs.Burst.{after_both, one_step_at, settle, spent_burst, burst}
use Rattle.wasm_stack.specs.Limits.{ThreadWithin}
use Rattle.wasm_stack.specs.View.{entered_by}
use Rattle.wasm_stack.specs.After.{Goes, with_top}
use Rattle.wasm_stack.specs.Control.{ended_level, on_test}
use Rattle.wasm_step.specs.Reduce.{store_stays, instr_row}
use Rattle.wasm_stack.specs.Thread.{Level, Frame, Thread, is_end, closed_level, closed_to, levels_left, size_of_frames, size_of_levels, waiting_levels}
use Rattle.wasm_step.proofs.LevelRuns.{none_left, settle_end}

-- whatever is left to do
pub within_elsewhere : (t : Thread) (rest : Trees) → ThreadWithin t → ThreadWithin (record t { todo = rest })
within_elsewhere t rest h = record { frames = h.frames; size = h.size }

within_closed_to : (outer : List Level) (t u : Thread) → t.outer ≡ outer → closed_to outer t ≡ Some u → ThreadWithin t → ThreadWithin u
within_closed_to [] t u q e h = cc
within_closed_to (l ∷ ls) t u q e h =
    let same : record t { gives = l.gives; todo = l.todo; stack = t.stack ++ l.stack; target = l.target; carries = l.carries; loops = l.loops; outer = ls } ≡ u = cc in
    let outer : size_of_levels t.outer ≡ 1 + length l.stack + size_of_levels ls = ap size_of_levels q in
    subst (λ (t : Thread). ThreadWithin t) same (record { frames = h.frames; size = omega (arith, h.size, outer, length-append t.stack l.stack) })

-- what is left of a thread within its limits, when a level has ended
pub within_closed : (t u : Thread) → closed_level t ≡ Some u → ThreadWithin t → ThreadWithin u
within_closed t u e h = within_closed_to t.outer t u refl e h

-- the end of a level is no instruction
pub settled_same : (t u : Thread) → settle u ≡ settle t → (n : ℕ) (g : Store) → burst n t g ≡ burst n u g
unfolding burst
settled_same t u e zero g = ap (λ x. record { stop = spent_burst x; store = g }) (sym e)
settled_same t u e (suc n) g = ap (λ x. after_both (one_step_at x g) (burst n)) (sym e)

pub end_same : (t u : Thread) → is_end t.todo ≡ true → Goes u ≡ ended_level t → (n : ℕ) (g : Store) → burst n t g ≡ burst n u g
end_same t u e goes = settled_same t u (settle_end t u (none_left t.todo e) (sym goes))

-- how many levels and frames are still to end, of a thread within its limits
levels_count : (ls : List Level) → length ls ≤ size_of_levels ls
levels_count [] = omega arith
levels_count (l ∷ ls) = omega (arith, levels_count ls)

frames_count : (fs : List Frame) → waiting_levels fs ≤ length fs + size_of_frames fs
frames_count [] = omega arith
frames_count (f ∷ fs) = omega (arith, levels_count f.outer, frames_count fs)

pub depth_within : (t : Thread) → ThreadWithin t → levels_left t < 17000
depth_within t h = omega (arith, h.frames, h.size, levels_count t.outer, frames_count t.callers)

-- an instruction less is worth more than the ends that it may add
pub fewer_left : (left more less : ℕ) → 0 < left → more < 17000 → (left - 1) * 17000 + more < left * 17000 + less
fewer_left left more less some lt = omega (arith, some, lt)

-- a block and a loop open a level with their body
enters : (i j : Tree) (b b' : Trees) (t : Thread) (g : Store) → i ≡ j → b ≡ b' → instr_row j t g ≡ store_stays g (Goes (entered_by j b' t)) → instr_row i t g ≡ store_stays g (Goes (entered_by i b t))
enters i j b b' t g is body goes =
    ap (λ i. instr_row i t g) is ∙ goes ∙ sym (ap (λ b. store_stays g (Goes (entered_by j b t))) body) ∙ sym (ap (λ i. store_stays g (Goes (entered_by i b t))) is)

pub row_enters : (i : Instr) (v : Vec Instr) (body : List Instr) (t : Thread) (g : Store) → ((gives : Option ValType) × i ≡ instr.Block gives v) ⊎ ((gives : Option ValType) × i ≡ instr.Loop gives v) → body ≡ v.items → instr_row (tree i) t g ≡ store_stays g (Goes (entered_by (tree i) (trees body) t))
row_enters i v body t g (inl is) e = enters (tree i) (Block is.0 (trees v.items)) (trees body) (trees v.items) t g (ap tree is.1 ∙ tree-block is.0 v) (ap trees e) refl
row_enters i v body t g (inr is) e = enters (tree i) (Loop is.0 (trees v.items)) (trees body) (trees v.items) t g (ap tree is.1 ∙ tree-loop is.0 v) (ap trees e) refl

-- a choice opens one with either of its two
pub row_chooses : (i : Instr) (gives : Option ValType) (v w : Vec Instr) (on_true on_false : List Instr) (t : Thread) (g : Store) → i ≡ instr.If gives v w → on_true ≡ v.items → on_false ≡ w.items → instr_row (tree i) t g ≡ store_stays g (with_top t (λ v t. on_test v (Goes (entered_by (tree i) (trees on_false) t)) (Goes (entered_by (tree i) (trees on_true) t))))
row_chooses i gives v w on_true on_false t g is e_true e_false =
    let j = If gives (trees v.items) (trees w.items) in
    let same = ap tree is ∙ tree-if gives v w in
    let by = λ (i : Tree) (a b : Trees). store_stays g (with_top t (λ v t. on_test v (Goes (entered_by i b t)) (Goes (entered_by i a t)))) in
    ap (λ i. instr_row i t g) same
    ∙ sym (ap (λ i. by i (trees on_true) (trees on_false)) same ∙ ap (λ o. by j (trees o) (trees on_false)) e_true ∙ ap (λ o. by j (trees v.items) (trees o)) e_false)
