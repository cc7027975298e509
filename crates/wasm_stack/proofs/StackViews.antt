-- What a change of one stack does to the thread that a strand stands for.
use Rattle.std.proofs.Common.{◌≡◌, ℕ, Option, Vec, Global, Some, None, zero, suc, ◌+◌, ◌-◌, ◌<◌, ◌≤◌, List, [], ◌∷◌, ◌++◌, length, get_or, take, drop, refl, sym, ap, ◌∙◌, subst, arith, rules, tests, length-append, length-take, length-drop}
use Rattle.std.specs.Prelude.{Bool, reverse, nat_lt, nat_le, is_some, ◌&&◌, if◌then◌else◌, true, false}
use Rattle.std.proofs.lemmas.Bool.{ltb-false, ltb-true}
use Rattle.std.proofs.Math.ListN.{set}
use Rattle.std.proofs.Math.Seq.{take-suc}
use Rattle.std.proofs.lemmas.List.{reverse-reverse, take-append-le, drop-append-le, reverse-append, length-take-le, take-take, drop-drop, take-append-drop, drop-set-add, take-set-le, drop-take, take_at, length-reverse, drop_at, drop_all, take_all}
use Rattle.wasm_types.specs.declared.code.Value.{Value}
use Rattle.wasm_types.specs.declared.code.ValType.{ValType}
use Rattle.wasm_types.specs.declared.code.Instr.{Instr}
use Rattle.wasm_types.specs.declared.code.Instr.TheOpen.{Instr-F}
use Rattle.wasm_types.specs.declared.code.Instr.TheVariants as instr
use Rattle.wasm_types.specs.declared.code.Instr.TheViews.{roll-Instr, roll-out-Instr, out-Instr}
use Rattle.wasm_stack.specs.declared.stack.StackLevel.{StackLevel}
use Rattle.wasm_stack.specs.declared.stack.StackFrame.{StackFrame}
use Rattle.wasm_stack.specs.declared.stack.Stack.TheInside.{Inside}
use Rattle.wasm_types.specs.Code.{Trees, tree, trees}
use Rattle.wasm_stack.specs.Thread.{Thread, with_operand, closed_level, closed_to, left_frame, left_to_caller, without_operands, arguments, size_of_levels, size_of_frames, size_of_thread, has_frame_room, has_room, OpenedLevel}
use Rattle.wasm_stack.specs.View.{and_close, closed_by, entered_by, opened_as, opened_by, given_by, repeated_by}
use Rattle.wasm_stack.specs.inside.Stacks.{innermost_opened, levels_of, frame_labels, frames_of, thread_in, thread_of, FloorsAscend, IsFramePart, AreFrameParts, IsStack}

-- a frame's operands begin below those of each of its levels
pub AreCut-low : (bottom : ℕ) (ls : List StackLevel) (top : ℕ) → FloorsAscend bottom ls top → bottom ≤ top
AreCut-low bottom [] top h = omega arith
AreCut-low bottom (l ∷ ls) top h = omega (arith, AreCut-low bottom ls l.floor h.1, h.0)

module _ (s : Inside) (h : IsStack s) where
  pub floor_low : s.here.bottom ≤ s.here.floor
  floor_low = AreCut-low s.here.bottom (reverse (drop s.here.labels_from s.labels.items)) s.here.floor h.part.cut

-- the same operands below the innermost level
pub record KeepsBelow (s : Inside) (ops : List Value) : Type 0 where
  pub top : s.here.floor ≤ length ops
  pub same : take s.here.floor ops ≡ take s.here.floor s.operands.items

below_bottom : (s : Inside) (ops : List Value) → IsStack s → KeepsBelow s ops → take s.here.bottom ops ≡ take s.here.bottom s.operands.items
below_bottom s ops h k =
    let low = floor_low s h in
    sym (take-take s.here.bottom s.here.floor ops low) ∙ ap (λ o. take s.here.bottom o) k.same ∙ take-take s.here.bottom s.here.floor s.operands.items low

-- other operands in the innermost level
pub IsSound-operands : (s : Inside) (w : Vec Value Global) → IsStack s → s.operands.cap ≤ w.cap → KeepsBelow s w.items → IsStack (record s { operands = w })
IsSound-operands s w h cap k = record {
  part = record { top = k.top; cut = h.part.cut; labels_in = h.part.labels_in; locals_in = h.part.locals_in };
  below = subst (λ o. AreFrameParts (reverse s.callers.items) (take s.here.labels_from s.labels.items) (take s.here.locals_from s.locals.items) o) (sym (below_bottom s w.items h k)) h.below;
  room = record { place = omega (arith, cap, h.room.place); limit = h.room.limit; frames_place = h.room.frames_place; frames_limit = h.room.frames_limit };
}

pub thread_of-operands : (s : Inside) (w : Vec Value Global) → IsStack s → KeepsBelow s w.items → thread_of (record s { operands = w }) ≡ record (thread_of s) { stack = reverse (drop s.here.floor w.items) }
thread_of-operands s w h k =
    let below = below_bottom s w.items h k in
    let same = k.same in
    cc

pub keeps_pushed : (s : Inside) (w : List Value) (v : Value) → IsStack s → w ≡ s.operands.items ++ v ∷ [] → KeepsBelow s w
keeps_pushed s w v h e = record {
  top = omega (arith, ap length e, length-append s.operands.items (v ∷ []), h.part.top);
  same = ap (λ o. take s.here.floor o) e ∙ take-append-le s.here.floor s.operands.items (v ∷ []) h.part.top;
}

pub reverse_drop_push : {A : Type 0} (n : ℕ) (xs : List A) (x : A) → n ≤ length xs → reverse (drop n (xs ++ x ∷ [])) ≡ x ∷ reverse (drop n xs)
reverse_drop_push n xs x le = ap reverse (drop-append-le n xs (x ∷ []) le) ∙ reverse-append (drop n xs) (x ∷ [])

pub pushed_view : (s : Inside) (w : Vec Value Global) (v : Value) → IsStack s → w.items ≡ s.operands.items ++ v ∷ [] → thread_of (record s { operands = w }) ≡ with_operand (thread_of s) v
pushed_view s w v h e =
    thread_of-operands s w h (keeps_pushed s w.items v h e)
    ∙ ap (λ o. record (thread_of s) { stack = o }) (ap (λ o. reverse (drop s.here.floor o)) e ∙ reverse_drop_push s.here.floor s.operands.items v h.part.top)

pub keeps_popped : (s : Inside) (w : List Value) (v : Value) → s.here.floor < length s.operands.items → s.operands.items ≡ w ++ v ∷ [] → KeepsBelow s w
keeps_popped s w v lt e =
    let top : s.here.floor ≤ length w = omega (arith, ap length e, length-append w (v ∷ []), lt) in
    record { top = top; same = sym (ap (λ o. take s.here.floor o) e ∙ take-append-le s.here.floor w (v ∷ []) top) }

pub popped_view : (s : Inside) (w : Vec Value Global) (v : Value) → IsStack s → s.here.floor < length s.operands.items → s.operands.items ≡ w.items ++ v ∷ [] → thread_of s ≡ with_operand (thread_of (record s { operands = w })) v
popped_view s w v h lt e =
    let k = keeps_popped s w.items v lt e in
    let view = thread_of-operands s w h k in
    let stack = ap (λ o. reverse (drop s.here.floor o)) e ∙ reverse_drop_push s.here.floor w.items v k.top in
    ap (λ o. record (thread_of s) { stack = o }) stack ∙ ap (λ t. with_operand t v) (sym view)

-- a thread with an operand has one above its floor
pub some_operand : (s : Inside) (t : Thread) → thread_of s ≡ t → 1 ≤ length t.stack → s.here.floor < length s.operands.items
some_operand s t view some =
    let stack = ap (λ (t : Thread). length t.stack) view in
    omega (arith, stack, some, length-reverse (drop s.here.floor s.operands.items), length-drop s.here.floor s.operands.items)

pub two_operands : (s : Inside) (t : Thread) → thread_of s ≡ t → 2 ≤ length t.stack → s.here.floor + 2 ≤ length s.operands.items
two_operands s t view some =
    let stack = ap (λ (t : Thread). length t.stack) view in
    omega (arith, stack, some, length-reverse (drop s.here.floor s.operands.items), length-drop s.here.floor s.operands.items)

-- what lies below the last item
pub below_last : {A : Type 0} (xs w : List A) (x : A) → xs ≡ w ++ x ∷ [] → w ≡ take (length xs - 1) xs
below_last xs w x e =
    let fewer : length xs - 1 ≡ length w = omega (arith, ap length e, length-append w (x ∷ [])) in
    sym (take_at w (x ∷ []) (length w) refl) ∙ ap (λ o. take (length w) o) (sym e) ∙ ap (λ k. take k xs) (sym fewer)

pub keeps_cleared : (s : Inside) (w : List Value) → IsStack s → w ≡ take s.here.floor s.operands.items → KeepsBelow s w
keeps_cleared s w h e = record {
  top = omega (arith, ap length e, length-take-le s.here.floor s.operands.items h.part.top);
  same = ap (λ o. take s.here.floor o) e ∙ take-take s.here.floor s.here.floor s.operands.items (omega arith);
}

pub cleared_view : (s : Inside) (w : Vec Value Global) → IsStack s → w.items ≡ take s.here.floor s.operands.items → thread_of (record s { operands = w }) ≡ record (thread_of s) { stack = [] }
cleared_view s w h e =
    let none : length w.items ≤ s.here.floor = omega (arith, ap length e, length-take-le s.here.floor s.operands.items h.part.top) in
    thread_of-operands s w h (keeps_cleared s w.items h e)
    ∙ ap (λ o. record (thread_of s) { stack = reverse o }) (drop_all s.here.floor w.items none)

pub drop_parts : {A : Type 0} (m n : ℕ) (xs : List A) → m ≤ n → n ≤ length xs → drop m xs ≡ drop m (take n xs) ++ drop n xs
drop_parts m n xs le in_xs =
    let low : m ≤ length (take n xs) = omega (arith, length-take-le n xs in_xs) in
    ap (λ o. drop m o) (sym (take-append-drop n xs)) ∙ drop-append-le m (take n xs) (drop n xs) low

-- a level's end: the label that lies on top of the others is the innermost
pub closed_in : (f : StackFrame) (labels w : List StackLevel) (locals ops : List Value) (callers : List StackFrame) (l : StackLevel) → IsFramePart f labels locals ops → f.labels_from < length labels → labels ≡ w ++ l ∷ [] → closed_level (thread_in f labels locals ops callers) ≡ Some (thread_in (record f { todo = l.todo; floor = l.floor }) w locals ops callers)
closed_in f labels w locals ops callers l h lt e =
    let from = f.labels_from in
    let within : from ≤ length w = omega (arith, ap length e, length-append w (l ∷ []), lt) in
    let ls = ap (λ o. reverse (drop from o)) e ∙ reverse_drop_push from w l within in
    let cut = subst (λ ls. FloorsAscend f.bottom ls f.floor) ls h.cut in
    let stack = ap reverse (drop_parts l.floor f.floor ops cut.0 h.top) ∙ reverse-append (drop l.floor (take f.floor ops)) (drop f.floor ops) in
    let ops' = take-take l.floor f.floor ops cut.0 in
    let lower = ap (λ o. take from o) e ∙ take-append-le from w (l ∷ []) within in
    ap (λ ls. closed_to (levels_of f.gives ls (take f.floor ops)) (thread_in f labels locals ops callers)) ls ∙ (cc)

pub closed_view : (s : Inside) (w : Vec StackLevel Global) (l : StackLevel) → IsStack s → s.here.labels_from < length s.labels.items → s.labels.items ≡ w.items ++ l ∷ [] → closed_level (thread_of s) ≡ Some (thread_of (record s { labels = w; here = record s.here { todo = l.todo; floor = l.floor } }))
closed_view s w l h lt e = closed_in s.here s.labels.items w.items s.locals.items s.operands.items s.callers.items l h.part lt e

-- a local of the innermost frame
pub set_view : (s : Inside) (w : Vec Value Global) (x : ℕ) (v : Value) → w.items ≡ set s.locals.items (s.here.locals_from + x) v → thread_of (record s { locals = w }) ≡ record (thread_of s) { locals = set (drop s.here.locals_from s.locals.items) x v }
set_view s w x v e =
    let from = s.here.locals_from in
    let above = ap (λ o. drop from o) e ∙ drop-set-add from s.locals.items x v in
    let below = ap (λ o. take from o) e ∙ take-set-le from s.locals.items (from + x) v (omega arith) in
    cc

-- the last n of a list, reversed
split_reverse : {A : Type 0} (xs : List A) (m n : ℕ) → length xs ≡ m + n → (take n (reverse xs) ≡ reverse (drop m xs)) × (drop n (reverse xs) ≡ reverse (take m xs))
split_reverse xs m n e =
    let whole = ap reverse (sym (take-append-drop m xs)) ∙ reverse-append (take m xs) (drop m xs) in
    let len : length (reverse (drop m xs)) ≡ n = omega (arith, length-reverse (drop m xs), length-drop m xs) in
    (ap (λ o. take n o) whole ∙ take_at (reverse (drop m xs)) (reverse (take m xs)) n len, ap (λ o. drop n o) whole ∙ drop_at (reverse (drop m xs)) (reverse (take m xs)) n len)

module _ (s : Inside) (n : ℕ) (h : IsStack s) (le : n ≤ length s.operands.items - s.here.floor) where
  kept_arguments : length (drop s.here.floor s.operands.items) ≡ length s.operands.items - n - s.here.floor + n
  kept_arguments = omega (arith, length-drop s.here.floor s.operands.items, h.part.top)

  pub arguments_view : arguments n (thread_of s) ≡ Some (drop (length s.operands.items - n) s.operands.items)
  arguments_view =
      let f = s.here.floor in
      let m = length s.operands.items - n - f in
      let xs = drop f s.operands.items in
      let enough : nat_lt (length (reverse xs)) n ≡ false = search (rules, tests, length-reverse xs, kept_arguments) in
      let there : f + m ≡ length s.operands.items - n = omega (arith, h.part.top) in
      ap (λ b. if b then None else Some (reverse (take n (reverse xs)))) enough
      ∙ ap (λ o. Some (reverse o)) (split_reverse xs m n kept_arguments).0
      ∙ ap Some (reverse-reverse (drop m xs) ∙ drop-drop m f s.operands.items ∙ ap (λ k. drop k s.operands.items) there)

  pub keeps_without : (w : List Value) → w ≡ take (length s.operands.items - n) s.operands.items → KeepsBelow s w
  keeps_without w e =
      let le' : s.here.floor ≤ length s.operands.items - n = omega (arith, h.part.top) in
      record {
        top = omega (arith, ap length e, length-take-le (length s.operands.items - n) s.operands.items (omega arith));
        same = ap (λ o. take s.here.floor o) e ∙ take-take s.here.floor (length s.operands.items - n) s.operands.items le';
      }

  pub without_view : (w : Vec Value Global) → w.items ≡ take (length s.operands.items - n) s.operands.items → thread_of (record s { operands = w }) ≡ without_operands n (thread_of s)
  without_view w e =
      let f = s.here.floor in
      let m = length s.operands.items - n - f in
      let there : length s.operands.items - n ≡ f + m = omega (arith, h.part.top) in
      let xs = drop f s.operands.items in
      let part = ap (λ o. drop f o) (e ∙ ap (λ k. take k s.operands.items) there) ∙ drop-take f m s.operands.items in
      thread_of-operands s w h (keeps_without w.items e)
      ∙ ap (λ o. record (thread_of s) { stack = o }) (ap reverse part ∙ sym (split_reverse xs m n kept_arguments).1)

-- the sizes
size_of_cut : (gives : Option ValType) (bottom : ℕ) (ls : List StackLevel) (ops : List Value) (top : ℕ) → top ≡ length ops → FloorsAscend bottom ls top → size_of_levels (levels_of gives ls ops) + bottom ≡ length ls + length ops
size_of_cut gives bottom [] ops top e h = omega arith
size_of_cut gives bottom (l ∷ ls) ops top e h =
    omega (arith, size_of_cut gives bottom ls (take l.floor ops) l.floor (sym (length-take-le l.floor ops (omega arith))) h.1, length-take-le l.floor ops (omega arith), length-reverse (drop l.floor ops), length-drop l.floor ops)

size_of_part : (f : StackFrame) (labels : List StackLevel) (locals ops : List Value) → IsFramePart f labels locals ops → size_of_levels (levels_of f.gives (frame_labels f labels) (take f.floor ops)) + f.bottom + f.labels_from ≡ length labels + f.floor
size_of_part f labels locals ops h =
    omega (arith, size_of_cut f.gives f.bottom (reverse (drop f.labels_from labels)) (take f.floor ops) f.floor (sym (length-take-le f.floor ops h.top)) h.cut, length-reverse (drop f.labels_from labels), length-drop f.labels_from labels, length-take-le f.floor ops h.top, h.labels_in)

size_of_parts : (fs : List StackFrame) (labels : List StackLevel) (locals ops : List Value) → AreFrameParts fs labels locals ops → size_of_frames (frames_of fs labels locals ops) ≡ length labels + length locals + length ops
size_of_parts [] labels locals ops h = omega (arith, ap length h.0, ap length h.1, ap length h.2)
size_of_parts (f ∷ fs) labels locals ops h =
    let low = AreCut-low f.bottom (reverse (drop f.labels_from labels)) f.floor h.0.cut in
    omega (arith, size_of_part f labels locals ops h.0, size_of_parts fs (take f.labels_from labels) (take f.locals_from locals) (take f.bottom ops) h.1, h.0.top, h.0.labels_in, h.0.locals_in, length-reverse (drop f.floor ops), length-drop f.floor ops, length-drop f.locals_from locals, length-take-le f.labels_from labels h.0.labels_in, length-take-le f.locals_from locals h.0.locals_in, length-take-le f.bottom ops (omega arith))

pub length_of_frames : (fs : List StackFrame) (labels : List StackLevel) (locals ops : List Value) → length (frames_of fs labels locals ops) ≡ length fs
length_of_frames [] labels locals ops = refl
length_of_frames (f ∷ fs) labels locals ops = ap suc (length_of_frames fs (take f.labels_from labels) (take f.locals_from locals) (take f.bottom ops))

pub size_view : (s : Inside) → IsStack s → size_of_thread (thread_of s) ≡ length s.operands.items + length s.labels.items + length s.locals.items
size_view s h =
    let f = s.here in
    let low = floor_low s h in
    omega (arith, size_of_part f s.labels.items s.locals.items s.operands.items h.part, size_of_parts (reverse s.callers.items) (take f.labels_from s.labels.items) (take f.locals_from s.locals.items) (take f.bottom s.operands.items) h.below, h.part.top, h.part.labels_in, h.part.locals_in, length-reverse (drop f.floor s.operands.items), length-drop f.floor s.operands.items, length-drop f.locals_from s.locals.items, length-take-le f.labels_from s.labels.items h.part.labels_in, length-take-le f.locals_from s.locals.items h.part.locals_in, length-take-le f.bottom s.operands.items (omega arith))

pub room_view : (more : ℕ) (s : Inside) → IsStack s → (nat_lt (length s.callers.items) 512 && nat_le (length s.operands.items + length s.labels.items + length s.locals.items + more) 16384) ≡ has_room more (thread_of s)
room_view more s h =
    let frames = length_of_frames (reverse s.callers.items) (take s.here.labels_from s.labels.items) (take s.here.locals_from s.locals.items) (take s.here.bottom s.operands.items) ∙ length-reverse s.callers.items in
    let size = size_view s h in
    ap (λ k. nat_lt k 512 && nat_le (length s.operands.items + length s.labels.items + length s.locals.items + more) 16384) (sym frames)
    ∙ ap (λ k. nat_lt (length (thread_of s).callers) 512 && nat_le (k + more) 16384) (sym size)

pub room_without_view : (n more : ℕ) (s : Inside) → IsStack s → n ≤ length (thread_of s).stack → (nat_lt (length s.callers.items) 512 && nat_le (length s.operands.items - n + length s.labels.items + length s.locals.items + more) 16384) ≡ has_room more (without_operands n (thread_of s))
room_without_view n more s h le =
    let t = thread_of s in
    let frames = length_of_frames (reverse s.callers.items) (take s.here.labels_from s.labels.items) (take s.here.locals_from s.locals.items) (take s.here.bottom s.operands.items) ∙ length-reverse s.callers.items in
    let stack : length t.stack ≡ length s.operands.items - s.here.floor = length-reverse (drop s.here.floor s.operands.items) ∙ length-drop s.here.floor s.operands.items in
    let rest : length s.operands.items - n + length s.labels.items + length s.locals.items ≡ size_of_thread (without_operands n t) = omega (arith, size_view s h, length-drop n t.stack, stack, le) in
    ap (λ k. nat_lt k 512 && nat_le (length s.operands.items - n + length s.labels.items + length s.locals.items + more) 16384) (sym frames)
    ∙ ap (λ k. nat_lt (length t.callers) 512 && nat_le (k + more) 16384) rest

pub frame_room_view : (more : ℕ) (s : Inside) → IsStack s → (nat_lt (length s.callers.items + 1) 512 && nat_le (length s.operands.items + length s.labels.items + length s.locals.items + more) 16384) ≡ has_frame_room more (thread_of s)
frame_room_view more s h =
    let frames = length_of_frames (reverse s.callers.items) (take s.here.labels_from s.labels.items) (take s.here.locals_from s.locals.items) (take s.here.bottom s.operands.items) ∙ length-reverse s.callers.items in
    let size = size_view s h in
    ap (λ k. nat_lt (k + 1) 512 && nat_le (length s.operands.items + length s.labels.items + length s.locals.items + more) 16384) (sym frames)
    ∙ ap (λ k. nat_lt (length (thread_of s).callers + 1) 512 && nat_le (k + more) 16384) (sym size)

-- ---- labels

-- the label that lies on top of the others
last_of : {A : Type 0} (xs : List A) (k : ℕ) (d : A) → k + 1 ≡ length xs → xs ≡ take k xs ++ get_or xs k d ∷ []
last_of xs k d e = sym (take_all (suc k) xs (omega arith)) ∙ take-suc xs k d (omega arith)

pub top_label : {A : Type 0} (xs : List A) (k : ℕ) (x : A) → k + 1 ≡ length xs → x ≡ get_or xs k x → xs ≡ take k xs ++ x ∷ []
top_label xs k x e is = last_of xs k x e ∙ ap (λ y. take k xs ++ y ∷ []) (sym is)

-- the innermost level is what the instruction of that label opened
pub innermost_top : (gives : Option ValType) (from k : ℕ) (labels : List StackLevel) (l : StackLevel) → from ≤ k → k + 1 ≡ length labels → l ≡ get_or labels k l → innermost_opened gives (reverse (drop from labels)) ≡ opened_by (tree l.opener.now) (trees l.todo.now)
innermost_top gives from k labels l le e is =
    let w = take k labels in
    let in_w : from ≤ length w = omega (arith, length-take-le k labels (omega arith)) in
    ap (λ ls. innermost_opened gives (reverse (drop from ls))) (top_label labels k l e is) ∙ ap (innermost_opened gives) (reverse_drop_push from w l in_w)

-- an instruction that is no block, loop or choice opens no level
pub record OpensNone (i : Instr) : Type 0 where
  pub block : (gives : Option ValType) (body : Vec Instr Global) → i ≡ instr.Block gives body → ⊥
  pub loop : (gives : Option ValType) (body : Vec Instr Global) → i ≡ instr.Loop gives body → ⊥
  pub choice : (gives : Option ValType) (on_true on_false : Vec Instr Global) → i ≡ instr.If gives on_true on_false → ⊥

opens_none_by : (i : Instr-F Instr) → OpensNone (roll-Instr i) → (repeated_by (tree (roll-Instr i)) ≡ None) × (given_by (tree (roll-Instr i)) ≡ None)
unfolding roll-Instr denote.Hole.Carrier.roll
opens_none_by (Instr-F.Block gives body) h = absurd (h.block gives body refl)
opens_none_by (Instr-F.Loop gives body) h = absurd (h.loop gives body refl)
opens_none_by (Instr-F.If gives on_true on_false) h = absurd (h.choice gives on_true on_false refl)
opens_none_by _ h = (refl, refl)

pub opens_none : (i : Instr) (rest : Trees) → OpensNone i → ((opened_by (tree i) rest).loops ≡ false) × ((opened_by (tree i) rest).carries ≡ false)
opens_none i rest h =
    let same = roll-out-Instr i in
    let none = subst (λ i. (repeated_by (tree i) ≡ None) × (given_by (tree i) ≡ None)) same (opens_none_by (out-Instr i) (subst (λ (i : Instr). OpensNone i) (sym same) h)) in
    let o = ap (λ body. opened_as body (given_by (tree i)) rest) none.0 in
    (ap (λ (o : OpenedLevel). o.loops) o, ap (λ (o : OpenedLevel). o.carries) o ∙ ap is_some none.1)

-- the part of a frame in its levels when the innermost has ended
closed_part : (f : StackFrame) (labels w : List StackLevel) (locals ops : List Value) (l : StackLevel) → IsFramePart f labels locals ops → f.labels_from < length labels → labels ≡ w ++ l ∷ [] → IsFramePart (record f { todo = l.todo; floor = l.floor }) w locals ops
closed_part f labels w locals ops l h lt e =
    let from = f.labels_from in
    let within : from ≤ length w = omega (arith, ap length e, length-append w (l ∷ []), lt) in
    let ls = ap (λ o. reverse (drop from o)) e ∙ reverse_drop_push from w l within in
    let cut = subst (λ ls. FloorsAscend f.bottom ls f.floor) ls h.cut in
    record { top = omega (arith, h.top, cut.0); cut = cut.1; labels_in = within; locals_in = h.locals_in }

-- the levels that end, the last of which is below this label
pub record IsPast (n : ℕ) (f : StackFrame) (labels : List StackLevel) (locals ops : List Value) (callers : List StackFrame) (l : StackLevel) : Type 0 where
  pub part : IsFramePart (record f { todo = l.todo; floor = l.floor }) (take (length labels - n) labels) locals ops
  pub thread : closed_by n (thread_in f labels locals ops callers) ≡ Some (thread_in (record f { todo = l.todo; floor = l.floor }) (take (length labels - n) labels) locals ops callers)

module _ (f : StackFrame) (labels : List StackLevel) (locals ops : List Value) (callers : List StackFrame) (d : StackLevel) (h : IsFramePart f labels locals ops) where
  pub past_in : (n : ℕ) → suc n ≤ length labels - f.labels_from → IsPast (suc n) f labels locals ops callers (get_or labels (length labels - suc n) d)
  past_in zero le =
      let k = length labels - 1 in
      let l = get_or labels k d in
      let e = last_of labels k d (omega arith) in
      record {
        part = closed_part f labels (take k labels) locals ops l h (omega arith) e;
        thread = closed_in f labels (take k labels) locals ops callers l h (omega arith) e;
      }
  past_in (suc n) le =
      let before = past_in n (omega arith) in
      let l' = get_or labels (length labels - suc n) d in
      let f' = record f { todo = l'.todo; floor = l'.floor } in
      let labels' = take (length labels - suc n) labels in
      let k = length labels - suc (suc n) in
      let l = get_or labels k d in
      let next : length labels - suc n ≡ suc k = omega (arith, le) in
      let e : labels' ≡ take k labels ++ l ∷ [] = ap (λ m. take m labels) next ∙ take-suc labels k d (omega (arith, le)) in
      let many : length labels' ≡ length labels - suc n = length-take-le (length labels - suc n) labels (omega arith) in
      let lt : f.labels_from < length labels' = omega (arith, many, le) in
      record {
        part = closed_part f' labels' (take k labels) locals ops l before.part lt e;
        thread = ap and_close before.thread ∙ closed_in f' labels' (take k labels) locals ops callers l before.part lt e;
      }

-- the topmost operand
pub stack_top : (s : Inside) (k : ℕ) (v : Value) → s.here.floor ≤ k → k + 1 ≡ length s.operands.items → v ≡ get_or s.operands.items k v → (thread_of s).stack ≡ v ∷ reverse (drop s.here.floor (take k s.operands.items))
stack_top s k v le e is =
    let low : s.here.floor ≤ length (take k s.operands.items) = omega (arith, length-take-le k s.operands.items (omega arith)) in
    ap (λ o. reverse (drop s.here.floor o)) (top_label s.operands.items k v e is) ∙ reverse_drop_push s.here.floor (take k s.operands.items) v low

-- there are no more levels than that
none_around : (f : StackFrame) (labels : List StackLevel) (locals ops : List Value) (callers : List StackFrame) → length labels ≤ f.labels_from → closed_level (thread_in f labels locals ops callers) ≡ None
none_around f labels locals ops callers le =
    ap (λ ls. closed_to (levels_of f.gives (reverse ls) (take f.floor ops)) (thread_in f labels locals ops callers)) (drop_all f.labels_from labels le)

none_further : (more n k : ℕ) (t : Thread) → more + n ≡ k → closed_by n t ≡ None → closed_by k t ≡ None
none_further zero n k t e h = let same : n ≡ k = omega (arith, e) in subst (λ k. closed_by k t ≡ None) same h
none_further (suc more) n k t e h =
    let next : suc (more + n) ≡ k = omega (arith, e) in
    subst (λ k. closed_by k t ≡ None) next (ap and_close (none_further more n (more + n) t refl h))

none_first : (m : ℕ) (f : StackFrame) (labels : List StackLevel) (locals ops : List Value) (callers : List StackFrame) → IsFramePart f labels locals ops → StackLevel → m ≡ length labels - f.labels_from → closed_by (suc m) (thread_in f labels locals ops callers) ≡ None
none_first zero f labels locals ops callers h d e = none_around f labels locals ops callers (omega arith)
none_first (suc m) f labels locals ops callers h d e =
    let past = past_in f labels locals ops callers d h m (omega arith) in
    let l = get_or labels (length labels - suc m) d in
    ap and_close past.thread
    ∙ none_around (record f { todo = l.todo; floor = l.floor }) (take (length labels - suc m) labels) locals ops callers (omega (arith, length-take-le (length labels - suc m) labels (omega arith)))

none_by : (labels : List StackLevel) (f : StackFrame) (locals ops : List Value) (callers : List StackFrame) → IsFramePart f labels locals ops → closed_by (suc (length labels - f.labels_from)) (thread_in f labels locals ops callers) ≡ None
none_by [] f locals ops callers h =
    let none : 0 ≡ 0 - f.labels_from = omega arith in
    subst (λ m. closed_by (suc m) (thread_in f [] locals ops callers) ≡ None) none (none_around f [] locals ops callers (omega arith))
none_by (l ∷ ls) f locals ops callers h = none_first _ f (l ∷ ls) locals ops callers h l refl

pub past_none : (n : ℕ) (f : StackFrame) (labels : List StackLevel) (locals ops : List Value) (callers : List StackFrame) → IsFramePart f labels locals ops → length labels - f.labels_from < n → closed_by n (thread_in f labels locals ops callers) ≡ None
past_none n f labels locals ops callers h lt =
    let m = length labels - f.labels_from in
    none_further (n - suc m) (suc m) n (thread_in f labels locals ops callers) (omega arith) (none_by labels f locals ops callers h)

-- and no fewer
pub past_some : (n : ℕ) (f : StackFrame) (labels : List StackLevel) (locals ops : List Value) (callers : List StackFrame) → IsFramePart f labels locals ops → n ≤ length labels - f.labels_from → closed_by n (thread_in f labels locals ops callers) ≡ None → ⊥
past_some zero f labels locals ops callers h le none = cc
past_some (suc n) f [] locals ops callers h le none = omega (arith, le)
past_some (suc n) f (l ∷ ls) locals ops callers h le none =
    let past = past_in f (l ∷ ls) locals ops callers l h n le in
    absurd_some (sym past.thread ∙ none)
  where
    absurd_some : {t : Thread} → Some t ≡ None → ⊥
    absurd_some e = cc

pub past_fits : (s : Inside) (t : Thread) (n : ℕ) → IsStack s → thread_of s ≡ t → (closed_by n t ≡ None → ⊥) → n ≤ length s.labels.items - s.here.labels_from
past_fits s t n h view some = by_test (nat_lt (length s.labels.items - s.here.labels_from) n) refl
  where
    by_test : (b : Bool) → nat_lt (length s.labels.items - s.here.labels_from) n ≡ b → n ≤ length s.labels.items - s.here.labels_from
    by_test true e = absurd (some (ap (closed_by n) (sym view) ∙ past_none n s.here s.labels.items s.locals.items s.operands.items s.callers.items h.part (ltb-true (length s.labels.items - s.here.labels_from) n e)))
    by_test false e = ltb-false (length s.labels.items - s.here.labels_from) n e

module _ (s : Inside) (n : ℕ) (w : Vec StackLevel Global) (l : StackLevel) (h : IsStack s) (le : n ≤ length s.labels.items - s.here.labels_from) (past : IsPast n s.here s.labels.items s.locals.items s.operands.items s.callers.items l) (e : w.items ≡ take (length s.labels.items - n) s.labels.items) where
  pub past_view : closed_by n (thread_of s) ≡ Some (thread_of (record s { labels = w; here = record s.here { todo = l.todo; floor = l.floor } }))
  past_view =
      past.thread ∙ ap (λ o. Some (thread_in (record s.here { todo = l.todo; floor = l.floor }) o s.locals.items s.operands.items s.callers.items)) (sym e)

  pub past_sound : IsStack (record s { labels = w; here = record s.here { todo = l.todo; floor = l.floor } })
  past_sound =
      let from = s.here.labels_from in
      let m = length s.labels.items - n in
      let low : take from s.labels.items ≡ take from w.items = sym (ap (λ o. take from o) e ∙ take-take from m s.labels.items (omega (arith, h.part.labels_in))) in
      let many : length w.items ≤ length s.labels.items = omega (arith, ap length e, length-take m s.labels.items) in
      record {
        part = subst (λ o. IsFramePart (record s.here { todo = l.todo; floor = l.floor }) o s.locals.items s.operands.items) (sym e) past.part;
        below = subst (λ o. AreFrameParts (reverse s.callers.items) o (take s.here.locals_from s.locals.items) (take s.here.bottom s.operands.items)) low h.below;
        room = record { place = h.room.place; limit = omega (arith, h.room.limit, many); frames_place = h.room.frames_place; frames_limit = h.room.frames_limit };
      }

-- the innermost frame is left
pub record IsLeft (s : Inside) (ops : List Value) (labels : List StackLevel) (locals : List Value) (callers : List StackFrame) (f : StackFrame) : Type 0 where
  pub caller : s.callers.items ≡ callers ++ f ∷ []
  pub ops_is : ops ≡ take s.here.bottom s.operands.items
  pub labels_is : labels ≡ take s.here.labels_from s.labels.items
  pub locals_is : locals ≡ take s.here.locals_from s.locals.items

module _ (s : Inside) (v : Vec Value Global) (w : Vec StackLevel Global) (x : Vec Value Global) (y : Vec StackFrame Global) (f : StackFrame) (h : IsStack s) (e : IsLeft s v.items w.items x.items y.items f) where
  callers_left : reverse s.callers.items ≡ f ∷ reverse y.items
  callers_left = ap reverse e.caller ∙ reverse-append y.items (f ∷ [])

  pub left_view : left_frame (thread_of s) ≡ Some (thread_of (record s { here = f; operands = v; labels = w; locals = x; callers = y }))
  left_view =
      let labels = take s.here.labels_from s.labels.items in
      let locals = take s.here.locals_from s.locals.items in
      let ops = take s.here.bottom s.operands.items in
      ap (λ fs. left_to_caller (frames_of fs labels locals ops)) callers_left
      ∙ ap (λ o. Some (thread_in f labels locals o y.items)) (sym e.ops_is)
      ∙ ap (λ o. Some (thread_in f o locals v.items y.items)) (sym e.labels_is)
      ∙ ap (λ o. Some (thread_in f w.items o v.items y.items)) (sym e.locals_is)

  pub left_sound : s.operands.cap ≤ v.cap → s.callers.cap ≤ y.cap → IsStack (record s { here = f; operands = v; labels = w; locals = x; callers = y })
  left_sound cap frames =
      let labels = take s.here.labels_from s.labels.items in
      let locals = take s.here.locals_from s.locals.items in
      let ops = take s.here.bottom s.operands.items in
      let p0 = subst (λ fs. AreFrameParts fs labels locals ops) callers_left h.below in
      let p1 = subst (λ o. AreFrameParts (f ∷ reverse y.items) labels locals o) (sym e.ops_is) p0 in
      let p2 = subst (λ o. AreFrameParts (f ∷ reverse y.items) o locals v.items) (sym e.labels_is) p1 in
      let p3 = subst (λ o. AreFrameParts (f ∷ reverse y.items) w.items o v.items) (sym e.locals_is) p2 in
      record {
        part = p3.0;
        below = p3.1;
        room = record {
          place = omega (arith, h.room.place, cap);
          limit = omega (arith, h.room.limit, ap length e.labels_is, ap length e.locals_is, length-take s.here.labels_from s.labels.items, length-take s.here.locals_from s.locals.items);
          frames_place = omega (arith, h.room.frames_place, frames);
          frames_limit = h.room.frames_limit;
        };
      }

-- a level that opens
module _ (s : Inside) (here : StackFrame) (w : Vec StackLevel Global) (l : StackLevel) (h : IsStack s) (top : here.floor ≡ length s.operands.items) (floor : l.floor ≡ s.here.floor) (e : w.items ≡ s.labels.items ++ l ∷ []) where
  around_now : reverse (drop s.here.labels_from w.items) ≡ l ∷ reverse (drop s.here.labels_from s.labels.items)
  around_now = ap (λ o. reverse (drop s.here.labels_from o)) e ∙ reverse_drop_push s.here.labels_from s.labels.items l h.part.labels_in

  below_now : take s.here.labels_from w.items ≡ take s.here.labels_from s.labels.items
  below_now = ap (λ o. take s.here.labels_from o) e ∙ take-append-le s.here.labels_from s.labels.items (l ∷ []) h.part.labels_in

  pub opened_sound : (room : ℕ) → room ≤ s.room - 1 → IsStack (record s { here = record s.here { todo = here.todo; floor = here.floor }; labels = w; room = room })
  opened_sound room fewer =
      let low : l.floor ≤ here.floor = omega (arith, h.part.top, top, floor) in
      let cut : FloorsAscend s.here.bottom (l ∷ reverse (drop s.here.labels_from s.labels.items)) here.floor = (low, subst (λ k. FloorsAscend s.here.bottom (reverse (drop s.here.labels_from s.labels.items)) k) (sym floor) h.part.cut) in
      let more = ap length e ∙ length-append s.labels.items (l ∷ []) in
      record {
        part = record {
          top = omega (arith, top);
          cut = subst (λ ls. FloorsAscend s.here.bottom ls here.floor) (sym around_now) cut;
          labels_in = omega (arith, more, h.part.labels_in);
          locals_in = h.part.locals_in;
        };
        below = subst (λ o. AreFrameParts (reverse s.callers.items) o (take s.here.locals_from s.locals.items) (take s.here.bottom s.operands.items)) (sym below_now) h.below;
        room = record { place = omega (arith, h.room.place, fewer); limit = omega (arith, h.room.limit, fewer, more); frames_place = h.room.frames_place; frames_limit = h.room.frames_limit };
      }

  pub opened_view : (room : ℕ) →
      thread_of (record s { here = record s.here { todo = here.todo; floor = here.floor }; labels = w; room = room })
      ≡ entered_by (tree l.opener.now) (trees here.todo.now) (record (thread_of s) { todo = trees l.todo.now })
  opened_view room =
      let e1 = around_now in
      let e2 = below_now in
      let e3 = drop_all here.floor s.operands.items (omega (arith, top)) in
      let e4 = take_all here.floor s.operands.items (omega (arith, top)) in
      cc
