-- A frame that is entered.
use Rattle.std.proofs.Common.{◌≡◌, ℕ, Vec, Global, ◌+◌, ◌-◌, ◌<◌, ◌≤◌, List, [], ◌∷◌, ◌++◌, Some, None, length, take, drop, sym, ap, ◌∙◌, subst, arith, rules, tests, append_assoc, length-append, length-take, length-drop, take-append-drop}
use Rattle.std.specs.Prelude.{reverse, nat_lt, false, if◌then◌else◌}
use Rattle.std.proofs.lemmas.List.{reverse-append, reverse-reverse, length-reverse, length-take-le, take_at, drop_at, take_all, drop_all, take-take}
use Rattle.wasm_types.specs.declared.code.Value.{Value}
use Rattle.wasm_types.specs.Code.{trees}
use Rattle.wasm_types.specs.Locals.{zeros}
use Rattle.wasm_types.specs.Modules.{Func}
use Rattle.wasm_stack.specs.declared.stack.StackFrame.{StackFrame}
use Rattle.wasm_stack.specs.declared.stack.Stack.TheInside.{Inside}
use Rattle.wasm_stack.specs.Limits.{ThreadWithin}
use Rattle.wasm_stack.specs.Thread.{Thread, arguments, called_with, entered_frame, size_of_thread, without_operands}
use Rattle.wasm_stack.specs.inside.Stacks.{FloorsAscend, AreFrameParts, IsStack, thread_of}
use Rattle.wasm_stack.proofs.StackViews.{IsSound-operands, KeepsBelow, drop_parts, length_of_frames, size_view, thread_of-operands}

-- a stack within the limits
pub within_of : (s : Inside) → IsStack s → length s.callers.items < 512 → length s.operands.items + length s.labels.items + length s.locals.items ≤ 16384 → ThreadWithin (thread_of s)
within_of s h frames size = record {
  frames = omega (arith, frames, length-reverse s.callers.items, length_of_frames (reverse s.callers.items) (take s.here.labels_from s.labels.items) (take s.here.locals_from s.locals.items) (take s.here.bottom s.operands.items));
  size = omega (arith, size, size_view s h);
}

pub size_within : (s : Inside) (t : Thread) → IsStack s → thread_of s ≡ t → ThreadWithin t → length s.operands.items + length s.labels.items + length s.locals.items ≤ 16384
size_within s t h view within = omega (arith, ap size_of_thread view, size_view s h, within.size)

-- the n arguments, which lie between the operands that stay and those that go
module _ (t : Thread) (above n : ℕ) (kept args gone : List Value) (stack : t.stack ≡ reverse (kept ++ (args ++ gone))) (many : length args ≡ n) (rest : length gone ≡ above) where
  below : drop above t.stack ≡ reverse args ++ reverse kept
  below =
      let parts = reverse-append kept (args ++ gone) ∙ ap (λ o. o ++ reverse kept) (reverse-append args gone) ∙ append_assoc (reverse gone) (reverse args) (reverse kept) in
      ap (λ o. drop above o) (stack ∙ parts) ∙ drop_at (reverse gone) (reverse args ++ reverse kept) above (length-reverse gone ∙ rest)

  count : length (reverse args) ≡ n
  count = length-reverse args ∙ many

  pub arguments_below : arguments n (without_operands above t) ≡ Some args
  arguments_below =
      let enough : nat_lt (length (reverse args ++ reverse kept)) n ≡ false = search (rules, tests, length-append (reverse args) (reverse kept), count) in
      ap (λ o. arguments n (record t { stack = o })) below
      ∙ ap (λ b. if b then None else Some (reverse (take n (reverse args ++ reverse kept)))) enough
      ∙ ap (λ o. Some (reverse o)) (take_at (reverse args) (reverse kept) n count)
      ∙ ap Some (reverse-reverse args)

  pub without_both : without_operands n (without_operands above t) ≡ record t { stack = reverse kept }
  without_both = ap (λ o. record t { stack = o }) (ap (λ o. drop n o) below ∙ drop_at (reverse args) (reverse kept) n count)

-- the frame of a function is entered below so many operands that go: its arguments, the last n below those, are the first
-- of its locals, and the operands up to `first` stay
pub record IsEntered (s : Inside) (func : Func) (above n first : ℕ) (here : StackFrame) (operands locals : Vec Value Global) (callers : Vec StackFrame Global) : Type 0 where
  pub split : first + n + above ≡ length s.operands.items
  pub enough : s.here.floor ≤ first
  pub operands_are : operands.items ≡ take first s.operands.items
  pub capacity : s.operands.cap ≤ operands.cap
  pub body : trees here.todo.now ≡ func.body
  pub floor : here.floor ≡ first
  pub bottom : here.bottom ≡ first
  pub labels_from : here.labels_from ≡ length s.labels.items
  pub locals_from : here.locals_from ≡ length s.locals.items
  pub locals_are : locals.items ≡ (s.locals.items ++ take n (drop first s.operands.items)) ++ zeros func.locals
  pub callers_are : callers.items ≡ s.callers.items ++ s.here ∷ []

module _ (s : Inside) (func : Func) (above n first : ℕ) (here : StackFrame) (operands locals : Vec Value Global) (callers : Vec StackFrame Global) (room frames : ℕ) (h : IsStack s) (e : IsEntered s func above n first here operands locals callers) where
  abbrev args : List Value
  args = take n (drop first s.operands.items)

  -- the caller, without the operands that go
  abbrev cut : Inside
  cut = record s { operands = operands }

  abbrev now : Inside
  now = record s { here = here; operands = operands; locals = locals; callers = callers; room = room; frames = frames }

  pub height : length operands.items ≡ first
  height = omega (arith, ap length e.operands_are, length-take-le first s.operands.items (omega (arith, e.split)), e.split)

  many : length args ≡ n
  many = omega (arith, length-take n (drop first s.operands.items), length-drop first s.operands.items, e.split)

  joined : locals.items ≡ s.locals.items ++ (args ++ zeros func.locals)
  joined = e.locals_are ∙ append_assoc s.locals.items args (zeros func.locals)

  pub grown : length locals.items ≡ length s.locals.items + n + length (zeros func.locals)
  grown = omega (arith, many, ap length joined, length-append s.locals.items (args ++ zeros func.locals), length-append args (zeros func.locals))

  keeps : KeepsBelow s operands.items
  keeps = record {
    top = omega (arith, height, e.enough);
    same = ap (λ o. take s.here.floor o) e.operands_are ∙ take-take s.here.floor first s.operands.items e.enough;
  }

  cut_sound : IsStack cut
  cut_sound = IsSound-operands s operands h e.capacity keeps

  low_labels : take here.labels_from s.labels.items ≡ s.labels.items
  low_labels = take_all here.labels_from s.labels.items (omega (arith, e.labels_from))

  low_locals : take here.locals_from locals.items ≡ s.locals.items
  low_locals = ap (λ o. take here.locals_from o) joined ∙ take_at s.locals.items (args ++ zeros func.locals) here.locals_from (sym e.locals_from)

  low_operands : take here.bottom operands.items ≡ operands.items
  low_operands = take_all here.bottom operands.items (omega (arith, height, e.bottom))

  callers_now : reverse callers.items ≡ s.here ∷ reverse s.callers.items
  callers_now = ap reverse e.callers_are ∙ reverse-append s.callers.items (s.here ∷ [])

  no_labels : drop here.labels_from s.labels.items ≡ []
  no_labels = drop_all here.labels_from s.labels.items (omega (arith, e.labels_from))

  pub entered_sound : room ≤ operands.cap → room ≤ 16384 - (length s.labels.items + length locals.items) → frames ≤ callers.cap → frames < 512 → IsStack now
  entered_sound place limit frames_place frames_limit =
      let whole : AreFrameParts (s.here ∷ reverse s.callers.items) s.labels.items s.locals.items operands.items = (cut_sound.part, cut_sound.below) in
      let parts1 = subst (λ o. AreFrameParts o s.labels.items s.locals.items operands.items) (sym callers_now) whole in
      let parts2 = subst (λ o. AreFrameParts (reverse callers.items) o s.locals.items operands.items) (sym low_labels) parts1 in
      let parts3 = subst (λ o. AreFrameParts (reverse callers.items) (take here.labels_from s.labels.items) o operands.items) (sym low_locals) parts2 in
      let cut : here.bottom ≡ here.floor = e.bottom ∙ sym e.floor in
      record {
        part = record {
          top = omega (arith, height, e.floor);
          cut = subst (λ o. FloorsAscend here.bottom (reverse o) here.floor) (sym no_labels) cut;
          labels_in = omega (arith, e.labels_from);
          locals_in = omega (arith, e.locals_from, grown);
        };
        below = subst (λ o. AreFrameParts (reverse callers.items) (take here.labels_from s.labels.items) (take here.locals_from locals.items) o) (sym low_operands) parts3;
        room = record { place = place; limit = limit; frames_place = frames_place; frames_limit = frames_limit };
      }

  entered_here : entered_frame (thread_of cut) here.func (trees here.todo.now) (args ++ zeros func.locals) here.gives ≡ thread_of now
  entered_here =
      let e1 = low_labels in
      let e2 = low_locals in
      let e3 = low_operands in
      let e4 = callers_now in
      let e5 = ap reverse no_labels in
      let e6 = ap (λ o. drop here.locals_from o) joined ∙ drop_at s.locals.items (args ++ zeros func.locals) here.locals_from (sym e.locals_from) in
      let e7 = drop_all here.floor operands.items (omega (arith, height, e.floor)) in
      cc

  pub entered_view : called_with (arguments n (without_operands above (thread_of s))) n (without_operands above (thread_of s)) here.func func here.gives ≡ Some (thread_of now)
  entered_view =
      let t = thread_of s in
      let kept = drop s.here.floor operands.items in
      let gone = drop n (drop first s.operands.items) in
      let parts = drop_parts s.here.floor first s.operands.items e.enough (omega (arith, e.split)) ∙ ap (λ o. drop s.here.floor o ++ drop first s.operands.items) (sym e.operands_are) ∙ ap (λ o. kept ++ o) (sym (take-append-drop n (drop first s.operands.items))) in
      let rest : length gone ≡ above = omega (arith, length-drop n (drop first s.operands.items), length-drop first s.operands.items, e.split) in
      ap (λ a. called_with a n (without_operands above t) here.func func here.gives) (arguments_below t above n kept args gone (ap reverse parts) many rest)
      ∙ ap (λ (u : Thread). Some (entered_frame u here.func func.body (args ++ zeros func.locals) here.gives)) (without_both t above n kept args gone (ap reverse parts) many rest ∙ sym (thread_of-operands s operands h keeps))
      ∙ ap (λ body. Some (entered_frame (thread_of cut) here.func body (args ++ zeros func.locals) here.gives)) (sym e.body)
      ∙ ap Some entered_here
