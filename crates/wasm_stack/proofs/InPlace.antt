-- What stands in place of operands.
use Rattle.std.proofs.Common.{◌≡◌, Vec, Global, ◌+◌, ◌<◌, ◌≤◌, [], ◌∷◌, ◌++◌, length, drop, sym, ap, ◌∙◌, arith, length-append}
use Rattle.wasm_types.specs.declared.code.Value.{Value}
use Rattle.wasm_stack.specs.declared.stack.Stack.TheInside.{Inside}
use Rattle.wasm_stack.specs.Thread.{Thread, with_operand}
use Rattle.wasm_stack.specs.inside.Stacks.{IsStack, thread_of}
use Rattle.wasm_stack.proofs.StackViews.{IsSound-operands, keeps_popped, keeps_pushed, popped_view, pushed_view}

module _ (s : Inside) (w1 w3 : Vec Value Global) (x v : Value) (h : IsStack s) (enough : s.here.floor < length s.operands.items) (cap1 : s.operands.cap ≤ w1.cap) (cap3 : w1.cap ≤ w3.cap) (e1 : s.operands.items ≡ w1.items ++ x ∷ []) (e3 : w3.items ≡ w1.items ++ v ∷ []) where
  one_sound : IsStack (record s { operands = w1 })
  one_sound = IsSound-operands s w1 h cap1 (keeps_popped s w1.items x enough e1)

  pub put_one_sound : IsStack (record s { operands = w3 })
  put_one_sound = IsSound-operands (record s { operands = w1 }) w3 one_sound cap3 (keeps_pushed (record s { operands = w1 }) w3.items v one_sound e3)

  pub put_one_view : thread_of (record s { operands = w3 }) ≡ record (thread_of s) { stack = v ∷ drop 1 (thread_of s).stack }
  put_one_view =
      pushed_view (record s { operands = w1 }) w3 v one_sound e3
      ∙ ap (λ (t : Thread). record t { stack = v ∷ drop 1 t.stack }) (sym (popped_view s w1 x h enough e1))

module _ (s : Inside) (w1 w2 w3 : Vec Value Global) (x y v : Value) (h : IsStack s) (enough : s.here.floor + 2 ≤ length s.operands.items) (cap1 : s.operands.cap ≤ w1.cap) (cap2 : w1.cap ≤ w2.cap) (cap3 : w2.cap ≤ w3.cap) (e1 : s.operands.items ≡ w1.items ++ y ∷ []) (e2 : w1.items ≡ w2.items ++ x ∷ []) (e3 : w3.items ≡ w2.items ++ v ∷ []) where
  lt1 : s.here.floor < length s.operands.items
  lt1 = omega (arith, enough)

  lt2 : s.here.floor < length w1.items
  lt2 = omega (arith, enough, ap length e1, length-append w1.items (y ∷ []))

  h1 : IsStack (record s { operands = w1 })
  h1 = IsSound-operands s w1 h cap1 (keeps_popped s w1.items y lt1 e1)

  h2 : IsStack (record s { operands = w2 })
  h2 = IsSound-operands (record s { operands = w1 }) w2 h1 cap2 (keeps_popped (record s { operands = w1 }) w2.items x lt2 e2)

  pub put_two_sound : IsStack (record s { operands = w3 })
  put_two_sound = IsSound-operands (record s { operands = w2 }) w3 h2 cap3 (keeps_pushed (record s { operands = w2 }) w3.items v h2 e3)

  pub put_two_view : thread_of (record s { operands = w3 }) ≡ record (thread_of s) { stack = v ∷ drop 2 (thread_of s).stack }
  put_two_view =
      pushed_view (record s { operands = w2 }) w3 v h2 e3
      ∙ ap (λ (t : Thread). record t { stack = v ∷ drop 2 t.stack }) (sym (popped_view s w1 y h lt1 e1 ∙ ap (λ t. with_operand t y) (popped_view (record s { operands = w1 }) w2 x h1 lt2 e2)))
