-- Blocks and branches keep what fits.
use Rattle.std.proofs.Common.{◌≡◌, ℕ, zero, suc, Bool, true, false, List, [], ◌∷◌, Option, Some, None, refl, sym, ap, ◌∙◌, subst}
use Rattle.std.specs.Prelude.{is_some, slice_get, IsSome, ◌&&◌, if◌then◌else◌}
use Rattle.std.specs.List.{list_all}
use Rattle.std.specs.Option.{option_map_or}
use Rattle.wasm_types.specs.declared.code.ValType.{ValType}
use Rattle.wasm_types.specs.declared.code.ValType.TheVariants as types
use Rattle.wasm_types.specs.Code.{Trees, Block, Loop, If, Br, BrIf, BrTable, Return}
use Rattle.wasm_types.specs.Context.{Context}
use Rattle.wasm_types.specs.Labels.{Labels, table_label, has_label, is_same_label, stack_around_block, block_of}
use Rattle.wasm_types.specs.Maybe.{◌>>=◌}
use Rattle.wasm_types.specs.Modules.{Module}
use Rattle.wasm_types.specs.Stack.{BlockStack, no_operands, jumped_stack, is_exactly, pop_type, pop_result, push_result, jump_with}
use Rattle.wasm_types.specs.Typing.{typed_instrs}
use Rattle.wasm_values.specs.Values.{types_of_values}
use Rattle.wasm_step.specs.Fits.{TargetFits, known_operands, put_type, label_of_level, IsTypedRemainder, ThreadFits}
use Rattle.wasm_step.specs.inside.Standing.{AfterFits}
use Rattle.wasm_stack.specs.Control as Control
use Rattle.wasm_stack.specs.Control.{branch, label_at}
use Rattle.wasm_stack.specs.Thread.{Thread, opened_level, innermost_level_of}
use Rattle.wasm_step.proofs.ThreadsFit.{never_none, is_same_equal, pops_type, pops_result, RestOf, labels_at, LeavesAt, goes, branch_fits, return_fits}
use Rattle.wasm_step.proofs.PlainRowsFit.{neither, step, After', End', Before, on_top_fits, on_test_fits, on_i32_fits}

-- a block's inside leaves exactly its result, and the typing goes on with that
record Inside (result : Option ValType) (inside : Option BlockStack) (s : BlockStack) (F G : BlockStack → Option BlockStack) : Type 0 where
  within : IsSome (inside >>= is_exactly result)
  rest : IsSome (F (push_result result s) >>= G)

inside_of : (result : Option ValType) (inside : Option BlockStack) (s : BlockStack) (F G : BlockStack → Option BlockStack) → IsSome ((block_of result inside s >>= F) >>= G) → Inside result inside s F G
inside_of result None s F G h = never_none h
inside_of result (Some end) s F G h = by_exact (is_exactly result end) refl h
  where
    by_exact : (o : Option BlockStack) → is_exactly result end ≡ o → IsSome ((((o >>= (λ exact. Some s)) >>= (λ before. Some (push_result result before))) >>= F) >>= G) → Inside result (Some end) s F G
    by_exact None e h' = never_none h'
    by_exact (Some x) e h' = record { within = subst (λ (o : Option BlockStack). IsSome o) (sym e) refl; rest = h' }

-- the same of a choice's other branch, whose result nothing goes on with yet
around_of : (result : Option ValType) (inside : Option BlockStack) (s : BlockStack) (f F G : BlockStack → Option BlockStack) → IsSome (((stack_around_block result inside s >>= f) >>= F) >>= G) → IsSome (inside >>= is_exactly result) × IsSome ((f s >>= F) >>= G)
around_of result None s f F G h = never_none h
around_of result (Some end) s f F G h = by_exact (is_exactly result end) refl h
  where
    by_exact : (o : Option BlockStack) → is_exactly result end ≡ o → IsSome ((((o >>= (λ exact. Some s)) >>= f) >>= F) >>= G) → IsSome (Some end >>= is_exactly result) × IsSome ((f s >>= F) >>= G)
    by_exact None e h' = never_none h'
    by_exact (Some x) e h' = (subst (λ (o : Option BlockStack). IsSome o) (sym e) refl, h')

same_label : (a b : Option ValType) → is_same_label a b ≡ true → a ≡ b
same_label None None e = refl
same_label (Some k) (Some j) e = ap Some (is_same_equal k j e)
same_label None (Some j) e = cc
same_label (Some k) None e = cc

has_it : (ls : Labels) (label : Option ValType) (n : ℕ) → has_label ls label n ≡ true → slice_get ls n ≡ Some label
has_it ls label n e = by_case (slice_get ls n) refl e
  where
    by_case : (o : Option (Option ValType)) → slice_get ls n ≡ o → option_map_or (is_same_label label) o false ≡ true → slice_get ls n ≡ Some label
    by_case None q e' = cc
    by_case (Some l) q e' = q ∙ ap Some (sym (same_label label l e'))

at_of_all : (p : ℕ → Bool) (ns : List ℕ) (i n : ℕ) → list_all p ns ≡ true → slice_get ns i ≡ Some n → p n ≡ true
at_of_all p [] i n e at = cc
at_of_all p (m ∷ ns) zero n e at =
    let same : m ≡ n = cc in ap p (sym same) ∙ (both (p m) (list_all p ns) e).0
  where
    both : (a b : Bool) → a && b ≡ true → (a ≡ true) × (b ≡ true)
    both true true e = (refl, refl)
    both true false e = cc
    both false b e = cc
at_of_all p (m ∷ ns) (suc i) n e at = at_of_all p ns i n (second (p m) (list_all p ns) e) at
  where
    second : (a b : Bool) → a && b ≡ true → b ≡ true
    second true true e = refl
    second true false e = cc
    second false b e = cc

-- each label of a table is of the type of its default
table_at : (ls : Labels) (ns : List ℕ) (default i : ℕ) (label : Option ValType) → table_label ls ns default ≡ Some label → slice_get ls (label_at (slice_get ns i) default) ≡ Some label
table_at ls ns default i label e = by_default (slice_get ls default) refl e
  where
    by_label : (d : Option ValType) (o : Option ℕ) → slice_get ls default ≡ Some d → slice_get ns i ≡ o → list_all (has_label ls d) ns ≡ true → slice_get ls (label_at o default) ≡ Some d
    by_label d None q r all = q
    by_label d (Some n) q r all = has_it ls d n (at_of_all (has_label ls d) ns i n all r)

    by_test : (d : Option ValType) (b : Bool) → slice_get ls default ≡ Some d → list_all (has_label ls d) ns ≡ b → (if b then Some d else None) ≡ Some label → slice_get ls (label_at (slice_get ns i) default) ≡ Some label
    by_test d true q r e' =
        let same : d ≡ label = cc in by_label d (slice_get ns i) q refl r ∙ ap Some same
    by_test d false q r e' = cc

    by_default : (o : Option (Option ValType)) → slice_get ls default ≡ o → (o >>= (λ d. if list_all (has_label ls d) ns then Some d else None)) ≡ Some label → slice_get ls (label_at (slice_get ns i) default) ≡ Some label
    by_default None q e' = cc
    by_default (Some d) q e' = by_test d (list_all (has_label ls d) ns) q refl e'

put_push : (o : Option ValType) (ks : List ValType) → push_result o (known_operands ks) ≡ known_operands (put_type o ks)
put_push None ks = refl
put_push (Some k) ks = refl

label_true : (o : Option ValType) → label_of_level o (is_some o) ≡ o
label_true None = refl
label_true (Some k) = refl

module _ (m : Module) (c : Context) where
  -- a block that is opened fits, where its inside, its end and a branch to it do
  open_fits : (t : Thread) (gives : Option ValType) (body target : Trees) (carries loops : Bool) → RestOf m c t → carries ≡ is_some (label_of_level gives carries) → IsTypedRemainder c (label_of_level gives carries ∷ labels_at m t) gives body [] → TargetFits loops c (record { gives = gives; target = target; carries = carries; loops = loops }) (innermost_level_of t) t.outer → LeavesAt m c t (put_type gives (types_of_values t.stack)) → ThreadFits m (opened_level t gives body target carries loops)
  open_fits t gives body target carries loops r e inside at_target after =
      goes m c (opened_level t gives body target carries loops) (r.0, r.1, r.2, (e, at_target, after, r.3), r.4) inside

  carries_it : (gives : Option ValType) → is_some gives ≡ is_some (label_of_level gives (is_some gives))
  carries_it None = refl
  carries_it (Some k) = refl

  pub block_fits : (gives : Option ValType) (body : Trees) (t : Thread) → RestOf m c t → Before m c (Block gives body) t (types_of_values t.stack) → ThreadFits m (opened_level t gives body t.todo (is_some gives) false)
  block_fits gives body t r h =
      let ks = types_of_values t.stack in
      let i = inside_of gives (typed_instrs c body (gives ∷ labels_at m t) no_operands) (known_operands ks) (After' m c t) (End' m c t) h.typed in
      let nf = neither _ _ h.no_float in
      let nf' = neither _ _ nf.0 in
      let after : LeavesAt m c t (put_type gives ks) = record { typed = subst (λ s. IsSome (After' m c t s >>= End' m c t)) (put_push gives ks) i.rest; no_float = nf.1 } in
      let inside : IsTypedRemainder c (gives ∷ labels_at m t) gives body [] = record { typed = i.within; no_float = nf'.1 } in
      open_fits t gives body t.todo (is_some gives) false r (carries_it gives)
      (subst (λ l. IsTypedRemainder c (l ∷ labels_at m t) gives body []) (sym (label_true gives)) inside)
      (subst (λ l. LeavesAt m c t (put_type l ks)) (sym (label_true gives)) after) after

  pub loop_fits : (gives : Option ValType) (body : Trees) (t : Thread) → RestOf m c t → Before m c (Loop gives body) t (types_of_values t.stack) → ThreadFits m (opened_level t gives body body false true)
  loop_fits gives body t r h =
      let ks = types_of_values t.stack in
      let i = inside_of gives (typed_instrs c body (None ∷ labels_at m t) no_operands) (known_operands ks) (After' m c t) (End' m c t) h.typed in
      let nf = neither _ _ h.no_float in
      let nf' = neither _ _ nf.0 in
      let after : LeavesAt m c t (put_type gives ks) = record { typed = subst (λ s. IsSome (After' m c t s >>= End' m c t)) (put_push gives ks) i.rest; no_float = nf.1 } in
      open_fits t gives body body false true r refl (record { typed = i.within; no_float = nf'.1 }) (record { typed = i.within; no_float = nf'.1 }) after

  pub choose_fits : (gives : Option ValType) (yes' no' : Trees) (t : Thread) → RestOf m c t → Before m c (If gives yes' no') t (types_of_values t.stack) → AfterFits m (Control.choose gives yes' no' t)
  choose_fits gives yes' no' t r h =
      let ks = types_of_values t.stack in
      let F = After' m c t in
      let G = End' m c t in
      let on_yes = typed_instrs c yes' (gives ∷ labels_at m t) no_operands in
      let on_no = typed_instrs c no' (gives ∷ labels_at m t) no_operands in
      let a = step (pop_type types.I32 (known_operands ks)) (λ tested. stack_around_block gives on_yes tested >>= (λ before. block_of gives on_no before)) F G h.typed in
      let p = pops_type types.I32 ks a.value a.is in
      let y = around_of gives on_yes a.value (λ before. block_of gives on_no before) F G a.rest in
      let n = inside_of gives on_no a.value F G y.1 in
      let nf = neither _ _ h.no_float in
      let nf1 = neither _ _ nf.0 in
      let nf2 = neither _ _ nf1.1 in
      let after : LeavesAt m c t (put_type gives p.more) = record { typed = subst (λ s. IsSome (F s >>= G)) (ap (push_result gives) p.left ∙ put_push gives p.more) n.rest; no_float = nf.1 } in
      on_top_fits m c t _ t.stack types.I32 p.more p.there (λ v rest kv kr.
      let after' : LeavesAt m c t (put_type gives (types_of_values rest)) = subst (λ ks. LeavesAt m c t (put_type gives ks)) (sym kr) after in
      let at_label = subst (λ l. LeavesAt m c t (put_type l (types_of_values rest))) (sym (label_true gives)) after' in
      let t' = record t { stack = rest } in
      on_test_fits m c v _ _ kv
      (open_fits t' gives no' t.todo (is_some gives) false r (carries_it gives) (subst (λ l. IsTypedRemainder c (l ∷ labels_at m t) gives no' []) (sym (label_true gives)) (record { typed = n.within; no_float = nf2.1 })) at_label after')
      (open_fits t' gives yes' t.todo (is_some gives) false r (carries_it gives) (subst (λ l. IsTypedRemainder c (l ∷ labels_at m t) gives yes' []) (sym (label_true gives)) (record { typed = y.0; no_float = nf2.0 })) at_label after'))

  pub br_fits : (n : ℕ) (t : Thread) → RestOf m c t → Before m c (Br n) t (types_of_values t.stack) → AfterFits m (branch n t)
  br_fits n t r h =
      let ks = types_of_values t.stack in
      let a = step (slice_get (labels_at m t) n) (λ label. jump_with label (known_operands ks)) (After' m c t) (End' m c t) h.typed in
      let b = step (pop_result a.value (known_operands ks)) (λ rest. Some jumped_stack) (After' m c t) (End' m c t) a.rest in
      let p = pops_result a.value ks b.value b.is in
      branch_fits m c n t.outer t a.value p.more r a.is p.there

  pub br_if_fits : (n : ℕ) (t : Thread) → RestOf m c t → Before m c (BrIf n) t (types_of_values t.stack) → AfterFits m (Control.branch_if n t)
  br_if_fits n t r h =
      let ks = types_of_values t.stack in
      let F = After' m c t in
      let G = End' m c t in
      let a = step (slice_get (labels_at m t) n) (λ label. pop_type types.I32 (known_operands ks) >>= (λ tested. pop_result label tested >>= (λ rest. Some (push_result label rest)))) F G h.typed in
      let b = step (pop_type types.I32 (known_operands ks)) (λ tested. pop_result a.value tested >>= (λ rest. Some (push_result a.value rest))) F G a.rest in
      let p = pops_type types.I32 ks b.value b.is in
      let second = subst (λ s. IsSome (((pop_result a.value s >>= (λ rest. Some (push_result a.value rest))) >>= F) >>= G)) p.left b.rest in
      let d = step (pop_result a.value (known_operands p.more)) (λ rest. Some (push_result a.value rest)) F G second in
      let q = pops_result a.value p.more d.value d.is in
      let after : LeavesAt m c t p.more = record { typed = subst (λ s. IsSome (F s >>= G)) (ap (push_result a.value) q.left ∙ put_push a.value q.more ∙ ap known_operands (sym q.there)) d.rest; no_float = h.no_float } in
      on_top_fits m c t _ t.stack types.I32 p.more p.there (λ v rest kv kr.
      let t' = record t { stack = rest } in
      on_test_fits m c v _ _ kv
      (goes m c t' r (subst (λ ks. LeavesAt m c t ks) (sym kr) after))
      (branch_fits m c n t.outer t' a.value q.more r a.is (kr ∙ q.there)))

  pub br_table_fits : (ns : List ℕ) (default : ℕ) (t : Thread) → RestOf m c t → Before m c (BrTable ns default) t (types_of_values t.stack) → AfterFits m (Control.branch_table ns default t)
  br_table_fits ns default t r h =
      let ks = types_of_values t.stack in
      let F = After' m c t in
      let G = End' m c t in
      let a = step (table_label (labels_at m t) ns default) (λ label. pop_type types.I32 (known_operands ks) >>= (λ tested. jump_with label tested)) F G h.typed in
      let b = step (pop_type types.I32 (known_operands ks)) (λ tested. jump_with a.value tested) F G a.rest in
      let p = pops_type types.I32 ks b.value b.is in
      let second = subst (λ s. IsSome ((jump_with a.value s >>= F) >>= G)) p.left b.rest in
      let d = step (pop_result a.value (known_operands p.more)) (λ rest. Some jumped_stack) F G second in
      let q = pops_result a.value p.more d.value d.is in
      on_top_fits m c t _ t.stack types.I32 p.more p.there (λ v rest kv kr.
      on_i32_fits m c v _ kv (λ i.
      branch_fits m c (label_at (slice_get ns i) default) t.outer (record t { stack = rest }) a.value q.more r (table_at (labels_at m t) ns default i a.value a.is) (kr ∙ q.there)))

  pub return_row_fits : (t : Thread) → RestOf m c t → Before m c Return t (types_of_values t.stack) → AfterFits m (Control.leave_frame t)
  return_row_fits t r h =
      let ks = types_of_values t.stack in
      let b = step (pop_result c.gives (known_operands ks)) (λ rest. Some jumped_stack) (After' m c t) (End' m c t) h.typed in
      let p = pops_result c.gives ks b.value b.is in
      return_fits m t c.gives p.more r.2 r.4 p.there
