-- A thread that fits does not stick: what its ends and its branches leave fits.
use Rattle.std.proofs.Common.{◌≡◌, ℕ, zero, suc, Bool, true, false, List, [], ◌∷◌, ◌++◌, Option, Some, None, refl, sym, ap, ◌∙◌, subst}
use Rattle.std.specs.Prelude.{is_some, slice_get, IsSome, if◌then◌else◌}
use Rattle.std.proofs.lemmas.List.{map-append}
use Rattle.wasm_types.specs.declared.code.Value.{Value}
use Rattle.wasm_types.specs.declared.code.Value.TheVariants.{I32, I64}
use Rattle.wasm_types.specs.declared.code.ValType.{ValType}
use Rattle.wasm_types.specs.declared.code.ValType.TheVariants as types
use Rattle.wasm_types.specs.Code.{End}
use Rattle.wasm_types.specs.Context.{Context}
use Rattle.wasm_types.specs.Labels.{Labels}
use Rattle.wasm_types.specs.Maybe.{◌>>=◌}
use Rattle.wasm_types.specs.Modules.{Module}
use Rattle.wasm_types.specs.Stack.{BlockStack, is_same, is_exactly, pop_type, pop_result}
use Rattle.wasm_values.specs.Values.{type_of_value, types_of_values}
use Rattle.wasm_step.specs.Fits.{TargetFits, known_operands, put_type, label_of_level, labels_of, IsTypedRemainder, LevelsFit, IsContext, FramesFit, ThreadFits}
use Rattle.wasm_step.specs.inside.Standing.{AfterFits}
use Rattle.wasm_stack.specs.Control.{jump_by, carried_operand, carry_top, with_carried, with_result, resumed_caller, leave_frame, landed_branch, jump, branch, at_end_of_level, ended_level}
use Rattle.wasm_stack.specs.After.{AfterStep}
use Rattle.wasm_step.specs.Strand.{IsResult}
use Rattle.wasm_stack.specs.Thread.{Level, as_opened, Frame, Thread, innermost_level_of, with_operand, closed_level, closed_to, left_frame, left_to_caller}

-- ---- steps that have a result

-- no step without a result is typed
pub never_none : {X : Type 0} → false ≡ true → X
never_none e = absurd (let h : ⊥ = cc in h)

-- the same types are equal
pub is_same_equal : (a b : ValType) → is_same a b ≡ true → a ≡ b
is_same_equal types.I32 types.I32 e = refl
is_same_equal types.I64 types.I64 e = refl
is_same_equal types.F32 types.F32 e = refl
is_same_equal types.F64 types.F64 e = refl
is_same_equal types.I32 types.I64 e = cc
is_same_equal types.I32 types.F32 e = cc
is_same_equal types.I32 types.F64 e = cc
is_same_equal types.I64 types.I32 e = cc
is_same_equal types.I64 types.F32 e = cc
is_same_equal types.I64 types.F64 e = cc
is_same_equal types.F32 types.I32 e = cc
is_same_equal types.F32 types.I64 e = cc
is_same_equal types.F32 types.F64 e = cc
is_same_equal types.F64 types.I32 e = cc
is_same_equal types.F64 types.I64 e = cc
is_same_equal types.F64 types.F32 e = cc

-- what is below an operand that is popped: the operand has the type
pub record PopsType (k : ValType) (ks : List ValType) (below : BlockStack) : Type 0 where
  pub more : List ValType
  pub there : ks ≡ k ∷ more
  pub left : below ≡ known_operands more

-- popping a type from operands that are known
pub pops_type : (k : ValType) (ks : List ValType) (s : BlockStack) → pop_type k (known_operands ks) ≡ Some s → PopsType k ks s
pops_type k [] s e = cc
pops_type k (j ∷ ks) s e = by_case (is_same j k) refl e
  where
    by_case : (b : Bool) → is_same j k ≡ b → (if b then Some (known_operands ks) else None) ≡ Some s → PopsType k (j ∷ ks) s
    by_case true q e' = record { more = ks; there = ap (λ x. x ∷ ks) (is_same_equal j k q); left = let h : known_operands ks ≡ s = cc in sym h }
    by_case false q e' = cc

-- the same of a result, if there is one
pub record PopsResult (o : Option ValType) (ks : List ValType) (below : BlockStack) : Type 0 where
  pub more : List ValType
  pub there : ks ≡ put_type o more
  pub left : below ≡ known_operands more

pub pops_result : (o : Option ValType) (ks : List ValType) (s : BlockStack) → pop_result o (known_operands ks) ≡ Some s → PopsResult o ks s
pops_result None ks s e = record { more = ks; there = refl; left = let h : known_operands ks ≡ s = cc in sym h }
pops_result (Some k) ks s e =
    let p = pops_type k ks s e in record { more = p.more; there = p.there; left = p.left }

-- the result of a step that has one, and the rest
pub record Taken {A : Type 0} (o : Option A) (f : A → Option BlockStack) (g : BlockStack → Option BlockStack) : Type 0 where
  pub value : A
  pub is : o ≡ Some value
  pub rest : IsSome (f value >>= g)

pub taken : {A : Type 0} (o : Option A) (f : A → Option BlockStack) (g : BlockStack → Option BlockStack) → IsSome ((o >>= f) >>= g) → Taken o f g
taken None f g h = never_none h
taken (Some a) f g h = record { value = a; is = refl; rest = h }

-- exactly the result is left
exactly : (gives : Option ValType) (ks : List ValType) → IsSome (is_exactly gives (known_operands ks)) → ks ≡ put_type gives []
exactly None [] h = refl
exactly None (k ∷ ks) h = never_none h
exactly (Some j) [] h = never_none h
exactly (Some j) (k ∷ ks) h = by_case (is_same k j) refl h
  where
    ended_with : (ks : List ValType) → k ≡ j → IsSome (is_exactly None (known_operands ks)) → k ∷ ks ≡ j ∷ []
    ended_with [] e h' = ap (λ x. x ∷ []) e
    ended_with (l ∷ ls) e h' = never_none h'

    by_case : (b : Bool) → is_same k j ≡ b → IsSome ((if b then Some (known_operands ks) else None) >>= is_exactly None) → k ∷ ks ≡ j ∷ []
    by_case true q h' = ended_with ks (is_same_equal k j q) h'
    by_case false q h' = never_none h'

label_whole : (o : Option ValType) → label_of_level o (is_some o) ≡ o
label_whole None = refl
label_whole (Some k) = refl

put_type-append : (o : Option ValType) (a b : List ValType) → put_type o a ++ b ≡ put_type o (a ++ b)
put_type-append None a b = refl
put_type-append (Some k) a b = refl

module _ (m : Module) where
  -- what stays of a frame while its innermost level runs
  abbrev pub RestOf : Context → Thread → Type 0
  RestOf c t =
      IsContext m t.func c
      × (types_of_values t.locals ≡ c.locals)
      × (t.returns ≡ is_some c.gives)
      × LevelsFit c (as_opened (innermost_level_of t)) t.outer
      × FramesFit m c.gives t.callers

  abbrev pub labels_at : Thread → Labels
  labels_at t = label_of_level t.gives t.carries ∷ labels_of t.outer

  -- what is left in the thread's innermost level is typed from these operands
  abbrev pub LeavesAt : Context → Thread → List ValType → Type 0
  LeavesAt c t ks = IsTypedRemainder c (labels_at t) t.gives t.todo ks

  pub goes : (c : Context) (t : Thread) → RestOf c t → LeavesAt c t (types_of_values t.stack) → ThreadFits m t
  goes c t r h = (record { context = c; function = r.0; locals = r.1; returns = r.2; around = r.3; todo = h }, r.4)

  carry_top_fits : (t : Thread) (go : Option Value → Thread → AfterStep) (stack : List Value) (k : ValType) (more : List ValType) → types_of_values stack ≡ k ∷ more → ((o : Option Value) (rest : List Value) → IsResult (Some k) o → types_of_values rest ≡ more → AfterFits m (go o (record t { stack = rest }))) → AfterFits m (with_carried (carry_top stack t) go)
  carry_top_fits t go [] k more e next = cc
  carry_top_fits t go (v ∷ rest) k more e next = next (Some v) rest (of_value_type v k (cc)) (cc)
    where
      of_value_type : (v : Value) (k : ValType) → type_of_value v ≡ k → IsResult (Some k) (Some v)
      of_value_type (I32 x) types.I32 q = tt
      of_value_type (I64 x) types.I64 q = tt
      of_value_type (I32 x) types.I64 q = cc
      of_value_type (I32 x) types.F32 q = cc
      of_value_type (I32 x) types.F64 q = cc
      of_value_type (I64 x) types.I32 q = cc
      of_value_type (I64 x) types.F32 q = cc
      of_value_type (I64 x) types.F64 q = cc

  carried_fits : (b : Bool) (c : Option ValType) (t : Thread) (go : Option Value → Thread → AfterStep) (more : List ValType) → b ≡ is_some c → types_of_values t.stack ≡ put_type c more → ((o : Option Value) (rest : List Value) → IsResult c o → types_of_values rest ≡ more → AfterFits m (go o (record t { stack = rest }))) → AfterFits m (with_carried (carried_operand b t) go)
  carried_fits false None t go more b e next = next None t.stack tt e
  carried_fits true None t go more b e next = cc
  carried_fits false (Some k) t go more b e next = cc
  carried_fits true (Some k) t go more b e next = carry_top_fits t go t.stack k more e next

  result_value_type : (k : ValType) (v : Value) → IsResult (Some k) (Some v) → k ≡ type_of_value v
  result_value_type types.I32 (I32 x) h = refl
  result_value_type types.I64 (I64 x) h = refl
  result_value_type types.I32 (I64 x) h = absurd h
  result_value_type types.I64 (I32 x) h = absurd h
  result_value_type types.F32 (I32 x) h = absurd h
  result_value_type types.F32 (I64 x) h = absurd h
  result_value_type types.F64 (I32 x) h = absurd h
  result_value_type types.F64 (I64 x) h = absurd h

  no_result : (k : ValType) → IsResult (Some k) None → ⊥
  no_result types.I32 h = h
  no_result types.I64 h = h
  no_result types.F32 h = h
  no_result types.F64 h = h

  -- a thread goes on with what it waits for
  pub with_result_fits : (c : Context) (k : Option ValType) (o : Option Value) (t : Thread) → RestOf c t → LeavesAt c t (put_type k (types_of_values t.stack)) → IsResult k o → ThreadFits m (with_result o t)
  with_result_fits c None None t r h is = goes c t r h
  with_result_fits c None (Some v) t r h is = absurd is
  with_result_fits c (Some k) None t r h is = absurd (no_result k is)
  with_result_fits c (Some k) (Some v) t r h is =
      goes c (with_operand t v) r (subst (λ k'. LeavesAt c t (k' ∷ types_of_values t.stack)) (result_value_type k v is) h)

  resumed_fits : (callers : List Frame) (k : Option ValType) (o : Option Value) → FramesFit m k callers → IsResult k o → AfterFits m (resumed_caller (left_to_caller callers) o)
  resumed_fits [] k o h is = tt
  resumed_fits (f ∷ fs) k o h is =
      let t : Thread = record { gives = f.here.gives; todo = f.here.todo; stack = f.here.stack; target = f.here.target; carries = f.here.carries; loops = f.here.loops; outer = f.outer; func = f.func; locals = f.locals; returns = f.returns; callers = fs } in
      with_result_fits h.0.context k o t (h.0.function, h.0.locals, h.0.returns, h.0.around, h.1) h.0.todo is

  pub return_fits : (t : Thread) (k : Option ValType) (more : List ValType) → t.returns ≡ is_some k → FramesFit m k t.callers → types_of_values t.stack ≡ put_type k more → AfterFits m (leave_frame t)
  return_fits t k more b frames e =
      carried_fits t.returns k t (λ o u. resumed_caller (left_frame u) o) more b e (λ o rest is _. resumed_fits t.callers k o frames is)

  jump_by_fits : (b : Bool) (c : Context) (outer : List Level) (t : Thread) (more : List ValType) → t.loops ≡ b → RestOf c (record t { outer = outer }) → types_of_values t.stack ≡ put_type (label_of_level t.gives t.carries) more → AfterFits m (jump_by b (record t { outer = outer }))
  jump_by_fits true c [] t more loops r es = cc
  jump_by_fits false c [] t more loops r es =
      let u = record t { outer = [] } in
      let whole : label_of_level t.gives t.carries ≡ c.gives = ap (λ g. label_of_level g t.carries) r.3.0 ∙ ap (label_of_level c.gives) r.3.1 ∙ label_whole c.gives in
      carried_fits t.carries c.gives u (λ o u'. landed_branch (closed_level (record u' { stack = [] })) (record u' { stack = [] }) t.target o) more r.3.1 (es ∙ ap (λ g. put_type g more) whole)
      (λ o rest is _. resumed_fits t.callers c.gives o r.4 is)
  jump_by_fits true c (l ∷ ls) t more loops r es =
      goes c (record t { outer = l ∷ ls; todo = t.target; stack = [] }) r (subst (λ b. TargetFits b c (as_opened (innermost_level_of t)) l ls) loops r.3.1)
  jump_by_fits false c (l ∷ ls) t more loops r es =
      let u = record t { outer = l ∷ ls } in
      let target = subst (λ b. TargetFits b c (as_opened (innermost_level_of t)) l ls) loops r.3.1 in
      carried_fits t.carries (label_of_level t.gives t.carries) u (λ o u'. landed_branch (closed_level (record u' { stack = [] })) (record u' { stack = [] }) t.target o) more r.3.0 es
      (λ o rest is _. with_result_fits c (label_of_level t.gives t.carries) o (record t { gives = l.gives; todo = t.target; stack = l.stack; target = l.target; carries = l.carries; loops = l.loops; outer = ls }) (r.0, r.1, r.2, r.3.3, r.4) target is)

  jump_fits : (c : Context) (outer : List Level) (t : Thread) (more : List ValType) → RestOf c (record t { outer = outer }) → types_of_values t.stack ≡ put_type (label_of_level t.gives t.carries) more → AfterFits m (jump (record t { outer = outer }))
  jump_fits c outer t more r es = jump_by_fits t.loops c outer t more refl r es

  pub branch_fits : (c : Context) (n : ℕ) (outer : List Level) (t : Thread) (label : Option ValType) (more : List ValType) → RestOf c (record t { outer = outer }) → slice_get (label_of_level t.gives t.carries ∷ labels_of outer) n ≡ Some label → types_of_values t.stack ≡ put_type label more → AfterFits m (branch n (record t { outer = outer }))
  branch_fits c zero outer t label more r at es =
      let same : label ≡ label_of_level t.gives t.carries = cc in
      jump_fits c outer t more r (subst (λ x. types_of_values t.stack ≡ put_type x more) same es)
  branch_fits c (suc n) [] t label more r at es = cc
  branch_fits c (suc n) (l ∷ ls) t label more r at es =
      branch_fits c n ls (record t { gives = l.gives; todo = l.todo; stack = t.stack ++ l.stack; target = l.target; carries = l.carries; loops = l.loops }) label (more ++ types_of_values l.stack)
      (r.0, r.1, r.2, r.3.3, r.4)
      at
      (map-append type_of_value t.stack l.stack ∙ ap (λ ks. ks ++ types_of_values l.stack) es ∙ put_type-append label more (types_of_values l.stack))

  end_fits : (c : Context) (outer : List Level) (t : Thread) → RestOf c (record t { outer = outer }) → types_of_values t.stack ≡ put_type t.gives [] → AfterFits m (at_end_of_level (closed_to outer t) (record t { outer = outer }))
  end_fits c [] t r es =
      return_fits (record t { outer = [] }) c.gives [] r.2 r.4 (es ∙ ap (λ g. put_type g []) r.3.0)
  end_fits c (l ∷ ls) t r es =
      let stack = map-append type_of_value t.stack l.stack ∙ ap (λ ks. ks ++ types_of_values l.stack) es ∙ put_type-append t.gives [] (types_of_values l.stack) in
      goes c (record t { gives = l.gives; todo = l.todo; stack = t.stack ++ l.stack; target = l.target; carries = l.carries; loops = l.loops; outer = ls })
      (r.0, r.1, r.2, r.3.3, r.4)
      (subst (λ ks. IsTypedRemainder c (labels_of (l ∷ ls)) l.gives l.todo ks) (sym stack) r.3.2)

  pub rest_of : (t : Thread) (h : ThreadFits m t) → RestOf h.0.context t
  rest_of t h = (h.0.function, h.0.locals, h.0.returns, h.0.around, h.1)

  -- the end of a level or of a frame fits
  pub ended_fits : (t : Thread) → t.todo ≡ End → ThreadFits m t → AfterFits m (ended_level t)
  ended_fits t none h =
      let left = subst (λ x. IsTypedRemainder h.0.context (labels_at t) t.gives x (types_of_values t.stack)) none h.0.todo in
      end_fits h.0.context t.outer t (rest_of t h) (exactly t.gives (types_of_values t.stack) left.typed)
