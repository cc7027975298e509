-- The rows without calls keep what fits.
use Rattle.std.proofs.Common.{◌≡◌, ℕ, zero, suc, ◌<◌, Bool, true, false, List, [], ◌∷◌, Option, Some, None, length, refl, sym, ap, ◌∙◌, subst, arith, rules, tests}
use Rattle.std.specs.Prelude.{slice_get, slice_set, nat_lt, IsSome, ◌||◌, if◌then◌else◌}
use Rattle.std.specs.Option.{option_map}
use Rattle.std.proofs.lemmas.List.{map-set, length-map}
use Rattle.std.proofs.lemmas.Option.{slice_get-map, slice_get_within}
use Rattle.wasm_types.specs.declared.code.Value.{Value}
use Rattle.wasm_types.specs.declared.code.Value.TheVariants.{I32, I64}
use Rattle.wasm_types.specs.declared.code.ValType.{ValType}
use Rattle.wasm_types.specs.declared.code.ValType.TheVariants as types
use Rattle.wasm_types.specs.Code.{Tree, LocalGet, LocalSet, LocalTee, DropTop, Select, Op, Then}
use Rattle.wasm_types.specs.Context.{Context}
use Rattle.wasm_types.specs.Floats.{have_float, is_float_operator}
use Rattle.wasm_types.specs.Maybe.{◌>>=◌}
use Rattle.wasm_types.specs.Modules.{Module}
use Rattle.wasm_types.specs.Numeric.{Operator, operator_of}
use Rattle.wasm_types.specs.Stack.{BlockStack, is_exactly, pop_type, push_result, operate, push_operand}
use Rattle.wasm_types.specs.Typing.{typed_instrs}
use Rattle.wasm_values.specs.Values.{type_of_value, types_of_values}
use Rattle.wasm_step.specs.Fits.{known_operands, IsTypedRemainder}
use Rattle.wasm_step.specs.inside.Standing.{AfterFits}
use Rattle.wasm_values.specs.Numeric.{Computed, Gives, Fails, IsNone, is_unary, unary, binary}
use Rattle.wasm_stack.specs.Rows as Rows
use Rattle.wasm_stack.specs.After.{Sticks, AfterStep, Goes, Stops, on_i32, on_top, with_top}
use Rattle.wasm_stack.specs.Rows.{put_computed, numeric, got}
use Rattle.wasm_stack.specs.Control.{on_test}
use Rattle.wasm_stack.specs.Thread.{Thread, with_operand}
use Rattle.wasm_step.proofs.ThreadsFit.{never_none, pops_type, RestOf, labels_at, LeavesAt, goes}
use Rattle.wasm_step.proofs.Opcodes.{ComputedFits, TakesFit, FitsOf, operator_fits}

-- ---- steps of typing

pub neither : (a b : Bool) → a || b ≡ false → (a ≡ false) × (b ≡ false)
neither false false e = (refl, refl)
neither false true e = cc
neither true b e = cc

-- a step of three has a result, from which the other two go on
pub record Step {A : Type 0} (o : Option A) (f : A → Option BlockStack) (F G : BlockStack → Option BlockStack) : Type 0 where
  pub value : A
  pub is : o ≡ Some value
  pub rest : IsSome ((f value >>= F) >>= G)

pub step : {A : Type 0} (o : Option A) (f : A → Option BlockStack) (F G : BlockStack → Option BlockStack) → IsSome (((o >>= f) >>= F) >>= G) → Step o f F G
step None f F G h = never_none h
step (Some a) f F G h = record { value = a; is = refl; rest = h }

pub record Last (o : Option BlockStack) (F G : BlockStack → Option BlockStack) : Type 0 where
  pub value : BlockStack
  pub is : o ≡ Some value
  pub rest : IsSome (F value >>= G)

pub last : (o : Option BlockStack) (F G : BlockStack → Option BlockStack) → IsSome ((o >>= F) >>= G) → Last o F G
last None F G h = never_none h
last (Some s) F G h = record { value = s; is = refl; rest = h }

-- the type of a place that is read, and a place that is written
pub read_value_type : (vs : List Value) (ks : List ValType) (x : ℕ) (k : ValType) → types_of_values vs ≡ ks → slice_get ks x ≡ Some k → option_map type_of_value (slice_get vs x) ≡ Some k
read_value_type vs ks x k a b = sym (slice_get-map type_of_value vs x) ∙ ap (λ l. slice_get l x) a ∙ b

set_same : (ks : List ValType) (x : ℕ) (k : ValType) → slice_get ks x ≡ Some k → slice_set ks x k ≡ ks
set_same [] x k e = refl
set_same (k' ∷ ks) zero k e = let same : k ≡ k' = cc in ap (λ a. a ∷ ks) same
set_same (k' ∷ ks) (suc x) k e = ap (λ l. k' ∷ l) (set_same ks x k e)

pub written_value_types : (vs : List Value) (ks : List ValType) (x : ℕ) (v : Value) → types_of_values vs ≡ ks → slice_get ks x ≡ Some (type_of_value v) → types_of_values (slice_set vs x v) ≡ ks
written_value_types vs ks x v a b =
    map-set type_of_value vs x v ∙ ap (λ l. slice_set l x (type_of_value v)) a ∙ set_same ks x (type_of_value v) b

pub written_within : (vs : List Value) (ks : List ValType) (x : ℕ) (k : ValType) → types_of_values vs ≡ ks → slice_get ks x ≡ Some k → nat_lt x (length vs) ≡ true
written_within vs ks x k a b =
    let within : x < length vs = omega (arith, slice_get_within ks x k b, ap length a, length-map vs type_of_value) in
    search (rules, tests)

module _ (m : Module) (c : Context) where
  -- what is typed after an instruction, from a stack
  abbrev pub After' : Thread → BlockStack → Option BlockStack
  After' t = typed_instrs c t.todo (labels_at m t)

  abbrev pub End' : Thread → BlockStack → Option BlockStack
  End' t = is_exactly t.gives

  abbrev pub Before : Tree → Thread → List ValType → Type 0
  Before i t ks = IsTypedRemainder c (labels_at m t) t.gives (Then i t.todo) ks

  pub on_top_fits : (t : Thread) (go : Value → Thread → AfterStep) (stack : List Value) (k : ValType) (ks : List ValType) → types_of_values stack ≡ k ∷ ks → ((v : Value) (rest : List Value) → type_of_value v ≡ k → types_of_values rest ≡ ks → AfterFits m (go v (record t { stack = rest }))) → AfterFits m (on_top stack t go)
  on_top_fits t go [] k ks e next = cc
  on_top_fits t go (v ∷ rest) k ks e next = next v rest (cc) (cc)

  pub on_test_fits : (v : Value) (a b : AfterStep) → type_of_value v ≡ types.I32 → AfterFits m a → AfterFits m b → AfterFits m (on_test v a b)
  on_test_fits (I64 x) a b e p q = cc
  on_test_fits (I32 zero) a b e p q = p
  on_test_fits (I32 (suc x)) a b e p q = q

  pub on_i32_fits : (v : Value) (go : ℕ → AfterStep) → type_of_value v ≡ types.I32 → ((x : ℕ) → AfterFits m (go x)) → AfterFits m (on_i32 v go)
  on_i32_fits (I32 x) go e h = h x
  on_i32_fits (I64 x) go e h = cc

  -- ---- operands, locals and numbers

  pub got_fits : (t : Thread) (o : Option Value) (k : ValType) → RestOf m c t → option_map type_of_value o ≡ Some k → LeavesAt m c t (k ∷ types_of_values t.stack) → AfterFits m (got o t)
  got_fits t None k r h l = cc
  got_fits t (Some v) k r h l =
      let same : type_of_value v ≡ k = cc in
      goes m c (with_operand t v) r (subst (λ k'. LeavesAt m c t (k' ∷ types_of_values t.stack)) (sym same) l)

  pub local_get_fits : (x : ℕ) (t : Thread) → RestOf m c t → Before (LocalGet x) t (types_of_values t.stack) → AfterFits m (Rows.local_get x t)
  local_get_fits x t r h =
      let ks = types_of_values t.stack in
      let a = step (slice_get c.locals x) (λ k. Some (push_operand (Some k) (known_operands ks))) (After' t) (End' t) h.typed in
      got_fits t (slice_get t.locals x) a.value r (read_value_type t.locals c.locals x a.value r.1 a.is) (record { typed = a.rest; no_float = h.no_float })

  local_put_fits : (x : ℕ) (v : Value) (t : Thread) (k : ValType) → RestOf m c t → slice_get c.locals x ≡ Some k → type_of_value v ≡ k → LeavesAt m c t (types_of_values t.stack) → AfterFits m (Rows.local_put x v t)
  local_put_fits x v t k r at e l =
      let at' : slice_get c.locals x ≡ Some (type_of_value v) = at ∙ ap Some (sym e) in
      subst (λ b. AfterFits m (if b then Goes (record t { locals = slice_set t.locals x v }) else Stops Sticks)) (sym (written_within t.locals c.locals x k r.1 at))
      (goes m c (record t { locals = slice_set t.locals x v }) (r.0, written_value_types t.locals c.locals x v r.1 at', r.2, r.3, r.4) l)

  pub local_set_fits : (x : ℕ) (t : Thread) → RestOf m c t → Before (LocalSet x) t (types_of_values t.stack) → AfterFits m (Rows.local_set x t)
  local_set_fits x t r h =
      let ks = types_of_values t.stack in
      let a = step (slice_get c.locals x) (λ k. pop_type k (known_operands ks)) (After' t) (End' t) h.typed in
      let b = last (pop_type a.value (known_operands ks)) (After' t) (End' t) a.rest in
      let p = pops_type a.value ks b.value b.is in
      let left : LeavesAt m c t p.more = record { typed = subst (λ s. IsSome (After' t s >>= End' t)) p.left b.rest; no_float = h.no_float } in
      on_top_fits t _ t.stack a.value p.more p.there (λ v rest kv kr.
      local_put_fits x v (record t { stack = rest }) a.value r a.is kv (subst (λ ks. LeavesAt m c t ks) (sym kr) left))

  pub local_tee_fits : (x : ℕ) (t : Thread) → RestOf m c t → Before (LocalTee x) t (types_of_values t.stack) → AfterFits m (Rows.local_tee x t)
  local_tee_fits x t r h =
      let ks = types_of_values t.stack in
      let a = step (slice_get c.locals x) (λ k. pop_type k (known_operands ks) >>= (λ rest. Some (push_operand (Some k) rest))) (After' t) (End' t) h.typed in
      let b = step (pop_type a.value (known_operands ks)) (λ rest. Some (push_operand (Some a.value) rest)) (After' t) (End' t) a.rest in
      let p = pops_type a.value ks b.value b.is in
      let left : LeavesAt m c t (a.value ∷ p.more) = record { typed = subst (λ s. IsSome (After' t (push_operand (Some a.value) s) >>= End' t)) p.left b.rest; no_float = h.no_float } in
      on_top_fits t _ t.stack a.value p.more p.there (λ v rest kv kr.
      let left' = subst (λ ks. LeavesAt m c t (a.value ∷ ks)) (sym kr) left in
      local_put_fits x v (record t { stack = v ∷ rest }) a.value r a.is kv (subst (λ k. LeavesAt m c t (k ∷ types_of_values rest)) (sym kv) left'))

  pub drop_fits : (stack : List Value) (t : Thread) → RestOf m c t → Before DropTop t (types_of_values stack) → AfterFits m (on_top stack t (λ v t'. Goes t'))
  drop_fits [] t r h = never_none h.typed
  drop_fits (v ∷ rest) t r h = goes m c (record t { stack = rest }) r (record { typed = h.typed; no_float = h.no_float })

  pub select_fits : (stack : List Value) (t : Thread) → RestOf m c t → Before Select t (types_of_values stack) → AfterFits m (Rows.select (record t { stack = stack }))
  select_fits [] t r h = never_none h.typed
  select_fits (I64 n ∷ more) t r h = never_none h.typed
  select_fits (I32 n ∷ []) t r h = never_none h.typed
  select_fits (I32 n ∷ (b ∷ [])) t r h = never_none h.typed
  select_fits (I32 n ∷ (I32 b ∷ (I64 a ∷ rest))) t r h = never_none h.typed
  select_fits (I32 n ∷ (I64 b ∷ (I32 a ∷ rest))) t r h = never_none h.typed
  select_fits (I32 zero ∷ (I32 b ∷ (I32 a ∷ rest))) t r h =
      goes m c (record t { stack = I32 b ∷ rest }) r (record { typed = h.typed; no_float = h.no_float })
  select_fits (I32 (suc n) ∷ (I32 b ∷ (I32 a ∷ rest))) t r h =
      goes m c (record t { stack = I32 a ∷ rest }) r (record { typed = h.typed; no_float = h.no_float })
  select_fits (I32 zero ∷ (I64 b ∷ (I64 a ∷ rest))) t r h =
      goes m c (record t { stack = I64 b ∷ rest }) r (record { typed = h.typed; no_float = h.no_float })
  select_fits (I32 (suc n) ∷ (I64 b ∷ (I64 a ∷ rest))) t r h =
      goes m c (record t { stack = I64 a ∷ rest }) r (record { typed = h.typed; no_float = h.no_float })

  put_computed_fits : (o : Computed) (k : ValType) (t : Thread) → RestOf m c t → ComputedFits o k → LeavesAt m c t (k ∷ types_of_values t.stack) → AfterFits m (put_computed o t)
  put_computed_fits (Gives v) k t r h l =
      goes m c (with_operand t v) r (subst (λ k'. LeavesAt m c t (k' ∷ types_of_values t.stack)) (sym h) l)
  put_computed_fits (Fails trap) k t r h l = tt
  put_computed_fits IsNone k t r h l = absurd h

  unary_fits : (op : ℕ) (t : Thread) (k j : ValType) → RestOf m c t → is_unary op ≡ true → ((v : Value) → type_of_value v ≡ k → ComputedFits (unary op v) j) → IsSome ((operate (k ∷ []) (Some j) (known_operands (types_of_values t.stack)) >>= After' t) >>= End' t) → have_float t.todo ≡ false → AfterFits m (numeric op t)
  unary_fits op t k j r u f h nf =
      let ks = types_of_values t.stack in
      let a = step (pop_type k (known_operands ks)) (λ rest. Some (push_operand (Some j) rest)) (After' t) (End' t) (regroup (pop_type k (known_operands ks)) h) in
      let p = pops_type k ks a.value a.is in
      let left : LeavesAt m c t (j ∷ p.more) = record { typed = subst (λ s. IsSome (After' t (push_operand (Some j) s) >>= End' t)) p.left a.rest; no_float = nf } in
      subst (λ b. AfterFits m (if b then with_top t (λ x t'. put_computed (unary op x) t') else with_top t (λ y t'. with_top t' (λ x t''. put_computed (binary op x y) t'')))) (sym u)
      (on_top_fits t _ t.stack k p.more p.there (λ v rest kv kr.
      put_computed_fits (unary op v) j (record t { stack = rest }) r (f v kv) (subst (λ ks. LeavesAt m c t (j ∷ ks)) (sym kr) left)))
    where
      regroup : (o : Option BlockStack) → IsSome ((((o >>= (λ s. Some s)) >>= (λ rest. Some (push_result (Some j) rest))) >>= After' t) >>= End' t) → IsSome (((o >>= (λ rest. Some (push_operand (Some j) rest))) >>= After' t) >>= End' t)
      regroup None h = h
      regroup (Some s) h = h

  binary_fits : (op : ℕ) (t : Thread) (k j : ValType) → RestOf m c t → is_unary op ≡ false → ((x y : Value) → type_of_value x ≡ k → type_of_value y ≡ k → ComputedFits (binary op x y) j) → IsSome ((operate (k ∷ (k ∷ [])) (Some j) (known_operands (types_of_values t.stack)) >>= After' t) >>= End' t) → have_float t.todo ≡ false → AfterFits m (numeric op t)
  binary_fits op t k j r u f h nf =
      let ks = types_of_values t.stack in
      let a = step (pop_type k (known_operands ks)) (λ s. pop_type k s >>= (λ rest. Some (push_operand (Some j) rest))) (After' t) (End' t) (regroup (pop_type k (known_operands ks)) h) in
      let p = pops_type k ks a.value a.is in
      let second = subst (λ s. IsSome (((pop_type k s >>= (λ rest. Some (push_operand (Some j) rest))) >>= After' t) >>= End' t)) p.left a.rest in
      let b = step (pop_type k (known_operands p.more)) (λ rest. Some (push_operand (Some j) rest)) (After' t) (End' t) second in
      let q = pops_type k p.more b.value b.is in
      let left : LeavesAt m c t (j ∷ q.more) = record { typed = subst (λ s. IsSome (After' t (push_operand (Some j) s) >>= End' t)) q.left b.rest; no_float = nf } in
      subst (λ b. AfterFits m (if b then with_top t (λ x t'. put_computed (unary op x) t') else with_top t (λ y t'. with_top t' (λ x t''. put_computed (binary op x y) t'')))) (sym u)
      (on_top_fits t _ t.stack k p.more p.there (λ y rest ky kr.
      on_top_fits (record t { stack = rest }) _ rest k q.more (kr ∙ q.there) (λ x rest' kx kr'.
      put_computed_fits (binary op x y) j (record t { stack = rest' }) r (f x y kx ky) (subst (λ ks. LeavesAt m c t (j ∷ ks)) (sym kr') left))))
    where
      inner : (o : Option BlockStack) → IsSome ((((o >>= (λ s. Some s)) >>= (λ rest. Some (push_result (Some j) rest))) >>= After' t) >>= End' t) → IsSome (((o >>= (λ rest. Some (push_operand (Some j) rest))) >>= After' t) >>= End' t)
      inner None h = h
      inner (Some s) h = h

      regroup : (o : Option BlockStack) → IsSome ((((o >>= (λ s. pop_type k s >>= (λ s. Some s))) >>= (λ rest. Some (push_result (Some j) rest))) >>= After' t) >>= End' t) → IsSome (((o >>= (λ s. pop_type k s >>= (λ rest. Some (push_operand (Some j) rest)))) >>= After' t) >>= End' t)
      regroup None h = h
      regroup (Some s) h = inner (pop_type k s) h

  pub numeric_fits : (op : ℕ) (t : Thread) → RestOf m c t → Before (Op op) t (types_of_values t.stack) → AfterFits m (numeric op t)
  numeric_fits op t r h =
      let nf = neither _ _ h.no_float in
      let a = step (operator_of op) (λ o. operate o.takes (Some o.gives) (known_operands (types_of_values t.stack))) (After' t) (End' t) h.typed in
      let fits = subst (λ (o : Option Operator). FitsOf op o) a.is (operator_fits op) in
      let plain = ap is_float_operator (sym a.is) ∙ nf.0 in
      by_takes a.value.takes a.value.gives (fits plain) a.rest nf.1
    where
      by_takes : (takes : List ValType) (gives : ValType) → TakesFit op takes gives → IsSome ((operate takes (Some gives) (known_operands (types_of_values t.stack)) >>= After' t) >>= End' t) → have_float t.todo ≡ false → AfterFits m (numeric op t)
      by_takes [] j f h nf = absurd f
      by_takes (k ∷ []) j f h nf = unary_fits op t k j r f.0 f.1 h nf
      by_takes (k ∷ (k' ∷ [])) j f h nf =
          binary_fits op t k j r f.0 f.2 (subst (λ k'. IsSome ((operate (k ∷ (k' ∷ [])) (Some j) (known_operands (types_of_values t.stack)) >>= After' t) >>= End' t)) (sym f.1) h) nf
      by_takes (k ∷ (k' ∷ (k'' ∷ ks))) j f h nf = absurd f
