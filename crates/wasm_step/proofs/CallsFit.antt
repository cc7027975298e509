-- Calls keep what fits.
use Rattle.std.proofs.Common.{◌≡◌, ℕ, zero, suc, ◌+◌, ◌-◌, Bool, true, false, List, [], ◌∷◌, ◌++◌, Option, Some, None, length, take, drop, replicate, refl, sym, ap, ◌∙◌, subst, arith, rules, tests}
use Rattle.std.specs.Prelude.{reverse, is_some, slice_get, nat_lt, IsSome, IsSomeAnd, All, option_and_then, ◌&&◌, if◌then◌else◌}
use Rattle.std.specs.List.{list_any}
use Rattle.std.proofs.lemmas.List.{map-append, length-map, length-append, length-reverse, take-map, take_at, drop_at, reverse-reverse, reverse-append}
use Rattle.std.proofs.lemmas.Option.{slice_get_within, get_or_from_slice_get}
use Rattle.wasm_types.specs.declared.code.Value.{Value}
use Rattle.wasm_types.specs.declared.code.ValType.{ValType}
use Rattle.wasm_types.specs.declared.code.ValType.TheVariants as types
use Rattle.wasm_types.specs.Calls.{call_type, result_of}
use Rattle.wasm_types.specs.Code.{CallFunc, CallIndirect}
use Rattle.wasm_types.specs.Context.{Context, context_of, expand_locals, funcs_of}
use Rattle.wasm_types.specs.Floats.{have_float, is_float, has_float_func}
use Rattle.wasm_types.specs.Maybe.{◌>>=◌}
use Rattle.wasm_types.specs.Modules.{Module, Func, FuncType}
use Rattle.wasm_types.specs.Rules.{IsTypedFunc}
use Rattle.wasm_types.specs.Stack.{BlockStack, is_same, pop_type, pop_each, pop_types, push_result, operate}
use Rattle.wasm_types.specs.Typing.{IsWellTyped}
use Rattle.guest_module.specs.Valid.{IsValid}
use Rattle.wasm_types.specs.declared.traps.Trap.TheVariants as traps
use Rattle.wasm_stack.specs.Call.{site_of}
use Rattle.wasm_types.specs.Locals.{zero_of, zeros}
use Rattle.wasm_values.specs.Values.{type_of_value, types_of_values}
use Rattle.wasm_store.specs.Suits.{SuitsModule}
use Rattle.wasm_step.specs.Fits.{known_operands, put_type, label_of_level, IsTypedRemainder, FramesFit, ThreadFits, CallFits}
use Rattle.wasm_step.specs.inside.Standing.{AfterFits}
use Rattle.wasm_step.specs.Reduce as Reduce
use Rattle.wasm_types.specs.Functions.{imported_type, own_type, type_of, same_types, same_type, own_func}
use Rattle.guest_module.specs.Laws.{TypesAgree}
use Rattle.wasm_stack.specs.After.{Goes, Stops, Calls, at_trap, frame_goes_on}
use Rattle.wasm_store.specs.Store.{Store}
use Rattle.wasm_step.specs.Strand.{IsResult, library_result, first_result}
use Rattle.wasm_stack.specs.Thread as Thread'
use Rattle.wasm_stack.specs.Thread.{Thread, Frame, without_operands, arguments, waiting_frame, fits_limits, has_room}
use Rattle.wasm_step.proofs.ThreadsFit.{never_none, is_same_equal, pops_type, RestOf, LeavesAt, with_result_fits}
use Rattle.wasm_step.proofs.PlainRowsFit.{neither, step, After', End', Before, on_top_fits, on_i32_fits}

-- ---- a function of the module

-- no element of a list passes a test that none passes
pub none_of : {X : Type 0} (p : X → Bool) (xs : List X) (k : ℕ) (x : X) → list_any p xs ≡ false → slice_get xs k ≡ Some x → p x ≡ false
none_of p [] k x e at = cc
none_of p (y ∷ ys) zero x e at = let same : y ≡ x = cc in ap p (sym same) ∙ (neither (p y) (list_any p ys) e).0
none_of p (y ∷ ys) (suc k) x e at = none_of p ys k x (neither (p y) (list_any p ys) e).1 at

-- what holds of all elements holds of each
pub at_all : {X : Type 0} (P : X → Type 0) (xs : List X) (k : ℕ) (x : X) → All P xs → slice_get xs k ≡ Some x → P x
at_all P xs k x h at = subst P (get_or_from_slice_get xs k x x at) (h k x (slice_get_within xs k x at))

-- a local starts as a value of its type
pub type_of_zero : (k : ValType) → is_float k ≡ false → type_of_value (zero_of k) ≡ k
type_of_zero types.I32 e = refl
type_of_zero types.I64 e = refl
type_of_zero types.F32 e = cc
type_of_zero types.F64 e = cc

types_of_replicate : (n : ℕ) (v : Value) → types_of_values (replicate n v) ≡ replicate n (type_of_value v)
types_of_replicate zero v = refl
types_of_replicate (suc n) v = ap (λ ks. type_of_value v ∷ ks) (types_of_replicate n v)

types_of_zeros : (ds : List (ℕ × ValType)) → list_any (λ (run : ℕ × ValType). is_float run.1) ds ≡ false → types_of_values (zeros ds) ≡ expand_locals ds
types_of_zeros [] e = refl
types_of_zeros (d ∷ ds) e =
    let parts = neither (is_float d.1) _ e in
    map-append type_of_value (replicate d.0 (zero_of d.1)) (zeros ds)
    ∙ ap (λ ks. ks ++ types_of_values (zeros ds)) (types_of_replicate d.0 (zero_of d.1) ∙ ap (replicate d.0) (type_of_zero d.1 parts.0))
    ∙ ap (λ ks. replicate d.0 d.1 ++ ks) (types_of_zeros ds parts.1)

-- the body of a function of a valid module leaves its result, and its locals start as values of their types
pub record BodyFits (m : Module) (func : Func) (type : FuncType) : Type 0 where
  pub body : IsTypedRemainder (context_of m (type.params ++ expand_locals func.locals) (result_of type)) (result_of type ∷ []) (result_of type) func.body []
  pub zeros : types_of_values (zeros func.locals) ≡ expand_locals func.locals

pub body_fits : (m : Module) (f : ℕ) (func : Func) (type : FuncType) → IsValid m → own_func m f ≡ Some func → slice_get m.types func.type_index ≡ Some type → BodyFits m func type
body_fits m f func type v own at =
    let typed = at_all (IsTypedFunc m) m.funcs (f - length m.imports) func v.typed.funcs own in
    let plain = none_of has_float_func m.funcs (f - length m.imports) func (neither _ _ (neither _ _ (neither _ _ v.no_float).1).1).0 own in
    let parts = neither (list_any (λ (run : ℕ × ValType). is_float run.1) func.locals) (have_float func.body) plain in
    record {
      body = record { typed = subst (λ o. IsSomeAnd o (λ (t : FuncType). IsWellTyped (context_of m (t.params ++ expand_locals func.locals) (result_of t)) func.body)) at typed; no_float = parts.1 };
      zeros = types_of_zeros func.locals parts.0;
    }

-- ---- arguments

record PopsEach (ts ks : List ValType) (below : BlockStack) : Type 0 where
  more : List ValType
  there : ks ≡ ts ++ more
  left : below ≡ known_operands more

pops_each : (ts ks : List ValType) (s : BlockStack) → pop_each ts (known_operands ks) ≡ Some s → PopsEach ts ks s
pops_each [] ks s e = record { more = ks; there = refl; left = let h : known_operands ks ≡ s = cc in sym h }
pops_each (t ∷ ts) ks s e = by_case (pop_type t (known_operands ks)) refl e (λ ks' e'. pops_each ts ks' s e')
  where
    by_case : (o : Option BlockStack) → pop_type t (known_operands ks) ≡ o → (o >>= pop_each ts) ≡ Some s → ((ks' : List ValType) → pop_each ts (known_operands ks') ≡ Some s → PopsEach ts ks' s) → PopsEach (t ∷ ts) ks s
    by_case None q e' next = cc
    by_case (Some below) q e' next =
        let p = pops_type t ks below q in
        let r = next p.more (subst (λ b. pop_each ts b ≡ Some s) p.left e') in
        record { more = r.more; there = p.there ∙ ap (λ ks. t ∷ ks) r.there; left = r.left }

types_of_values-reverse : (vs : List Value) → types_of_values (reverse vs) ≡ reverse (types_of_values vs)
types_of_values-reverse [] = refl
types_of_values-reverse (v ∷ vs) =
    ap types_of_values (reverse-append (v ∷ []) vs) ∙ map-append type_of_value (reverse vs) (v ∷ []) ∙ ap (λ l. l ++ type_of_value v ∷ []) (types_of_values-reverse vs) ∙ sym (reverse-append (type_of_value v ∷ []) (types_of_values vs))

drop_map : (n : ℕ) (vs : List Value) → types_of_values (drop n vs) ≡ drop n (types_of_values vs)
drop_map zero vs = refl
drop_map (suc n) [] = refl
drop_map (suc n) (v ∷ vs) = drop_map n vs

module _ (t : Thread) (params more : List ValType) (h : types_of_values t.stack ≡ reverse params ++ more) where
  count : length t.stack ≡ length params + length more
  count = omega (arith, ap length h, length-map t.stack type_of_value, length-append (reverse params) more, length-reverse params)

  args_are : arguments (length params) t ≡ Some (reverse (take (length params) t.stack))
  args_are =
      let enough : nat_lt (length t.stack) (length params) ≡ false = search (rules, tests, count) in
      ap (λ b. if b then None else Some (reverse (take (length params) t.stack))) enough

  args_value_types : types_of_values (reverse (take (length params) t.stack)) ≡ params
  args_value_types =
      types_of_values-reverse (take (length params) t.stack)
      ∙ ap reverse (sym (take-map type_of_value (length params) t.stack) ∙ ap (λ l. take (length params) l) h ∙ take_at (reverse params) more (length params) (length-reverse params))
      ∙ reverse-reverse params

  rest_value_types : types_of_values (drop (length params) t.stack) ≡ more
  rest_value_types =
      drop_map (length params) t.stack ∙ ap (λ l. drop (length params) l) h ∙ drop_at (reverse params) more (length params) (length-reverse params)

label_true : (o : Option ValType) → label_of_level o (is_some o) ≡ o
label_true None = refl
label_true (Some k) = refl

module _ (m : Module) where
  -- a frame of the module's own function, above these
  pub enter_fits : (callers : List Frame) (f : ℕ) (func : Func) (type : FuncType) (args : List Value) → IsValid m → own_func m f ≡ Some func → slice_get m.types func.type_index ≡ Some type → types_of_values args ≡ type.params → FramesFit m (result_of type) callers → ThreadFits m (Thread'.function_at_start callers f func.body (args ++ zeros func.locals) (result_of type))
  enter_fits callers f func type args v own at value_types frames =
      let b = body_fits m f func type v own at in
      let c' = context_of m (type.params ++ expand_locals func.locals) (result_of type) in
      let locals = map-append type_of_value args (zeros func.locals) ∙ ap (λ l. l ++ types_of_values (zeros func.locals)) value_types ∙ ap (λ l. type.params ++ l) b.zeros in (
        record {
          context = c';
          function = record { func = func; type = type; is_own = own; has_type = at; same = refl };
          locals = locals;
          returns = refl;
          around = (refl, refl, refl);
          todo = subst (λ l. IsTypedRemainder c' (l ∷ []) (result_of type) func.body []) (sym (label_true (result_of type))) b.body;
        },
        frames,
      )

  -- a frame above those of a thread, where there is room for it
  frame_fits : (t above : Thread) → ThreadFits m above → AfterFits m (frame_goes_on t (Some above))
  frame_fits t above h =
      elim (fits_limits above) as (λ b. AfterFits m (if b then Goes above else at_trap t traps.Exhausted)) [ true ↦ h | false ↦ tt ]

module _ (m : Module) (c : Context) where
  caller_fits : (t : Thread) (type : FuncType) (more : List ValType) → RestOf m c t → types_of_values t.stack ≡ reverse type.params ++ more → LeavesAt m c t (put_type (result_of type) more) → FramesFit m (result_of type) (waiting_frame (without_operands (length type.params) t) ∷ t.callers)
  caller_fits t type more r h l = (
    record {
      context = c;
      function = r.0;
      locals = r.1;
      returns = r.2;
      around = r.3;
      todo = subst (λ ks. LeavesAt m c t (put_type (result_of type) ks)) (sym (rest_value_types t type.params more h)) l;
    },
    r.4,
  )

  library_fits : (t : Thread) (f : ℕ) (type : FuncType) (more : List ValType) → RestOf m c t → imported_type m (slice_get m.imports f) ≡ Some type → types_of_values t.stack ≡ reverse type.params ++ more → LeavesAt m c t (put_type (result_of type) more) → AfterFits m (Reduce.call_library f (Some type) t)
  library_fits t f type more r is h l =
      let n = length type.params in
      let left = subst (λ ks. LeavesAt m c t (put_type (result_of type) ks)) (sym (rest_value_types t type.params more h)) l in
      let gives : library_result m f ≡ result_of type = ap first_result is in
      let fits : CallFits m (without_operands n t) f = λ o k. with_result_fits m c (result_of type) o (without_operands n t) r left (subst (λ g. IsResult g o) gives k) in
      subst (λ o. AfterFits m (Reduce.at_call o f type t)) (sym (args_are t type.params more h)) (by_room (has_room (length type.results) (without_operands n t)) fits)
    where
      by_room : (b : Bool) → CallFits m (without_operands (length type.params) t) f → AfterFits m (if b then Stops (Calls (without_operands (length type.params) t) (site_of f (reverse (take (length type.params) t.stack)))) else at_trap t traps.Exhausted)
      by_room true k = (subst (λ o. IsSome o) (sym is) refl, k)
      by_room false k = tt

  own_fits : (t : Thread) (f : ℕ) (func : Func) (type : FuncType) (more : List ValType) → IsValid m → RestOf m c t → own_func m f ≡ Some func → slice_get m.types func.type_index ≡ Some type → types_of_values t.stack ≡ reverse type.params ++ more → LeavesAt m c t (put_type (result_of type) more) → AfterFits m (Reduce.call_own m f (Some func) t)
  own_fits t f func type more v r own at h l =
      let n = length type.params in
      let args = reverse (take n t.stack) in
      let inner = enter_fits m (waiting_frame (without_operands n t) ∷ t.callers) f func type args v own at (args_value_types t type.params more h) (caller_fits t type more r h l) in
      let above = Thread'.entered_frame (without_operands n t) f func.body (args ++ zeros func.locals) (result_of type) in
      subst (λ o. AfterFits m (Reduce.call_typed f func o t)) (sym at)
      (subst (λ o. AfterFits m (frame_goes_on t (Thread'.called_with o n t f func (result_of type)))) (sym (args_are t type.params more h)) (frame_fits m t above inner))

  call_fits : (t : Thread) (f : ℕ) (type : FuncType) (more : List ValType) → IsValid m → RestOf m c t → type_of m f ≡ Some type → types_of_values t.stack ≡ reverse type.params ++ more → LeavesAt m c t (put_type (result_of type) more) → AfterFits m (Reduce.call m f t)
  call_fits t f type more v r is h l =
      by_place (nat_lt f (length m.imports)) (imported_type m (slice_get m.imports f)) (own_func m f) refl refl is
    where
      by_place : (b : Bool) (i : Option FuncType) (o : Option Func) → imported_type m (slice_get m.imports f) ≡ i → own_func m f ≡ o → (if b then i else own_type m o) ≡ Some type → AfterFits m (if b then Reduce.call_library f i t else Reduce.call_own m f o t)
      by_place true None o ei eo e = cc
      by_place true (Some type') o ei eo e =
          let same : type ≡ type' = cc in
          subst (λ x. AfterFits m (Reduce.call_library f (Some x) t)) same (library_fits t f type more r (ei ∙ ap Some (sym same)) h l)
      by_place false i None ei eo e = cc
      by_place false i (Some func) ei eo e = own_fits t f func type more v r eo e h l

  -- what the typing of a call says
  record Typed (types : List FuncType) (k : ℕ) (ks : List ValType) (F G : BlockStack → Option BlockStack) : Type 0 where
    callee : FuncType
    at : slice_get types k ≡ Some callee
    more : List ValType
    there : ks ≡ reverse callee.params ++ more
    rest : IsSome (F (known_operands (put_type (result_of callee) more)) >>= G)

  put_push : (o : Option ValType) (ks : List ValType) → push_result o (known_operands ks) ≡ known_operands (put_type o ks)
  put_push None ks = refl
  put_push (Some k) ks = refl

  typed_call : (types : List FuncType) (k : ℕ) (ks : List ValType) (F G : BlockStack → Option BlockStack) → IsSome ((call_type types k (known_operands ks) >>= F) >>= G) → Typed types k ks F G
  typed_call types k ks F G h =
      let a = step (slice_get types k) (λ (callee : FuncType). operate callee.params (result_of callee) (known_operands ks)) F G h in
      let b = step (pop_types a.value.params (known_operands ks)) (λ rest. Some (push_result (result_of a.value) rest)) F G a.rest in
      let p = pops_each (reverse a.value.params) ks b.value b.is in
      record {
        callee = a.value;
        at = a.is;
        more = p.more;
        there = p.there;
        rest = subst (λ s. IsSome (F s >>= G)) (ap (push_result (result_of a.value)) p.left ∙ put_push (result_of a.value) p.more) b.rest;
      }

  pub call_row_fits : TypesAgree → (f : ℕ) (t : Thread) → IsValid m → RestOf m c t → Before m c (CallFunc f) t (types_of_values t.stack) → AfterFits m (Reduce.call m f t)
  call_row_fits agree f t v r h =
      let ks = types_of_values t.stack in
      let F = After' m c t in
      let G = End' m c t in
      let a = step (slice_get c.funcs f) (λ k. call_type c.types k (known_operands ks)) F G h.typed in
      let d = typed_call c.types a.value ks F G a.rest in
      let funcs : slice_get (funcs_of m) f ≡ Some a.value = ap (λ (c : Context). slice_get c.funcs f) (sym r.0.same) ∙ a.is in
      let type : slice_get m.types a.value ≡ Some d.callee = ap (λ (c : Context). slice_get c.types a.value) (sym r.0.same) ∙ d.at in
      let found : type_of m f ≡ Some d.callee = sym (agree m f v.imports) ∙ ap (option_and_then (slice_get m.types)) funcs ∙ type in
      call_fits t f d.callee d.more v r found d.there (record { typed = d.rest; no_float = h.no_float })

  both : (a b : Bool) → a && b ≡ true → (a ≡ true) × (b ≡ true)
  both true true e = (refl, refl)
  both true false e = cc
  both false b e = cc

  same_types_equal : (as' bs : List ValType) → same_types as' bs ≡ true → as' ≡ bs
  same_types_equal [] [] e = refl
  same_types_equal [] (b ∷ bs) e = cc
  same_types_equal (a ∷ as') [] e = cc
  same_types_equal (a ∷ as') (b ∷ bs) e =
      let parts = both (is_same a b) (same_types as' bs) e in
      ap (λ k. k ∷ as') (is_same_equal a b parts.0) ∙ ap (λ ks. b ∷ ks) (same_types_equal as' bs parts.1)

  same_type_equal : (a b : FuncType) → same_type a b ≡ true → a ≡ b
  same_type_equal a b e =
      let parts = both (same_types a.params b.params) (same_types a.results b.results) e in
      ap (λ (ks : List ValType). record a { params = ks }) (same_types_equal a.params b.params parts.0)
      ∙ ap (λ (ks : List ValType). record b { results = ks }) (same_types_equal a.results b.results parts.1)

  checked_fits : (t : Thread) (f : ℕ) (k : ℕ) (callee : FuncType) (more : List ValType) → IsValid m → RestOf m c t → IsSome (type_of m f) → slice_get m.types k ≡ Some callee → types_of_values t.stack ≡ reverse callee.params ++ more → LeavesAt m c t (put_type (result_of callee) more) → AfterFits m (Reduce.call_if_same m f (type_of m f) (slice_get m.types k) t)
  checked_fits t f k callee more v r there at h l =
      subst (λ w. AfterFits m (Reduce.call_if_same m f (type_of m f) w t)) (sym at) (by_type (type_of m f) refl there)
    where
      by_test : (found : FuncType) (b : Bool) → type_of m f ≡ Some found → same_type found callee ≡ b → AfterFits m (if b then Reduce.call m f t else at_trap t traps.TypeDiffers)
      by_test found true e q = call_fits t f callee more v r (e ∙ ap Some (same_type_equal found callee q)) h l
      by_test found false e q = tt

      by_type : (o : Option FuncType) → type_of m f ≡ o → IsSome o → AfterFits m (Reduce.call_if_same m f o (Some callee) t)
      by_type None e h' = never_none h'
      by_type (Some found) e h' = by_test found (same_type found callee) e refl

  element_fits : (t : Thread) (k : ℕ) (callee : FuncType) (more : List ValType) (e : Option (Option ℕ)) → IsValid m → RestOf m c t → ((f : ℕ) → e ≡ Some (Some f) → IsSome (type_of m f)) → slice_get m.types k ≡ Some callee → types_of_values t.stack ≡ reverse callee.params ++ more → LeavesAt m c t (put_type (result_of callee) more) → AfterFits m (Reduce.call_element m k e t)
  element_fits t k callee more None v r there at h l = tt
  element_fits t k callee more (Some None) v r there at h l = tt
  element_fits t k callee more (Some (Some f)) v r there at h l = checked_fits t f k callee more v r (there f refl) at h l

  pub call_indirect_fits : (k : ℕ) (g : Store) (t : Thread) → g.«module» ≡ m → SuitsModule g → IsValid m → RestOf m c t → Before m c (CallIndirect k) t (types_of_values t.stack) → AfterFits m (Reduce.call_indirect k g t)
  call_indirect_fits k g t same suits v r h =
      let ks = types_of_values t.stack in
      let F = After' m c t in
      let G = End' m c t in
      let a = step (pop_type types.I32 (known_operands ks)) (λ below. if c.has_table then call_type c.types k below else None) F G h.typed in
      let p = pops_type types.I32 ks a.value a.is in
      let d = by_test c.has_table p.more (subst (λ s. IsSome (((if c.has_table then call_type c.types k s else None) >>= F) >>= G)) p.left a.rest) in
      let type : slice_get m.types k ≡ Some d.callee = ap (λ (c : Context). slice_get c.types k) (sym r.0.same) ∙ d.at in
      let left : LeavesAt m c t (put_type (result_of d.callee) d.more) = record { typed = d.rest; no_float = h.no_float } in
      on_top_fits m c t _ t.stack types.I32 p.more p.there (λ w rest kw kr.
      on_i32_fits m c w _ kw (λ i.
      let t' = record t { stack = rest } in
      let there : (f : ℕ) → slice_get g.table i ≡ Some (Some f) → IsSome (type_of m f) = λ f e. subst (λ (m : Module). IsSome (type_of m f)) same (suits.elements i f e) in
      subst (λ (m' : Module). AfterFits m (Reduce.call_element m' k (slice_get g.table i) t')) (sym same)
      (element_fits t' k d.callee d.more (slice_get g.table i) v r there type (kr ∙ d.there) left)))
    where
      by_test : (b : Bool) (ks : List ValType) → IsSome (((if b then call_type c.types k (known_operands ks) else None) >>= After' m c t) >>= End' m c t) → Typed c.types k ks (After' m c t) (End' m c t)
      by_test false ks h' = never_none h'
      by_test true ks h' = typed_call c.types k ks (After' m c t) (End' m c t) h'
