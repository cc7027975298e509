-- The rows on globals and on the memory keep what fits.
use Rattle.std.proofs.Common.{◌≡◌, ℕ, ◌+◌, ◌-◌, ◌^◌, Bool, true, false, List, [], ◌∷◌, Option, Some, None, refl, sym, ap, ◌∙◌, subst}
use Rattle.std.specs.Prelude.{map, slice_get, IsSome, if◌then◌else◌}
use Rattle.std.specs.Option.{option_map}
use Rattle.std.proofs.lemmas.Option.{slice_get-map}
use Rattle.guest_memory.specs.Memory.{Memory, is_inside, loaded_number, after_store, can_grow, growth_size, after_grow, size_of}
use Rattle.wasm_types.specs.declared.code.Value.{Value}
use Rattle.wasm_types.specs.declared.code.Value.TheVariants.{I32, I64}
use Rattle.wasm_types.specs.declared.code.ValType.{ValType}
use Rattle.wasm_types.specs.declared.code.ValType.TheVariants as types
use Rattle.wasm_types.specs.declared.traps.Trap.TheVariants as traps
use Rattle.wasm_types.specs.Accesses.{Access, load_access, store_access, may_access}
use Rattle.wasm_types.specs.Code.{GlobalGet, GlobalSet, Load, Store as StoreIn, MemorySize, MemoryGrow}
use Rattle.wasm_types.specs.Context.{Context}
use Rattle.wasm_types.specs.Floats.{have_float, is_float_access}
use Rattle.wasm_types.specs.Maybe.{◌>>=◌}
use Rattle.wasm_types.specs.Modules.{Module, GlobalDef, GlobalType, global_type}
use Rattle.wasm_types.specs.Stack.{BlockStack, push_operand, push_result, pop_type, operate}
use Rattle.wasm_values.specs.Access.{load_value}
use Rattle.wasm_values.specs.Values.{bits_of, type_of_value, types_of_values}
use Rattle.wasm_store.specs.Suits.{SuitsModule}
use Rattle.wasm_step.specs.Fits.{known_operands, IsContext, ThreadFits}
use Rattle.wasm_step.specs.inside.Standing.{AfterFits}
use Rattle.wasm_step.specs.Reduce as Reduce
use Rattle.wasm_step.specs.Reduce.{ThreadAndStore, store_stays}
use Rattle.wasm_stack.specs.After.{Goes, Stops, Sticks, at_trap}
use Rattle.wasm_store.specs.Store.{Store, with_global, with_growth}
use Rattle.wasm_stack.specs.Thread.{Thread, with_operand}
use Rattle.wasm_step.proofs.ThreadsFit.{never_none, pops_type, RestOf, LeavesAt, goes}
use Rattle.wasm_step.proofs.Opcodes.{LoadFitsOf, LoadFits, StoreFitsOf, StoreFits, load_fits, store_fits}
use Rattle.wasm_step.proofs.PlainRowsFit.{neither, step, last, read_value_type, written_value_types, written_within, After', End', Before, on_top_fits, on_i32_fits, got_fits}

-- the types of the globals, as code sees them and as the module declares them
declared_value_type : (ds : List GlobalDef) (x : ℕ) (g : GlobalType) → slice_get (map global_type ds) x ≡ Some g → slice_get (map (λ (d : GlobalDef). d.value_type) ds) x ≡ Some g.value_type
declared_value_type ds x g e =
    slice_get-map (λ (d : GlobalDef). d.value_type) ds x ∙ by_case (slice_get ds x) (sym (slice_get-map global_type ds x) ∙ e)
  where
    by_case : (o : Option GlobalDef) → option_map global_type o ≡ Some g → option_map (λ (d : GlobalDef). d.value_type) o ≡ Some g.value_type
    by_case None q = cc
    by_case (Some d) q = let same : global_type d ≡ g = cc in ap (λ (g : GlobalType). Some g.value_type) same

-- a memory that is one of two of one maximum
pub choice_most : (b : Bool) (memory other : Memory) → other.max ≡ memory.max → (if b then other else memory).max ≡ memory.max
choice_most true memory other e = e
choice_most false memory other e = refl

after_store_most : (memory : Memory) (addr width bits : ℕ) → (after_store memory addr width bits).max ≡ memory.max
after_store_most memory addr width bits = choice_most (is_inside memory addr width) memory _ refl

grown_most : (memory : Memory) (pages : ℕ) → (after_grow memory pages).max ≡ memory.max
grown_most memory pages = choice_most (can_grow memory pages) memory _ refl

-- the store with another memory of the same maximum
other_memory : (g : Store) (memory : Memory) → SuitsModule g → memory.max ≡ g.memory.max → SuitsModule (record g { memory = memory })
other_memory g memory s e = record { most = e ∙ s.most; places = s.places; globals = s.globals; elements = s.elements }

grown_suits : (g : Store) (pages : ℕ) → SuitsModule g → SuitsModule (with_growth g pages)
grown_suits g pages s = record { most = grown_most g.memory pages ∙ s.most; places = s.places; globals = s.globals; elements = s.elements }

module _ (m : Module) (c : Context) (g : Store) (same : g.«module» ≡ m) (suits : SuitsModule g) where
  abbrev pub BothFit : ThreadAndStore → Type 0
  BothFit b = AfterFits m b.after × SuitsModule b.store

  global_value_type : (func : ℕ) → IsContext m func c → (x : ℕ) (k : GlobalType) → slice_get c.globals x ≡ Some k → slice_get (map (λ (d : GlobalDef). d.value_type) g.«module».globals) x ≡ Some k.value_type
  global_value_type func i x k e =
      ap (λ (m : Module). slice_get (map (λ (d : GlobalDef). d.value_type) m.globals) x) same
      ∙ declared_value_type m.globals x k (ap (λ (c : Context). slice_get c.globals x) (sym i.same) ∙ e)

  pub global_get_fits : (x : ℕ) (t : Thread) → RestOf m c t → Before m c (GlobalGet x) t (types_of_values t.stack) → AfterFits m (Reduce.global_get x g t)
  global_get_fits x t r h =
      let ks = types_of_values t.stack in
      let a = step (slice_get c.globals x) (λ (k : GlobalType). Some (push_operand (Some k.value_type) (known_operands ks))) (After' m c t) (End' m c t) h.typed in
      got_fits m c t (slice_get g.globals x) a.value.value_type r (read_value_type g.globals (map (λ (d : GlobalDef). d.value_type) g.«module».globals) x a.value.value_type suits.globals (global_value_type t.func r.0 x a.value a.is)) (record { typed = a.rest; no_float = h.no_float })

  set_fits : (x : ℕ) (k : ValType) (ks : List ValType) (stack : List Value) (t : Thread) → RestOf m c t → slice_get (map (λ (d : GlobalDef). d.value_type) g.«module».globals) x ≡ Some k → types_of_values stack ≡ k ∷ ks → LeavesAt m c t ks → BothFit (Reduce.set_global x g stack t)
  set_fits x k ks [] t r at e l = cc
  set_fits x k ks (v ∷ rest) t r at e l =
      let value_types = map (λ (d : GlobalDef). d.value_type) g.«module».globals in
      let kv : type_of_value v ≡ k = cc in
      let kr : types_of_values rest ≡ ks = cc in
      let at' : slice_get value_types x ≡ Some (type_of_value v) = at ∙ ap Some (sym kv) in
      subst (λ b. BothFit (if b then record { after = Goes (record t { stack = rest }); store = with_global g x v } else store_stays g (Stops Sticks))) (sym (written_within g.globals value_types x k suits.globals at)) (
        goes m c (record t { stack = rest }) r (subst (λ ks. LeavesAt m c t ks) (sym kr) l),
        record { most = suits.most; places = suits.places; globals = written_value_types g.globals value_types x v suits.globals at'; elements = suits.elements },
      )

  pub global_set_fits : (x : ℕ) (t : Thread) → RestOf m c t → Before m c (GlobalSet x) t (types_of_values t.stack) → BothFit (Reduce.global_set x g t)
  global_set_fits x t r h =
      let ks = types_of_values t.stack in
      let a = step (slice_get c.globals x) (λ (k : GlobalType). if k.mutable then pop_type k.value_type (known_operands ks) else None) (After' m c t) (End' m c t) h.typed in
      by_test a.value a.value.mutable (global_value_type t.func r.0 x a.value a.is) a.rest
    where
      by_test : (k : GlobalType) (b : Bool) → slice_get (map (λ (d : GlobalDef). d.value_type) g.«module».globals) x ≡ Some k.value_type → IsSome (((if b then pop_type k.value_type (known_operands (types_of_values t.stack)) else None) >>= After' m c t) >>= End' m c t) → BothFit (Reduce.global_set x g t)
      by_test k false at h' = never_none h'
      by_test k true at h' =
          let b = last (pop_type k.value_type (known_operands (types_of_values t.stack))) (After' m c t) (End' m c t) h' in
          let p = pops_type k.value_type (types_of_values t.stack) b.value b.is in
          set_fits x k.value_type p.more t.stack t r at p.there (record { typed = subst (λ s. IsSome (After' m c t s >>= End' m c t)) p.left b.rest; no_float = h.no_float })

  -- one operand of 32 bits, and a result
  regroup_1 : (o : Option BlockStack) (k : Option ValType) (t : Thread) → IsSome ((((o >>= (λ s. Some s)) >>= (λ rest. Some (push_result k rest))) >>= After' m c t) >>= End' m c t) → IsSome (((o >>= (λ rest. Some (push_result k rest))) >>= After' m c t) >>= End' m c t)
  regroup_1 None k t h = h
  regroup_1 (Some s) k t h = h

  read_fits : (op : ℕ) (k : ValType) (o : Option ℕ) (t : Thread) → LoadFits op k → RestOf m c t → LeavesAt m c t (k ∷ types_of_values t.stack) → AfterFits m (Reduce.read_at o op t)
  read_fits op k None t f r l = tt
  read_fits op k (Some n) t f r l =
      got_fits m c t (load_value op n) k r (ap (option_map type_of_value) (f.makes n) ∙ ap Some (f.value_type n)) l

  load_of_fits : (op offset : ℕ) (a : Access) (t : Thread) → RestOf m c t → LoadFits op a.moved → IsSome ((operate (types.I32 ∷ []) (Some a.moved) (known_operands (types_of_values t.stack)) >>= After' m c t) >>= End' m c t) → have_float t.todo ≡ false → AfterFits m (Reduce.load op offset g.memory t)
  load_of_fits op offset a t r f h nf =
      let ks = types_of_values t.stack in
      let b = step (pop_type types.I32 (known_operands ks)) (λ rest. Some (push_result (Some a.moved) rest)) (After' m c t) (End' m c t) (regroup_1 (pop_type types.I32 (known_operands ks)) (Some a.moved) t h) in
      let p = pops_type types.I32 ks b.value b.is in
      let left : LeavesAt m c t (a.moved ∷ p.more) = record { typed = subst (λ s. IsSome (After' m c t (push_operand (Some a.moved) s) >>= End' m c t)) p.left b.rest; no_float = nf } in
      on_top_fits m c t _ t.stack types.I32 p.more p.there (λ v rest kv kr.
      on_i32_fits m c v _ kv (λ base.
      subst (λ w. AfterFits m (Reduce.load_at w op (base + offset) g.memory (record t { stack = rest }))) (sym f.reads)
      (read_fits op a.moved (loaded_number g.memory (base + offset) f.width) (record t { stack = rest }) f r (subst (λ ks. LeavesAt m c t (a.moved ∷ ks)) (sym kr) left))))

  pub load_row_fits : (op align offset : ℕ) (t : Thread) → RestOf m c t → Before m c (Load op align offset) t (types_of_values t.stack) → AfterFits m (Reduce.load op offset g.memory t)
  load_row_fits op align offset t r h =
      let nf = neither _ _ h.no_float in
      let a = step (load_access op) (λ a. if may_access c.has_memory a align then operate (types.I32 ∷ []) (Some a.moved) (known_operands (types_of_values t.stack)) else None) (After' m c t) (End' m c t) h.typed in
      let fits = subst (λ (o : Option Access). LoadFitsOf op o) a.is (load_fits op) in
      by_test a.value (may_access c.has_memory a.value align) (fits (ap is_float_access (sym a.is) ∙ nf.0)) a.rest nf.1
    where
      by_test : (a : Access) (b : Bool) → LoadFits op a.moved → IsSome (((if b then operate (types.I32 ∷ []) (Some a.moved) (known_operands (types_of_values t.stack)) else None) >>= After' m c t) >>= End' m c t) → have_float t.todo ≡ false → AfterFits m (Reduce.load op offset g.memory t)
      by_test a false f h' nf = never_none h'
      by_test a true f h' nf = load_of_fits op offset a t r f h' nf

  write_at_fits : (width addr bits : ℕ) (t : Thread) → RestOf m c t → LeavesAt m c t (types_of_values t.stack) → BothFit (Reduce.write_at (Some width) addr bits g t)
  write_at_fits width addr bits t r l = (
    by_case (is_inside g.memory addr width),
    other_memory g (after_store g.memory addr width bits) suits (after_store_most g.memory addr width bits),
  )
    where
      by_case : (b : Bool) → AfterFits m (if b then Goes t else at_trap t traps.MemoryRange)
      by_case true = goes m c t r l
      by_case false = tt

  write_fits : (op offset : ℕ) (k : ValType) (ks : List ValType) (stack : List Value) (t : Thread) → RestOf m c t → StoreFits op k → types_of_values stack ≡ k ∷ (types.I32 ∷ ks) → LeavesAt m c t ks → BothFit (Reduce.write_top op offset stack g t)
  write_fits op offset k ks [] t r f e l = cc
  write_fits op offset k ks (v ∷ []) t r f e l = cc
  write_fits op offset k ks (v ∷ (I64 base ∷ rest)) t r f e l = cc
  write_fits op offset k ks (v ∷ (I32 base ∷ rest)) t r f e l =
      let kv : type_of_value v ≡ k = cc in
      let kr : types_of_values rest ≡ ks = cc in
      subst (λ w. BothFit (Reduce.write_at w (base + offset) (bits_of (Some v)) g (record t { stack = rest }))) (sym (f.writes v kv))
      (write_at_fits (f.width v kv) (base + offset) (bits_of (Some v)) (record t { stack = rest }) r (subst (λ ks. LeavesAt m c t ks) (sym kr) l))

  store_of_fits : (op offset : ℕ) (a : Access) (t : Thread) → RestOf m c t → StoreFits op a.moved → IsSome ((operate (types.I32 ∷ (a.moved ∷ [])) None (known_operands (types_of_values t.stack)) >>= After' m c t) >>= End' m c t) → have_float t.todo ≡ false → BothFit (Reduce.write op offset g t)
  store_of_fits op offset a t r f h nf =
      let ks = types_of_values t.stack in
      let F = After' m c t in
      let G = End' m c t in
      let b = step (pop_type a.moved (known_operands ks)) (λ s. pop_type types.I32 s >>= (λ rest. Some rest)) F G (outer (pop_type a.moved (known_operands ks)) h) in
      let p = pops_type a.moved ks b.value b.is in
      let second = subst (λ s. IsSome (((pop_type types.I32 s >>= (λ rest. Some rest)) >>= F) >>= G)) p.left b.rest in
      let d = step (pop_type types.I32 (known_operands p.more)) (λ rest. Some rest) F G second in
      let q = pops_type types.I32 p.more d.value d.is in
      let left : LeavesAt m c t q.more = record { typed = subst (λ s. IsSome (F s >>= G)) q.left d.rest; no_float = nf } in
      write_fits op offset a.moved q.more t.stack t r f (p.there ∙ ap (λ ks. a.moved ∷ ks) q.there) left
    where
      inner : (o : Option BlockStack) → IsSome ((((o >>= (λ s. Some s)) >>= (λ rest. Some (push_result None rest))) >>= After' m c t) >>= End' m c t) → IsSome (((o >>= (λ rest. Some rest)) >>= After' m c t) >>= End' m c t)
      inner None h = h
      inner (Some s) h = h

      outer : (o : Option BlockStack) → IsSome ((((o >>= (λ s. pop_type types.I32 s >>= (λ s. Some s))) >>= (λ rest. Some (push_result None rest))) >>= After' m c t) >>= End' m c t) → IsSome (((o >>= (λ s. pop_type types.I32 s >>= (λ rest. Some rest))) >>= After' m c t) >>= End' m c t)
      outer None h = h
      outer (Some s) h = inner (pop_type types.I32 s) h

  pub store_row_fits : (op align offset : ℕ) (t : Thread) → RestOf m c t → Before m c (StoreIn op align offset) t (types_of_values t.stack) → BothFit (Reduce.write op offset g t)
  store_row_fits op align offset t r h =
      let nf = neither _ _ h.no_float in
      let a = step (store_access op) (λ a. if may_access c.has_memory a align then operate (types.I32 ∷ (a.moved ∷ [])) None (known_operands (types_of_values t.stack)) else None) (After' m c t) (End' m c t) h.typed in
      let fits = subst (λ (o : Option Access). StoreFitsOf op o) a.is (store_fits op) in
      by_test a.value (may_access c.has_memory a.value align) (fits (ap is_float_access (sym a.is) ∙ nf.0)) a.rest nf.1
    where
      by_test : (a : Access) (b : Bool) → StoreFits op a.moved → IsSome (((if b then operate (types.I32 ∷ (a.moved ∷ [])) None (known_operands (types_of_values t.stack)) else None) >>= After' m c t) >>= End' m c t) → have_float t.todo ≡ false → BothFit (Reduce.write op offset g t)
      by_test a false f h' nf = never_none h'
      by_test a true f h' nf = store_of_fits op offset a t r f h' nf

  pub size_fits : (t : Thread) → RestOf m c t → Before m c MemorySize t (types_of_values t.stack) → AfterFits m (Reduce.memory_size g.memory t)
  size_fits t r h = by_test c.has_memory h.typed
    where
      by_test : (b : Bool) → IsSome (((if b then operate [] (Some types.I32) (known_operands (types_of_values t.stack)) else None) >>= After' m c t) >>= End' m c t) → AfterFits m (Reduce.memory_size g.memory t)
      by_test false h' = never_none h'
      by_test true h' = goes m c (with_operand t (I32 (size_of g.memory))) r (record { typed = h'; no_float = h.no_float })

  grow_top_fits : (ks : List ValType) (stack : List Value) (t : Thread) → RestOf m c t → types_of_values stack ≡ types.I32 ∷ ks → LeavesAt m c t (types.I32 ∷ ks) → BothFit (Reduce.grow_top stack g t)
  grow_top_fits ks [] t r e l = cc
  grow_top_fits ks (I64 x ∷ rest) t r e l = cc
  grow_top_fits ks (I32 pages ∷ rest) t r e l =
      let kr : types_of_values rest ≡ ks = cc in (
        by_answer (growth_size g.memory pages) (subst (λ ks. LeavesAt m c t (types.I32 ∷ ks)) (sym kr) l),
        grown_suits g pages suits,
      )
    where
      by_answer : (o : Option ℕ) → LeavesAt m c t (types.I32 ∷ types_of_values rest) → ThreadFits m (with_operand (record t { stack = rest }) (Reduce.grow_answer o))
      by_answer None l' = goes m c (with_operand (record t { stack = rest }) (I32 (2 ^ 32 - 1))) r l'
      by_answer (Some p) l' = goes m c (with_operand (record t { stack = rest }) (I32 p)) r l'

  pub grow_fits : (t : Thread) → RestOf m c t → Before m c MemoryGrow t (types_of_values t.stack) → BothFit (Reduce.memory_grow g t)
  grow_fits t r h = by_test c.has_memory h.typed
    where
      by_test : (b : Bool) → IsSome (((if b then operate (types.I32 ∷ []) (Some types.I32) (known_operands (types_of_values t.stack)) else None) >>= After' m c t) >>= End' m c t) → BothFit (Reduce.memory_grow g t)
      by_test false h' = never_none h'
      by_test true h' =
          let ks = types_of_values t.stack in
          let b = step (pop_type types.I32 (known_operands ks)) (λ rest. Some (push_result (Some types.I32) rest)) (After' m c t) (End' m c t) (regroup_1 (pop_type types.I32 (known_operands ks)) (Some types.I32) t h') in
          let p = pops_type types.I32 ks b.value b.is in
          grow_top_fits p.more t.stack t r p.there (record { typed = subst (λ s. IsSome (After' m c t (push_operand (Some types.I32) s) >>= End' m c t)) p.left b.rest; no_float = h.no_float })
