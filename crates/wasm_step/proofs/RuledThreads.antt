-- What a thread has whose next instruction has a rule.
use Rattle.std.proofs.Common.{◌≡◌, ℕ, ◌+◌, ◌-◌, ◌<◌, ◌≤◌, Bool, true, false, List, [], ◌∷◌, Option, Some, None, length, drop, length-drop, refl, sym, ap, ◌∙◌, arith, rules, tests}
use Rattle.std.specs.Prelude.{if◌then◌else◌, nat_lt, reverse, slice_get, slice_set, take}
use Rattle.std.proofs.lemmas.Bool.{le-ltb, ltb-false, ltb-true}
use Rattle.std.proofs.lemmas.Option.{slice_get_within}
use Rattle.guest_memory.specs.Memory.{Memory}
use Rattle.guest_module.specs.Calls.{HasCallType}
use Rattle.wasm_types.specs.declared.code.ValType.{ValType}
use Rattle.wasm_types.specs.declared.code.Value.{Value}
use Rattle.wasm_types.specs.declared.code.Value.TheVariants.{I32, I64}
use Rattle.wasm_types.specs.Calls.{result_of}
use Rattle.wasm_types.specs.Code.{DropTop, LocalGet}
use Rattle.wasm_types.specs.Functions.{imported_type, own_type}
use Rattle.wasm_types.specs.Modules.{Func, Module}
use Rattle.wasm_store.specs.Store.{Store}
use Rattle.wasm_stack.specs.After.{Goes, Sticks, Stops, frame_goes_on, on_i32, on_top}
use Rattle.wasm_stack.specs.Rows.{got, local_put, local_set, local_tee}
use Rattle.wasm_stack.specs.Thread.{HasI32, Thread, arguments, called_with, with_operand, without_operands}
use Rattle.wasm_step.specs.Reduce.{call, call_element, call_if_same, call_indirect, call_library, call_own, call_typed, load, load_at}
use Rattle.wasm_step.specs.inside.Wanted.{CallsAsTyped, HasOwnType}
use Rattle.wasm_step.specs.inside.Rules.{HasRule}
use Rattle.wasm_values.specs.Access.{load_width}

goes_same : (t u : Thread) → Goes t ≡ Goes u → t ≡ u
goes_same t u e = cc

pub has_local : (x : ℕ) (t : Thread) (g : Store) → HasRule (LocalGet x) t g → x < length t.locals
has_local x t g rule = by_local (slice_get t.locals x) refl
  where
    by_local : (o : Option Value) → slice_get t.locals x ≡ o → x < length t.locals
    by_local None e = absurd (rule (ap (λ o. got o t) e))
    by_local (Some v) e = slice_get_within t.locals x v e

pub has_operand : (t : Thread) (g : Store) → HasRule DropTop t g → 1 ≤ length t.stack
has_operand t g rule = by_stack t.stack refl
  where
    by_stack : (s : List Value) → t.stack ≡ s → 1 ≤ length t.stack
    by_stack [] e = absurd (rule (ap (λ s. on_top s t (λ v u. Goes u)) e))
    by_stack (v ∷ rest) e = omega (arith, ap length e)

pub has_address : (op offset : ℕ) (t : Thread) (memory : Memory) → (load op offset memory t ≡ Stops Sticks → ⊥) → HasI32 t
has_address op offset t memory rule = by_stack t.stack refl
  where
    by_stack : (s : List Value) → t.stack ≡ s → HasI32 t
    by_stack [] e = absurd (rule (ap (λ s. on_top s t (λ v u. on_i32 v (λ base. load_at (load_width op) op (base + offset) memory u))) e))
    by_stack (I64 x ∷ rest) e = absurd (rule (ap (λ s. on_top s t (λ v u. on_i32 v (λ base. load_at (load_width op) op (base + offset) memory u))) e))
    by_stack (I32 x ∷ rest) e = (x, e ∙ ap (λ rest. I32 x ∷ rest) (sym (ap (drop 1) e)))

-- ---- a local that is set

puts : (x : ℕ) (v : Value) (t : Thread) → (local_put x v t ≡ Stops Sticks → ⊥) → x < length t.locals
puts x v t rule = by_test (nat_lt x (length t.locals)) refl
  where
    by_test : (b : Bool) → nat_lt x (length t.locals) ≡ b → x < length t.locals
    by_test true e = ltb-true x (length t.locals) e
    by_test false e = absurd (rule (ap (λ b. if b then Goes (record t { locals = slice_set t.locals x v }) else Stops Sticks) e))

pub record HasBoth (x : ℕ) (t : Thread) : Type 0 where
  pub local : x < length t.locals
  pub operand : 1 ≤ length t.stack

pub tees : (x : ℕ) (t : Thread) → (local_tee x t ≡ Stops Sticks → ⊥) → HasBoth x t
tees x t rule = by_stack t.stack refl
  where
    by_stack : (s : List Value) → t.stack ≡ s → HasBoth x t
    by_stack [] e = absurd (rule (ap (λ s. on_top s t (λ v u. local_put x v (with_operand u v))) e))
    by_stack (v ∷ rest) e = record {
      local = puts x v (record t { stack = v ∷ rest }) (λ sticks. rule (ap (λ s. on_top s t (λ v u. local_put x v (with_operand u v))) e ∙ sticks));
      operand = omega (arith, ap length e);
    }

pub sets : (x : ℕ) (t : Thread) → (local_set x t ≡ Stops Sticks → ⊥) → HasBoth x t
sets x t rule = by_stack t.stack refl
  where
    by_stack : (s : List Value) → t.stack ≡ s → HasBoth x t
    by_stack [] e = absurd (rule (ap (λ s. on_top s t (λ v u. local_put x v u)) e))
    by_stack (v ∷ rest) e = record {
      local = puts x v (record t { stack = rest }) (λ sticks. rule (ap (λ s. on_top s t (λ v u. local_put x v u)) e ∙ sticks));
      operand = omega (arith, ap length e);
    }

pub teed : (x : ℕ) (v : Value) (t : Thread) → x < length t.locals → t.stack ≡ v ∷ drop 1 t.stack → Goes (record t { locals = slice_set t.locals x v }) ≡ local_tee x t
teed x v t has st =
    let is : nat_lt x (length t.locals) ≡ true = search (rules, tests) in
    ap (λ s. Goes (record t { stack = s; locals = slice_set t.locals x v })) st
    ∙ ap (λ b. if b then Goes (record t { stack = v ∷ drop 1 t.stack; locals = slice_set t.locals x v }) else Stops Sticks) (sym is)
    ∙ ap (λ s. local_tee x (record t { stack = s })) (sym st)

-- a set is a tee that drops
pub set_after_tee : (x : ℕ) (t u : Thread) → 1 ≤ length t.stack → Goes u ≡ local_tee x t → x < length t.locals → Goes (without_operands 1 u) ≡ local_set x t
set_after_tee x t u some tee has = by_stack t.stack refl
  where
    is : nat_lt x (length t.locals) ≡ true
    is = search (rules, tests)

    by_stack : (s : List Value) → t.stack ≡ s → Goes (without_operands 1 u) ≡ local_set x t
    by_stack [] e = absurd (omega (arith, some, ap length e))
    by_stack (v ∷ rest) e =
        let put : u ≡ record t { stack = v ∷ rest; locals = slice_set t.locals x v } =
        goes_same u _ (tee ∙ ap (λ s. local_tee x (record t { stack = s })) e ∙ ap (λ b. if b then Goes (record t { stack = v ∷ rest; locals = slice_set t.locals x v }) else Stops Sticks) is) in
        ap (λ (u : Thread). Goes (without_operands 1 u)) put
        ∙ ap (λ b. if b then Goes (record t { stack = rest; locals = slice_set t.locals x v }) else Stops Sticks) (sym is)
        ∙ ap (λ s. local_set x (record t { stack = s })) (sym e)

-- ---- calls

-- a call of an own function, by what is kept of it
module _ (m : Module) (f : ℕ) (func : Func) (n : ℕ) (gives : Option ValType) (past : length m.imports ≤ f) (own : slice_get m.funcs (f - length m.imports) ≡ Some func) (h : HasCallType m func n gives) where
  not_imported : nat_lt f (length m.imports) ≡ false
  not_imported = le-ltb f (length m.imports) past

  pub called_own : (t : Thread) → call m f t ≡ frame_goes_on t (called_with (arguments n t) n t f func gives)
  called_own t =
      ap (λ b. if b then call_library f (imported_type m (slice_get m.imports f)) t else call_own m f (slice_get m.funcs (f - length m.imports)) t) not_imported
      ∙ ap (λ o. call_own m f o t) own
      ∙ ap (λ o. call_typed f func o t) h.at
      ∙ ap (λ k. frame_goes_on t (called_with (arguments k t) k t f func (result_of h.type))) (sym h.takes_is)
      ∙ ap (λ g. frame_goes_on t (called_with (arguments n t) n t f func g)) (sym h.gives_is)

  pub called_type : HasOwnType m f func
  called_type = record {
    type = h.type;
    of = ap (λ b. if b then imported_type m (slice_get m.imports f) else own_type m (slice_get m.funcs (f - length m.imports))) not_imported ∙ ap (own_type m) own ∙ h.at;
    at = h.at;
  }

-- the module has the function
pub has_own : (m : Module) (f : ℕ) (t : Thread) → length m.imports ≤ f → (call m f t ≡ Stops Sticks → ⊥) → f - length m.imports < length m.funcs
has_own m f t past rule = by_func (slice_get m.funcs (f - length m.imports)) refl
  where
    by_func : (o : Option Func) → slice_get m.funcs (f - length m.imports) ≡ o → f - length m.imports < length m.funcs
    by_func (Some func) e = slice_get_within m.funcs (f - length m.imports) func e
    by_func None e =
        let own = ap (λ b. if b then call_library f (imported_type m (slice_get m.imports f)) t else call_own m f (slice_get m.funcs (f - length m.imports)) t) (le-ltb f (length m.imports) past) in
        absurd (rule (own ∙ ap (λ o. call_own m f o t) e))

-- it has its arguments
pub has_arguments : (m : Module) (f : ℕ) (func : Func) (n : ℕ) (gives : Option ValType) (t : Thread) → call m f t ≡ frame_goes_on t (called_with (arguments n t) n t f func gives) → (call m f t ≡ Stops Sticks → ⊥) → n ≤ length t.stack
has_arguments m f func n gives t is rule = by_test (nat_lt (length t.stack) n) refl
  where
    by_test : (b : Bool) → nat_lt (length t.stack) n ≡ b → n ≤ length t.stack
    by_test true e = absurd (rule (is ∙ ap (λ b. frame_goes_on t (called_with (if b then None else Some (reverse (take n t.stack))) n t f func gives)) e))
    by_test false e = ltb-false (length t.stack) n e

pub has_place : (type : ℕ) (g : Store) (t : Thread) → (call_indirect type g t ≡ Stops Sticks → ⊥) → HasI32 t
has_place type g t rule = by_stack t.stack refl
  where
    by_stack : (s : List Value) → t.stack ≡ s → HasI32 t
    by_stack [] e = absurd (rule (ap (λ s. on_top s t (λ v u. on_i32 v (λ i. call_element g.«module» type (slice_get g.table i) u))) e))
    by_stack (I64 x ∷ rest) e = absurd (rule (ap (λ s. on_top s t (λ v u. on_i32 v (λ i. call_element g.«module» type (slice_get g.table i) u))) e))
    by_stack (I32 x ∷ rest) e = (x, e ∙ ap (λ rest. I32 x ∷ rest) (sym (ap (drop 1) e)))

-- the module has the function that is there
pub has_own_element : (m : Module) (type f x : ℕ) (g : Store) (t : Thread) → m ≡ g.«module» → t.stack ≡ I32 x ∷ drop 1 t.stack → slice_get g.table x ≡ Some (Some f) → length m.imports ≤ f
    → (call_indirect type g t ≡ Stops Sticks → ⊥) → f - length m.imports < length m.funcs
has_own_element m type f x g t same top at past rule = by_func (slice_get m.funcs (f - length m.imports)) refl
  where
    element : call_indirect type g t ≡ call_if_same m f (own_type m (slice_get m.funcs (f - length m.imports))) (slice_get m.types type) (without_operands 1 t)
    element =
        let u = without_operands 1 t in
        ap (λ s. on_top s t (λ v u. on_i32 v (λ i. call_element g.«module» type (slice_get g.table i) u))) top
        ∙ ap (λ (m : Module). call_element m type (slice_get g.table x) u) (sym same)
        ∙ ap (λ o. call_element m type o u) at
        ∙ ap (λ b. call_if_same m f (if b then imported_type m (slice_get m.imports f) else own_type m (slice_get m.funcs (f - length m.imports))) (slice_get m.types type) u) (le-ltb f (length m.imports) past)

    by_func : (o : Option Func) → slice_get m.funcs (f - length m.imports) ≡ o → f - length m.imports < length m.funcs
    by_func (Some func) e = slice_get_within m.funcs (f - length m.imports) func e
    by_func None e = absurd (rule (element ∙ ap (λ o. call_if_same m f (own_type m o) (slice_get m.types type) (without_operands 1 t)) e))

-- a call through the table calls the function that is there
module _ (m : Module) (type f x : ℕ) (func : Func) (g : Store) (t : Thread) (same : m ≡ g.«module») (top : t.stack ≡ I32 x ∷ drop 1 t.stack) (at : slice_get g.table x ≡ Some (Some f))
    (own : HasOwnType m f func) (matches : CallsAsTyped m func (slice_get m.types type)) where
  pub indirect_calls : call_indirect type g t ≡ call m f (without_operands 1 t)
  indirect_calls =
      let u = without_operands 1 t in
      ap (λ s. on_top s t (λ v u. on_i32 v (λ i. call_element g.«module» type (slice_get g.table i) u))) top
      ∙ ap (λ (m : Module). call_element m type (slice_get g.table x) u) (sym same)
      ∙ ap (λ o. call_element m type o u) at
      ∙ ap (λ o. call_if_same m f o (slice_get m.types type) u) own.of
      ∙ matches own.type own.at f u

  pub has_indirect_arguments : (n : ℕ) (gives : Option ValType) → ((t : Thread) → call m f t ≡ frame_goes_on t (called_with (arguments n t) n t f func gives)) → (call_indirect type g t ≡ Stops Sticks → ⊥)
      → 1 + n ≤ length t.stack
  has_indirect_arguments n gives calls rule =
      let u = without_operands 1 t in
      let few = has_arguments m f func n gives u (calls u) (λ sticks. rule (indirect_calls ∙ sticks)) in
      omega (arith, few, ap length top, length-drop 1 t.stack)
