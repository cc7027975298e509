-- How a process of `ring` runs: from each call at which it waits it comes to the next one, or it stops for good.
use Rattle.std.proofs.Common.{◌≡◌, ℕ, zero, suc, ◌+◌, ◌%◌, ◌^◌, Bool, true, false, cond, List, [], ◌∷◌, Option, Some, None, refl, sym, subst}
use Rattle.guest_memory.specs.Memory.{Memory, is_inside, loaded_number}
use Rattle.guest_module.specs.Library.{importable, kind_at}
use Rattle.call_table.specs.declared.kind.Kind.{Kind}
use Rattle.call_table.specs.declared.kind.Kind.TheVariants as kind
use Rattle.call_table.specs.Table.{kind_named}
use Rattle.guest_process.specs.GoesOn.{call_of_site}
use Rattle.guest_process.specs.Kinds.{reply_value}
use Rattle.lib_calls.specs.declared.entry.Call.{Call}
use Rattle.wasm_types.specs.declared.code.Value.{Value}
use Rattle.wasm_types.specs.declared.code.Value.TheVariants.{I32, I64}
use Rattle.wasm_types.specs.declared.traps.Trap.TheVariants.{Exhausted, MemoryRange}
use Rattle.wasm_types.specs.Code.{Tree, Trees, End, Then, If, Loop, Br, CallFunc, DropTop, LocalGet, LocalSet, Load, Store as StoreIn, ConstI32, ConstI64, Op}
use Rattle.wasm_types.specs.Modules.{Module}
use Rattle.wasm_stack.specs.declared.call.CallSite.{CallSite}
use Rattle.wasm_stack.specs.After.{AfterStep, Goes, Halt, Stops, Calls, Sticks, at_trap, limited_thread}
use Rattle.wasm_stack.specs.Control.{on_test, with_result}
use Rattle.wasm_stack.specs.Rows.{got, put_computed}
use Rattle.wasm_stack.specs.Thread.{Level, Thread, fits_limits, levels_left, with_operand}
use Rattle.wasm_values.specs.Access.{load_value, load_width, store_width}
use Rattle.wasm_values.specs.Numeric.{Computed, Gives, Fails, IsNone, binary, is_unary, unary}
use Rattle.wasm_values.specs.Values.{bits_of}
use Rattle.wasm_store.specs.Store.{Store}
use Rattle.wasm_step.specs.Burst.{At, BurstResult, after_step, burst, settle, settle_by}
use Rattle.wasm_step.specs.Reduce.{ThreadAndStore, call, instr_row, load_at, read_at, write_at}
use Rattle.drill_command.specs.Ring.{add_32, add_64, and_32, call_send, eqz, instruction_sequence, load_64, ring_body, ring_hand_on, ring_module, ring_send_first, store_64}

-- ---- where a process waits

-- a place in the function: what a branch to the innermost level begins, and whether that is a loop; the levels around it; and the local
record Place : Type 0 where
  target : Trees
  loops : Bool
  outer : List Level
  local : Value

-- a thread there, with this code before it and these operands
abbrev at : Place → Trees → List Value → Thread
at p code stack = record {
  gives = None;
  todo = code;
  stack = stack;
  target = p.target;
  carries = false;
  loops = p.loops;
  outer = p.outer;
  func = 3;
  locals = p.local ∷ [];
  returns = false;
  callers = [];
}

-- outside of each block
abbrev outermost : Value → Place
outermost v = record { target = End; loops = false; outer = []; local = v }

abbrev around : Trees → Level
around code = record { gives = None; todo = code; stack = []; target = End; carries = false; loops = false }

abbrev then_loop : Trees
then_loop = Then (Loop None ring_hand_on) End

abbrev in_choice : Value → Place
in_choice v = record { target = then_loop; loops = false; outer = around then_loop ∷ []; local = v }

abbrev in_loop : Value → Place
in_loop v = record { target = ring_hand_on; loops = true; outer = around End ∷ []; local = v }

-- what is left of the code after its calls
abbrev after_me : Trees
after_me = instruction_sequence (LocalSet 0 ∷ LocalGet 0 ∷ eqz ∷ If None ring_send_first End ∷ Loop None ring_hand_on ∷ [])

abbrev after_recv : Trees
after_recv = instruction_sequence (
    DropTop
    ∷ ConstI32 64 ∷ ConstI32 64 ∷ load_64 ∷ ConstI64 1 ∷ add_64 ∷ store_64
    ∷ ConstI32 1024 ∷ ConstI32 1024 ∷ load_64 ∷ ConstI64 1 ∷ add_64 ∷ store_64
    ∷ LocalGet 0 ∷ ConstI32 1 ∷ add_32 ∷ ConstI32 3 ∷ and_32 ∷ ConstI32 64 ∷ ConstI32 8 ∷ call_send ∷ DropTop
    ∷ Br 0 ∷ [])

abbrev after_send : Trees
after_send = instruction_sequence (DropTop ∷ Br 0 ∷ [])

-- the five: before all code, at `me`, at the first `send`, at `recv`, and at the `send` of the loop. From there on the local stays
pub data Point : Type 0 where
  Starts : Point
  AsksNumber : Point
  SendsFirst : Value → Point
  Waits : Value → Point
  HandsOn : Value → Point

abbrev pub thread_of : Point → Thread
thread_of Starts = at (outermost (I32 0)) ring_body []
thread_of AsksNumber = at (outermost (I32 0)) after_me []
thread_of (SendsFirst v) = at (in_choice v) (Then DropTop End) []
thread_of (Waits v) = at (in_loop v) after_recv []
thread_of (HandsOn v) = at (in_loop v) after_send []

abbrev pub kind_of : Point → Kind
kind_of Starts = kind.Begin
kind_of AsksNumber = kind.Me
kind_of (SendsFirst v) = kind.Send
kind_of (Waits v) = kind.Recv
kind_of (HandsOn v) = kind.Send

-- a call names 8 bytes, if any
abbrev pub IsShortCall : Kind → Call → Type 0
IsShortCall kind.Begin c = Unit {0}
IsShortCall kind.Me c = Unit {0}
IsShortCall kind.Send c = c.a2 ≡ 8
IsShortCall kind.Recv c = c.a1 ≡ 8
IsShortCall _ c = ⊥

-- ---- what a burst comes to

-- a thread that is at one of the five, and its call
pub record IsAtPoint (t : Thread) (site : CallSite) : Type 0 where
  pub point : Point
  pub thread : t ≡ thread_of point
  pub kind : kind_at ring_module site.func ≡ Some (kind_of point)
  pub short : IsShortCall (kind_of point) (call_of_site (kind_of point) site)

-- where it stops at a call, that is one of these
abbrev pub IsRingStop : Halt → Type 0
IsRingStop (Calls t site) = IsAtPoint t site
IsRingStop _ = Unit {0}

pub record StopsWell (r : BurstResult) : Type 0 where
  pub stop : IsRingStop r.stop
  pub «module» : r.store.«module» ≡ ring_module

pub record Runs (t : Thread) : Type 0 where
  pub stops : (n : ℕ) (g : Store) → g.«module» ≡ ring_module → StopsWell (burst n t g)

abbrev GoesWell : AfterStep → Type 0
GoesWell (Goes t) = Runs t
GoesWell (Stops s) = IsRingStop s

record StepsWell (r : ThreadAndStore) : Type 0 where
  after : GoesWell r.after
  «module» : r.store.«module» ≡ ring_module

-- ---- one instruction

went : (a : AfterStep) (g : Store) → GoesWell a → g.«module» ≡ ring_module → (n : ℕ) → StopsWell (after_step a g (burst n))
went (Goes t) g well is n = well.stops n g is
went (Stops s) g well is n = record { stop = well; «module» = is }

limited : (a : AfterStep) → GoesWell a → GoesWell (limited_thread a)
limited (Stops s) well = well
limited (Goes t) well = within (fits_limits t)
  where
    within : (b : Bool) → GoesWell (cond b (Goes t) (at_trap t Exhausted))
    within true = well
    within false = tt

next : (t t' : Thread) (i : Tree) → settle t ≡ At i t' → ((g : Store) → g.«module» ≡ ring_module → StepsWell (instr_row i t' g)) → Runs t
unfolding burst
next t t' i settled row = record { stops = stops }
  where
    stops : (n : ℕ) (g : Store) → g.«module» ≡ ring_module → StopsWell (burst n t g)
    stops zero g is = rw settled (record { stop = tt; «module» = is })
    stops (suc n) g is = let r = row g is in rw settled (went (limited_thread (instr_row i t' g).after) (instr_row i t' g).store (limited (instr_row i t' g).after r.after) r.«module» n)

-- the same of a thread at an instruction
steps : (p : Place) (i : Tree) (rest : Trees) (stack : List Value) → ((g : Store) → g.«module» ≡ ring_module → StepsWell (instr_row i (at p rest stack) g)) → Runs (at p (Then i rest) stack)
steps p i rest stack = next (at p (Then i rest) stack) (at p rest stack) i (settled (levels_left (at p (Then i rest) stack)))
  where
    settled : (n : ℕ) → settle_by n (at p (Then i rest) stack) ≡ At i (at p rest stack)
    settled zero = refl
    settled (suc n) = refl

computed : (c : Computed) (t : Thread) → ((v : Value) → Runs (with_operand t v)) → GoesWell (put_computed c t)
computed (Gives v) t runs = runs v
computed (Fails trap) t runs = tt
computed IsNone t runs = tt

got_well : (o : Option Value) (t : Thread) → ((v : Value) → Runs (with_operand t v)) → GoesWell (got o t)
got_well None t runs = tt
got_well (Some v) t runs = runs v

read_well : (o : Option ℕ) (op : ℕ) (t : Thread) → ((v : Value) → Runs (with_operand t v)) → GoesWell (read_at o op t)
read_well None op t runs = tt
read_well (Some n) op t runs = got_well (load_value op n) t runs

load_well : (o : Option ℕ) (op addr : ℕ) (memory : Memory) (t : Thread) → ((v : Value) → Runs (with_operand t v)) → GoesWell (load_at o op addr memory t)
load_well None op addr memory t runs = tt
load_well (Some width) op addr memory t runs = read_well (loaded_number memory addr width) op t runs

store_well : (o : Option ℕ) (addr bits : ℕ) (g : Store) (t : Thread) → g.«module» ≡ ring_module → Runs t → StepsWell (write_at o addr bits g t)
store_well None addr bits g t is runs = record { after = tt; «module» = is }
store_well (Some width) addr bits g t is runs = record { after = within (is_inside g.memory addr width); «module» = is }
  where
    within : (b : Bool) → GoesWell (cond b (Goes t) (at_trap t MemoryRange))
    within true = runs
    within false = tt

chosen : (b c : Bool) (one other : AfterStep) → b ≡ c → GoesWell (cond c one other) → GoesWell (cond b one other)
chosen b c one other is well = rw is well

-- ---- code without branches

-- what is left to be shown, of code that a thread has before it, where each number that it computes or loads may be any
abbrev Comes : Place → Trees → List Value → Type 0
Comes p (Then DropTop rest) (x ∷ stack) = Comes p rest stack
Comes p (Then (ConstI32 n) rest) stack = Comes p rest (I32 n ∷ stack)
Comes p (Then (ConstI64 n) rest) stack = Comes p rest (I64 n ∷ stack)
Comes p (Then (LocalGet zero) rest) stack = Comes p rest (p.local ∷ stack)
Comes p (Then (LocalSet zero) rest) (x ∷ stack) = Comes (record p { local = x }) rest stack
Comes p (Then (Load op align offset) rest) (I32 a ∷ stack) = (v : Value) → Comes p rest (v ∷ stack)
Comes p (Then (StoreIn op align offset) rest) (x ∷ I32 a ∷ stack) = Comes p rest stack
Comes p (Then (Op op) rest) (x ∷ []) = (is_unary op ≡ true) × ((v : Value) → Comes p rest (v ∷ []))
Comes p (Then (Op op) rest) (y ∷ x ∷ stack) = (is_unary op ≡ false) × ((v : Value) → Comes p rest (v ∷ stack))
Comes p code stack = Runs (at p code stack)

comes : (p : Place) (code : Trees) (stack : List Value) → Comes p code stack → Runs (at p code stack)
comes p (Then DropTop rest) (x ∷ stack) h = steps p DropTop rest (x ∷ stack) (λ g is. record { after = comes p rest stack h; «module» = is })
comes p (Then (ConstI32 n) rest) stack h = steps p (ConstI32 n) rest stack (λ g is. record { after = comes p rest (I32 n ∷ stack) h; «module» = is })
comes p (Then (ConstI64 n) rest) stack h = steps p (ConstI64 n) rest stack (λ g is. record { after = comes p rest (I64 n ∷ stack) h; «module» = is })
comes p (Then (LocalGet zero) rest) stack h = steps p (LocalGet zero) rest stack (λ g is. record { after = comes p rest (p.local ∷ stack) h; «module» = is })
comes p (Then (LocalSet zero) rest) (x ∷ stack) h = steps p (LocalSet zero) rest (x ∷ stack) (λ g is. record { after = comes (record p { local = x }) rest stack h; «module» = is })
comes p (Then (Load op align offset) rest) (I32 a ∷ stack) h =
    steps p (Load op align offset) rest (I32 a ∷ stack) (λ g is. record { after = load_well (load_width op) op (a + offset) g.memory (at p rest stack) (λ v. comes p rest (v ∷ stack) (h v)); «module» = is })
comes p (Then (StoreIn op align offset) rest) (x ∷ I32 a ∷ stack) h =
    steps p (StoreIn op align offset) rest (x ∷ I32 a ∷ stack) (λ g is. store_well (store_width op x) (a + offset) (bits_of (Some x)) g (at p rest stack) is (comes p rest stack h))
comes p (Then (Op op) rest) (x ∷ []) h =
    steps p (Op op) rest (x ∷ []) (λ g is. record {
      after = chosen (is_unary op) true (put_computed (unary op x) (at p rest [])) (Stops Sticks) h.0 (computed (unary op x) (at p rest []) (λ v. comes p rest (v ∷ []) (h.1 v)));
      «module» = is;
    })
comes p (Then (Op op) rest) (y ∷ x ∷ stack) h =
    steps p (Op op) rest (y ∷ x ∷ stack) (λ g is. record {
      after = chosen (is_unary op) false (put_computed (unary op y) (at p rest (x ∷ stack))) (put_computed (binary op x y) (at p rest stack)) h.0 (computed (binary op x y) (at p rest stack) (λ v. comes p rest (v ∷ stack) (h.1 v)));
      «module» = is;
    })
comes p code stack h = h

-- ---- the code of the ring

calls : (p : Place) (f : ℕ) (rest : Trees) (stack : List Value) → GoesWell (call ring_module f (at p rest stack)) → Runs (at p (Then (CallFunc f) rest) stack)
calls p f rest stack well = steps p (CallFunc f) rest stack (λ g is. record { after = subst (λ (m : Module). GoesWell (call m f (at p rest stack))) (sym is) well; «module» = is })

-- the loop, from its start
waits : (v : Value) → Runs (at (in_loop v) ring_hand_on [])
unfolding importable kind_named
waits v = comes (in_loop v) ring_hand_on [] (calls (in_loop v) 2 after_recv (I32 32 ∷ I32 8 ∷ I32 64 ∷ []) (record { point = Waits v; thread = refl; kind = refl; short = refl }))

loops_again : (v : Value) → Runs (at (in_loop v) (Then (Br 0) End) [])
loops_again v = steps (in_loop v) (Br 0) End [] (λ g is. record { after = waits v; «module» = is })

hands_on : (v x : Value) → Runs (at (in_loop v) after_recv (x ∷ []))
unfolding importable kind_named is_unary
hands_on v x = comes (in_loop v) after_recv (x ∷ []) (λ a. (
  refl,
  λ b c. (
    refl,
    λ d. (
      refl,
      λ e. (
        refl,
        λ f.
            calls (in_loop v) 1 after_send (I32 8 ∷ I32 64 ∷ f ∷ []) (record { point = HandsOn v; thread = refl; kind = refl; short = refl }),
      ),
    ),
  ),
))

-- what is before it
begins_loop : (v : Value) → Runs (at (in_choice v) End [])
begins_loop v = next (at (in_choice v) End []) (at (outermost v) End []) (Loop None ring_hand_on) refl (λ g is. record { after = waits v; «module» = is })

sends_first : (v : Value) → Runs (at (in_choice v) ring_send_first [])
unfolding importable kind_named
sends_first v = comes (in_choice v) ring_send_first [] (calls (in_choice v) 1 (Then DropTop End) (I32 8 ∷ I32 64 ∷ I32 1 ∷ []) (record { point = SendsFirst v; thread = refl; kind = refl; short = refl }))

chooses : (v x : Value) → Runs (at (outermost v) (Then (If None ring_send_first End) then_loop) (x ∷ []))
chooses v x = steps (outermost v) (If None ring_send_first End) then_loop (x ∷ []) (λ g is. record { after = by_test x; «module» = is })
  where
    by_test : (x : Value) → GoesWell (on_test x (Goes (at (in_choice v) End [])) (Goes (at (in_choice v) ring_send_first [])))
    by_test (I64 n) = tt
    by_test (I32 zero) = begins_loop v
    by_test (I32 (suc n)) = sends_first v

asked : (x : Value) → Runs (at (outermost (I32 0)) after_me (x ∷ []))
unfolding is_unary
asked x = comes (outermost (I32 0)) after_me (x ∷ []) (refl, λ v. chooses x v)

starts : Runs (at (outermost (I32 0)) ring_body [])
unfolding importable kind_named
starts = calls (outermost (I32 0)) 0 after_me [] (record { point = AsksNumber; thread = refl; kind = refl; short = tt })

-- with the reply to the call at which it waits, a process goes on well
pub runs_on : (p : Point) (reply : ℕ) → Runs (with_result (reply_value (kind_of p) reply) (thread_of p))
runs_on Starts reply = starts
runs_on AsksNumber reply = asked (I32 (reply % 2 ^ 32))
runs_on (SendsFirst v) reply = comes (in_choice v) (Then DropTop End) (I32 (reply % 2 ^ 32) ∷ []) (begins_loop v)
runs_on (Waits v) reply = hands_on v (I32 (reply % 2 ^ 32))
runs_on (HandsOn v) reply = comes (in_loop v) after_send (I32 (reply % 2 ^ 32) ∷ []) (loops_again v)
