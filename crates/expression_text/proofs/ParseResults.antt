-- What parsing gives, from what the machine reads.
use Rattle.std.proofs.Common.{◌≡◌, ℕ, zero, suc, ◌+◌, ◌-◌, ◌<◌, ◌≤◌, List, [], ◌∷◌, ◌++◌, length, take, drop, slice_get, Option, Some, None, Result, Ok, Err, refl, sym, ap, ◌∙◌, subst, arith, length-drop}
use Rattle.std.proofs.lemmas.Option.{slice_get_within}
use Rattle.expression_text.specs.declared.error.ExprError.{ExprError}
use Rattle.expression_text.specs.declared.error.ExprError.TheVariants.{Syntax, NoNode, TooDeep, Nested, NoMemory}
use Rattle.expression_text.specs.declared.expr.Expr.{Expr}
use Rattle.expression_text.specs.declared.stack.Frame.{Frame}
use Rattle.expression_text.specs.declared.stack.Mode.{Mode}
use Rattle.expression_text.specs.declared.stack.Step.{Step}
use Rattle.expression_text.specs.declared.stack.Step.TheVariants as stepped
use Rattle.expression_text.specs.Expression.{Expression, expression_of}
use Rattle.expression_text.specs.Lexing.{LexedLine, token_texts}
use Rattle.expression_text.specs.Grammar.{IsExpr, TakesExpr, ParsedExpr}
use Rattle.expression_text.specs.Machine.{MachineState, Want, machine_step, machine_steps, whole}
use Rattle.expression_text.specs.inside.Frames.{machine_state, FinishesReading, TakesToken}
use Rattle.expression_text.proofs.MachineReads.{Stands, steps_append, steps_keep, stands_begins, whole_says, whole_again, begins_reads}

-- ---- lists

get-drop : (ts : List (List ℕ)) (from n : ℕ) → slice_get (drop from ts) n ≡ slice_get ts (from + n)
get-drop ts zero n = ap (slice_get ts) (let e : n ≡ 0 + n = omega arith in e)
get-drop [] (suc from) n = refl
get-drop (t ∷ ts) (suc from) n = let e : suc from + n ≡ suc (from + n) = omega arith in get-drop ts from n ∙ rw e refl

take-more : (ts : List (List ℕ)) (n : ℕ) (t : List ℕ) → slice_get ts n ≡ Some t → take (suc n) ts ≡ take n ts ++ t ∷ []
take-more [] n t e = absurd cc
take-more (u ∷ ts) zero t e = ap (λ (w : List ℕ). w ∷ []) (let i : u ≡ t = cc in i)
take-more (u ∷ ts) (suc n) t e = ap (λ (us : List (List ℕ)). u ∷ us) (take-more ts n t e)

missing : (ts : List (List ℕ)) (n : ℕ) → slice_get ts n ≡ None → n < length ts → ⊥
missing [] n e lt = omega arith
missing (t ∷ ts) zero e lt = cc
missing (t ∷ ts) (suc n) e lt = missing ts n e (omega arith)

-- one more token after the one at which reading began
taken-more : (ts : List (List ℕ)) (from at : ℕ) (t : List ℕ) → from ≤ at → slice_get ts at ≡ Some t → take (at - from + 1) (drop from ts) ≡ take (at - from) (drop from ts) ++ t ∷ []
taken-more ts from at t le e =
    let place : from + (at - from) ≡ at = omega arith in
    let one : at - from + 1 ≡ suc (at - from) = omega arith in
    ap (λ (n : ℕ). take n (drop from ts)) one
    ∙ take-more (drop from ts) (at - from) t (get-drop ts from (at - from) ∙ ap (slice_get ts) place ∙ e)

-- no token follows the last one
past : (ts : List (List ℕ)) (from at : ℕ) → from ≤ at → slice_get ts at ≡ None → at - from < length (drop from ts) → ⊥
past ts from at le e lt = missing ts at e (omega (arith, length-drop from ts))

finishes_as : (line : LexedLine) (a b : MachineState) (at : ℕ) (result : Result (Expr × ℕ) ExprError) → whole a ≡ whole b → FinishesReading line a at result → FinishesReading line b at result
finishes_as line a b at (Ok r) e f = (sym e ∙ f.0, f.1)
finishes_as line a b at (Err (Syntax column)) e f = (sym e ∙ f.0, f.1)
finishes_as line a b at (Err NoNode) e f = f
finishes_as line a b at (Err TooDeep) e f = f
finishes_as line a b at (Err Nested) e f = f
finishes_as line a b at (Err NoMemory) e f = tt

module _ (names : List (List ℕ)) where
  -- the tokens from one number on and below another led to the state
  pub record Reached (ts : List (List ℕ)) (from at : ℕ) (st : MachineState) : Type 0 where
    pub below : from ≤ at
    pub within : at - from ≤ length (drop from ts)
    pub reads : machine_steps names (Some (Want [])) (take (at - from) (drop from ts)) ≡ Some st

  -- and the next one, if any, goes on with no expression
  pub record Stops (ts : List (List ℕ)) (from at : ℕ) (st : MachineState) : Type 0 where
    pub reached : Reached ts from at st
    pub refused : at - from < length (drop from ts) → machine_steps names (Some (Want [])) (take (at - from + 1) (drop from ts)) ≡ None

  takes : (ts : List (List ℕ)) (from at : ℕ) (st : MachineState) → Stops ts from at st → TakesExpr names (drop from ts) (at - from)
  takes ts from at st h =
      let stands : Stands names (Want []) [] = refl in
      record {
        within = h.reached.within;
        begins = stands_begins names st _ (steps_keep names (Want []) [] _ st stands h.reached.reads);
        longest = λ lt b.
            let r = begins_reads names _ b in
            let e : ◌≡◌ {A = Option MachineState} (Some r.0) None = sym r.1 ∙ h.refused lt in absurd cc;
      }

  spelled : (ts : List (List ℕ)) (from at : ℕ) (st : MachineState) (x : Expression) → Stops ts from at st → whole st ≡ Some x → IsExpr names (take (at - from) (drop from ts)) x
  spelled ts from at st x h w =
      let stands : Stands names (Want []) [] = refl in
      whole_says names st _ x (steps_keep names (Want []) [] _ st stands h.reached.reads) w

  none : (ts : List (List ℕ)) (from at : ℕ) (st : MachineState) → Stops ts from at st → whole st ≡ None → (x : Expression) → IsExpr names (take (at - from) (drop from ts)) x → ⊥
  none ts from at st h w x s =
      let again = whole_again names _ x s in
      let same : ◌≡◌ {A = Option MachineState} (Some again.0) (Some st) = sym again.1 ∙ h.reached.reads in
      let i : again.0 ≡ st = cc in
      let e : ◌≡◌ {A = Option Expression} (Some x) None = sym again.2 ∙ ap whole i ∙ w in cc

  pub parsed : (line : LexedLine) (from at : ℕ) (st : MachineState) (result : Result (Expr × ℕ) ExprError) → Stops (token_texts line) from at st → FinishesReading line st at result → ParsedExpr names line from result
  parsed line from at st (Ok r) h f =
      let ts = token_texts line in
      subst (λ (n : ℕ). (from ≤ n) × TakesExpr names (drop from ts) (n - from) × IsExpr names (take (n - from) (drop from ts)) (expression_of r.0)) (sym f.1) (h.reached.below, takes ts from at st h, spelled ts from at st (expression_of r.0) h f.0)
  parsed line from at st (Err (Syntax column)) h f = (at, f.1, h.reached.below, takes (token_texts line) from at st h, none (token_texts line) from at st h f.0)
  parsed line from at st (Err NoNode) h f = f
  parsed line from at st (Err TooDeep) h f = f
  parsed line from at st (Err Nested) h f = f
  parsed line from at st (Err NoMemory) h f = tt

  -- ---- the loop

  only : (o : Option MachineState) → machine_steps names o [] ≡ o
  only None = refl
  only (Some st) = refl

  -- nothing was read
  pub begun : (ts : List (List ℕ)) (from : ℕ) → Reached ts from from (Want [])
  begun ts from =
      let zero_long : from - from ≡ 0 = omega arith in
      record {
        below = omega arith;
        within = omega arith;
        reads = ap (λ (n : ℕ). machine_steps names (Some (Want [])) (take n (drop from ts))) zero_long;
      }

  reads_more : (ts : List (List ℕ)) (from at : ℕ) (t : List ℕ) (st : MachineState) → Reached ts from at st → slice_get ts at ≡ Some t → machine_steps names (Some (Want [])) (take (at - from + 1) (drop from ts)) ≡ machine_step names st t
  reads_more ts from at t st h e =
      ap (machine_steps names (Some (Want []))) (taken-more ts from at t h.below e)
      ∙ steps_append names (Some (Want [])) (take (at - from) (drop from ts)) (t ∷ [])
      ∙ ap (λ (o : Option MachineState). machine_steps names o (t ∷ [])) h.reads
      ∙ only (machine_step names st t)

  -- the token was taken
  pub went_on : (ts : List (List ℕ)) (from at : ℕ) (t : List ℕ) (old : MachineState) (fs : List Frame) (r : Step) (m : Mode) → Reached ts from at old → slice_get ts at ≡ Some t → r ≡ stepped.Next m → TakesToken names old t fs r → Reached ts from (at + 1) (machine_state fs m)
  went_on ts from at t old fs r m h e is s =
      let next : machine_step names old t ≡ Some (machine_state fs m) = subst (λ (q : Step). TakesToken names old t fs q) is s in
      let place : at + 1 - from ≡ at - from + 1 = omega (arith, h.below) in
      record {
        below = omega (arith, h.below);
        within = omega (arith, h.below, length-drop from ts, slice_get_within ts at t e);
        reads = ap (λ (n : ℕ). machine_steps names (Some (Want [])) (take n (drop from ts))) place ∙ reads_more ts from at t old h e ∙ next;
      }

  -- and here it was not
  pub stopped : (line : LexedLine) (from at : ℕ) (t : List ℕ) (old : MachineState) (fs : List Frame) (r : Step) (m : Mode) (result : Result (Expr × ℕ) ExprError) → Reached (token_texts line) from at old → slice_get (token_texts line) at ≡ Some t → r ≡ stepped.Refused m → TakesToken names old t fs r → FinishesReading line (machine_state fs m) at result → ParsedExpr names line from result
  stopped line from at t old fs r m result h e is s f =
      let both : (machine_step names old t ≡ None) × (whole (machine_state fs m) ≡ whole old) = subst (λ (q : Step). TakesToken names old t fs q) is s in
      parsed line from at old result (record { reached = h; refused = λ lt. reads_more (token_texts line) from at t old h e ∙ both.0 }) (finishes_as line (machine_state fs m) old at result both.1 f)

  -- all tokens were read
  pub all_taken : (line : LexedLine) (from at : ℕ) (st : MachineState) (result : Result (Expr × ℕ) ExprError) → Reached (token_texts line) from at st → slice_get (token_texts line) at ≡ None → FinishesReading line st at result → ParsedExpr names line from result
  all_taken line from at st result h e f =
      parsed line from at st result (record { reached = h; refused = λ lt. absurd (past (token_texts line) from at h.below e lt) }) f
