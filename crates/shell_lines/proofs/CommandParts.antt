-- The parts of commands that are expressions and programs, and the counts and conditions that may be left out.
use Rattle.std.proofs.Common.{◌≡◌, ℕ, suc, ◌+◌, ◌-◌, ◌<◌, ◌≤◌, Bool, true, false, cond, if◌then◌else◌, nat_le, List, [], ◌∷◌, ◌++◌, length, take, drop, Option, Some, None, Result, Ok, Err, inl, inr, bytes_eq, refl, sym, ap, ◌∙◌, subst, append_assoc, append-nil, add-one, arith}
use Rattle.std.proofs.Math.Seq.{drop-append_seam, take-append_seam}
use Rattle.std.proofs.lemmas.Bool.Decides.{leb_tells}
use Rattle.std.proofs.lemmas.List.{length-append}
use Rattle.std.proofs.lemmas.Slice.Eq.{bytes_eq-Decides}
use Rattle.std.specs.Prelude.{codes}
use Rattle.expression_text.specs.Computed.{begins_some_expression, expression_spelled, viable_tokens}
use Rattle.expression_text.specs.Expression.{Expression, Var}
use Rattle.expression_text.specs.Grammar.{BeginsExpr, IsExpr, higher, variable}
use Rattle.expression_text.specs.Laws.{ExactReading}
use Rattle.point_programs.specs.Grammar.{BeginsProgram, NoProgramGoesOn, IsProgram, last, stop}
use Rattle.point_programs.specs.Laws.{ExactPrograms}
use Rattle.point_programs.specs.Reading.{program_of}
use Rattle.point_programs.specs.Tree.{End, Statements, Stop as StopStatement, Then as ThenStatement}
use Rattle.shell_lines.specs.Grammar.{IsCondition, left_out, given}
use Rattle.shell_lines.specs.Lines.{LineCommand, condition_from, count_or, ends_at, expression_from, expression_or_at, located_program, number_from, program_from, sign_of, then_takes, token_at}
use Rattle.shell_lines.proofs.TokenForms.{Ends, Form, Maybe, Stop, Then, Tokens, as_form, ends_form, maybe_form, retold, then_form}

pub same_bytes : (a b : List ℕ) → bytes_eq a b ≡ true → a ≡ b
same_bytes a b e = (bytes_eq-Decides a b).0 e

-- the word itself, where it passes
pub passed : {A : Type 0} (b : Bool) (a c : A) → cond b (Some a) None ≡ Some c → (b ≡ true) × (a ≡ c)
passed true a c e = (refl, cc)
passed false a c e = absurd cc

pub sign_is : (sign text found : List ℕ) → sign_of sign text ≡ Some found → text ≡ sign
sign_is sign text found e = same_bytes text sign (passed (bytes_eq text sign) text found e).0

pub drop_front : (front rest : Tokens) (k : ℕ) → length front ≡ k → drop k (front ++ rest) ≡ rest
drop_front front rest k here = subst (λ (n : ℕ). drop n (front ++ rest) ≡ rest) here (drop-append_seam front rest)

-- ---- expressions

-- they are an expression, which makes the command
abbrev pub Value : Tokens → (Expression → LineCommand) → Tokens → LineCommand → Type 0
Value names command ts c = (x : Expression) × IsExpr names ts x × (command x ≡ c)

-- so many of the tokens begin some expression after those before, and no more do
pub record Takes (names before ts : Tokens) (n : ℕ) : Type 0 where
  pub within : n ≤ length ts
  pub begins : BeginsExpr names (before ++ take n ts)
  pub longest : n < length ts → BeginsExpr names (before ++ take (suc n) ts) → ⊥

module _ (law : ExactReading) (names : Tokens) where
  abbrev more_taken : Tokens → List ℕ → Tokens → ℕ
  more_taken before t ts = viable_tokens names (before ++ t ∷ []) ts

  takes_by : (before : Tokens) (t : List ℕ) (ts : Tokens) → BeginsExpr names before → (b : Bool) → begins_some_expression names (before ++ t ∷ []) ≡ b
      → (BeginsExpr names (before ++ t ∷ []) → Takes names (before ++ t ∷ []) ts (more_taken before t ts)) → Takes names before (t ∷ ts) (cond b (suc (more_taken before t ts)) 0)
  takes_by before t ts begun true e rest =
      let n = more_taken before t ts in
      let h = rest ((law.begins names (before ++ t ∷ [])).0 e) in
      record {
        within = omega (arith, h.within);
        begins = subst (λ (us : Tokens). BeginsExpr names us) (append_assoc before (t ∷ []) (take n ts)) h.begins;
        longest = λ lt b. h.longest (omega (arith, lt)) (subst (λ (us : Tokens). BeginsExpr names us) (sym (append_assoc before (t ∷ []) (take (suc n) ts))) b);
      }
  takes_by before t ts begun false e rest = record {
    within = omega arith;
    begins = subst (λ (us : Tokens). BeginsExpr names us) (sym (append-nil before)) begun;
    longest = λ lt b. let never : ◌≡◌ {A = Bool} true false = sym ((law.begins names (before ++ t ∷ [])).1 b) ∙ e in cc;
  }

  pub takes : (before ts : Tokens) → BeginsExpr names before → Takes names before ts (viable_tokens names before ts)
  takes before [] begun = record { within = omega arith; begins = subst (λ (us : Tokens). BeginsExpr names us) (sym (append-nil before)) begun; longest = λ lt. absurd (omega (arith, lt)) }
  takes before (t ∷ ts) begun = takes_by before t ts begun (begins_some_expression names (before ++ t ∷ [])) refl (λ more. takes (before ++ t ∷ []) ts more)

  pub some_variable : IsExpr names (codes "$" ∷ codes "a" ∷ []) (Var (codes "a"))
  some_variable = higher (higher (higher (higher (higher (higher (variable (codes "a") refl))))))

  module _ (k : ℕ) (command : Expression → LineCommand) where
    abbrev value_reader : Tokens → Result LineCommand ℕ
    value_reader ts = then_takes (expression_from names ts k) (λ x. Ok (command x))

    value_is : (front rest : Tokens) (o : Option Expression) → length front ≡ k → expression_spelled names rest ≡ o
        → value_reader (front ++ rest) ≡ then_takes (expression_or_at (k + viable_tokens names [] rest) o) (λ x. Ok (command x))
    value_is front rest o here e =
        ap (λ (us : Tokens). then_takes (expression_or_at (k + viable_tokens names [] us) (expression_spelled names us)) (λ x. Ok (command x))) (drop_front front rest k here)
        ∙ ap (λ (o : Option Expression). then_takes (expression_or_at (k + viable_tokens names [] rest) o) (λ x. Ok (command x))) e

    value_spells : (front rest : Tokens) (c : LineCommand) → length front ≡ k → value_reader (front ++ rest) ≡ Ok c → Value names command rest c
    value_spells front rest c here e = by (expression_spelled names rest) refl
      where
        by : (o : Option Expression) → expression_spelled names rest ≡ o → Value names command rest c
        by None is = let never : ◌≡◌ {A = Result LineCommand ℕ} (Err (k + viable_tokens names [] rest)) (Ok c) = sym (value_is front rest None here is) ∙ e in absurd cc
        by (Some x) is =
            let same : ◌≡◌ {A = Result LineCommand ℕ} (Ok (command x)) (Ok c) = sym (value_is front rest (Some x) here is) ∙ e in
            (x, (law.expressions names rest x).0 is, cc)

    value_reads : (front rest : Tokens) (c : LineCommand) → length front ≡ k → Value names command rest c → value_reader (front ++ rest) ≡ Ok c
    value_reads front rest c here r = value_is front rest (Some r.0) here ((law.expressions names rest r.0).1 r.1) ∙ ap (λ (d : LineCommand). Ok d) r.2

    value_stops : (front rest : Tokens) (n : ℕ) → length front ≡ k → value_reader (front ++ rest) ≡ Err n → (m : ℕ) × (n ≡ k + m) × Stop (Value names command) rest m
    value_stops front rest n here e = by (expression_spelled names rest) refl
      where
        by : (o : Option Expression) → expression_spelled names rest ≡ o → (m : ℕ) × (n ≡ k + m) × Stop (Value names command) rest m
        by (Some x) is = let never : ◌≡◌ {A = Result LineCommand ℕ} (Ok (command x)) (Err n) = sym (value_is front rest (Some x) here is) ∙ e in absurd cc
        by None is =
            let there : ◌≡◌ {A = Result LineCommand ℕ} (Err (k + viable_tokens names [] rest)) (Err n) = sym (value_is front rest None here is) ∙ e in
            let same : k + viable_tokens names [] rest ≡ n = cc in
            let h = takes [] rest (record { rest = codes "$" ∷ codes "a" ∷ []; whole = Var (codes "a"); spelled = some_variable }) in (
              viable_tokens names [] rest,
              sym same,
              record {
                within = h.within;
                more = h.begins.rest;
                whole = command h.begins.whole;
                begins = (h.begins.whole, h.begins.spelled, refl);
                longest = λ lt more c r. h.longest lt (record { rest = more; whole = r.0; spelled = r.1 });
              },
            )

    pub value_form : Form k (λ ts. then_takes (expression_from names ts k) (λ x. Ok (command x))) (Value names command)
    value_form = record { spells = value_spells; reads = value_reads; stops = value_stops; some = (codes "$" ∷ codes "a" ∷ [], command (Var (codes "a")), (Var (codes "a"), some_variable, refl)) }

-- ---- programs

pub front_taken : (front left : Tokens) → take (length front) (front ++ left) ≡ front
front_taken front left = take-append_seam front left

pub one_more : (front left : Tokens) (t : List ℕ) → take (suc (length front)) (front ++ t ∷ left) ≡ front ++ t ∷ []
one_more [] left t = refl
one_more (u ∷ front) left t = ap (λ (us : Tokens). u ∷ us) (one_more front left t)

-- they are a program, which makes the command
abbrev pub Body : Tokens → (Statements → LineCommand) → Tokens → LineCommand → Type 0
Body names command ts c = (p : Statements) × IsProgram names ts p × (command p ≡ c)

module _ (law : ExactPrograms) (names : Tokens) (k : ℕ) (command : Statements → LineCommand) where
  abbrev body_reader : Tokens → Result LineCommand ℕ
  body_reader ts = then_takes (program_from names ts k) (λ p. Ok (command p))

  body_is : (front rest : Tokens) (r : Result Statements Tokens) → length front ≡ k → program_of names rest ≡ r
      → body_reader (front ++ rest) ≡ then_takes (located_program (front ++ rest) r) (λ p. Ok (command p))
  body_is front rest r here e =
      ap (λ (us : Tokens). then_takes (located_program (front ++ rest) (program_of names us)) (λ p. Ok (command p))) (drop_front front rest k here)
      ∙ ap (λ (r : Result Statements Tokens). then_takes (located_program (front ++ rest) r) (λ p. Ok (command p))) e

  body_spells : (front rest : Tokens) (c : LineCommand) → length front ≡ k → body_reader (front ++ rest) ≡ Ok c → Body names command rest c
  body_spells front rest c here e = by (program_of names rest) refl
    where
      by : (r : Result Statements Tokens) → program_of names rest ≡ r → Body names command rest c
      by (Err left) is = let never : ◌≡◌ {A = Result LineCommand ℕ} (Err (length (front ++ rest) - length left)) (Ok c) = sym (body_is front rest (Err left) here is) ∙ e in absurd cc
      by (Ok p) is =
          let same : ◌≡◌ {A = Result LineCommand ℕ} (Ok (command p)) (Ok c) = sym (body_is front rest (Ok p) here is) ∙ e in
          (p, (law.programs names rest p).0 is, cc)

  body_reads : (front rest : Tokens) (c : LineCommand) → length front ≡ k → Body names command rest c → body_reader (front ++ rest) ≡ Ok c
  body_reads front rest c here r = body_is front rest (Ok r.0) here ((law.programs names rest r.0).1 r.1) ∙ ap (λ (d : LineCommand). Ok d) r.2

  -- a program that begins with these and one token more of those that are left
  body_longest : (front left : Tokens) → NoProgramGoesOn names front left → length front < length (front ++ left) → (more : Tokens) (c : LineCommand) → Body names command (take (suc (length front)) (front ++ left) ++ more) c → ⊥
  body_longest front [] stops lt more c r = absurd (omega (arith, lt, length-append front []))
  body_longest front (t ∷ left) stops lt more c r =
      stops (record { rest = more; whole = r.0; spelled = subst (λ (us : Tokens). IsProgram names (us ++ more) r.0) (one_more front left t) r.1 })

  body_stop : (front left : Tokens) → BeginsProgram names front → NoProgramGoesOn names front left → Stop (Body names command) (front ++ left) (length front)
  body_stop front left b stops = record {
    within = omega (arith, length-append front left);
    more = b.rest;
    whole = command b.whole;
    begins = (b.whole, subst (λ (us : Tokens). IsProgram names (us ++ b.rest) b.whole) (sym (front_taken front left)) b.spelled, refl);
    longest = body_longest front left stops;
  }

  body_stops : (front rest : Tokens) (n : ℕ) → length front ≡ k → body_reader (front ++ rest) ≡ Err n → (m : ℕ) × (n ≡ k + m) × Stop (Body names command) rest m
  body_stops front rest n here e = by (program_of names rest) refl
    where
      by : (r : Result Statements Tokens) → program_of names rest ≡ r → (m : ℕ) × (n ≡ k + m) × Stop (Body names command) rest m
      by (Ok p) is = let never : ◌≡◌ {A = Result LineCommand ℕ} (Ok (command p)) (Err n) = sym (body_is front rest (Ok p) here is) ∙ e in absurd cc
      by (Err left) is =
          let there : ◌≡◌ {A = Result LineCommand ℕ} (Err (length (front ++ rest) - length left)) (Err n) = sym (body_is front rest (Err left) here is) ∙ e in
          let same : length (front ++ rest) - length left ≡ n = cc in
          let h = (law.stops names rest left).0 is in
          let long : length rest ≡ length h.front + length left = ap (λ (us : Tokens). length us) h.parts ∙ length-append h.front left in (
            length h.front,
            omega (arith, same, long, here, length-append front rest),
            subst (λ (us : Tokens). Stop (Body names command) us (length h.front)) (sym h.parts) (body_stop h.front left h.begins h.stops),
          )

  pub body_form : Form k (λ ts. then_takes (program_from names ts k) (λ p. Ok (command p))) (Body names command)
  body_form = record { spells = body_spells; reads = body_reads; stops = body_stops; some = (codes "stop" ∷ [], command (ThenStatement StopStatement End), (ThenStatement StopStatement End, last stop, refl)) }

-- ---- what may be left out

-- none, or a number in a range
abbrev pub Count : ℕ → ℕ → LineCommand → (ℕ → LineCommand) → Tokens → LineCommand → Type 0
Count least most absent command = Maybe absent (Then (number_from least most) (λ n. Ends (command n)))

module _ (least most : ℕ) (absent : LineCommand) (command : ℕ → LineCommand) (sample : List ℕ) (n : ℕ) (counts : number_from least most sample ≡ Some n) where
  abbrev counted : Tokens → Result LineCommand ℕ
  counted ts = then_takes (token_at (number_from least most) ts 1) (λ n. ends_at ts 2 (command n))

  pub count_form : Form 1 (λ ts. if nat_le (length ts) 1 then Ok absent else counted ts) (Count least most absent command)
  count_form =
      maybe_form 1 absent counted (Then (number_from least most) (λ n. Ends (command n))) (λ c r. r)
      (then_form ℕ (number_from least most) (λ n ts. ends_at ts 2 (command n)) 1 (λ n. Ends (command n)) (λ n. ends_form 2 (command n)) sample n counts)

-- a count that is absent is as one that is given
counts_as : (ts : Tokens) (absent : ℕ) (r : Result ℕ ℕ) (command : ℕ → LineCommand) (b : Bool) → nat_le (length ts) 1 ≡ b
    → then_takes (cond b (Ok absent) r) (λ n. ends_at ts 2 (command n)) ≡ cond b (Ok (command absent)) (then_takes r (λ n. ends_at ts 2 (command n)))
counts_as ts absent r command false is = refl
counts_as ts absent r command true is = elim (leb_tells (length ts) 2) [
  | inl t ↦ ap (λ (b : Bool). cond b (Ok (command absent)) (Err 2)) t.0
  | inr f ↦ elim (leb_tells (length ts) 1) [ inl t ↦ absurd (omega (arith, t.1, f.1)) | inr g ↦ let never : ◌≡◌ {A = Bool} true false = sym is ∙ g.0 in absurd cc ]
]

pub count_or_form : (least most absent : ℕ) (command : ℕ → LineCommand) (sample : List ℕ) (n : ℕ) → number_from least most sample ≡ Some n
    → Form 1 (λ ts. then_takes (count_or least most absent ts) (λ n. ends_at ts 2 (command n))) (Count least most (command absent) command)
count_or_form least most absent command sample n counts =
    as_form (λ ts. then_takes (count_or least most absent ts) (λ n. ends_at ts 2 (command n)))
    (λ ts. counts_as ts absent (token_at (number_from least most) ts 1) command (nat_le (length ts) 1) refl) (count_form least most (command absent) command sample n counts)

-- they are a condition, which makes the command
abbrev pub Conditioned : Tokens → (Option Expression → LineCommand) → Tokens → LineCommand → Type 0
Conditioned names command ts c = (o : Option Expression) × IsCondition names ts o × (command o ≡ c)

module _ (law : ExactReading) (names : Tokens) (k : ℕ) (command : Option Expression → LineCommand) where
  abbrev Given : Tokens → LineCommand → Type 0
  Given = Then (sign_of (codes "if")) (λ _. Value names (λ x. command (Some x)))

  abbrev given_reader : Tokens → Result LineCommand ℕ
  given_reader ts = then_takes (token_at (sign_of (codes "if")) ts k) (λ _. then_takes (expression_from names ts (suc k)) (λ x. Ok (command (Some x))))

  given_form : Form k (λ ts. given_reader ts) Given
  given_form =
      then_form (List ℕ) (sign_of (codes "if")) (λ _ ts. then_takes (expression_from names ts (suc k)) (λ x. Ok (command (Some x)))) k (λ _. Value names (λ x. command (Some x)))
      (λ _. value_form law names (suc k) (λ x. command (Some x))) (codes "if") (codes "if") refl

  pushed : (b : Bool) (r : Result (List ℕ) ℕ) (e : Result Expression ℕ)
      → then_takes (cond b (Ok None) (then_takes r (λ _. then_takes e (λ x. Ok (Some x))))) (λ o. Ok (command o)) ≡ cond b (Ok (command None)) (then_takes r (λ _. then_takes e (λ x. Ok (command (Some x)))))
  pushed true r e = refl
  pushed false (Ok sign) (Ok x) = refl
  pushed false (Ok sign) (Err n) = refl
  pushed false (Err n) e = refl

  same_reader : (ts : Tokens) → then_takes (condition_from names ts k) (λ o. Ok (command o)) ≡ cond (nat_le (length ts) k) (Ok (command None)) (given_reader ts)
  same_reader ts =
      pushed (nat_le (length ts) k) (token_at (sign_of (codes "if")) ts k) (expression_from names ts (k + 1))
      ∙ ap (λ (m : ℕ). cond (nat_le (length ts) k) (Ok (command None)) (then_takes (token_at (sign_of (codes "if")) ts k) (λ _. then_takes (expression_from names ts m) (λ x. Ok (command (Some x)))))) (add-one k)

  is_condition : (ts : Tokens) (c : LineCommand) → Maybe (command None) Given ts c → Conditioned names command ts c
  is_condition [] c h = (None, left_out, h)
  is_condition (t ∷ ts) c h = (Some h.2.0, subst (λ (u : List ℕ). IsCondition names (u ∷ ts) (Some h.2.0)) (sym (sign_is (codes "if") t h.0 h.1)) (given h.2.1), h.2.2)

  by_condition : (ts : Tokens) (c : LineCommand) (o : Option Expression) → IsCondition names ts o → command o ≡ c → Maybe (command None) Given ts c
  by_condition us c o left_out e = e
  by_condition us c o (given {ts} {x} h) e = (codes "if", refl, (x, h, e))

  pub condition_form : Form k (λ ts. then_takes (condition_from names ts k) (λ o. Ok (command o))) (Conditioned names command)
  condition_form =
      retold is_condition (λ ts c h. by_condition ts c h.0 h.1 h.2)
      (as_form (λ ts. then_takes (condition_from names ts k) (λ o. Ok (command o))) same_reader
      (maybe_form k (command None) given_reader Given (λ c r. r) given_form))
