-- Watchpoints: an expression, as many tokens as begin one, and a condition behind it.
use Rattle.std.proofs.Common.{◌≡◌, ℕ, zero, suc, ◌+◌, ◌<◌, ◌≤◌, [], ◌∷◌, ◌++◌, length, take, drop, Option, Some, None, Result, Ok, Err, refl, sym, ap, ◌∙◌, subst, append_assoc, append-nil, add-one, arith}
use Rattle.std.proofs.Math.Seq.{drop-append_seam}
use Rattle.std.proofs.lemmas.List.{length-append, length-take-le, take-append-drop}
use Rattle.std.specs.Prelude.{codes}
use Rattle.expression_text.specs.Computed.{expression_spelled, viable_tokens}
use Rattle.expression_text.specs.Expression.{Expression, Var}
use Rattle.expression_text.specs.Grammar.{BeginsExpr, IsExpr}
use Rattle.expression_text.specs.Laws.{ExactReading}
use Rattle.shell_lines.specs.Grammar.{IsCondition, left_out, given}
use Rattle.shell_lines.specs.Lines.{LineCommand, Watch, condition_from, expression_and_end, expression_before, then_takes}
use Rattle.shell_lines.proofs.TokenForms.{Form, Stop, Tokens}
use Rattle.shell_lines.proofs.CommandParts.{Conditioned, Takes, condition_form, drop_front, front_taken, one_more, some_variable, takes}

-- they are an expression and a condition, which make the command
pub record Watched (names ts : Tokens) (c : LineCommand) : Type 0 where
  pub front : Tokens
  pub back : Tokens
  pub x : Expression
  pub o : Option Expression
  pub parts : ts ≡ front ++ back
  pub watched : IsExpr names front x
  pub meets : IsCondition names back o
  pub does : Watch x o ≡ c

-- these of more tokens
taken_within : (n m : ℕ) (ts more : Tokens) → n ≤ m → m ≤ length ts → take n (take m ts ++ more) ≡ take n ts
taken_within zero m ts more le within = refl
taken_within (suc n) zero ts more le within = absurd (omega (arith, le))
taken_within (suc n) (suc m) [] more le within = absurd (omega (arith, within))
taken_within (suc n) (suc m) (t ∷ ts) more le within = ap (λ (us : Tokens). t ∷ us) (taken_within n m ts more (omega (arith, le)) (omega (arith, within)))

-- tokens, and more of those behind them
taken_on : (n m : ℕ) (ts : Tokens) → take (n + m) ts ≡ take n ts ++ take m (drop n ts)
taken_on zero m ts =
    let none : 0 + m ≡ m = omega arith in
    ap (λ (k : ℕ). take k ts) none
taken_on (suc n) zero [] =
    let one : suc n + 0 ≡ suc n = omega arith in
    ap (λ (k : ℕ). take k []) one
taken_on (suc n) (suc m) [] =
    let one : suc n + suc m ≡ suc (n + suc m) = omega arith in
    ap (λ (k : ℕ). take k []) one
taken_on (suc n) m (t ∷ ts) =
    let one : suc n + m ≡ suc (n + m) = omega arith in
    ap (λ (k : ℕ). take k (t ∷ ts)) one ∙ ap (λ (us : Tokens). t ∷ us) (taken_on n m ts)

module _ (law : ExactReading) (names : Tokens) where
  -- no token behind it goes on with the expression
  not_behind : (front back : Tokens) (x : Expression) (o : Option Expression) → IsExpr names front x → IsCondition names back o → length front < length (front ++ back) → BeginsExpr names (take (length front + 1) (front ++ back)) → ⊥
  not_behind front back y o h left_out lt b = absurd (omega (arith, lt, length-append front []))
  not_behind front back y o h (given {ts} {x} i) lt b =
      let same : take (length front + 1) (front ++ codes "if" ∷ ts) ≡ front ++ codes "if" ∷ [] = ap (λ (n : ℕ). take n (front ++ codes "if" ∷ ts)) (add-one (length front)) ∙ one_more front ts (codes "if") in
      law.ended names front (codes "if") y refl h (subst (λ (us : Tokens). BeginsExpr names us) same b)

  -- so the expression is as many tokens as begin one
  takes_front : (front back : Tokens) (x : Expression) (o : Option Expression) → IsExpr names front x → IsCondition names back o → viable_tokens names [] (front ++ back) ≡ length front
  takes_front front back x o h i =
      let begun : BeginsExpr names (take (length front) (front ++ back)) =
      record { rest = []; whole = x; spelled = subst (λ (us : Tokens). IsExpr names us x) (sym (append-nil (take (length front) (front ++ back)) ∙ front_taken front back)) h } in
      law.viable names (front ++ back) (length front) (record { within = omega (arith, length-append front back); begins = begun; longest = not_behind front back x o h i })

  -- also where other tokens follow, behind the first that does not go on with one
  takes_in : (ts more : Tokens) (n j : ℕ) → Takes names [] ts n → n ≤ j → j < length ts → viable_tokens names [] (take (suc j) ts ++ more) ≡ n
  takes_in ts more n j h le lt =
      let us = take (suc j) ts ++ more in
      let fits : n ≤ length us = omega (arith, length-append (take (suc j) ts) more, length-take-le (suc j) ts (omega (arith, lt))) in
      let begun : BeginsExpr names (take n us) = subst (λ (vs : Tokens). BeginsExpr names vs) (sym (taken_within n (suc j) ts more (omega (arith, le)) (omega (arith, lt)))) h.begins in
      let same : take (n + 1) us ≡ take (suc n) ts = ap (λ (m : ℕ). take m us) (add-one n) ∙ taken_within (suc n) (suc j) ts more (omega (arith, le)) (omega (arith, lt)) in
      law.viable names us n (record { within = fits; begins = begun; longest = λ _ b. h.longest (omega (arith, le, lt)) (subst (λ (vs : Tokens). BeginsExpr names vs) same b) })

  -- which tokens the expression is
  front_is : (ts : Tokens) (n : ℕ) (c : LineCommand) (w : Watched names ts c) → viable_tokens names [] ts ≡ n → (w.front ≡ take n ts) × (w.back ≡ drop n ts)
  front_is ts n c w viable =
      let count : n ≡ length w.front = sym viable ∙ ap (viable_tokens names []) w.parts ∙ takes_front w.front w.back w.x w.o w.watched w.meets in (
        sym (ap (λ (m : ℕ). take m ts) count ∙ ap (take (length w.front)) w.parts ∙ front_taken w.front w.back),
        sym (ap (λ (m : ℕ). drop m ts) count ∙ ap (drop (length w.front)) w.parts ∙ drop-append_seam w.front w.back),
      )

  abbrev watch_reader : Tokens → Result LineCommand ℕ
  watch_reader ts = then_takes (expression_before names ts 1) (λ p. then_takes (condition_from names ts p.1) (λ c. Ok (Watch p.0 c)))

  abbrev read_with : Tokens → ℕ → Option Expression → Result LineCommand ℕ
  read_with ts n o = then_takes (expression_and_end n o) (λ p. then_takes (condition_from names ts p.1) (λ c. Ok (Watch p.0 c)))

  module _ (front rest : Tokens) (here : length front ≡ 1) where
    abbrev count : ℕ
    count = viable_tokens names [] rest

    taken : Takes names [] rest count
    taken = takes law names [] rest (record { rest = codes "$" ∷ codes "a" ∷ []; whole = Var (codes "a"); spelled = some_variable law names })

    watch_is : (o : Option Expression) → expression_spelled names (take count rest) ≡ o → watch_reader (front ++ rest) ≡ read_with (front ++ rest) (1 + count) o
    watch_is o is =
        ap (λ (us : Tokens). read_with (front ++ rest) (1 + viable_tokens names [] us) (expression_spelled names (take (viable_tokens names [] us) us))) (drop_front front rest 1 here)
        ∙ ap (read_with (front ++ rest) (1 + count)) is

    -- the tokens in front of the condition
    split : front ++ rest ≡ (front ++ take count rest) ++ drop count rest
    split = ap (λ (us : Tokens). front ++ us) (sym (take-append-drop count rest)) ∙ sym (append_assoc front (take count rest) (drop count rest))

    before : length (front ++ take count rest) ≡ suc count
    before = omega (arith, here, length-append front (take count rest), length-take-le count rest taken.within)

    behind : (x : Expression) → Form (suc count) (λ ts. then_takes (condition_from names ts (suc count)) (λ o. Ok (Watch x o))) (Conditioned names (Watch x))
    behind x = condition_form law names (suc count) (Watch x)

    at_split : (x : Expression) → expression_spelled names (take count rest) ≡ Some x → watch_reader (front ++ rest) ≡ then_takes (condition_from names ((front ++ take count rest) ++ drop count rest) (suc count)) (λ o. Ok (Watch x o))
    at_split x is =
        let one : 1 + count ≡ suc count = omega arith in
        watch_is (Some x) is ∙ ap (λ (k : ℕ). then_takes (condition_from names (front ++ rest) k) (λ o. Ok (Watch x o))) one
        ∙ ap (λ (us : Tokens). then_takes (condition_from names us (suc count)) (λ o. Ok (Watch x o))) split

    watch_spells : (c : LineCommand) → watch_reader (front ++ rest) ≡ Ok c → Watched names rest c
    watch_spells c e = by (expression_spelled names (take count rest)) refl
      where
        by : (o : Option Expression) → expression_spelled names (take count rest) ≡ o → Watched names rest c
        by None is = let never : ◌≡◌ {A = Result LineCommand ℕ} (Err (1 + count)) (Ok c) = sym (watch_is None is) ∙ e in absurd cc
        by (Some x) is =
            let h = (behind x).spells (front ++ take count rest) (drop count rest) c before (sym (at_split x is) ∙ e) in
            record {
              front = take count rest;
              back = drop count rest;
              x = x;
              o = h.0;
              parts = sym (take-append-drop count rest);
              watched = (law.expressions names (take count rest) x).0 is;
              meets = h.1;
              does = h.2;
            }

    watch_reads : (c : LineCommand) → Watched names rest c → watch_reader (front ++ rest) ≡ Ok c
    watch_reads c w =
        let same = front_is rest count c w refl in
        let spelled : expression_spelled names (take count rest) ≡ Some w.x = (law.expressions names (take count rest) w.x).1 (subst (λ (us : Tokens). IsExpr names us w.x) same.0 w.watched) in
        at_split w.x spelled
        ∙ (behind w.x).reads (front ++ take count rest) (drop count rest) c before (w.o, subst (λ (us : Tokens). IsCondition names us w.o) same.1 w.meets, w.does)

    -- one token more than those that stop
    more_is : (j : ℕ) (more : Tokens) (c : LineCommand) → count ≤ j → j < length rest → (w : Watched names (take (suc j) rest ++ more) c)
        → (w.front ≡ take count rest) × (w.back ≡ drop count (take (suc j) rest ++ more))
    more_is j more c le lt w =
        let same = front_is (take (suc j) rest ++ more) count c w (takes_in rest more count j taken le lt) in
        (same.0 ∙ taken_within count (suc j) rest more (omega (arith, le)) (omega (arith, lt)), same.1)

    no_expression : expression_spelled names (take count rest) ≡ None → Stop (Watched names) rest count
    no_expression is = record {
      within = taken.within;
      more = taken.begins.rest;
      whole = Watch taken.begins.whole None;
      begins = record {
        front = take count rest ++ taken.begins.rest;
        back = [];
        x = taken.begins.whole;
        o = None;
        parts = sym (append-nil (take count rest ++ taken.begins.rest));
        watched = taken.begins.spelled;
        meets = left_out;
        does = refl;
      };
      longest = λ lt more c w.
          let same = more_is count more c (omega arith) lt w in
          let spelled : expression_spelled names (take count rest) ≡ Some w.x = (law.expressions names (take count rest) w.x).1 (subst (λ (us : Tokens). IsExpr names us w.x) same.0 w.watched) in
          let never : ◌≡◌ {A = Option Expression} (Some w.x) None = sym spelled ∙ is in
          cc;
    }

    no_condition : (x : Expression) (m : ℕ) → expression_spelled names (take count rest) ≡ Some x → Stop (Conditioned names (Watch x)) (drop count rest) m → Stop (Watched names) rest (count + m)
    no_condition x m is s =
        let split : length rest ≡ count + length (drop count rest) =
        ap (λ (us : Tokens). length us) (sym (take-append-drop count rest)) ∙ length-append (take count rest) (drop count rest)
        ∙ ap (λ (k : ℕ). k + length (drop count rest)) (length-take-le count rest taken.within) in
        let watched : IsExpr names (take count rest) x = (law.expressions names (take count rest) x).0 is in
        record {
          within = omega (arith, s.within, split);
          more = s.more;
          whole = s.whole;
          begins = record {
            front = take count rest;
            back = take m (drop count rest) ++ s.more;
            x = x;
            o = s.begins.0;
            parts = ap (λ (us : Tokens). us ++ s.more) (taken_on count m rest) ∙ append_assoc (take count rest) (take m (drop count rest)) s.more;
            watched = watched;
            meets = s.begins.1;
            does = s.begins.2;
          };
          longest = λ lt more c w.
              let same = more_is (count + m) more c (omega arith) lt w in
              let one : suc (count + m) ≡ count + suc m = omega arith in
              let whole : take (suc (count + m)) rest ++ more ≡ take count rest ++ (take (suc m) (drop count rest) ++ more) =
              ap (λ (k : ℕ). take k rest ++ more) one ∙ ap (λ (us : Tokens). us ++ more) (taken_on count (suc m) rest) ∙ append_assoc (take count rest) (take (suc m) (drop count rest)) more in
              let back : w.back ≡ take (suc m) (drop count rest) ++ more =
              same.1 ∙ ap (drop count) whole ∙ drop_front (take count rest) (take (suc m) (drop count rest) ++ more) count (length-take-le count rest taken.within) in
              let there : expression_spelled names (take count rest) ≡ Some w.x = (law.expressions names (take count rest) w.x).1 (subst (λ (us : Tokens). IsExpr names us w.x) same.0 w.watched) in
              let both : ◌≡◌ {A = Option Expression} (Some w.x) (Some x) = sym there ∙ is in
              let one_expression : w.x ≡ x = cc in
              s.longest (omega (arith, lt, split)) more c (w.o, subst (λ (us : Tokens). IsCondition names us w.o) back w.meets, ap (λ (y : Expression). Watch y w.o) (sym one_expression) ∙ w.does);
        }

    watch_stops : (n : ℕ) → watch_reader (front ++ rest) ≡ Err n → (m : ℕ) × (n ≡ 1 + m) × Stop (Watched names) rest m
    watch_stops n e = by (expression_spelled names (take count rest)) refl
      where
        by : (o : Option Expression) → expression_spelled names (take count rest) ≡ o → (m : ℕ) × (n ≡ 1 + m) × Stop (Watched names) rest m
        by None is =
            let there : ◌≡◌ {A = Result LineCommand ℕ} (Err (1 + count)) (Err n) = sym (watch_is None is) ∙ e in
            let same : 1 + count ≡ n = cc in
            (count, sym same, no_expression is)
        by (Some x) is =
            let s = (behind x).stops (front ++ take count rest) (drop count rest) n before (sym (at_split x is) ∙ e) in
            (count + s.0, omega (arith, s.1), no_condition x s.0 is s.2)

  pub watch_form : Form 1 (λ ts. watch_reader ts) (Watched names)
  watch_form = record {
    spells = λ front rest c here e. watch_spells front rest here c e;
    reads = λ front rest c here w. watch_reads front rest here c w;
    stops = λ front rest n here e. watch_stops front rest here n e;
    some = (
      codes "$" ∷ codes "a" ∷ [],
      Watch (Var (codes "a")) None,
      record { front = codes "$" ∷ codes "a" ∷ []; back = []; x = Var (codes "a"); o = None; parts = refl; watched = some_variable law names; meets = left_out; does = refl },
    );
  }
