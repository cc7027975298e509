use Rattle.std.proofs.Common.{◌≡◌, ℕ, ◌^◌, ◌<◌, Bool, true, false, cond, ltb, get_or, Some, None, Err, ap, refl, sym, ◌∙◌, arith, rules}
use Rattle.std.specs.Char.{is_ascii_digit}
use Rattle.std.proofs.lemmas.Bool.{and_from, ltb-false}
use Rattle.std.proofs.lemmas.List.Folds.{list_all_more}
use Rattle.std.proofs.lemmas.Option.{cond_some}
use Rattle.fri_text.proofs.DecimalNumbers.{digit_more, long_refused}
use Rattle.fri_text.proofs.word.read_decimal.Goals as goal

-- what is not below the limit
above : (n most max : ℕ) → cond (ltb n most) (Some n) None ≡ None → max < most → max < n
above n most max none small = by_test (ltb n most) refl
  where
    by_test : (b : Bool) → ltb n most ≡ b → max < n
    by_test true e = let no : Some n ≡ None = (sym (rw e refl) ∙ none) in cc
    by_test false e = let far = ltb-false n most e in omega arith

pub returns-in_default : goal.returns-in_default
returns-in_default c =
    let l = c.loop-byte in
    let is_digit : is_ascii_digit (get_or c.args.word.now l.byte-index 0) ≡ true = search rules in
    let none : c.with_digit.result ≡ None = search rules in
    let small : c.args.max < 2 ^ 64 = search rules in
    let front = digit_more c.args.word.now l.byte-index l.number c.from-digit.result is_digit c.loop-byte-test.true l.invariant.number c.from-digit.ensures in
    ap Err c.fault_of_long.ensures ∙ long_refused c.args.word.now l.byte-index _ c.args.max c.loop-byte-test.true front (above _ _ _ (sym c.with_digit.ensures ∙ none) small)

pub loop-byte-preserved : goal.loop-byte-preserved
loop-byte-preserved c =
    let l = c.loop-byte in
    let is_digit : is_ascii_digit (get_or c.args.word.now l.byte-index 0) ≡ true = search rules in
    let found = cond_some _ _ _ (sym c.with_digit.ensures ∙ c.in-Some.is) in
    record {
      number = sym found.1 ∙ digit_more c.args.word.now l.byte-index l.number c.from-digit.result is_digit c.loop-byte-test.true l.invariant.number c.from-digit.ensures;
      digits = list_all_more is_ascii_digit c.args.word.now l.byte-index 0 c.loop-byte-test.true ∙ and_from _ _ l.invariant.digits is_digit;
    }
