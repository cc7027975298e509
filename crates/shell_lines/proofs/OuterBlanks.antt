-- Lines without their outer blanks, by the places of the first and of the last byte that is none.
use Rattle.std.proofs.Common.{◌≡◌, ℕ, zero, suc, ◌+◌, ◌<◌, ◌≤◌, Bool, true, false, ◌&&◌, List, [], ◌∷◌, length, get_or, take, drop, refl, ap, ◌∙◌, arith}
use Rattle.std.proofs.lemmas.Bool.{cond-true, cond-false}
use Rattle.std.specs.List.{list_all}
use Rattle.expression_text.specs.Lexing.{is_blank}
use Rattle.shell_lines.specs.Meaning.{without_end_blanks, without_front_blanks}

pub front_at : (bytes : List ℕ) (n : ℕ) → n < length bytes → is_blank (get_or bytes n 0) ≡ false
    → ((k : ℕ) → k < n → is_blank (get_or bytes k 0) ≡ true) → without_front_blanks bytes ≡ drop n bytes
front_at [] n within here before = absurd (omega (arith, within))
front_at (b ∷ bytes) zero within here before = cond-false _ _ _ here
front_at (b ∷ bytes) (suc n) within here before =
    cond-true _ _ _ (before 0 (omega arith)) ∙ front_at bytes n (omega (arith, within)) here (λ k lt. before (suc k) (omega (arith, lt)))

pub front_none : (bytes : List ℕ) → ((k : ℕ) → k < length bytes → is_blank (get_or bytes k 0) ≡ true) → without_front_blanks bytes ≡ []
front_none [] blank = refl
front_none (b ∷ bytes) blank = cond-true _ _ _ (blank 0 (omega arith)) ∙ front_none bytes (λ k lt. blank (suc k) (omega (arith, lt)))

and_both : (a b : Bool) → a ≡ true → b ≡ true → (a && b) ≡ true
and_both true b e f = f
and_both false b e f = e

and_first : (a b : Bool) → a ≡ false → (a && b) ≡ false
and_first true b e = absurd cc
and_first false b e = refl

and_second : (a b : Bool) → b ≡ false → (a && b) ≡ false
and_second true b e = e
and_second false b e = refl

all_blank : (bytes : List ℕ) → ((k : ℕ) → k < length bytes → is_blank (get_or bytes k 0) ≡ true) → list_all is_blank bytes ≡ true
all_blank [] blank = refl
all_blank (b ∷ bytes) blank = and_both _ _ (blank 0 (omega arith)) (all_blank bytes (λ k lt. blank (suc k) (omega (arith, lt))))

not_all : (bytes : List ℕ) (n : ℕ) → n < length bytes → is_blank (get_or bytes n 0) ≡ false → list_all is_blank bytes ≡ false
not_all [] n within here = absurd (omega (arith, within))
not_all (b ∷ bytes) zero within here = and_first _ _ here
not_all (b ∷ bytes) (suc n) within here = and_second _ _ (not_all bytes n (omega (arith, within)) here)

pub end_none : (bytes : List ℕ) → ((k : ℕ) → k < length bytes → is_blank (get_or bytes k 0) ≡ true) → without_end_blanks bytes ≡ []
end_none [] blank = refl
end_none (b ∷ bytes) blank = cond-true _ _ _ (all_blank (b ∷ bytes) blank)

pub end_at : (bytes : List ℕ) (n : ℕ) → n < length bytes → is_blank (get_or bytes n 0) ≡ false
    → ((k : ℕ) → n + 1 ≤ k → k < length bytes → is_blank (get_or bytes k 0) ≡ true) → without_end_blanks bytes ≡ take (suc n) bytes
end_at [] n within here after = absurd (omega (arith, within))
end_at (b ∷ bytes) zero within here after =
    cond-false _ _ _ (not_all (b ∷ bytes) zero within here)
    ∙ ap (λ (rest : List ℕ). b ∷ rest) (end_none bytes (λ k lt. after (suc k) (omega arith) (omega (arith, lt))))
end_at (b ∷ bytes) (suc n) within here after =
    cond-false _ _ _ (not_all (b ∷ bytes) (suc n) within here)
    ∙ ap (λ (rest : List ℕ). b ∷ rest) (end_at bytes n (omega (arith, within)) here (λ k le lt. after (suc k) (omega (arith, le)) (omega (arith, lt))))
