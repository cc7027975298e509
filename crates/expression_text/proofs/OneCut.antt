-- A line is cut into its tokens in one way.
use Rattle.std.proofs.Common.{◌≡◌, ℕ, zero, suc, ◌+◌, ◌-◌, ◌<◌, ◌≤◌, true, false, List, [], ◌∷◌, ◌++◌, length, take, drop, Some, None, refl, sym, ap, ◌∙◌, subst, append_assoc, arith, length-drop}
use Rattle.std.specs.Prelude.{slice_index}
use Rattle.std.proofs.lemmas.List.{append-nil, drop_all}
use Rattle.std.proofs.Math.Seq.{take-length}
use Rattle.expression_text.specs.Lexing.{PlacedToken, is_blank, IsLongest, LexesTokens, end, blank, token, IsBadAt, here, past_blank, past_token}
use Rattle.expression_text.specs.Front.{longest_token}
use Rattle.expression_text.proofs.LongestToken.{front_longest, front_none, longest_some}

-- what was cut of a line up to a place, from 0, and what follows from there on
pub record Cuts (line : List ℕ) (at : ℕ) (so_far : List PlacedToken) : Type 0 where
  pub within : at ≤ length line
  pub goes_on : (ts : List PlacedToken) → LexesTokens (at + 1) (drop at line) ts → LexesTokens 1 line (so_far ++ ts)
  pub bad_on : (column : ℕ) → IsBadAt (at + 1) (drop at line) column → IsBadAt 1 line column

pub cut_none : (line : List ℕ) → Cuts line 0 []
cut_none line = record { within = omega arith; goes_on = λ ts h. h; bad_on = λ column h. h }

drop-first : (line : List ℕ) (at : ℕ) → at < length line → drop at line ≡ slice_index line at ∷ drop (at + 1) line
drop-first [] at lt = absurd (omega arith)
drop-first (b ∷ line) zero lt = refl
drop-first (b ∷ line) (suc at) lt =
    let next : suc at + 1 ≡ suc (at + 1) = omega arith in
    drop-first line at (omega arith) ∙ ap (λ (n : ℕ). slice_index line at ∷ drop n (b ∷ line)) (sym next)

drop-nil : (n : ℕ) → ◌≡◌ {A = List ℕ} (drop n []) []
drop-nil zero = refl
drop-nil (suc n) = refl

drop-twice : (line : List ℕ) (m n : ℕ) → drop n (drop m line) ≡ drop (m + n) line
drop-twice line zero n = ap (λ (k : ℕ). drop k line) (let e : n ≡ 0 + n = omega arith in e)
drop-twice [] (suc m) n = drop-nil n ∙ sym (drop-nil (suc m + n))
drop-twice (b ∷ line) (suc m) n = let e : suc m + n ≡ suc (m + n) = omega arith in drop-twice line m n ∙ ap (λ (k : ℕ). drop k (b ∷ line)) (sym e)

-- the rest of a line, as a slice
pub slice_rest : (line : List ℕ) (at : ℕ) → take (length line - at) (drop at line) ≡ drop at line
slice_rest line at = ap (λ (n : ℕ). take n (drop at line)) (sym (length-drop at line)) ∙ take-length (drop at line)

first_of : (line : List ℕ) (at : ℕ) → at < length line → slice_index (drop at line) 0 ≡ slice_index line at
first_of line at lt = ap (λ (u : List ℕ). slice_index u 0) (drop-first line at lt)

pub cut_blank : (line rest : List ℕ) (at : ℕ) (so_far : List PlacedToken) → rest ≡ drop at line → Cuts line at so_far → at < length line → is_blank (slice_index rest 0) ≡ true → Cuts line (at + 1) so_far
cut_blank line rest at so_far same c lt i =
    let b = slice_index line at in
    let first : drop at line ≡ b ∷ drop (at + 1) line = drop-first line at lt in
    let is : is_blank b ≡ true = ap is_blank (sym (first_of line at lt) ∙ ap (λ (u : List ℕ). slice_index u 0) (sym same)) ∙ i in
    record {
      within = omega arith;
      goes_on = λ ts h. c.goes_on ts (subst (λ (u : List ℕ). LexesTokens (at + 1) u ts) (sym first) (blank (at + 1) b (drop (at + 1) line) ts is h));
      bad_on = λ column h. c.bad_on column (subst (λ (u : List ℕ). IsBadAt (at + 1) u column) (sym first) (past_blank (at + 1) b (drop (at + 1) line) column is h));
    }

pub cut_token : (line rest : List ℕ) (at n column : ℕ) (so_far new : List PlacedToken) → rest ≡ drop at line → Cuts line at so_far → longest_token rest ≡ Some n → column ≡ at + 1 → new ≡ so_far ++ record { text = take n rest; column = column } ∷ [] → Cuts line (at + n) new
cut_token line rest at n column so_far new same c e col is =
    let longest : IsLongest (drop at line) n = front_longest (drop at line) n (ap longest_token (sym same) ∙ e) in
    let t : PlacedToken = record { text = take n (drop at line); column = at + 1 } in
    let place : at + n + 1 ≡ at + 1 + n = omega arith in
    let pushed : new ≡ so_far ++ t ∷ [] =
    is ∙ ap (λ (u : List ℕ). so_far ++ record { text = take n u; column = column } ∷ []) same ∙ ap (λ (k : ℕ). so_far ++ record { text = take n (drop at line); column = k } ∷ []) col in
    record {
      within = omega (arith, c.within, longest.within, length-drop at line);
      goes_on = λ ts h.
          let behind : LexesTokens (at + 1 + n) (drop n (drop at line)) ts =
          subst (λ (k : ℕ). LexesTokens k (drop n (drop at line)) ts) place (subst (λ (u : List ℕ). LexesTokens (at + n + 1) u ts) (sym (drop-twice line at n)) h) in
          let all = c.goes_on (t ∷ ts) (token (at + 1) n (drop at line) ts longest behind) in
          subst (LexesTokens 1 line) (sym (ap (λ (us : List PlacedToken). us ++ ts) pushed ∙ append_assoc so_far (t ∷ []) ts)) all;
      bad_on = λ column h.
          let behind : IsBadAt (at + 1 + n) (drop n (drop at line)) column =
          subst (λ (k : ℕ). IsBadAt k (drop n (drop at line)) column) place (subst (λ (u : List ℕ). IsBadAt (at + n + 1) u column) (sym (drop-twice line at n)) h) in
          c.bad_on column (past_token (at + 1) n (drop at line) column longest behind);
    }

pub cut_bad : (line rest : List ℕ) (at column : ℕ) (so_far : List PlacedToken) → rest ≡ drop at line → Cuts line at so_far → at < length line → is_blank (slice_index rest 0) ≡ false → longest_token rest ≡ None → column ≡ at + 1 → IsBadAt 1 line column
cut_bad line rest at column so_far same c lt i e col =
    let b = slice_index line at in
    let first : drop at line ≡ b ∷ drop (at + 1) line = drop-first line at lt in
    let is : is_blank b ≡ false = ap is_blank (sym (first_of line at lt) ∙ ap (λ (u : List ℕ). slice_index u 0) (sym same)) ∙ i in
    let none : longest_token (b ∷ drop (at + 1) line) ≡ None = ap longest_token (sym first ∙ sym same) ∙ e in
    subst (IsBadAt 1 line) (sym col)
    (c.bad_on (at + 1) (subst (λ (u : List ℕ). IsBadAt (at + 1) u (at + 1)) (sym first) (here (at + 1) b (drop (at + 1) line) is (front_none b (drop (at + 1) line) none))))

pub cut_all : (line : List ℕ) (at : ℕ) (so_far : List PlacedToken) → Cuts line at so_far → length line ≤ at → LexesTokens 1 line so_far
cut_all line at so_far c le =
    subst (LexesTokens 1 line) (append-nil so_far) (c.goes_on [] (subst (λ (u : List ℕ). LexesTokens (at + 1) u []) (sym (drop_all at line le)) (end (at + 1))))

-- a token has a byte
pub moves : (bytes : List ℕ) (n : ℕ) → longest_token bytes ≡ Some n → (0 < n) × (n ≤ length bytes)
moves bytes n e = let l = front_longest bytes n e in (longest_some bytes n l, l.within)
