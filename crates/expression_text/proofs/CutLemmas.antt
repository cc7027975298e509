-- What is computed of a line is what its tokens are.
use Rattle.std.proofs.Common.{◌≡◌, ◌↔◌, ℕ, zero, suc, ◌+◌, ◌≤◌, Bool, true, false, cond, List, [], ◌∷◌, length, take, drop, Option, Some, None, Result, Ok, Err, refl, ap, ◌∙◌, subst, arith, length-drop}
use Rattle.expression_text.specs.Lexing.{PlacedToken, is_blank, IsLongest, BeginsNone, LexesTokens, end, blank, token, IsBadAt, here, past_blank, past_token}
use Rattle.expression_text.specs.Front.{longest_token}
use Rattle.expression_text.specs.Computed.{onto_tokens, from_front, cut_from, cut_tokens}
use Rattle.expression_text.proofs.LongestToken.{front_longest, front_none, longest_some, blank_none}

-- ---- the longest token is computed

found : (bytes : List ℕ) (n : ℕ) (o : Option ℕ) → longest_token bytes ≡ o → IsLongest bytes n → longest_token bytes ≡ Some n
found bytes n (Some m) e l =
    let k = front_longest bytes m e in
    let same : m ≡ n = omega (arith, k.longest n l.within l.token, l.longest m k.within k.token) in
    e ∙ ap (λ (i : ℕ). Some i) same
found [] n None e l = absurd (let some = longest_some [] n l in let small = l.within in omega arith)
found (b ∷ bytes) n None e l = absurd (front_none b bytes e n l.within l.token)

longest_found : (bytes : List ℕ) (n : ℕ) → IsLongest bytes n → longest_token bytes ≡ Some n
longest_found bytes n l = found bytes n (longest_token bytes) refl l

nothing : (b : ℕ) (bytes : List ℕ) (o : Option ℕ) → longest_token (b ∷ bytes) ≡ o → BeginsNone (b ∷ bytes) → longest_token (b ∷ bytes) ≡ None
nothing b bytes None e h = e
nothing b bytes (Some n) e h = let l = front_longest (b ∷ bytes) n e in absurd (h n l.within l.token)

-- a token begins with no blank
no_blank : (b : ℕ) (bytes : List ℕ) (n : ℕ) (s : Bool) → is_blank b ≡ s → IsLongest (b ∷ bytes) n → is_blank b ≡ false
no_blank b bytes n true e l = absurd (blank_none b bytes e n l.within l.token)
no_blank b bytes n false e l = e

-- ---- what is cut

step_blank : (most column b : ℕ) (bytes : List ℕ) → is_blank b ≡ true → cut_from (suc most) column (b ∷ bytes) ≡ cut_from most (column + 1) bytes
step_blank most column b bytes e = rw e refl

step_token : (most column b : ℕ) (bytes : List ℕ) (n : ℕ) → is_blank b ≡ false → longest_token (b ∷ bytes) ≡ Some n
    → cut_from (suc most) column (b ∷ bytes) ≡ onto_tokens (record { text = take n (b ∷ bytes); column = column }) (cut_from most (column + n) (drop n (b ∷ bytes)))
step_token most column b bytes n e f = ap (λ (s : Bool). cond s (cut_from most (column + 1) bytes) (from_front (cut_from most) (longest_token (b ∷ bytes)) column (b ∷ bytes))) e ∙ ap (λ (o : Option ℕ). from_front (cut_from most) o column (b ∷ bytes)) f

step_none : (most column b : ℕ) (bytes : List ℕ) → is_blank b ≡ false → longest_token (b ∷ bytes) ≡ None → cut_from (suc most) column (b ∷ bytes) ≡ Err column
step_none most column b bytes e f = ap (λ (s : Bool). cond s (cut_from most (column + 1) bytes) (from_front (cut_from most) (longest_token (b ∷ bytes)) column (b ∷ bytes))) e ∙ ap (λ (o : Option ℕ). from_front (cut_from most) o column (b ∷ bytes)) f

-- ---- what is cut is computed

pub cut_again : {column : ℕ} {bytes : List ℕ} {ts : List PlacedToken} → LexesTokens column bytes ts → (most : ℕ) → length bytes ≤ most → cut_from most column bytes ≡ Ok ts
cut_again (end column) zero le = refl
cut_again (end column) (suc most) le = refl
cut_again (blank column b bytes ts e h) zero le = absurd (omega arith)
cut_again (blank column b bytes ts e h) (suc most) le = step_blank most column b bytes e ∙ cut_again h most (omega arith)
cut_again (token column n [] ts l h) most le = absurd (let some = longest_some [] n l in let small = l.within in omega arith)
cut_again (token column n (b ∷ bytes) ts l h) zero le = absurd (omega arith)
cut_again (token column n (b ∷ bytes) ts l h) (suc most) le =
    let some = longest_some (b ∷ bytes) n l in
    let rest = cut_again h most (omega (arith, length-drop n (b ∷ bytes))) in
    step_token most column b bytes n (no_blank b bytes n (is_blank b) refl l) (longest_found (b ∷ bytes) n l)
    ∙ ap (onto_tokens (record { text = take n (b ∷ bytes); column = column })) rest

pub bad_again : {column : ℕ} {bytes : List ℕ} {bad : ℕ} → IsBadAt column bytes bad → (most : ℕ) → length bytes ≤ most → cut_from most column bytes ≡ Err bad
bad_again (here column b bytes e h) zero le = refl
bad_again (here column b bytes e h) (suc most) le = step_none most column b bytes e (nothing b bytes (longest_token (b ∷ bytes)) refl h)
bad_again (past_blank column b bytes bad e h) zero le = absurd (omega arith)
bad_again (past_blank column b bytes bad e h) (suc most) le = step_blank most column b bytes e ∙ bad_again h most (omega arith)
bad_again (past_token column n [] bad l h) most le = absurd (let some = longest_some [] n l in let small = l.within in omega arith)
bad_again (past_token column n (b ∷ bytes) bad l h) zero le = absurd (omega arith)
bad_again (past_token column n (b ∷ bytes) bad l h) (suc most) le =
    let some = longest_some (b ∷ bytes) n l in
    let rest = bad_again h most (omega (arith, length-drop n (b ∷ bytes))) in
    step_token most column b bytes n (no_blank b bytes n (is_blank b) refl l) (longest_found (b ∷ bytes) n l)
    ∙ ap (onto_tokens (record { text = take n (b ∷ bytes); column = column })) rest

-- ---- what is computed is so

-- what a result says of the bytes
abbrev pub Says : ℕ → List ℕ → Result (List PlacedToken) ℕ → Type 0
Says column bytes (Ok ts) = LexesTokens column bytes ts
Says column bytes (Err bad) = IsBadAt column bytes bad

says_blank : (column b : ℕ) (bytes : List ℕ) (r : Result (List PlacedToken) ℕ) → is_blank b ≡ true → Says (column + 1) bytes r → Says column (b ∷ bytes) r
says_blank column b bytes (Ok ts) e h = blank column b bytes ts e h
says_blank column b bytes (Err bad) e h = past_blank column b bytes bad e h

says_token : (column n : ℕ) (bytes : List ℕ) (r : Result (List PlacedToken) ℕ) → IsLongest bytes n → Says (column + n) (drop n bytes) r → Says column bytes (onto_tokens (record { text = take n bytes; column = column }) r)
says_token column n bytes (Ok ts) l h = token column n bytes ts l h
says_token column n bytes (Err bad) l h = past_token column n bytes bad l h

module _ (most : ℕ) (less : (column : ℕ) (bytes : List ℕ) → length bytes ≤ most → Says column bytes (cut_from most column bytes)) where
  says_front : (column b : ℕ) (bytes : List ℕ) (o : Option ℕ) → length bytes ≤ most → is_blank b ≡ false → longest_token (b ∷ bytes) ≡ o → Says column (b ∷ bytes) (from_front (cut_from most) o column (b ∷ bytes))
  says_front column b bytes None le e f = here column b bytes e (front_none b bytes f)
  says_front column b bytes (Some n) le e f =
      let l = front_longest (b ∷ bytes) n f in
      let some = longest_some (b ∷ bytes) n l in
      says_token column n (b ∷ bytes) (cut_from most (column + n) (drop n (b ∷ bytes))) l (less (column + n) (drop n (b ∷ bytes)) (omega (arith, length-drop n (b ∷ bytes))))

  says_first : (column b : ℕ) (bytes : List ℕ) (s : Bool) → length bytes ≤ most → is_blank b ≡ s → Says column (b ∷ bytes) (cond s (cut_from most (column + 1) bytes) (from_front (cut_from most) (longest_token (b ∷ bytes)) column (b ∷ bytes)))
  says_first column b bytes true le e = says_blank column b bytes (cut_from most (column + 1) bytes) e (less (column + 1) bytes le)
  says_first column b bytes false le e = says_front column b bytes (longest_token (b ∷ bytes)) le e refl

says : (most column : ℕ) (bytes : List ℕ) → length bytes ≤ most → Says column bytes (cut_from most column bytes)
says zero column [] le = end column
says zero column (b ∷ bytes) le = absurd (omega arith)
says (suc most) column [] le = end column
says (suc most) column (b ∷ bytes) le = says_first most (λ c bs short. says most c bs short) column b bytes (is_blank b) (omega arith) refl

-- ---- a whole line

pub tokens : (line : List ℕ) (ts : List PlacedToken) → (cut_tokens line ≡ Ok ts) ↔ LexesTokens 1 line ts
unfolding cut_tokens
tokens line ts =
    (λ e. subst (Says 1 line) e (says (length line) 1 line (omega arith)), λ h. cut_again h (length line) (omega arith))

pub bad : (line : List ℕ) (column : ℕ) → (cut_tokens line ≡ Err column) ↔ IsBadAt 1 line column
unfolding cut_tokens
bad line column =
    (λ e. subst (Says 1 line) e (says (length line) 1 line (omega arith)), λ h. bad_again h (length line) (omega arith))
