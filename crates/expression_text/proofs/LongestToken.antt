-- The longest token that begins some bytes is the one that is computed.
use Rattle.std.proofs.Common.{◌≡◌, ℕ, zero, suc, ◌+◌, ◌<◌, ◌≤◌, inl, inr, Bool, true, false, not, cond, ◌&&◌, ◌||◌, ◌==◌, ltb, List, [], ◌∷◌, ◌++◌, length, take, drop, Option, Some, None, refl, sym, ap, ◌∙◌, subst, append_assoc, arith}
use Rattle.std.specs.Prelude.{codes, slice_index, position}
use Rattle.std.specs.List.{list_all, list_any, prefix_len}
use Rattle.std.proofs.lemmas.Bool.{and_parts, or_cases, and_from, eqb-true, ltb-true, lt-ltb}
use Rattle.std.proofs.lemmas.List.{length-append, length-take-le, take-append-drop}
use Rattle.std.proofs.lemmas.List.Sums.{prefix_len-le-length}
use Rattle.expression_text.specs.Spelling.{is_word_byte, is_word}
use Rattle.expression_text.specs.Lexing.{is_blank, is_string_byte, is_sign, is_pair, IsToken, word, string, sign, pair, IsLongest, BeginsNone}
use Rattle.expression_text.specs.Front.{word_end, quoted_string_end, string_end, sign_at, longest_token}
use Rattle.expression_text.proofs.SettledOperators.{tested}

-- ---- which byte stands first

not_true : (b : Bool) → not b ≡ true → b ≡ false
not_true true e = absurd cc
not_true false e = refl

-- what fails at each byte of a list fails at a byte of it
any_fails : (P : ℕ → Bool) (b : ℕ) (xs : List ℕ) → list_any (λ s. b == s) xs ≡ true → list_all (λ s. not (P s)) xs ≡ true → P b ≡ false
any_fails P b [] e f = absurd cc
any_fails P b (x ∷ xs) e f =
    let g = and_parts (not (P x)) (list_all (λ s. not (P s)) xs) f in
    elim (or_cases (b == x) (list_any (λ s. b == s) xs) e) [
      | inl here ↦ ap P (eqb-true b x here) ∙ not_true (P x) g.0
      | inr later ↦ any_fails P b xs later g.1
    ]

both : (b : Bool) → b ≡ true → b ≡ false → ⊥
both b t f = let e : true ≡ false = sym t ∙ f in cc

sign_fails : (P : ℕ → Bool) (b : ℕ) → list_all (λ s. not (P s)) (codes "@.[](){},;$+-*/%!<>") ≡ true → is_sign b ≡ true → P b ≡ false
sign_fails P b f e = any_fails P b (codes "@.[](){},;$+-*/%!<>") e f

at : (P : ℕ → Bool) (a x : ℕ) → (a == x) ≡ true → P x ≡ false → P a ≡ false
at P a x e f = ap P (eqb-true a x e) ∙ f

pair_fails : (P : ℕ → Bool) (a b : ℕ) → P 61 ≡ false → P 33 ≡ false → P 60 ≡ false → P 62 ≡ false → P 38 ≡ false → P 124 ≡ false → is_pair a b ≡ true → P a ≡ false
pair_fails P a b p61 p33 p60 p62 p38 p124 e =
    let four = (a == 61) || (a == 33) || (a == 60) || (a == 62) in
    elim (or_cases ((four && (b == 61)) || ((a == 38) && (b == 38))) ((a == 124) && (b == 124)) e) [
      | inl one ↦ elim (or_cases (four && (b == 61)) ((a == 38) && (b == 38)) one) [
        | inl two ↦ elim (or_cases ((a == 61) || (a == 33) || (a == 60)) (a == 62) (and_parts four (b == 61) two).0) [
          | inl three ↦ elim (or_cases ((a == 61) || (a == 33)) (a == 60) three) [
            | inl last ↦ elim (or_cases (a == 61) (a == 33) last) [ inl i ↦ at P a 61 i p61 | inr i ↦ at P a 33 i p33 ]
            | inr i ↦ at P a 60 i p60
          ]
          | inr i ↦ at P a 62 i p62
        ]
        | inr two ↦ at P a 38 (and_parts (a == 38) (b == 38) two).0 p38
      ]
      | inr one ↦ at P a 124 (and_parts (a == 124) (b == 124) one).0 p124
    ]

-- ---- runs of bytes

take_passes : (p : ℕ → Bool) (xs : List ℕ) → list_all p (take (prefix_len p xs) xs) ≡ true
take_passes p [] = refl
take_passes p (x ∷ xs) = elim (tested (p x)) [
  | inl t ↦ let one : 1 + prefix_len p xs ≡ suc (prefix_len p xs) = omega arith in rw t (rw one (and_from (p x) (list_all p (take (prefix_len p xs) xs)) t (take_passes p xs)))
  | inr f ↦ rw f refl
]

passes_within : (p : ℕ → Bool) (xs : List ℕ) (m : ℕ) → m ≤ length xs → list_all p (take m xs) ≡ true → m ≤ prefix_len p xs
passes_within p xs zero le e = omega arith
passes_within p [] (suc m) le e = absurd (omega arith)
passes_within p (x ∷ xs) (suc m) le e =
    let q = and_parts (p x) (list_all p (take m xs)) e in
    let more = passes_within p xs m (omega arith) q.1 in
    rw q.0 (omega arith)

-- ---- strings

twice : (b : Bool) → not (not b) ≡ true → b ≡ true
twice true e = refl
twice false e = absurd cc

unescaped : (xs : List ℕ) → list_all (λ b. not (not (is_string_byte b))) xs ≡ true → list_all is_string_byte xs ≡ true
unescaped [] e = refl
unescaped (x ∷ xs) e =
    let q = and_parts (not (not (is_string_byte x))) (list_all (λ b. not (not (is_string_byte b))) xs) e in
    and_from (is_string_byte x) (list_all is_string_byte xs) (twice (is_string_byte x) q.0) (unescaped xs q.1)

-- where the body ends
body_end : (body rest : List ℕ) → list_all is_string_byte body ≡ true → prefix_len (λ b. not (not (is_string_byte b))) (body ++ 34 ∷ rest) ≡ length body
body_end [] rest e = refl
body_end (x ∷ body) rest e =
    let q = and_parts (is_string_byte x) (list_all is_string_byte body) e in
    let more = body_end body rest q.1 in
    rw q.0 (omega (arith, more))

quote_there : (body rest : List ℕ) → slice_index (body ++ 34 ∷ rest) (length body) ≡ 34
quote_there [] rest = refl
quote_there (x ∷ body) rest = quote_there body rest

longer : (body rest : List ℕ) → length body < length (body ++ 34 ∷ rest)
longer [] rest = omega arith
longer (x ∷ body) rest = let more = longer body rest in omega arith

string_ends : (body rest : List ℕ) → list_all is_string_byte body ≡ true → string_end (body ++ 34 ∷ rest) ≡ Some (length body + 2)
string_ends body rest e =
    let bytes = body ++ 34 ∷ rest in
    let found : position (λ b. not (is_string_byte b)) bytes ≡ Some (length body) =
    ap (λ (n : ℕ). cond (ltb n (length bytes)) (Some n) None) (body_end body rest e) ∙ rw (lt-ltb (length body) (length bytes) (longer body rest)) refl in
    ap (quoted_string_end bytes) found ∙ ap (λ (b : ℕ). cond (b == 34) (Some (length body + 2)) None) (quote_there body rest)

string_here : (body bytes : List ℕ) (k : ℕ) → list_all is_string_byte body ≡ true → body ++ 34 ∷ [] ≡ take k bytes → k ≤ length bytes → string_end bytes ≡ Some (suc k)
string_here body bytes k e is le =
    let long : length (body ++ 34 ∷ []) ≡ k = ap length is ∙ length-take-le k bytes le in
    let size : length body + 2 ≡ suc k = omega (arith, long, length-append body (34 ∷ [])) in
    let parts : body ++ 34 ∷ drop k bytes ≡ bytes =
    sym (append_assoc body (34 ∷ []) (drop k bytes)) ∙ ap (λ (u : List ℕ). u ++ drop k bytes) is ∙ take-append-drop k bytes in
    ap string_end (sym parts) ∙ string_ends body (drop k bytes) e ∙ ap (λ (n : ℕ). Some n) size

-- the place at which a string's body ends, from what was computed
pub record Ends (bytes : List ℕ) (n : ℕ) : Type 0 where
  pub at : ℕ
  pub size : n ≡ at + 2
  pub within : at < length bytes
  pub body : list_all is_string_byte (take at bytes) ≡ true
  pub quote : slice_index bytes at ≡ 34

ended : (bytes : List ℕ) (p n : ℕ) (inside quote : Bool) → p ≡ prefix_len (λ b. not (not (is_string_byte b))) bytes → ltb p (length bytes) ≡ inside → (slice_index bytes p == 34) ≡ quote → quoted_string_end bytes (cond inside (Some p) None) ≡ Some n → Ends bytes n
ended bytes p n true true is i q e =
    let shown : cond (slice_index bytes p == 34) (Some (p + 2)) None ≡ Some n = e in
    let some : ◌≡◌ {A = Option ℕ} (Some (p + 2)) (Some n) = sym (ap (λ (b : Bool). cond b (Some (p + 2)) None) q) ∙ shown in
    record {
      at = p;
      size = let j : p + 2 ≡ n = cc in sym j;
      within = ltb-true p (length bytes) i;
      body = unescaped (take p bytes) (subst (λ (m : ℕ). list_all (λ b. not (not (is_string_byte b))) (take m bytes) ≡ true) (sym is) (take_passes (λ b. not (not (is_string_byte b))) bytes));
      quote = eqb-true (slice_index bytes p) 34 q;
    }
ended bytes p n true false is i q e =
    let shown : cond (slice_index bytes p == 34) (Some (p + 2)) None ≡ Some n = e in
    let none : ◌≡◌ {A = Option ℕ} None (Some n) = sym (ap (λ (b : Bool). cond b (Some (p + 2)) None) q) ∙ shown in
    absurd cc
ended bytes p n false quote is i q e = absurd cc

ends : (bytes : List ℕ) (n : ℕ) → string_end bytes ≡ Some n → Ends bytes n
ends bytes n e =
    let p = prefix_len (λ b. not (not (is_string_byte b))) bytes in
    ended bytes p n (ltb p (length bytes)) (slice_index bytes p == 34) refl refl refl e

take_quote : (bytes : List ℕ) (p : ℕ) → p < length bytes → slice_index bytes p ≡ 34 → take (p + 1) bytes ≡ take p bytes ++ 34 ∷ []
take_quote [] p lt q = absurd (omega arith)
take_quote (x ∷ bytes) zero lt q = ap (λ (b : ℕ). b ∷ []) q
take_quote (x ∷ bytes) (suc p) lt q =
    let one : suc p + 1 ≡ suc (p + 1) = omega arith in
    ap (λ (n : ℕ). take n (x ∷ bytes)) one ∙ ap (λ (u : List ℕ). x ∷ u) (take_quote bytes p (omega arith) q)

string_token : (bytes : List ℕ) (n : ℕ) → Ends bytes n → IsToken (take n (34 ∷ bytes))
string_token bytes n h =
    let size : n ≡ suc (h.at + 1) = omega (arith, h.size) in
    let is : take n (34 ∷ bytes) ≡ 34 ∷ (take h.at bytes ++ 34 ∷ []) =
    ap (λ (m : ℕ). take m (34 ∷ bytes)) size ∙ ap (λ (u : List ℕ). 34 ∷ u) (take_quote bytes h.at h.within h.quote) in
    subst IsToken (sym is) (string (take h.at bytes) h.body)

-- ---- what tokens begin with

-- what a token of m bytes has that begins with b
data Begun (b : ℕ) (bytes : List ℕ) (m : ℕ) : Type 0 where
  word_begun : is_word_byte b ≡ true → m ≤ word_end (b ∷ bytes) → Begun b bytes m
  string_begun : b ≡ 34 → string_end bytes ≡ Some m → Begun b bytes m
  sign_begun : is_sign b ≡ true → m ≡ 1 → Begun b bytes m
  pair_begun : (c : ℕ) (rest : List ℕ) → bytes ≡ c ∷ rest → is_pair b c ≡ true → m ≡ 2 → Begun b bytes m

nonempty : {t : List ℕ} → IsToken t → t ≡ [] → ⊥
nonempty (word w e) i = let f = subst (λ (u : List ℕ). is_word u ≡ true) i e in cc
nonempty (string body e) i = cc
nonempty (sign b e) i = cc
nonempty (pair a b e) i = cc

none_taken : (k : ℕ) (bytes : List ℕ) → k ≤ length bytes → [] ≡ take k bytes → k ≡ 0
none_taken k bytes le e = let long : 0 ≡ length (take k bytes) = ap length e in omega (arith, long, length-take-le k bytes le)

one_taken : (k : ℕ) (bytes : List ℕ) (y : ℕ) → k ≤ length bytes → y ∷ [] ≡ take k bytes → (rest : List ℕ) × (bytes ≡ y ∷ rest) × (k ≡ 1)
one_taken zero bytes y le e = absurd cc
one_taken (suc k) [] y le e = absurd cc
one_taken (suc k) (z ∷ bytes) y le e =
    let first : y ≡ z = cc in
    let rest : [] ≡ take k bytes = cc in
    (bytes, ap (λ (x : ℕ). x ∷ bytes) (sym first), let none = none_taken k bytes (omega arith) rest in omega arith)

begun : {t : List ℕ} → IsToken t → (b : ℕ) (bytes : List ℕ) (k : ℕ) → k ≤ length bytes → t ≡ b ∷ take k bytes → Begun b bytes (suc k)
begun (word w e) b bytes k le i =
    let f = subst (λ (u : List ℕ). is_word u ≡ true) i e in
    let all = (and_parts (ltb 0 (length (b ∷ take k bytes))) (list_all is_word_byte (b ∷ take k bytes)) f).1 in
    let q = and_parts (is_word_byte b) (list_all is_word_byte (take k bytes)) all in
    let more = passes_within is_word_byte bytes k le q.1 in
    let bound : suc k ≤ word_end (b ∷ bytes) = rw q.0 (omega arith) in
    word_begun q.0 bound
begun (string body e) b bytes k le i =
    let first : 34 ≡ b = cc in
    let rest : body ++ 34 ∷ [] ≡ take k bytes = cc in
    string_begun (sym first) (string_here body bytes k e rest le)
begun (sign c e) b bytes k le i =
    let first : c ≡ b = cc in
    let rest : [] ≡ take k bytes = cc in
    sign_begun (subst (λ (x : ℕ). is_sign x ≡ true) first e) (let none = none_taken k bytes le rest in omega arith)
begun (pair a c e) b bytes k le i =
    let first : a ≡ b = cc in
    let rest : c ∷ [] ≡ take k bytes = cc in
    let one = one_taken k bytes c le rest in
    pair_begun c one.0 one.1 (subst (λ (x : ℕ). is_pair x c ≡ true) first e) (let size = one.2 in omega arith)

-- ---- what is computed

-- the sign that is in front is a token
record SignAt (b : ℕ) (bytes : List ℕ) (n : ℕ) : Type 0 where
  within : n ≤ length (b ∷ bytes)
  token : IsToken (take n (b ∷ bytes))
  some : 1 ≤ n

one_sign : (b : ℕ) (bytes : List ℕ) (n : ℕ) (s : Bool) → is_sign b ≡ s → cond s (Some 1) None ≡ Some n → SignAt b bytes n
one_sign b bytes n true i e =
    let one : 1 ≡ n = cc in
    subst (SignAt b bytes) one (record { within = omega arith; token = sign b i; some = omega arith })
one_sign b bytes n false i e = absurd cc

two_signs : (b c : ℕ) (bytes : List ℕ) (n : ℕ) (p : Bool) → is_pair b c ≡ p → cond p (Some 2) (cond (is_sign b) (Some 1) None) ≡ Some n → SignAt b (c ∷ bytes) n
two_signs b c bytes n true i e =
    let two : 2 ≡ n = cc in
    subst (SignAt b (c ∷ bytes)) two (record { within = omega arith; token = pair b c i; some = omega arith })
two_signs b c bytes n false i e = one_sign b (c ∷ bytes) n (is_sign b) refl e

signs : (b : ℕ) (bytes : List ℕ) (n : ℕ) → sign_at b bytes ≡ Some n → SignAt b bytes n
signs b [] n e = one_sign b [] n (is_sign b) refl e
signs b (c ∷ bytes) n e = two_signs b c bytes n (is_pair b c) refl e

pair_there : (b c : ℕ) (bytes rest : List ℕ) → bytes ≡ c ∷ rest → is_pair b c ≡ true → sign_at b bytes ≡ Some 2
pair_there b c bytes rest e i = ap (sign_at b) e ∙ ap (λ (p : Bool). cond p (Some 2) (cond (is_sign b) (Some 1) None)) i

neither : (b : Bool) → ◌≡◌ {A = Option ℕ} (cond b (Some 2) (Some 1)) None → ⊥
neither true e = cc
neither false e = cc

sign_there : (b : ℕ) (bytes : List ℕ) → is_sign b ≡ true → sign_at b bytes ≡ None → ⊥
sign_there b [] i e = let none : ◌≡◌ {A = Option ℕ} (Some 1) None = sym (ap (λ (s : Bool). cond s (Some 1) None) i) ∙ e in cc
sign_there b (c ∷ bytes) i e =
    let one : sign_at b (c ∷ bytes) ≡ cond (is_pair b c) (Some 2) (Some 1) = ap (λ (s : Bool). cond (is_pair b c) (Some 2) (cond s (Some 1) None)) i in
    neither (is_pair b c) (sym one ∙ e)

-- no byte is of two kinds
word_no_quote : (b : ℕ) → is_word_byte b ≡ true → b ≡ 34 → ⊥
word_no_quote b w i = both (is_word_byte b) w (ap is_word_byte i)

word_no_sign : (b : ℕ) → is_word_byte b ≡ true → is_sign b ≡ true → ⊥
word_no_sign b w i = both (is_word_byte b) w (sign_fails is_word_byte b refl i)

word_no_pair : (b c : ℕ) → is_word_byte b ≡ true → is_pair b c ≡ true → ⊥
word_no_pair b c w i = both (is_word_byte b) w (pair_fails is_word_byte b c refl refl refl refl refl refl i)

quote_no_sign : (b : ℕ) → (b == 34) ≡ true → is_sign b ≡ true → ⊥
quote_no_sign b q i = both (b == 34) q (sign_fails (λ x. x == 34) b refl i)

quote_no_pair : (b c : ℕ) → (b == 34) ≡ true → is_pair b c ≡ true → ⊥
quote_no_pair b c q i = both (b == 34) q (pair_fails (λ x. x == 34) b c refl refl refl refl refl refl i)

-- what is computed where the first byte is of a word, or a quote, or neither
abbrev from_first : Bool → Bool → ℕ → List ℕ → Option ℕ
from_first w q b bytes = cond w (Some (word_end (b ∷ bytes))) (cond q (string_end bytes) (sign_at b bytes))

some_same : (m n : ℕ) → ◌≡◌ {A = Option ℕ} (Some m) (Some n) → m ≡ n
some_same m n e = cc

bound : (b : ℕ) (bytes : List ℕ) (n m : ℕ) (w q : Bool) → is_word_byte b ≡ w → (b == 34) ≡ q → from_first w q b bytes ≡ Some n → Begun b bytes m → m ≤ n
bound b bytes n m true q i j e (word_begun k le) = let same : word_end (b ∷ bytes) ≡ n = cc in omega arith
bound b bytes n m true q i j e (string_begun k s) = absurd (word_no_quote b i k)
bound b bytes n m true q i j e (sign_begun k s) = absurd (word_no_sign b i k)
bound b bytes n m true q i j e (pair_begun c rest r k s) = absurd (word_no_pair b c i k)
bound b bytes n m false q i j e (word_begun k le) = absurd (both (is_word_byte b) k i)
bound b bytes n m false true i j e (string_begun k s) = let same : m ≡ n = some_same m n (sym s ∙ e) in omega arith
bound b bytes n m false true i j e (sign_begun k s) = absurd (quote_no_sign b j k)
bound b bytes n m false true i j e (pair_begun c rest r k s) = absurd (quote_no_pair b c j k)
bound b bytes n m false false i j e (string_begun k s) = absurd (both (b == 34) (ap (λ (x : ℕ). x == 34) k) j)
bound b bytes n m false false i j e (sign_begun k s) = let size = (signs b bytes n e).some in omega arith
bound b bytes n m false false i j e (pair_begun c rest r k s) = let same : 2 ≡ n = some_same 2 n (sym (pair_there b c bytes rest r k) ∙ e) in omega arith

ruled_out : (b : ℕ) (bytes : List ℕ) (m : ℕ) (w q : Bool) → is_word_byte b ≡ w → (b == 34) ≡ q → from_first w q b bytes ≡ None → Begun b bytes m → ⊥
ruled_out b bytes m true q i j e h = cc
ruled_out b bytes m false q i j e (word_begun k le) = both (is_word_byte b) k i
ruled_out b bytes m false true i j e (string_begun k s) = let f : ◌≡◌ {A = Option ℕ} (Some m) None = sym s ∙ e in cc
ruled_out b bytes m false true i j e (sign_begun k s) = quote_no_sign b j k
ruled_out b bytes m false true i j e (pair_begun c rest r k s) = quote_no_pair b c j k
ruled_out b bytes m false false i j e (string_begun k s) = both (b == 34) (ap (λ (x : ℕ). x == 34) k) j
ruled_out b bytes m false false i j e (sign_begun k s) = sign_there b bytes k e
ruled_out b bytes m false false i j e (pair_begun c rest r k s) = let f : ◌≡◌ {A = Option ℕ} (Some 2) None = sym (pair_there b c bytes rest r k) ∙ e in cc

-- the bytes that are computed are a token
record TokenAt (b : ℕ) (bytes : List ℕ) (n : ℕ) : Type 0 where
  within : n ≤ length (b ∷ bytes)
  token : IsToken (take n (b ∷ bytes))

word_taken : (b : ℕ) (bytes : List ℕ) → is_word_byte b ≡ true → is_word (take (word_end (b ∷ bytes)) (b ∷ bytes)) ≡ true
word_taken b bytes i =
    let all : list_all is_word_byte (take (word_end (b ∷ bytes)) (b ∷ bytes)) ≡ true = take_passes is_word_byte (b ∷ bytes) in
    let size : length (take (word_end (b ∷ bytes)) (b ∷ bytes)) ≡ word_end (b ∷ bytes) = length-take-le (word_end (b ∷ bytes)) (b ∷ bytes) (prefix_len-le-length is_word_byte (b ∷ bytes)) in
    let some : 0 < word_end (b ∷ bytes) = rw i (omega arith) in
    and_from (ltb 0 (length (take (word_end (b ∷ bytes)) (b ∷ bytes)))) (list_all is_word_byte (take (word_end (b ∷ bytes)) (b ∷ bytes))) (lt-ltb 0 (length (take (word_end (b ∷ bytes)) (b ∷ bytes))) (omega arith)) all

token_at : (b : ℕ) (bytes : List ℕ) (n : ℕ) (w q : Bool) → is_word_byte b ≡ w → (b == 34) ≡ q → from_first w q b bytes ≡ Some n → TokenAt b bytes n
token_at b bytes n true q i j e =
    let same : word_end (b ∷ bytes) ≡ n = cc in
    subst (TokenAt b bytes) same (record { within = prefix_len-le-length is_word_byte (b ∷ bytes); token = word (take (word_end (b ∷ bytes)) (b ∷ bytes)) (word_taken b bytes i) })
token_at b bytes n false true i j e =
    let h = ends bytes n e in
    record {
      within = omega (arith, h.size, h.within);
      token = subst (λ (x : ℕ). IsToken (take n (x ∷ bytes))) (sym (eqb-true b 34 j)) (string_token bytes n h);
    }
token_at b bytes n false false i j e = let h = signs b bytes n e in record { within = h.within; token = h.token }

-- ---- the longest token

longest_at : (b : ℕ) (bytes : List ℕ) (n m : ℕ) → longest_token (b ∷ bytes) ≡ Some n → m ≤ length (b ∷ bytes) → IsToken (take m (b ∷ bytes)) → m ≤ n
longest_at b bytes n zero e le h = omega arith
longest_at b bytes n (suc k) e le h = bound b bytes n (suc k) (is_word_byte b) (b == 34) refl refl e (begun h b bytes k (omega arith) refl)

pub front_longest : (bytes : List ℕ) (n : ℕ) → longest_token bytes ≡ Some n → IsLongest bytes n
front_longest [] n e = absurd cc
front_longest (b ∷ bytes) n e =
    let t = token_at b bytes n (is_word_byte b) (b == 34) refl refl e in
    record { within = t.within; token = t.token; longest = λ m le h. longest_at b bytes n m e le h }

none_at : (b : ℕ) (bytes : List ℕ) (m : ℕ) → longest_token (b ∷ bytes) ≡ None → m ≤ length (b ∷ bytes) → IsToken (take m (b ∷ bytes)) → ⊥
none_at b bytes zero e le h = nonempty h refl
none_at b bytes (suc k) e le h = ruled_out b bytes (suc k) (is_word_byte b) (b == 34) refl refl e (begun h b bytes k (omega arith) refl)

pub front_none : (b : ℕ) (bytes : List ℕ) → longest_token (b ∷ bytes) ≡ None → BeginsNone (b ∷ bytes)
front_none b bytes e = λ m le h. none_at b bytes m e le h

-- a token has a byte
pub longest_some : (bytes : List ℕ) (n : ℕ) → IsLongest bytes n → 0 < n
longest_some bytes zero h = absurd (nonempty h.token refl)
longest_some bytes (suc n) h = omega arith

not_both : (b : Bool) → (b ≡ true → ⊥) → b ≡ false
not_both true h = absurd (h refl)
not_both false h = refl

word_blank : (b : ℕ) → is_word_byte b ≡ true → is_blank b ≡ false
word_blank b w = not_both (is_blank b) (λ t. elim (or_cases (b == 32) (b == 9) t) [
  | inl i ↦ both (is_word_byte b) w (ap is_word_byte (eqb-true b 32 i))
  | inr i ↦ both (is_word_byte b) w (ap is_word_byte (eqb-true b 9 i))
])

-- no token begins with a blank
blank_begins : (b : ℕ) (bytes : List ℕ) (m : ℕ) → is_blank b ≡ true → Begun b bytes m → ⊥
blank_begins b bytes m i (word_begun k le) = both (is_blank b) i (word_blank b k)
blank_begins b bytes m i (string_begun k s) = both (is_blank b) i (ap is_blank k)
blank_begins b bytes m i (sign_begun k s) = both (is_blank b) i (sign_fails is_blank b refl k)
blank_begins b bytes m i (pair_begun c rest r k s) = both (is_blank b) i (pair_fails is_blank b c refl refl refl refl refl refl k)

none_blank : (b : ℕ) (bytes : List ℕ) (m : ℕ) → is_blank b ≡ true → m ≤ length (b ∷ bytes) → IsToken (take m (b ∷ bytes)) → ⊥
none_blank b bytes zero i le h = nonempty h refl
none_blank b bytes (suc k) i le h = blank_begins b bytes (suc k) i (begun h b bytes k (omega arith) refl)

pub blank_none : (b : ℕ) (bytes : List ℕ) → is_blank b ≡ true → BeginsNone (b ∷ bytes)
blank_none b bytes i = λ m le h. none_blank b bytes m i le h
