-- What is at a number among tokens.
use Rattle.std.proofs.Common.{◌≡◌, ℕ, suc, ◌+◌, ◌-◌, ◌<◌, ◌≤◌, ◌==◌, ◌&&◌, not, codes, Bool, true, false, bytes_eq, cond, List, [], ◌∷◌, ◌++◌, length, drop, slice_get, Option, Some, None, option_map, unwrap_or, if◌then◌else◌, eq-eqb, Result, Ok, Err, inl, inr, refl, sym, ap, ◌∙◌, arith, add-one, length-drop}
use Rattle.std.proofs.Math.Seq.{drop-cons}
use Rattle.std.proofs.lemmas.List.{drop-drop, drop_all, length-map}
use Rattle.std.proofs.lemmas.Option.{get_or_from_slice_get, slice_get_cases, slice_get_past, slice_get_within}
use Rattle.std.proofs.lemmas.Bool.{ne_eqb}
use Rattle.std.specs.Option.{option_and_then}
use Rattle.std.specs.Result.{is_ok}
use Rattle.expression_text.specs.Lexing.{LexedLine, PlacedToken, column_of_token, token_texts}
use Rattle.point_programs.specs.Parsing.{column_of}
use Rattle.point_programs.specs.Reading.{LeftTokens, before_quote, after_token, names_event_node, read_or_stays, token_read_as}

-- the tokens from one on, where it is there
pub at_token : (ts : LeftTokens) (n : ℕ) (t : List ℕ) → slice_get ts n ≡ Some t → drop n ts ≡ t ∷ drop (n + 1) ts
at_token ts n t e =
    let there : n < length ts = slice_get_within ts n t e in
    drop-cons ts n t there ∙ (ap (λ (x : List ℕ). x ∷ drop (suc n) ts) (get_or_from_slice_get ts n t t e) ∙ ap (λ (m : ℕ). t ∷ drop m ts) (sym (add-one n)))

-- the same where it is not
pub at_end : (ts : LeftTokens) (n : ℕ) → slice_get ts n ≡ None → drop n ts ≡ []
at_end ts n e = elim (slice_get_cases ts n).1 [ inl h ↦ absurd (cc (h.2, e)) | inr h ↦ drop_all n ts h.0 ]

-- the tokens after the next one
pub drop_one : (ts : LeftTokens) (n : ℕ) → drop 1 (drop n ts) ≡ drop (n + 1) ts
drop_one ts n = drop-drop 1 n ts

-- the column of the tokens from one on is that of the token
pub column_here : (line : LexedLine) (n : ℕ) → column_of line (drop n (token_texts line)) ≡ column_of_token line n
column_here line n =
    elim (slice_get_cases line.tokens n).1 [
      | inl h ↦
          let there : length (token_texts line) - length (drop n (token_texts line)) ≡ n = omega (arith, length-drop n (token_texts line), length-map line.tokens (λ t. t.text), h.1) in
          ap (column_of_token line) there
      | inr h ↦
          let past : length line.tokens ≤ length (token_texts line) - length (drop n (token_texts line)) = omega (arith, length-drop n (token_texts line), length-map line.tokens (λ t. t.text), h.0) in
          let column : Option PlacedToken → ℕ = λ t. unwrap_or (option_map (λ t. t.column) t) line.end in
          ap column (slice_get_past line.tokens _ past) ∙ sym (ap column h.1)
    ]

-- a token as what it is to be
pub token_here : {A : Type 0} (meaning : List ℕ → Option A) (ts : LeftTokens) (n : ℕ) (t : Option (List ℕ)) → slice_get ts n ≡ t → token_read_as meaning (drop n ts) ≡ read_or_stays (option_and_then meaning t) (drop n ts) (drop (n + 1) ts)
token_here meaning ts n None e = rw (at_end ts n e) refl
token_here meaning ts n (Some t) e = rw (at_token ts n t e) refl

-- a token as what it is
pub taken : {A : Type 0} (meaning : List ℕ → Option A) (ts : LeftTokens) (n : ℕ) (a : A) → option_and_then meaning (slice_get ts n) ≡ Some a → token_read_as meaning (drop n ts) ≡ Ok (a, drop (n + 1) ts)
taken {A} meaning ts n a e = token_here meaning ts n (slice_get ts n) refl ∙ ap (λ (o : Option A). read_or_stays o (drop n ts) (drop (n + 1) ts)) e

-- a token that is none such
pub not_taken : {A : Type 0} (meaning : List ℕ → Option A) (line : LexedLine) (n column : ℕ) → option_and_then meaning (slice_get (token_texts line) n) ≡ None → column ≡ column_of_token line n → (left : LeftTokens) × (token_read_as meaning (drop n (token_texts line)) ≡ Err left) × (column ≡ column_of line left)
not_taken {A} meaning line n column e is =
    let ts = token_texts line in
    (drop n ts, token_here meaning ts n (slice_get ts n) refl ∙ ap (λ (o : Option A). read_or_stays o (drop n ts) (drop (n + 1) ts)) e, is ∙ sym (column_here line n))

-- the first tokens where a test holds, and else the second ones
abbrev picked : Bool → LeftTokens → LeftTokens → Result LeftTokens LeftTokens
picked b x y = if b then Ok x else Err y

ok_picked : (b : Bool) (x y : LeftTokens) → is_ok (picked b x y) ≡ b
ok_picked true x y = refl
ok_picked false x y = refl

-- whether the first token has a text
pub first_is : (text t : List ℕ) (left : LeftTokens) → is_ok (after_token text (t ∷ left)) ≡ bytes_eq t text
first_is text t left = ok_picked (bytes_eq t text) left (t ∷ left)

-- whether the token with a number has it
pub stands_here : (text : List ℕ) (ts : LeftTokens) (n : ℕ) (t : List ℕ) → slice_get ts n ≡ Some t → is_ok (after_token text (drop n ts)) ≡ bytes_eq t text
stands_here text ts n t e = rw (at_token ts n t e) (first_is text t (drop (n + 1) ts))

pub stands_nowhere : (text : List ℕ) (ts : LeftTokens) (n : ℕ) → slice_get ts n ≡ None → is_ok (after_token text (drop n ts)) ≡ false
stands_nowhere text ts n e = rw (at_end ts n e) refl

-- past a token with the text
pub goes : (text : List ℕ) (left : LeftTokens) → is_ok (after_token text left) ≡ true → after_token text left ≡ Ok (drop 1 left)
goes text [] e = absurd (cc)
goes text (t ∷ left) e = ap (λ (b : Bool). picked b left (t ∷ left)) (sym (first_is text t left) ∙ e)

-- not past another one
pub stays : (text : List ℕ) (left : LeftTokens) → is_ok (after_token text left) ≡ false → after_token text left ≡ Err left
stays text [] e = refl
stays text (t ∷ left) e = ap (λ (b : Bool). picked b left (t ∷ left)) (sym (first_is text t left) ∙ e)

map_if : (b : Bool) (f : List ℕ → List ℕ) (x : List ℕ) → option_map f (cond b (Some x) None) ≡ cond b (Some (f x)) None
map_if true f x = refl
map_if false f x = refl

-- a quote at the end
pub before_last : (front : List ℕ) (b : ℕ) → before_quote (front ++ b ∷ []) ≡ cond (b == 34) (Some front) None
before_last [] b = refl
before_last (a ∷ []) b = map_if (b == 34) (λ body. a ∷ body) []
before_last (a ∷ c ∷ front) b = ap (option_map (λ (body : List ℕ). a ∷ body)) (before_last (c ∷ front) b) ∙ map_if (b == 34) (λ body. a ∷ body) (c ∷ front)

abbrev quoted : Bool → List ℕ → Option (List ℕ)
quoted b front = if b then Some front else None

pub quote_last : (bytes front : List ℕ) (b : ℕ) → bytes ≡ front ++ b ∷ [] → b ≡ 34 → Some front ≡ before_quote bytes
quote_last bytes front b e is = sym (ap before_quote e ∙ (before_last front b ∙ ap (λ (t : Bool). quoted t front) (eq-eqb b 34 is)))

pub no_quote_last : (bytes front : List ℕ) (b : ℕ) → bytes ≡ front ++ b ∷ [] → (b ≡ 34 → ⊥) → None ≡ before_quote bytes
no_quote_last bytes front b e not = sym (ap before_quote e ∙ (before_last front b ∙ ap (λ (t : Bool). quoted t front) (ne_eqb b 34 not)))

-- ---- the node of the position's event

and_none : (b : Bool) → (b && false) ≡ false
and_none true = refl
and_none false = refl

-- what three tokens in a row say of it
pub node_here : (ts : LeftTokens) → names_event_node ts
    ≡ (is_ok (after_token (codes "@") ts) && (is_ok (after_token (codes "!") (drop 1 ts)) && not (is_ok (after_token (codes ".") (drop 2 ts)))))
node_here [] = refl
node_here (a ∷ []) = sym (and_none (is_ok (after_token (codes "@") (a ∷ []))))
node_here (a ∷ b ∷ []) = λ i. sym (first_is (codes "@") a (b ∷ [])) i && (sym (first_is (codes "!") b []) i && true)
node_here (a ∷ b ∷ d ∷ ts) = λ i. sym (first_is (codes "@") a (b ∷ d ∷ ts)) i && (sym (first_is (codes "!") b (d ∷ ts)) i && not (sym (first_is (codes ".") d ts) i))

-- the same of the tokens from one on
pub node_from : (ts : LeftTokens) (n : ℕ) (sign event : Bool) → sign ≡ is_ok (after_token (codes "@") (drop n ts))
    → event ≡ (is_ok (after_token (codes "!") (drop (n + 1) ts)) && not (is_ok (after_token (codes ".") (drop (n + 1 + 1) ts)))) → (sign && event) ≡ names_event_node (drop n ts)
node_from ts n sign event e f =
    let two : n + 1 + 1 ≡ n + 2 = omega arith in
    let second = ap (λ (us : LeftTokens). is_ok (after_token (codes "!") us)) (sym (drop-drop 1 n ts)) in
    let third = ap (λ (k : ℕ). is_ok (after_token (codes ".") (drop k ts))) two ∙ ap (λ (us : LeftTokens). is_ok (after_token (codes ".") us)) (sym (drop-drop 2 n ts)) in
    (λ i. e i && f i) ∙ (λ i. is_ok (after_token (codes "@") (drop n ts)) && (second i && not (third i))) ∙ sym (node_here (drop n ts))
