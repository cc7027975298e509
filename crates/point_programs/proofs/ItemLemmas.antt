-- An item is read as it is spelled: a string, the node of the position's event, or else an expression.
use Rattle.std.proofs.Common.{◌≡◌, ℕ, zero, suc, Bool, true, false, cond, not, ◌&&◌, ◌||◌, ◌==◌, ◌≤◌, length, take, drop, arith, List, [], ◌∷◌, ◌++◌, Option, Some, None, option_map, Ok, bytes_eq, codes, slice_index, inl, inr, eqb-true, refl, sym, ap, ◌∙◌, subst}
use Rattle.std.specs.List.{list_all}
use Rattle.std.proofs.lemmas.Bool.{and_parts, cases_Bool, not-true, or_parts}
use Rattle.expression_text.specs.declared.expr.NodeName.TheVariants as node
use Rattle.expression_text.specs.Grammar.{IsExpr, clock, higher}
use Rattle.expression_text.specs.Laws.{ExactReading, NoSeparatorInExpr, is_apart_token}
use Rattle.expression_text.specs.Computed.{begins_some_expression, expression_spelled, viable_tokens}
use Rattle.expression_text.specs.Expression.{Clock, Expression}
use Rattle.point_programs.specs.Grammar.{IsSayItem, words, value, event_node}
use Rattle.point_programs.specs.Reading.{LeftTokens, ReadOfTokens, then_reads, before_quote, begins_with_dot, string_of, expression, item, names_event_node, node_or_value}
use Rattle.point_programs.specs.Tree.{SaidItem, Words, Value, NodeOfEvent}
use Rattle.point_programs.proofs.TokenSplits.{SameHead, same_bytes, same_head_behind, empty_too, headed_too, Split, SpellsSome}
use Rattle.point_programs.proofs.JoinedReading.{as_parted, as_split}
use Rattle.point_programs.proofs.ExpressionLemmas.{EndsWith, some_expression, expression_parted, expression_split, expression_reads}

-- ---- strings

mapped : (f : List ℕ → List ℕ) (o : Option (List ℕ)) (body : List ℕ) → option_map f o ≡ Some body → (rest : List ℕ) × (o ≡ Some rest) × (f rest ≡ body)
mapped f None body e = absurd cc
mapped f (Some rest) body e = (rest, refl, cc)

before_is : (bytes body : List ℕ) → before_quote bytes ≡ Some body → bytes ≡ body ++ 34 ∷ []
before_is [] body e = absurd cc
before_is (b ∷ []) body e = elim (cases_Bool (b == 34)) [
  | inl i ↦
      let none : ◌≡◌ {A = Option (List ℕ)} (Some []) (Some body) = rw i at e in
      let empty : [] ≡ body = cc in
      ap (λ (n : ℕ). n ∷ []) (eqb-true b 34 i) ∙ ap (λ (us : List ℕ). us ++ 34 ∷ []) empty
  | inr i ↦ let none : ◌≡◌ {A = Option (List ℕ)} None (Some body) = rw i at e in absurd cc
]
before_is (b ∷ c ∷ bytes) body e =
    let m = mapped (λ rest. b ∷ rest) (before_quote (c ∷ bytes)) body e in
    ap (λ (us : List ℕ). b ∷ us) (before_is (c ∷ bytes) m.0 m.1) ∙ ap (λ (us : List ℕ). us ++ 34 ∷ []) m.2

before_again : (body : List ℕ) → before_quote (body ++ 34 ∷ []) ≡ Some body
before_again [] = refl
before_again (b ∷ []) = refl
before_again (b ∷ c ∷ body) = ap (option_map (λ rest. b ∷ rest)) (before_again (c ∷ body))

string_is : (t body : List ℕ) → string_of t ≡ Some body → t ≡ 34 ∷ (body ++ 34 ∷ [])
string_is [] body e = absurd cc
string_is (b ∷ bytes) body e = elim (cases_Bool (b == 34)) [
  | inl i ↦ ap (λ (n : ℕ). n ∷ bytes) (eqb-true b 34 i) ∙ ap (λ (us : List ℕ). 34 ∷ us) (before_is bytes body (rw i at e))
  | inr i ↦ let none : ◌≡◌ {A = Option (List ℕ)} None (Some body) = rw i at e in absurd cc
]

no_string : (t : List ℕ) → not (is_apart_token t) ≡ true → string_of t ≡ None
no_string [] e = refl
no_string (b ∷ bytes) e =
    let text = b ∷ bytes in
    let signs = bytes_eq text (codes ",") || bytes_eq text (codes ";") || bytes_eq text (codes "{") || bytes_eq text (codes "}") in
    let other : (b == 34) ≡ false = (or_parts signs (slice_index text 0 == 34) (not-true (is_apart_token text) e)).1 in
    rw other refl

-- ---- values

-- no string is the first token
abbrev BeginsNoString : LeftTokens → Type 0
BeginsNoString [] = Unit {0}
BeginsNoString (t ∷ ts) = string_of t ≡ None

no_string_too : (ts other : LeftTokens) → BeginsNoString ts → SameHead ts other → BeginsNoString other
no_string_too [] other h same = empty_too BeginsNoString tt other same
no_string_too (t ∷ ts) [] h same = absurd same
no_string_too (t ∷ ts) (u ∷ us) h same = ap string_of (sym same) ∙ h

no_tree : (names : List (List ℕ)) → expression_spelled names [] ≡ None
unfolding expression_spelled
no_tree names = refl

item_value : (names : List (List ℕ)) (ts : LeftTokens) → BeginsNoString ts → names_event_node ts ≡ false → item names ts ≡ then_reads (expression names ts) (λ x left. Ok (Value x, left))
item_value names [] h f = rw (no_tree names) refl
item_value names (t ∷ ts) h f = rw h (ap (λ (b : Bool). node_or_value names b (t ∷ ts)) f)

-- ---- the node of the position's event

and_second : (a b : Bool) → b ≡ false → (a && b) ≡ false
and_second true b e = e
and_second false b e = refl

and_first : (a b : Bool) → a ≡ false → (a && b) ≡ false
and_first true b e = absurd cc
and_first false b e = refl

-- it is named by these two tokens, before no dot
node_parts : (ts : LeftTokens) → names_event_node ts ≡ true → (rest : LeftTokens) × (ts ≡ codes "@" ∷ codes "!" ∷ rest) × (begins_with_dot rest ≡ false)
node_parts [] e = absurd cc
node_parts (a ∷ []) e = absurd cc
node_parts (a ∷ b ∷ ts) e =
    let first = and_parts (bytes_eq a (codes "@")) (bytes_eq b (codes "!") && not (begins_with_dot ts)) e in
    let second = and_parts (bytes_eq b (codes "!")) (not (begins_with_dot ts)) first.1 in
    (ts, (λ i. same_bytes a (codes "@") first.0 i ∷ same_bytes b (codes "!") second.0 i ∷ ts), not-true (begins_with_dot ts) second.1)

no_dot_too : (ts other : LeftTokens) → begins_with_dot ts ≡ false → SameHead ts other → begins_with_dot other ≡ false
no_dot_too [] other e h = empty_too (λ us. begins_with_dot us ≡ false) refl other h
no_dot_too (t ∷ ts) other e h = headed_too (λ us. begins_with_dot us ≡ false) t ts (λ us. e) other h

node_read : (names : List (List ℕ)) (rest : LeftTokens) → begins_with_dot rest ≡ false → item names (codes "@" ∷ codes "!" ∷ rest) ≡ Ok (NodeOfEvent, rest)
node_read names rest e = ap (λ (b : Bool). node_or_value names (not b) (codes "@" ∷ codes "!" ∷ rest)) e

-- no at sign comes first
other_first : (a : List ℕ) → bytes_eq a (codes "@") ≡ false → (ts : LeftTokens) → names_event_node (a ∷ ts) ≡ false
other_first a e [] = refl
other_first a e (b ∷ ts) = and_first (bytes_eq a (codes "@")) (bytes_eq b (codes "!") && not (begins_with_dot ts)) e

-- no exclamation mark comes second
other_second : (a b : List ℕ) → bytes_eq b (codes "!") ≡ false → (ts : LeftTokens) → names_event_node (a ∷ b ∷ ts) ≡ false
other_second a b e ts = and_second (bytes_eq a (codes "@")) (bytes_eq b (codes "!") && not (begins_with_dot ts)) (and_first (bytes_eq b (codes "!")) (not (begins_with_dot ts)) e)

-- a dot comes third
dot_third : (a b d : List ℕ) → bytes_eq d (codes ".") ≡ true → (ts : LeftTokens) → names_event_node (a ∷ b ∷ d ∷ ts) ≡ false
dot_third a b d e ts = and_second (bytes_eq a (codes "@")) (bytes_eq b (codes "!") && not (bytes_eq d (codes "."))) (and_second (bytes_eq b (codes "!")) (not (bytes_eq d (codes "."))) (ap not e))

pub some_item : (names : List (List ℕ)) → SpellsSome (IsSayItem names)
some_item names = let some = some_expression names in (some.0, Value some.1, value some.2)

module _ (exact : ExactReading) (names : List (List ℕ)) where
  place : IsExpr names (codes "@" ∷ codes "!" ∷ codes "." ∷ codes "clock" ∷ []) (Clock node.OfEvent)
  place = higher (higher (higher (higher (higher (higher (clock (codes "!") node.OfEvent refl))))))

  begun : (front rest : LeftTokens) → IsExpr names (front ++ rest) (Clock node.OfEvent) → begins_some_expression names front ≡ true
  begun front rest h = (exact.begins names front).1 (record { rest = rest; whole = Clock node.OfEvent; spelled = h })

  -- an expression takes an at sign, an exclamation mark behind it, and a dot behind that
  takes_at : (ts : LeftTokens) → viable_tokens names [] (codes "@" ∷ ts) ≡ suc (viable_tokens names (codes "@" ∷ []) ts)
  takes_at ts = ap (λ (b : Bool). cond b (suc (viable_tokens names (codes "@" ∷ []) ts)) 0) (begun (codes "@" ∷ []) (codes "!" ∷ codes "." ∷ codes "clock" ∷ []) place)

  takes_dot : (ts : LeftTokens) → viable_tokens names (codes "@" ∷ []) (codes "!" ∷ codes "." ∷ ts) ≡ suc (suc (viable_tokens names (codes "@" ∷ codes "!" ∷ codes "." ∷ []) ts))
  takes_dot ts =
      ap (λ (b : Bool). cond b (suc (viable_tokens names (codes "@" ∷ codes "!" ∷ []) (codes "." ∷ ts))) 0) (begun (codes "@" ∷ codes "!" ∷ []) (codes "." ∷ codes "clock" ∷ []) place)
      ∙ ap (λ (b : Bool). suc (cond b (suc (viable_tokens names (codes "@" ∷ codes "!" ∷ codes "." ∷ []) ts)) 0)) (begun (codes "@" ∷ codes "!" ∷ codes "." ∷ []) (codes "clock" ∷ []) place)

  -- what is read as a value still is, whatever follows the tokens that are left
  second_stays : (b : List ℕ) (ts other : LeftTokens) (m : ℕ) → bytes_eq b (codes "!") ≡ false → SameHead (drop m (b ∷ ts)) other → names_event_node (codes "@" ∷ (take m (b ∷ ts) ++ other)) ≡ false
  second_stays b ts other zero e h = headed_too (λ us. names_event_node (codes "@" ∷ us) ≡ false) b ts (λ us. other_second (codes "@") b e us) other h
  second_stays b ts other (suc m) e h = other_second (codes "@") b e (take m ts ++ other)

  dot_stays : (ts other : LeftTokens) (m : ℕ) → viable_tokens names (codes "@" ∷ []) (codes "!" ∷ codes "." ∷ ts) ≡ m → names_event_node (codes "@" ∷ (take m (codes "!" ∷ codes "." ∷ ts) ++ other)) ≡ false
  dot_stays ts other m e =
      let k = viable_tokens names (codes "@" ∷ codes "!" ∷ codes "." ∷ []) ts in
      subst (λ (n : ℕ). names_event_node (codes "@" ∷ (take n (codes "!" ∷ codes "." ∷ ts) ++ other)) ≡ false) (sym (takes_dot ts) ∙ e) (dot_third (codes "@") (codes "!") (codes ".") refl (take k ts ++ other))

  at_stays : (ts other : LeftTokens) (m : ℕ) → viable_tokens names (codes "@" ∷ []) ts ≡ m → names_event_node (codes "@" ∷ ts) ≡ false → SameHead (drop m ts) other → names_event_node (codes "@" ∷ (take m ts ++ other)) ≡ false
  at_stays [] other zero e f h = empty_too (λ us. names_event_node (codes "@" ∷ us) ≡ false) refl other h
  at_stays [] other (suc m) e f h = empty_too (λ us. names_event_node (codes "@" ∷ us) ≡ false) refl other h
  at_stays (b ∷ []) other m e f h = elim (cases_Bool (bytes_eq b (codes "!"))) [
    | inl i ↦ let never : ◌≡◌ {A = Bool} true false = sym (ap (λ (t : Bool). t && true) i) ∙ f in absurd cc
    | inr i ↦ second_stays b [] other m i h
  ]
  at_stays (b ∷ d ∷ ts) other m e f h = elim (cases_Bool (bytes_eq b (codes "!"))) [
    | inl i ↦ elim (cases_Bool (bytes_eq d (codes "."))) [
      | inl dot ↦
          let same : b ∷ d ∷ ts ≡ codes "!" ∷ codes "." ∷ ts = λ j. same_bytes b (codes "!") i j ∷ same_bytes d (codes ".") dot j ∷ ts in
          subst (λ (us : LeftTokens). names_event_node (codes "@" ∷ (take m us ++ other)) ≡ false) (sym same)
          (dot_stays ts other m (ap (viable_tokens names (codes "@" ∷ [])) (sym same) ∙ e))
      | inr dot ↦ let never : ◌≡◌ {A = Bool} true false = sym ((λ j. i j && not (dot j))) ∙ f in absurd cc
    ]
    | inr i ↦ second_stays b (d ∷ ts) other m i h
  ]

  first_stays : (a : List ℕ) (ts other : LeftTokens) (n : ℕ) → bytes_eq a (codes "@") ≡ false → SameHead (drop n (a ∷ ts)) other → names_event_node (take n (a ∷ ts) ++ other) ≡ false
  first_stays a ts other zero e h = headed_too (λ us. names_event_node us ≡ false) a ts (λ us. other_first a e us) other h
  first_stays a ts other (suc n) e h = other_first a e (take n ts ++ other)

  value_stays : (ts other : LeftTokens) (n : ℕ) → viable_tokens names [] ts ≡ n → names_event_node ts ≡ false → SameHead (drop n ts) other → names_event_node (take n ts ++ other) ≡ false
  value_stays [] other zero e f h = empty_too (λ us. names_event_node us ≡ false) refl other h
  value_stays [] other (suc n) e f h = empty_too (λ us. names_event_node us ≡ false) refl other h
  value_stays (a ∷ ts) other n e f h = elim (cases_Bool (bytes_eq a (codes "@"))) [
    | inl i ↦
        let same = same_bytes a (codes "@") i in
        let m = viable_tokens names (codes "@" ∷ []) ts in
        let count : n ≡ suc m = sym e ∙ ap (λ (t : List ℕ). viable_tokens names [] (t ∷ ts)) same ∙ takes_at ts in
        subst (λ (k : ℕ). names_event_node (take k (a ∷ ts) ++ other) ≡ false) (sym count)
        (subst (λ (t : List ℕ). names_event_node (t ∷ (take m ts ++ other)) ≡ false) (sym same)
        (at_stays ts other m refl (ap (λ (t : List ℕ). names_event_node (t ∷ ts)) (sym same) ∙ f) (subst (λ (k : ℕ). SameHead (drop k (a ∷ ts)) other) count h)))
    | inr i ↦ first_stays a ts other n i h
  ]

  value_split : (ts : LeftTokens) → BeginsNoString ts → names_event_node ts ≡ false → Split (item names) (IsSayItem names) ts
  value_split ts h f =
      let s = expression_split exact names ts in
      let split = as_split (IsExpr names) (IsSayItem names) Value (expression names) (λ front x k. value k) ts s in
      let parted = as_parted (IsExpr names) (IsSayItem names) Value (expression names) (λ front x k. value k) ts s in
      let front = parted.0 ∙ (expression_parted exact names ts).0 in
      let left = parted.1 ∙ (expression_parted exact names ts).1 in
      record {
        front = split.front;
        left = split.left;
        got = split.got;
        parts = split.parts;
        spelled = split.spelled;
        local = λ us same.
            let stays = value_stays ts us (viable_tokens names [] ts) refl f (subst (λ (vs : LeftTokens). SameHead vs us) left same) in
            item_value names (split.front ++ us) (no_string_too ts (split.front ++ us) h (subst (λ (vs : LeftTokens). SameHead vs (split.front ++ us)) (sym split.parts) (same_head_behind split.front split.left us same)))
            (subst (λ (vs : LeftTokens). names_event_node (vs ++ us) ≡ false) (sym front) stays)
            ∙ split.local us same;
      }

  node_split : (ts : LeftTokens) → names_event_node ts ≡ true → Split (item names) (IsSayItem names) ts
  node_split ts e =
      let p = node_parts ts e in
      record {
        front = codes "@" ∷ codes "!" ∷ [];
        left = p.0;
        got = Some NodeOfEvent;
        parts = p.1;
        spelled = event_node;
        local = λ us same. node_read names us (no_dot_too p.0 us p.2 same);
      }

  item_from : (t : List ℕ) (ts : LeftTokens) (o : Option (List ℕ)) → string_of t ≡ o → Split (item names) (IsSayItem names) (t ∷ ts)
  item_from t ts None e = elim (cases_Bool (names_event_node (t ∷ ts))) [ inl n ↦ node_split (t ∷ ts) n | inr n ↦ value_split (t ∷ ts) e n ]
  item_from t ts (Some body) e = record {
    front = t ∷ [];
    left = ts;
    got = Some (Words body);
    parts = refl;
    spelled = subst (λ (u : List ℕ). IsSayItem names (u ∷ []) (Words body)) (sym (string_is t body e)) (words body);
    local = λ us same. rw e refl;
  }

  pub item_split : (ts : LeftTokens) → Split (item names) (IsSayItem names) ts
  item_split [] = value_split [] tt refl
  item_split (t ∷ ts) = item_from t ts (string_of t) refl

-- ---- what is spelled is read

module _ (exact : ExactReading) (names : List (List ℕ)) where
  none_spelled : (x : Expression) → IsExpr names [] x → ⊥
  none_spelled x h = let none : ◌≡◌ {A = Option Expression} None (Some x) = sym (no_tree names) ∙ (exact.expressions names [] x).1 h in cc

  pub item_takes : {a : LeftTokens} {i : SaidItem} → IsSayItem names a i → 1 ≤ length a
  item_takes (words body) = omega arith
  item_takes event_node = omega arith
  item_takes (value {a} {x} h) = some_taken a x h
    where
      some_taken : (a : LeftTokens) (x : Expression) → IsExpr names a x → 1 ≤ length a
      some_taken [] x h = absurd (none_spelled x h)
      some_taken (t ∷ a) x h = omega arith

module _ (exact : ExactReading) (apart : NoSeparatorInExpr) (names : List (List ℕ)) where
  expression_begins : (a rest : LeftTokens) (x : Expression) → IsExpr names a x → BeginsNoString (a ++ rest)
  expression_begins [] rest x h = absurd (none_spelled exact names x h)
  expression_begins (t ∷ a) rest x h = no_string t (and_parts (not (is_apart_token t)) (list_all (λ u. not (is_apart_token u)) a) (apart names (t ∷ a) x h)).0

  -- no dot and no exclamation mark ends an expression
  apart_other : (sign t : List ℕ) → is_apart_token sign ≡ false → is_apart_token t ≡ true → bytes_eq t sign ≡ false
  apart_other sign t never e = elim (cases_Bool (bytes_eq t sign)) [
    | inl i ↦ let both : ◌≡◌ {A = Bool} true false = sym e ∙ ap is_apart_token (same_bytes t sign i) ∙ never in absurd cc
    | inr i ↦ i
  ]

  no_dot_ends : (rest : LeftTokens) → EndsWith is_apart_token rest → begins_with_dot rest ≡ false
  no_dot_ends [] e = refl
  no_dot_ends (t ∷ rest) e = apart_other (codes ".") t refl e

  one_token : (t : List ℕ) (rest : LeftTokens) → EndsWith is_apart_token rest → names_event_node (t ∷ rest) ≡ false
  one_token t [] e = refl
  one_token t (u ∷ rest) e = other_second t u (apart_other (codes "!") u refl e) rest

  -- what begins an expression so goes on with a dot
  two_tokens : (t u : List ℕ) (a rest : LeftTokens) (x : Expression) → IsExpr names (t ∷ u ∷ a) x → names_event_node (t ∷ u ∷ (a ++ rest)) ≡ false
  two_tokens t u a rest x h = elim (cases_Bool (bytes_eq t (codes "@"))) [
    | inr i ↦ other_first t i (u ∷ (a ++ rest))
    | inl i ↦ elim (cases_Bool (bytes_eq u (codes "!"))) [
      | inr j ↦ other_second t u j (a ++ rest)
      | inl j ↦
          let same : t ∷ u ∷ a ≡ codes "@" ∷ codes "!" ∷ a = λ k. same_bytes t (codes "@") i k ∷ same_bytes u (codes "!") j k ∷ a in
          let dot = exact.dotted names a x (subst (λ (us : LeftTokens). IsExpr names us x) same h) in
          subst (λ (us : LeftTokens). names_event_node (t ∷ u ∷ (us ++ rest)) ≡ false) (sym dot.1) (dot_third t u (codes ".") refl (dot.0 ++ rest))
    ]
  ]

  no_node : (a rest : LeftTokens) (x : Expression) → IsExpr names a x → EndsWith is_apart_token rest → names_event_node (a ++ rest) ≡ false
  no_node [] rest x h e = absurd (none_spelled exact names x h)
  no_node (t ∷ []) rest x h e = one_token t rest e
  no_node (t ∷ u ∷ a) rest x h e = two_tokens t u a rest x h

  pub item_reads : (a rest : LeftTokens) (i : SaidItem) → IsSayItem names a i → EndsWith is_apart_token rest → item names (a ++ rest) ≡ Ok (i, rest)
  item_reads a rest i (words body) e = rw (before_again body) refl
  item_reads a rest i event_node e = node_read names rest (no_dot_ends rest e)
  item_reads a rest i (value {x} h) e =
      item_value names (a ++ rest) (expression_begins a rest x h) (no_node a rest x h e)
      ∙ ap (λ (r : ReadOfTokens Expression). then_reads r (λ x left. Ok (Value x, left))) (expression_reads exact apart names a rest x h e)
