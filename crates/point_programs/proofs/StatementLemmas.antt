-- Statements and programs split tokens as the grammar spells them.
use Rattle.std.proofs.Common.{◌≡◌, ℕ, zero, suc, Bool, true, false, cond, List, [], ◌∷◌, ◌++◌, Option, Some, None, Ok, bytes_eq, codes, inl, inr, refl, sym, ap, ◌∙◌, subst, append_assoc, append-nil}
use Rattle.std.specs.List.{find}
use Rattle.std.proofs.lemmas.Bool.{cases_Bool}
use Rattle.expression_text.specs.Grammar.{IsExpr}
use Rattle.expression_text.specs.Laws.{ExactReading}
use Rattle.expression_text.specs.Spelling.{is_word}
use Rattle.expression_text.specs.Expression.{Expression}
use Rattle.point_programs.specs.declared.keyword.Keyword.{Keyword}
use Rattle.point_programs.specs.declared.keyword.Keyword.TheVariants as keyword
use Rattle.point_programs.specs.Grammar.{IsSayItem, AreSayItems, IsStatement, IsProgram, last, more, set, say, stop, if_alone, if_else}
use Rattle.point_programs.specs.Reading.{LeftTokens, ReadOfTokens, then_goes_past, after_token, token_read_as, word_of, keyword_text, keywords, keyword_of, expression, separated_items, item, set_statement, say_statement, braced_part, else_part, if_statement, statement_by, statement, program_in}
use Rattle.point_programs.specs.Tree.{Statement, Set, Say, Stop, If, Statements, End, Then, sequence}
use Rattle.point_programs.proofs.TokenSplits.{same_bytes, empty_too, headed_too, Split, SpellsSome, stuck}
use Rattle.point_programs.proofs.JoinedReading.{then_split, as_split, behind_split, goes_split, Means, token_split}
use Rattle.point_programs.proofs.ExpressionLemmas.{some_expression, expression_split}
use Rattle.point_programs.proofs.ItemLemmas.{some_item, item_split}
use Rattle.point_programs.proofs.ListLemmas.{Listed, separated_split}

-- ---- keywords and names

passes_by : {X : Type 0} (test : X → Bool) (first x : X) (rest : Option X) → (rest ≡ Some x → test x ≡ true) → (b : Bool) → test first ≡ b → cond b (Some first) rest ≡ Some x → test x ≡ true
passes_by test first x rest later true is e = let same : first ≡ x = cc in ap test (sym same) ∙ is
passes_by test first x rest later false is e = later e

found_passes : {X : Type 0} (test : X → Bool) (xs : List X) (x : X) → find test xs ≡ Some x → test x ≡ true
found_passes test [] x e = absurd cc
found_passes test (first ∷ xs) x e = passes_by test first x (find test xs) (found_passes test xs x) (test first) refl e

keyword_is : (text : List ℕ) (k : Keyword) → keyword_of text ≡ Some k → text ≡ keyword_text k
unfolding keyword_of
keyword_is text k e = sym (same_bytes (keyword_text k) text (found_passes (λ k. bytes_eq (keyword_text k) text) keywords k e))

pub keyword_again : (k : Keyword) → keyword_of (keyword_text k) ≡ Some k
unfolding keyword_of
keyword_again keyword.Set = refl
keyword_again keyword.Say = refl
keyword_again keyword.Stop = refl
keyword_again keyword.If = refl

word_is : (t name : List ℕ) → word_of t ≡ Some name → (t ≡ name) × (is_word t ≡ true)
word_is t name e = elim (cases_Bool (is_word t)) [
  | inl i ↦ let some : ◌≡◌ {A = Option (List ℕ)} (Some t) (Some name) = rw i at e in (cc, i)
  | inr i ↦ let none : ◌≡◌ {A = Option (List ℕ)} None (Some name) = rw i at e in absurd cc
]

-- ---- what has been read already

-- no token spells this
data Just {A : Type 0} (a : A) : LeftTokens → A → Type 0 where
  just : Just a [] a

just_split : {A : Type 0} (a : A) (ts : LeftTokens) → Split (λ left. Ok (a, left)) (Just a) ts
just_split a ts = record { front = []; left = ts; got = Some a; parts = refl; spelled = just; local = λ other same. refl }

module _ (names : List (List ℕ)) where
  some_program : SpellsSome (IsProgram names)
  some_program = (codes "stop" ∷ [], Then Stop End, last stop)

  -- ---- parts in braces

  -- a program in braces
  pub data IsPart : LeftTokens → Statements → Type 0 where
    braces : {b : LeftTokens} {p : Statements} → IsProgram names b p → IsPart (codes "{" ∷ (b ++ codes "}" ∷ [])) p

  some_part : SpellsSome IsPart
  some_part = let some = some_program in (_, some.1, braces some.2)

  -- the closing brace after a program
  data Closing (p : Statements) : LeftTokens → Statements → Type 0 where
    closing : Closing p (codes "}" ∷ []) p

  close_split : (p : Statements) (ts : LeftTokens) → Split (λ us. then_goes_past (after_token (codes "}") us) (λ left. Ok (p, left))) (Closing p) ts
  close_split p ts = goes_split (codes "}") (Just p) (Closing p) closes (λ left. Ok (p, left)) ([], p, just) (just_split p) ts
    where
      closes : (back : LeftTokens) (q : Statements) → Just p back q → Closing p (codes "}" ∷ back) q
      closes back q just = closing

  abbrev InBraces : LeftTokens → Statements → Type 0
  InBraces back p = IsPart (codes "{" ∷ back) p

  closed : (b back : LeftTokens) (p q : Statements) → IsProgram names b p → Closing p back q → InBraces (b ++ back) q
  closed b back p q h closing = braces h

  module _ (inside : LeftTokens → ReadOfTokens Statements) (splits : (ts : LeftTokens) → Split inside (IsProgram names) ts) where
    pub part_split : (ts : LeftTokens) → Split (braced_part inside) IsPart ts
    part_split ts =
        goes_split (codes "{") InBraces IsPart (λ back p h. h) _ (let some = some_program in (some.0 ++ codes "}" ∷ [], some.1, braces some.2))
        (λ us. then_split (IsProgram names) Closing InBraces inside _ (record { ends = λ p. (_, p, closing); joins = closed }) us (splits us) close_split) ts

  -- a second part, or none
  data IsElse : LeftTokens → Statements → Type 0 where
    alone : IsElse [] End
    otherwise : {b : LeftTokens} {q : Statements} → IsPart b q → IsElse (codes "else" ∷ b) q

  module _ (inside : LeftTokens → ReadOfTokens Statements) (splits : (ts : LeftTokens) → Split inside (IsProgram names) ts) where
    else_split : (ts : LeftTokens) → Split (else_part inside) IsElse ts
    else_split [] = record { front = []; left = []; got = Some End; parts = refl; spelled = alone; local = empty_too (λ us. else_part inside us ≡ Ok (End, us)) refl }
    else_split (t ∷ ts) =
        elim (cases_Bool (bytes_eq t (codes "else"))) [
          | inl e ↦
              subst (λ (u : List ℕ). Split (else_part inside) IsElse (u ∷ ts)) (sym (same_bytes t (codes "else") e))
              (behind_split (codes "else") IsPart IsElse (λ b q h. otherwise h) (else_part inside) (braced_part inside) (λ us. refl) ts (part_split inside splits ts))
          | inr e ↦ record { front = []; left = t ∷ ts; got = Some End; parts = refl; spelled = alone; local = headed_too (λ us. else_part inside us ≡ Ok (End, us)) t ts (λ us. rw e refl) }
        ]

  -- ---- choices

  -- what follows the first part
  data ElseBehind (x : Expression) (p : Statements) : LeftTokens → Statement → Type 0 where
    chosen : {c : LeftTokens} {q : Statements} → IsElse c q → ElseBehind x p c (If x p q)

  -- what follows the expression
  data PartsBehind (x : Expression) : LeftTokens → Statement → Type 0 where
    both : {b c : LeftTokens} {p q : Statements} → IsPart b p → IsElse c q → PartsBehind x (b ++ c) (If x p q)

  behind_part : (x : Expression) (b back : LeftTokens) (p : Statements) (s : Statement) → IsPart b p → ElseBehind x p back s → PartsBehind x (b ++ back) s
  behind_part x b back p s h (chosen k) = both h k

  -- the keyword and what follows it
  abbrev StatementBehind : Keyword → LeftTokens → Statement → Type 0
  StatementBehind k back s = IsStatement names (keyword_text k ∷ back) s

  choice_of : (a : LeftTokens) (x : Expression) (b c : LeftTokens) (p q : Statements) → IsExpr names a x → IsPart b p → IsElse c q → StatementBehind keyword.If (a ++ (b ++ c)) (If x p q)
  choice_of a x b c p q h (braces {b = inner} k) alone =
      subst (λ (us : LeftTokens). StatementBehind keyword.If (a ++ us) (If x p End)) (sym (append-nil (codes "{" ∷ (inner ++ codes "}" ∷ [])))) (if_alone h k)
  choice_of a x b c p q h (braces {b = inner} k) (otherwise (braces {b = second} l)) =
      subst (λ (us : LeftTokens). StatementBehind keyword.If (a ++ codes "{" ∷ us) (If x p q)) (sym (append_assoc inner (codes "}" ∷ []) (codes "else" ∷ codes "{" ∷ (second ++ codes "}" ∷ [])))) (if_else h k l)

  behind_expression : (a back : LeftTokens) (x : Expression) (s : Statement) → IsExpr names a x → PartsBehind x back s → StatementBehind keyword.If (a ++ back) s
  behind_expression a back x s h (both {b} {c} {p} {q} k l) = choice_of a x b c p q h k l

  some_parts : (x : Expression) → SpellsSome (PartsBehind x)
  some_parts x = let some = some_part in (_, _, both some.2 alone)

  module _ (exact : ExactReading) (inside : LeftTokens → ReadOfTokens Statements) (splits : (ts : LeftTokens) → Split inside (IsProgram names) ts) where
    if_split : (ts : LeftTokens) → Split (if_statement inside names) (StatementBehind keyword.If) ts
    if_split ts =
        then_split (IsExpr names) PartsBehind (StatementBehind keyword.If) (expression names) _ (record { ends = some_parts; joins = behind_expression }) ts (expression_split exact names ts)
        (λ x us. then_split IsPart (ElseBehind x) (PartsBehind x) (braced_part inside) _ (record { ends = λ p. ([], If x p End, chosen alone); joins = behind_part x }) us (part_split inside splits us)
        (λ p vs. as_split IsElse (ElseBehind x p) (If x p) (else_part inside) (λ c q h. chosen h) vs (else_split inside splits vs)))

  -- ---- the other statements

  -- a variable's name and what follows it
  data SetBehind (name : List ℕ) : LeftTokens → Statement → Type 0 where
    to : {a : LeftTokens} {x : Expression} → IsExpr names a x → SetBehind name a (Set name x)

  abbrev NameBehind : LeftTokens → Statement → Type 0
  NameBehind back s = StatementBehind keyword.Set (codes "$" ∷ back) s

  behind_name : (front back : LeftTokens) (name : List ℕ) (s : Statement) → Means word_of front name → SetBehind name back s → NameBehind (front ++ back) s
  behind_name front back name s m (to {a} {x} h) =
      let w = word_is m.0 name m.2 in
      let named : front ≡ name ∷ [] = m.1 ∙ ap (λ (t : List ℕ). t ∷ []) w.0 in
      subst (λ (us : LeftTokens). NameBehind (us ++ a) (Set name x)) (sym named) (set name (subst (λ (t : List ℕ). is_word t ≡ true) w.0 w.1) h)

  some_setting : (name : List ℕ) → SpellsSome (SetBehind name)
  some_setting name = let some = some_expression names in (_, _, to some.2)

  some_named : SpellsSome NameBehind
  some_named = let some = some_expression names in (codes "a" ∷ some.0, Set (codes "a") some.1, set (codes "a") refl some.2)

  items_listed : Listed (codes ",") (IsSayItem names) (AreSayItems names)
  items_listed = record { some = some_item names; last = λ a i h. last h; more = λ a b i is h k. more h k }

  programs_listed : Listed (codes ";") (IsStatement names) (λ ts list. IsProgram names ts (sequence list))
  programs_listed = record { some = (codes "stop" ∷ [], Stop, stop); last = λ a s h. last h; more = λ a b s p h k. more h k }

  -- each keyword begins a statement
  some_statement : (k : Keyword) → SpellsSome (StatementBehind k)
  some_statement keyword.Set = (codes "$" ∷ some_named.0, some_named.1, some_named.2)
  some_statement keyword.Say = let some = some_item names in (some.0, Say (some.1 ∷ []), say (last some.2))
  some_statement keyword.Stop = ([], Stop, stop)
  some_statement keyword.If = let some = some_expression names in let parts = some_parts some.1 in (_, _, behind_expression _ _ _ _ some.2 parts.2)

  behind_keyword : (front back : LeftTokens) (k : Keyword) (s : Statement) → Means keyword_of front k → StatementBehind k back s → IsStatement names (front ++ back) s
  behind_keyword front back k s m h =
      let said : front ≡ keyword_text k ∷ [] = m.1 ∙ ap (λ (t : List ℕ). t ∷ []) (keyword_is m.0 k m.2) in
      subst (λ (us : LeftTokens). IsStatement names (us ++ back) s) (sym said) h

  some_keyword : SpellsSome (Means keyword_of)
  some_keyword = (codes "stop" ∷ [], keyword.Stop, (codes "stop", refl, keyword_again keyword.Stop))

  module _ (exact : ExactReading) where
    set_split : (ts : LeftTokens) → Split (set_statement names) (StatementBehind keyword.Set) ts
    set_split ts =
        goes_split (codes "$") NameBehind (StatementBehind keyword.Set) (λ back s h. h) _ some_named
        (λ us. then_split (Means word_of) SetBehind NameBehind (token_read_as word_of) _ (record { ends = some_setting; joins = behind_name }) us
        (token_split word_of (codes "a" ∷ [], codes "a", (codes "a", refl, refl)) us)
        (λ name vs. as_split (IsExpr names) (SetBehind name) (Set name) (expression names) (λ a x h. to h) vs (expression_split exact names vs))) ts

    say_split : (ts : LeftTokens) → Split (say_statement names) (StatementBehind keyword.Say) ts
    say_split ts =
        as_split (AreSayItems names) (StatementBehind keyword.Say) Say (separated_items (codes ",") (item names)) (λ a is h. say h) ts
        (separated_split (codes ",") (IsSayItem names) (AreSayItems names) (item names) items_listed (item_split exact names) refl ts)

    stop_split : (inside : LeftTokens → ReadOfTokens Statements) (ts : LeftTokens) → Split (statement_by inside names keyword.Stop) (StatementBehind keyword.Stop) ts
    stop_split inside ts = record { front = []; left = ts; got = Some Stop; parts = refl; spelled = stop; local = λ other same. refl }

    module _ (inside : LeftTokens → ReadOfTokens Statements) (splits : (ts : LeftTokens) → Split inside (IsProgram names) ts) where
      by_split : (k : Keyword) (ts : LeftTokens) → Split (statement_by inside names k) (StatementBehind k) ts
      by_split keyword.Set ts = set_split ts
      by_split keyword.Say ts = say_split ts
      by_split keyword.Stop ts = stop_split inside ts
      by_split keyword.If ts = if_split exact inside splits ts

      pub statement_split : (ts : LeftTokens) → Split (statement inside names) (IsStatement names) ts
      statement_split ts =
          then_split (Means keyword_of) StatementBehind (IsStatement names) (token_read_as keyword_of) (statement_by inside names)
          (record { ends = some_statement; joins = behind_keyword }) ts (token_split keyword_of some_keyword ts) by_split

    pub program_split : (levels : ℕ) (ts : LeftTokens) → Split (program_in levels names) (IsProgram names) ts
    program_split zero ts = stuck (program_in zero names) (IsProgram names) ts some_program (λ us same. refl)
    program_split (suc levels) ts =
        let inside = program_in levels names in
        let one = statement inside names in
        as_split (λ us list. IsProgram names us (sequence list)) (IsProgram names) sequence (separated_items (codes ";") one) (λ a list h. h) ts
        (separated_split (codes ";") (IsStatement names) (λ us list. IsProgram names us (sequence list)) one programs_listed (statement_split inside (program_split levels)) refl ts)
