-- What the grammar spells is read so, as far as it goes.
use Rattle.std.proofs.Common.{◌≡◌, ℕ, zero, suc, ◌≤◌, true, List, [], ◌∷◌, ◌++◌, length, Option, Ok, codes, refl, ap, ◌∙◌, append_assoc, arith}
use Rattle.std.proofs.lemmas.List.{length-append}
use Rattle.expression_text.specs.Grammar.{IsExpr}
use Rattle.expression_text.specs.Laws.{ExactReading, NoSeparatorInExpr, is_apart_token}
use Rattle.expression_text.specs.Spelling.{is_word}
use Rattle.expression_text.specs.Expression.{Expression}
use Rattle.point_programs.specs.declared.keyword.Keyword.{Keyword}
use Rattle.point_programs.specs.declared.keyword.Keyword.TheVariants as keyword
use Rattle.point_programs.specs.Grammar.{AreSayItems, IsStatement, IsProgram, last, more, set, say, stop, if_alone, if_else}
use Rattle.point_programs.specs.Reading.{LeftTokens, ReadOfTokens, then_reads, then_goes_past, after_token, read_or_stays, keyword_text, expression, then_more_items, separated_in, item, braced_part, else_part, if_statement, statement_by, statement, program_in}
use Rattle.point_programs.specs.Tree.{SaidItem, Statement, Set, Say, If, Statements, End, Then, sequence}
use Rattle.point_programs.proofs.ExpressionLemmas.{EndsWith, expression_reads}
use Rattle.point_programs.proofs.ItemLemmas.{item_takes, item_reads}
use Rattle.point_programs.proofs.StatementLemmas.{keyword_again}

-- what may follow a program
pub data ProgramEnd : LeftTokens → Type 0 where
  nothing : ProgramEnd []
  brace : {ts : LeftTokens} → ProgramEnd (codes "}" ∷ ts)

-- what may follow a statement
data StatementEnd : LeftTokens → Type 0 where
  end : {ts : LeftTokens} → ProgramEnd ts → StatementEnd ts
  semicolon : {ts : LeftTokens} → StatementEnd (codes ";" ∷ ts)

no_expression : (ts : LeftTokens) → StatementEnd ts → EndsWith is_apart_token ts
no_expression ts (end nothing) = tt
no_expression ts (end brace) = refl
no_expression ts semicolon = refl

no_else : (inside : LeftTokens → ReadOfTokens Statements) (ts : LeftTokens) → StatementEnd ts → else_part inside ts ≡ Ok (End, ts)
no_else inside ts (end nothing) = refl
no_else inside ts (end brace) = refl
no_else inside ts semicolon = refl

no_item : (rest : LeftTokens → ReadOfTokens (List SaidItem)) (i : SaidItem) (ts : LeftTokens) → StatementEnd ts → then_more_items (codes ",") rest i ts ≡ Ok (i ∷ [], ts)
no_item rest i ts (end nothing) = refl
no_item rest i ts (end brace) = refl
no_item rest i ts semicolon = refl

no_statement : (rest : LeftTokens → ReadOfTokens (List Statement)) (s : Statement) (ts : LeftTokens) → ProgramEnd ts → then_more_items (codes ";") rest s ts ≡ Ok (s ∷ [], ts)
no_statement rest s ts nothing = refl
no_statement rest s ts brace = refl

-- ---- one step

then_is : {A B : Type 0} (r : ReadOfTokens A) (a : A) (left : LeftTokens) (next : A → LeftTokens → ReadOfTokens B) → r ≡ Ok (a, left) → then_reads r next ≡ next a left
then_is r a left next e = ap (λ (q : ReadOfTokens _). then_reads q next) e

part_reads : (inside : LeftTokens → ReadOfTokens Statements) (b rest : LeftTokens) (p : Statements) → inside (b ++ codes "}" ∷ rest) ≡ Ok (p, codes "}" ∷ rest) → braced_part inside (codes "{" ∷ (b ++ codes "}" ∷ rest)) ≡ Ok (p, rest)
part_reads inside b rest p e = then_is (inside (b ++ codes "}" ∷ rest)) p (codes "}" ∷ rest) (λ body us. then_goes_past (after_token (codes "}") us) (λ left. Ok (body, left))) e

module _ (names : List (List ℕ)) (inside : LeftTokens → ReadOfTokens Statements) where
  said : (k : Keyword) (ts : LeftTokens) → statement inside names (keyword_text k ∷ ts) ≡ statement_by inside names k ts
  said k ts = ap (λ (o : Option Keyword). then_reads (read_or_stays o (keyword_text k ∷ ts) ts) (statement_by inside names)) (keyword_again k)

  if_reads : (ts us vs rest : LeftTokens) (x : Expression) (p q : Statements) → expression names ts ≡ Ok (x, us) → braced_part inside us ≡ Ok (p, vs) → else_part inside vs ≡ Ok (q, rest) → if_statement inside names ts ≡ Ok (If x p q, rest)
  if_reads ts us vs rest x p q e f g =
      then_is (expression names ts) x us _ e
      ∙ then_is (braced_part inside us) p vs (λ p us. then_reads (else_part inside us) (λ q left. Ok (If x p q, left))) f
      ∙ then_is (else_part inside vs) q rest (λ q left. Ok (If x p q, left)) g

-- ---- statements

module _ (exact : ExactReading) (apart : NoSeparatorInExpr) (names : List (List ℕ)) where
  items_read : {a : LeftTokens} {is : List SaidItem} → AreSayItems names a is → (n : ℕ) → length a ≤ n → (rest : LeftTokens) → StatementEnd rest → separated_in (codes ",") (item names) n (a ++ rest) ≡ Ok (is, rest)
  items_read (last {a} {i} h) zero le rest e = absurd (omega (arith, item_takes exact names h))
  items_read (last {a} {i} h) (suc n) le rest e =
      then_is (item names (a ++ rest)) i rest _ (item_reads exact apart names a rest i h (no_expression rest e))
      ∙ no_item (separated_in (codes ",") (item names) n) i rest e
  items_read (more {a} {b} {i} {is} h k) zero le rest e = absurd (omega (arith, length-append a (codes "," ∷ b)))
  items_read (more {a} {b} {i} {is} h k) (suc n) le rest e =
      let behind_it = codes "," ∷ (b ++ rest) in
      ap (separated_in (codes ",") (item names) (suc n)) (append_assoc a (codes "," ∷ b) rest)
      ∙ then_is (item names (a ++ behind_it)) i behind_it _ (item_reads exact apart names a behind_it i h refl)
      ∙ then_is (separated_in (codes ",") (item names) n (b ++ rest)) is rest (λ more left. Ok (i ∷ more, left)) (items_read k n (omega (arith, length-append a (codes "," ∷ b))) rest e)

  -- programs of so many tokens and fewer are read as they are spelled
  abbrev ReadsTo : ℕ → (LeftTokens → ReadOfTokens Statements) → Type 0
  ReadsTo n inside = (b rest : LeftTokens) (p : Statements) → IsProgram names b p → length b ≤ n → ProgramEnd rest → inside (b ++ rest) ≡ Ok (p, rest)

  module _ (inside : LeftTokens → ReadOfTokens Statements) (n : ℕ) (reads : ReadsTo n inside) where
    set_reads : (name : List ℕ) (a rest : LeftTokens) (x : Expression) → is_word name ≡ true → IsExpr names a x → StatementEnd rest → statement_by inside names keyword.Set (codes "$" ∷ name ∷ (a ++ rest)) ≡ Ok (Set name x, rest)
    set_reads name a rest x w h e = rw w (then_is (expression names (a ++ rest)) x rest (λ x left. Ok (Set name x, left)) (expression_reads exact apart names a rest x h (no_expression rest e)))

    say_reads : (a rest : LeftTokens) (is : List SaidItem) → AreSayItems names a is → StatementEnd rest → statement_by inside names keyword.Say (a ++ rest) ≡ Ok (Say is, rest)
    say_reads a rest is h e = then_is (separated_in (codes ",") (item names) (length (a ++ rest)) (a ++ rest)) is rest (λ items left. Ok (Say items, left)) (items_read h (length (a ++ rest)) (omega (arith, length-append a rest)) rest e)

    braces_read : (b rest : LeftTokens) (p : Statements) → IsProgram names b p → length b ≤ n → braced_part inside (codes "{" ∷ (b ++ codes "}" ∷ rest)) ≡ Ok (p, rest)
    braces_read b rest p h le = part_reads inside b rest p (reads b (codes "}" ∷ rest) p h le brace)

    choice_reads : (a b us rest : LeftTokens) (x : Expression) (p q : Statements) → IsExpr names a x → IsProgram names b p → length b ≤ n → else_part inside us ≡ Ok (q, rest) → if_statement inside names (a ++ codes "{" ∷ (b ++ codes "}" ∷ us)) ≡ Ok (If x p q, rest)
    choice_reads a b us rest x p q h k le e =
        let first = codes "{" ∷ (b ++ codes "}" ∷ us) in
        if_reads names inside (a ++ first) first us rest x p q (expression_reads exact apart names a first x h refl) (braces_read b us p k le) e

    statement_reads : {a : LeftTokens} {s : Statement} → IsStatement names a s → length a ≤ suc n → (rest : LeftTokens) → StatementEnd rest → statement inside names (a ++ rest) ≡ Ok (s, rest)
    statement_reads (set {a} {x} name w h) le rest e = said names inside keyword.Set (codes "$" ∷ name ∷ (a ++ rest)) ∙ set_reads name a rest x w h e
    statement_reads (say {a} {items} h) le rest e = said names inside keyword.Say (a ++ rest) ∙ say_reads a rest items h e
    statement_reads stop le rest e = said names inside keyword.Stop rest
    statement_reads (if_alone {a} {b} {x} {p} h k) le rest e =
        let parts : (a ++ codes "{" ∷ (b ++ codes "}" ∷ [])) ++ rest ≡ a ++ codes "{" ∷ (b ++ codes "}" ∷ rest) =
        append_assoc a (codes "{" ∷ (b ++ codes "}" ∷ [])) rest ∙ ap (λ (us : LeftTokens). a ++ codes "{" ∷ us) (append_assoc b (codes "}" ∷ []) rest) in
        said names inside keyword.If _
        ∙ ap (if_statement inside names) parts
        ∙ choice_reads a b rest rest x p End h k (omega (arith, length-append a (codes "{" ∷ (b ++ codes "}" ∷ [])), length-append b (codes "}" ∷ []))) (no_else inside rest e)
    statement_reads (if_else {a} {b} {c} {x} {p} {q} h k l) le rest e =
        let second = codes "}" ∷ codes "else" ∷ codes "{" ∷ (c ++ codes "}" ∷ []) in
        let third = codes "}" ∷ codes "else" ∷ codes "{" ∷ (c ++ codes "}" ∷ rest) in
        let parts : (a ++ codes "{" ∷ (b ++ second)) ++ rest ≡ a ++ codes "{" ∷ (b ++ third) =
        append_assoc a (codes "{" ∷ (b ++ second)) rest ∙ ap (λ (us : LeftTokens). a ++ codes "{" ∷ us)
        (append_assoc b second rest ∙ ap (λ (us : LeftTokens). b ++ codes "}" ∷ codes "else" ∷ codes "{" ∷ us) (append_assoc c (codes "}" ∷ []) rest)) in
        said names inside keyword.If _
        ∙ ap (if_statement inside names) parts
        ∙ choice_reads a b (codes "else" ∷ codes "{" ∷ (c ++ codes "}" ∷ rest)) rest x p q h k
        (omega (arith, length-append a (codes "{" ∷ (b ++ second)), length-append b second))
        (braces_read c rest q l (omega (arith, length-append a (codes "{" ∷ (b ++ second)), length-append b second, length-append c (codes "}" ∷ []))))

  -- ---- programs

  -- these tokens are read as a list of statements, which are the program
  abbrev ReadsAs : ReadOfTokens (List Statement) → Statements → LeftTokens → Type 0
  ReadsAs read p rest = (list : List Statement) × (read ≡ Ok (list, rest)) × (sequence list ≡ p)

  statement_takes : {a : LeftTokens} {s : Statement} → IsStatement names a s → 1 ≤ length a
  statement_takes (set name w h) = omega arith
  statement_takes (say h) = omega arith
  statement_takes stop = omega arith
  statement_takes (if_alone h k) = omega arith
  statement_takes (if_else h k l) = omega arith

  module _ (inside : LeftTokens → ReadOfTokens Statements) (n : ℕ) (reads : ReadsTo n inside) where
    list_reads : {a : LeftTokens} {p : Statements} → IsProgram names a p → length a ≤ suc n → (most : ℕ) → length a ≤ most → (rest : LeftTokens) → ProgramEnd rest → ReadsAs (separated_in (codes ";") (statement inside names) most (a ++ rest)) p rest
    list_reads (last {a} {s} h) le zero lm rest e = absurd (omega (arith, statement_takes h))
    list_reads (last {a} {s} h) le (suc most) lm rest e =
        (s ∷ [], then_is (statement inside names (a ++ rest)) s rest _ (statement_reads inside n reads h le rest (end e)) ∙ no_statement (separated_in (codes ";") (statement inside names) most) s rest e, refl)
    list_reads (more {a} {b} {s} {p} h k) le zero lm rest e = absurd (omega (arith, length-append a (codes ";" ∷ b)))
    list_reads (more {a} {b} {s} {p} h k) le (suc most) lm rest e =
        let behind_it = codes ";" ∷ (b ++ rest) in
        let tail = list_reads k (omega (arith, length-append a (codes ";" ∷ b))) most (omega (arith, length-append a (codes ";" ∷ b))) rest e in (
          s ∷ tail.0,
          ap (separated_in (codes ";") (statement inside names) (suc most)) (append_assoc a (codes ";" ∷ b) rest)
              ∙ then_is (statement inside names (a ++ behind_it)) s behind_it _ (statement_reads inside n reads h (omega (arith, length-append a (codes ";" ∷ b))) behind_it semicolon)
              ∙ then_is (separated_in (codes ";") (statement inside names) most (b ++ rest)) tail.0 rest (λ more left. Ok (s ∷ more, left)) tail.1,
          ap (Then s) tail.2,
        )

  program_takes : {a : LeftTokens} {p : Statements} → IsProgram names a p → 1 ≤ length a
  program_takes (last h) = statement_takes h
  program_takes (more {a} {b} h k) = omega (arith, statement_takes h, length-append a (codes ";" ∷ b))

  pub program_reads : (levels : ℕ) → ReadsTo levels (program_in levels names)
  program_reads zero b rest p h le e = absurd (omega (arith, program_takes h))
  program_reads (suc levels) b rest p h le e =
      let list = list_reads (program_in levels names) levels (program_reads levels) h le (length (b ++ rest)) (omega (arith, length-append b rest)) rest e in
      ap (λ (r : ReadOfTokens (List Statement)). then_reads r (λ list left. Ok (sequence list, left))) list.1 ∙ ap (λ (q : Statements). Ok (q, rest)) list.2
