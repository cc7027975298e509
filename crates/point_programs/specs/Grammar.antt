-- The grammar of programs, over the texts of tokens.
use Rattle.std.specs.Prelude.{◌≡◌, ℕ, true, codes, List, [], ◌∷◌, ◌++◌}
use Rattle.expression_text.specs.Grammar.{IsExpr}
use Rattle.expression_text.specs.Spelling.{is_word}
use Rattle.expression_text.specs.Expression.{Expression}
use Rattle.point_programs.specs.Tree.{SaidItem, Words, Value, NodeOfEvent, Statement, Set, Say, Stop, If, Statements, End, Then}

-- with these names of nodes, the tokens spell the item: a string in its quotes, an expression, or the node of the position's
-- event
pub data IsSayItem (names : List (List ℕ)) : List (List ℕ) → SaidItem → Type 0 where
  words : (body : List ℕ) → IsSayItem names ((34 ∷ (body ++ 34 ∷ [])) ∷ []) (Words body)
  value : {a : List (List ℕ)} {x : Expression} → IsExpr names a x → IsSayItem names a (Value x)
  event_node : IsSayItem names (codes "@" ∷ codes "!" ∷ []) NodeOfEvent

-- items with commas between them
pub data AreSayItems (names : List (List ℕ)) : List (List ℕ) → List SaidItem → Type 0 where
  last : {a : List (List ℕ)} {i : SaidItem} → IsSayItem names a i → AreSayItems names a (i ∷ [])
  more : {a b : List (List ℕ)} {i : SaidItem} {is : List SaidItem} → IsSayItem names a i → AreSayItems names b is → AreSayItems names (a ++ codes "," ∷ b) (i ∷ is)

mutual
  pub data IsStatement (names : List (List ℕ)) : List (List ℕ) → Statement → Type 0 where
    set : {a : List (List ℕ)} {x : Expression} (name : List ℕ) → is_word name ≡ true → IsExpr names a x
        → IsStatement names (codes "set" ∷ codes "$" ∷ name ∷ a) (Set name x)
    say : {a : List (List ℕ)} {items : List SaidItem} → AreSayItems names a items → IsStatement names (codes "say" ∷ a) (Say items)
    stop : IsStatement names (codes "stop" ∷ []) Stop
    if_alone : {a b : List (List ℕ)} {x : Expression} {p : Statements} → IsExpr names a x → IsProgram names b p
        → IsStatement names (codes "if" ∷ (a ++ codes "{" ∷ (b ++ codes "}" ∷ []))) (If x p End)
    if_else : {a b c : List (List ℕ)} {x : Expression} {p q : Statements} → IsExpr names a x → IsProgram names b p → IsProgram names c q
        → IsStatement names (codes "if" ∷ (a ++ codes "{" ∷ (b ++ codes "}" ∷ codes "else" ∷ codes "{" ∷ (c ++ codes "}" ∷ [])))) (If x p q)

  -- statements with semicolons between them
  pub data IsProgram (names : List (List ℕ)) : List (List ℕ) → Statements → Type 0 where
    last : {a : List (List ℕ)} {s : Statement} → IsStatement names a s → IsProgram names a (Then s End)
    more : {a b : List (List ℕ)} {s : Statement} {p : Statements} → IsStatement names a s → IsProgram names b p
        → IsProgram names (a ++ codes ";" ∷ b) (Then s p)

-- the tokens begin some program
pub record BeginsProgram (names ts : List (List ℕ)) : Type 0 where
  pub rest : List (List ℕ)
  pub whole : Statements
  pub spelled : IsProgram names (ts ++ rest) whole

-- no program begins with these and then the first of those, if there is one
abbrev pub NoProgramGoesOn : List (List ℕ) → List (List ℕ) → List (List ℕ) → Type 0
NoProgramGoesOn names front [] = (p : Statements) → IsProgram names front p → ⊥
NoProgramGoesOn names front (t ∷ left) = BeginsProgram names (front ++ t ∷ []) → ⊥

-- the tokens are no program, and of them those begin one that stand in front of the ones that are left, and no more do
pub record StopsAtTokens (names ts left : List (List ℕ)) : Type 0 where
  pub front : List (List ℕ)
  pub parts : ts ≡ front ++ left
  pub begins : BeginsProgram names front
  pub stops : NoProgramGoesOn names front left
