-- The grammar of expressions, over the texts of tokens.
use Rattle.std.specs.Prelude.{◌≡◌, ℕ, suc, ◌+◌, ◌-◌, ◌≤◌, ◌<◌, true, codes, List, [], ◌∷◌, ◌++◌, length, take, drop, Result, Ok, Err, Some}
use Rattle.expression_text.specs.declared.error.ExprError.{ExprError}
use Rattle.expression_text.specs.declared.error.ExprError.TheVariants.{Syntax, NoNode, TooDeep, Nested, NoMemory}
use Rattle.expression_text.specs.declared.expr.Unary.{Unary}
use Rattle.expression_text.specs.declared.expr.Binary.{Binary}
use Rattle.expression_text.specs.declared.expr.Binary.TheVariants as binary
use Rattle.expression_text.specs.declared.expr.Agg.{Agg}
use Rattle.expression_text.specs.declared.expr.Width.{Width}
use Rattle.expression_text.specs.declared.expr.Expr.{Expr}
use Rattle.expression_text.specs.declared.expr.NodeName.{NodeName}
use Rattle.expression_text.specs.declared.word.PlaceWord.TheVariants as place
use Rattle.expression_text.specs.Lexing.{LexedLine, token_texts, column_of_token}
use Rattle.expression_text.specs.Spelling.{is_word, number_of, node_spelled, binary_sign, unary_sign, agg_word, place_word}
use Rattle.expression_text.specs.Expression.{Expression, Number, Var, One, Two, Over, Load, Global, Clock, Events, Size, LastThread, HasEnded, expression_of}

-- The levels of expressions: or, and, comparison, sum, product, sign in front, and operand. What is spelled at a
-- level is spelled at each lower one.
abbrev pub UNARY : ℕ
UNARY = 5

abbrev pub FIRST : ℕ
FIRST = 6

-- the level of an operator
abbrev pub operator_level : Binary → ℕ
operator_level binary.Or = 0
operator_level binary.And = 1
operator_level binary.Eq = 2
operator_level binary.Ne = 2
operator_level binary.Lt = 2
operator_level binary.Le = 2
operator_level binary.Gt = 2
operator_level binary.Ge = 2
operator_level binary.Add = 3
operator_level binary.Sub = 3
operator_level binary.Mul = 4
operator_level binary.Div = 4
operator_level binary.Rem = 4

-- the level of what is to the left of an operator: comparisons don't chain, and the others group from the left
abbrev pub left_level : Binary → ℕ
left_level binary.Or = 0
left_level binary.And = 1
left_level binary.Eq = 3
left_level binary.Ne = 3
left_level binary.Lt = 3
left_level binary.Le = 3
left_level binary.Gt = 3
left_level binary.Ge = 3
left_level binary.Add = 3
left_level binary.Sub = 3
left_level binary.Mul = 4
left_level binary.Div = 4
left_level binary.Rem = 4

-- With these names of nodes, the tokens spell the expression at this level.
pub data IsExprAtLevel (names : List (List ℕ)) : ℕ → List (List ℕ) → Expression → Type 0 where
  higher : {k : ℕ} {ts : List (List ℕ)} {x : Expression} → IsExprAtLevel names (suc k) ts x → IsExprAtLevel names k ts x
  two : {a b : List (List ℕ)} {x y : Expression} (op : Binary) → IsExprAtLevel names (left_level op) a x → IsExprAtLevel names (suc (operator_level op)) b y
      → IsExprAtLevel names (operator_level op) (a ++ binary_sign op ∷ b) (Two op x y)
  one : {a : List (List ℕ)} {x : Expression} (op : Unary) → IsExprAtLevel names UNARY a x → IsExprAtLevel names UNARY (unary_sign op ∷ a) (One op x)
  number : (word : List ℕ) (n : ℕ) → number_of word ≡ Some n → IsExprAtLevel names FIRST (word ∷ []) (Number n)
  variable : (word : List ℕ) → is_word word ≡ true → IsExprAtLevel names FIRST (codes "$" ∷ word ∷ []) (Var word)
  brackets : {a : List (List ℕ)} {x : Expression} → IsExprAtLevel names 0 a x → IsExprAtLevel names FIRST (codes "(" ∷ (a ++ codes ")" ∷ [])) x
  over : {a : List (List ℕ)} {x : Expression} (agg : Agg) → IsExprAtLevel names 0 a x → IsExprAtLevel names FIRST (agg_word agg ∷ codes "(" ∷ (a ++ codes ")" ∷ [])) (Over agg x)
  load : {a : List (List ℕ)} {x : Expression} (name : List ℕ) (node : NodeName) (width : Width) → node_spelled names name ≡ Some node → IsExprAtLevel names 0 a x
      → IsExprAtLevel names FIRST (codes "@" ∷ name ∷ codes "." ∷ place_word (place.Load width) ∷ codes "[" ∷ (a ++ codes "]" ∷ [])) (Load node width x)
  global : (name : List ℕ) (node : NodeName) (word : List ℕ) (n : ℕ) → node_spelled names name ≡ Some node → number_of word ≡ Some n
      → IsExprAtLevel names FIRST (codes "@" ∷ name ∷ codes "." ∷ codes "global" ∷ codes "[" ∷ word ∷ codes "]" ∷ []) (Global node n)
  clock : (name : List ℕ) (node : NodeName) → node_spelled names name ≡ Some node → IsExprAtLevel names FIRST (codes "@" ∷ name ∷ codes "." ∷ codes "clock" ∷ []) (Clock node)
  events : (name : List ℕ) (node : NodeName) → node_spelled names name ≡ Some node → IsExprAtLevel names FIRST (codes "@" ∷ name ∷ codes "." ∷ codes "events" ∷ []) (Events node)
  size : (name : List ℕ) (node : NodeName) → node_spelled names name ≡ Some node → IsExprAtLevel names FIRST (codes "@" ∷ name ∷ codes "." ∷ codes "size" ∷ []) (Size node)
  last_thread : (name : List ℕ) (node : NodeName) → node_spelled names name ≡ Some node → IsExprAtLevel names FIRST (codes "@" ∷ name ∷ codes "." ∷ codes "thread" ∷ []) (LastThread node)
  has_ended : (name : List ℕ) (node : NodeName) → node_spelled names name ≡ Some node → IsExprAtLevel names FIRST (codes "@" ∷ name ∷ codes "." ∷ codes "ended" ∷ []) (HasEnded node)

-- the tokens spell the expression
abbrev pub IsExpr : List (List ℕ) → List (List ℕ) → Expression → Type 0
IsExpr names ts x = IsExprAtLevel names 0 ts x

-- the tokens begin some expression
pub record BeginsExpr (names ts : List (List ℕ)) : Type 0 where
  pub rest : List (List ℕ)
  pub whole : Expression
  pub spelled : IsExpr names (ts ++ rest) whole

-- the first n of the tokens begin some expression, and no more of them do
pub record TakesExpr (names ts : List (List ℕ)) (n : ℕ) : Type 0 where
  pub within : n ≤ length ts
  pub begins : BeginsExpr names (take n ts)
  pub longest : n < length ts → BeginsExpr names (take (n + 1) ts) → ⊥

-- the tokens of a line from one on, up to another
abbrev pub tokens_between : LexedLine → ℕ → ℕ → List (List ℕ)
tokens_between line from to = take (to - from) (drop from (token_texts line))

-- What parsing from a token on gives, but for memory: as many of the tokens are taken as begin some expression.
-- Where they are a whole one, it is given with the number of the next token, and otherwise that token's column.
abbrev pub ParsedExpr : List (List ℕ) → LexedLine → ℕ → Result (Expr × ℕ) ExprError → Type 0
ParsedExpr names line from (Ok r) =
    (from ≤ r.1) × TakesExpr names (drop from (token_texts line)) (r.1 - from) × IsExpr names (tokens_between line from r.1) (expression_of r.0)
ParsedExpr names line from (Err (Syntax column)) =
    (n : ℕ) × (column ≡ column_of_token line n) × (from ≤ n) × TakesExpr names (drop from (token_texts line)) (n - from)
    × ((x : Expression) → IsExpr names (tokens_between line from n) x → ⊥)
ParsedExpr names line from (Err NoNode) = ⊥
ParsedExpr names line from (Err TooDeep) = ⊥
ParsedExpr names line from (Err Nested) = ⊥
ParsedExpr names line from (Err NoMemory) = Unit {0}
