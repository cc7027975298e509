-- What holds of lines and expressions, whatever they are.
use Rattle.std.specs.Prelude.{◌≡◌, ◌↔◌, ℕ, Bool, true, not, ◌||◌, ◌==◌, codes, bytes_eq, slice_index, List, [], ◌∷◌, ◌++◌, Some, Ok, Err}
use Rattle.std.specs.List.{list_all}
use Rattle.expression_text.specs.Lexing.{PlacedToken, LexesTokens, IsBadAt}
use Rattle.expression_text.specs.Computed.{cut_tokens, expression_spelled, begins_some_expression, viable_tokens}
use Rattle.expression_text.specs.Grammar.{IsExpr, BeginsExpr, TakesExpr}
use Rattle.expression_text.specs.Expression.{Expression}
use Rattle.expression_text.specs.Spelling.{is_word}

-- What is computed of a line is its tokens, or the column of the first byte that begins none. So a line has one of
-- both, and in one way.
pub record ExactCut : Type 0 where
  pub tokens : (line : List ℕ) (ts : List PlacedToken) → (cut_tokens line ≡ Ok ts) ↔ LexesTokens 1 line ts
  pub bad : (line : List ℕ) (column : ℕ) → (cut_tokens line ≡ Err column) ↔ IsBadAt 1 line column

-- What is computed of tokens is the expression that they spell, whether they begin one, and how many of them do. So
-- tokens spell one expression at most.
pub record ExactReading : Type 0 where
  pub expressions : (names ts : List (List ℕ)) (x : Expression) → (expression_spelled names ts ≡ Some x) ↔ IsExpr names ts x
  pub begins : (names ts : List (List ℕ)) → (begins_some_expression names ts ≡ true) ↔ BeginsExpr names ts
  pub viable : (names ts : List (List ℕ)) (n : ℕ) → TakesExpr names ts n → viable_tokens names [] ts ≡ n
  -- the node of the position's event is named for one of its places alone
  pub dotted : (names ts : List (List ℕ)) (x : Expression) → IsExpr names (codes "@" ∷ codes "!" ∷ ts) x → (more : List (List ℕ)) × (ts ≡ codes "." ∷ more)
  -- no word follows an expression
  pub ended : (names ts : List (List ℕ)) (word : List ℕ) (x : Expression) → is_word word ≡ true → IsExpr names ts x → BeginsExpr names (ts ++ word ∷ []) → ⊥

-- a comma, a semicolon, a brace or a string
abbrev pub is_apart_token : List ℕ → Bool
is_apart_token text = bytes_eq text (codes ",") || bytes_eq text (codes ";") || bytes_eq text (codes "{") || bytes_eq text (codes "}") || (slice_index text 0 == 34)

-- none of these is in an expression
abbrev pub NoSeparatorInExpr : Type 0
NoSeparatorInExpr = (names ts : List (List ℕ)) (x : Expression) → IsExpr names ts x → list_all (λ t. not (is_apart_token t)) ts ≡ true
