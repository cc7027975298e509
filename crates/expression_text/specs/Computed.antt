-- What the tokens of a line and the grammar say, as functions that compute.
use Rattle.std.specs.Prelude.{ℕ, zero, suc, ◌+◌, Bool, if◌then◌else◌, List, [], ◌∷◌, ◌++◌, length, take, drop, Option, Some, None, Result, Ok, Err, is_some}
use Rattle.expression_text.specs.Front.{longest_token}
use Rattle.expression_text.specs.Lexing.{PlacedToken, is_blank}
use Rattle.expression_text.specs.Machine.{MachineState, Want, machine_steps, whole}
use Rattle.expression_text.specs.Expression.{Expression}

-- this token in front of those that follow it
abbrev pub onto_tokens : PlacedToken → Result (List PlacedToken) ℕ → Result (List PlacedToken) ℕ
onto_tokens t (Ok ts) = Ok (t ∷ ts)
onto_tokens t (Err column) = Err column

-- what is computed at a place, by the length of the token that begins there, where `rest` gives what follows it
abbrev pub from_front : (ℕ → List ℕ → Result (List PlacedToken) ℕ) → Option ℕ → ℕ → List ℕ → Result (List PlacedToken) ℕ
from_front rest None column bytes = Err column
from_front rest (Some n) column bytes = onto_tokens (record { text = take n bytes; column = column }) (rest (column + n) (drop n bytes))

-- The tokens of the bytes from a column on, or the column of the first byte that begins none. The first number is
-- no less than how many bytes there are.
abbrev pub cut_from : ℕ → ℕ → List ℕ → Result (List PlacedToken) ℕ
cut_from zero column [] = Ok []
cut_from zero column (b ∷ bytes) = Err column
cut_from (suc most) column [] = Ok []
cut_from (suc most) column (b ∷ bytes) =
    if is_blank b then cut_from most (column + 1) bytes else from_front (cut_from most) (longest_token (b ∷ bytes)) column (b ∷ bytes)

-- the tokens of a line, or the column of the first byte that begins none
unfoldable pub cut_tokens : List ℕ → Result (List PlacedToken) ℕ
cut_tokens line = cut_from (length line) 1 line

abbrev pub whole_expression_if : Option MachineState → Option Expression
whole_expression_if None = None
whole_expression_if (Some st) = whole st

-- the expression that the tokens spell, if they spell one
unfoldable pub expression_spelled : List (List ℕ) → List (List ℕ) → Option Expression
expression_spelled names ts = whole_expression_if (machine_steps names (Some (Want [])) ts)

-- whether the tokens begin some expression
unfoldable pub begins_some_expression : List (List ℕ) → List (List ℕ) → Bool
begins_some_expression names ts = is_some (machine_steps names (Some (Want [])) ts)

-- how many of these tokens, after those before, begin some expression with them
abbrev pub viable_tokens : List (List ℕ) → List (List ℕ) → List (List ℕ) → ℕ
viable_tokens names before [] = 0
viable_tokens names before (t ∷ ts) = if begins_some_expression names (before ++ t ∷ []) then suc (viable_tokens names (before ++ t ∷ []) ts) else 0
