-- What words and signs of an expression stand for.
use Rattle.std.specs.Prelude.{ℕ, Bool, ◌&&◌, ◌||◌, ◌==◌, nat_lt, nat_le, if◌then◌else◌, codes, bytes_eq, List, [], ◌∷◌, length, take, drop, Option, Some, None}
use Rattle.std.specs.Char.{is_ascii_alphanumeric, is_ascii_hexdigit}
use Rattle.std.specs.List.{list_all, find, position}
use Rattle.std.specs.Str.Parse.{digits_value}
use Rattle.fri_text.specs.Decimal.{decimal_of}
use Rattle.expression_text.specs.declared.expr.Unary.{Unary}
use Rattle.expression_text.specs.declared.expr.Unary.TheVariants as unary
use Rattle.expression_text.specs.declared.expr.Binary.{Binary}
use Rattle.expression_text.specs.declared.expr.Binary.TheVariants as binary
use Rattle.expression_text.specs.declared.expr.Agg.{Agg}
use Rattle.expression_text.specs.declared.expr.Agg.TheVariants as agg
use Rattle.expression_text.specs.declared.expr.Width.TheVariants as width
use Rattle.expression_text.specs.declared.expr.NodeName.{NodeName}
use Rattle.expression_text.specs.declared.expr.NodeName.TheVariants as node
use Rattle.expression_text.specs.declared.word.PlaceWord.{PlaceWord}
use Rattle.expression_text.specs.declared.word.PlaceWord.TheVariants as place

-- ---- words

-- letters, digits and underscores
abbrev pub is_word_byte : ℕ → Bool
is_word_byte b = is_ascii_alphanumeric b || (b == 95)

-- one of these or more
abbrev pub is_word : List ℕ → Bool
is_word word = nat_lt 0 (length word) && list_all is_word_byte word

-- ---- numbers

-- the greatest number that a word is
abbrev pub most_number : ℕ
most_number = 9223372036854775807

-- the number, if it is no greater
abbrev pub number_at_most : ℕ → Option ℕ → Option ℕ
number_at_most max None = None
number_at_most max (Some n) = if nat_le n max then Some n else None

-- the number in hexadecimal digits, of either case
abbrev pub hex_number_of : List ℕ → Option ℕ
hex_number_of digits =
    if nat_lt 0 (length digits) && list_all is_ascii_hexdigit digits then number_at_most most_number (Some (digits_value 16 digits)) else None

-- The number that a word is: in decimal digits, or in hexadecimal ones after 0x.
abbrev pub number_in : List ℕ → Option ℕ
number_in word = if bytes_eq (take 2 word) (codes "0x") then hex_number_of (drop 2 word) else number_at_most most_number (decimal_of word)

unfoldable pub number_of : List ℕ → Option ℕ
number_of word = number_in word

-- ---- operators

abbrev pub binary_sign : Binary → List ℕ
binary_sign binary.Or = codes "||"
binary_sign binary.And = codes "&&"
binary_sign binary.Eq = codes "=="
binary_sign binary.Ne = codes "!="
binary_sign binary.Lt = codes "<"
binary_sign binary.Le = codes "<="
binary_sign binary.Gt = codes ">"
binary_sign binary.Ge = codes ">="
binary_sign binary.Add = codes "+"
binary_sign binary.Sub = codes "-"
binary_sign binary.Mul = codes "*"
binary_sign binary.Div = codes "/"
binary_sign binary.Rem = codes "%"

abbrev pub binaries : List Binary
binaries =
    binary.Or ∷ binary.And ∷ binary.Eq ∷ binary.Ne ∷ binary.Lt ∷ binary.Le ∷ binary.Gt ∷ binary.Ge ∷ binary.Add ∷ binary.Sub
    ∷ binary.Mul ∷ binary.Div ∷ binary.Rem ∷ []

-- the operator between two operands with this sign
unfoldable pub binary_of : List ℕ → Option Binary
binary_of text = find (λ op. bytes_eq (binary_sign op) text) binaries

abbrev pub unary_sign : Unary → List ℕ
unary_sign unary.Minus = codes "-"
unary_sign unary.Not = codes "!"

abbrev pub unaries : List Unary
unaries = unary.Minus ∷ unary.Not ∷ []

-- the operator before an operand with this sign
unfoldable pub unary_of : List ℕ → Option Unary
unary_of text = find (λ op. bytes_eq (unary_sign op) text) unaries

-- ---- words with a meaning of their own

abbrev pub agg_word : Agg → List ℕ
agg_word agg.Sum = codes "sum"
agg_word agg.Min = codes "min"
agg_word agg.Max = codes "max"
agg_word agg.Count = codes "count"

abbrev pub aggs : List Agg
aggs = agg.Sum ∷ agg.Min ∷ agg.Max ∷ agg.Count ∷ []

unfoldable pub agg_of : List ℕ → Option Agg
agg_of word = find (λ a. bytes_eq (agg_word a) word) aggs

abbrev pub place_word : PlaceWord → List ℕ
place_word (place.Load width.U8) = codes "u8"
place_word (place.Load width.U16) = codes "u16"
place_word (place.Load width.U32) = codes "u32"
place_word (place.Load width.I8) = codes "i8"
place_word (place.Load width.I16) = codes "i16"
place_word (place.Load width.I32) = codes "i32"
place_word (place.Load width.I64) = codes "i64"
place_word place.Global = codes "global"
place_word place.Clock = codes "clock"
place_word place.Events = codes "events"
place_word place.Size = codes "size"
place_word place.Thread = codes "thread"
place_word place.Ended = codes "ended"

abbrev pub places : List PlaceWord
places =
    place.Load width.U8 ∷ place.Load width.U16 ∷ place.Load width.U32 ∷ place.Load width.I8 ∷ place.Load width.I16
    ∷ place.Load width.I32 ∷ place.Load width.I64 ∷ place.Global ∷ place.Clock ∷ place.Events ∷ place.Size ∷ place.Thread
    ∷ place.Ended ∷ []

unfoldable pub place_of : List ℕ → Option PlaceWord
place_of word = find (λ p. bytes_eq (place_word p) word) places

-- ---- names of nodes

-- The node that a word names: an underscore is the node of the aggregate around it, and another word the first
-- node with that name.
unfoldable pub node_of_word : List (List ℕ) → List ℕ → NodeName
node_of_word names word = if bytes_eq word (codes "_") then node.Each else node.Named (position (λ name. bytes_eq name word) names)

-- The node that the token behind an at sign stands for: an exclamation mark for the node of the position's event, and a word
-- for the node that it names.
abbrev pub node_spelled : List (List ℕ) → List ℕ → Option NodeName
node_spelled names text = if bytes_eq text (codes "!") then Some node.OfEvent else if is_word text then Some (node_of_word names text) else None
