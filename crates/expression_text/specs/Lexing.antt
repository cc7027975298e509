-- The tokens of a line.
use Rattle.std.specs.Prelude.{◌≡◌, ℕ, ◌+◌, ◌-◌, ◌≤◌, Bool, true, false, not, ◌&&◌, ◌||◌, ◌==◌, nat_lt, if◌then◌else◌, codes, bytes_eq, List, [], ◌∷◌, ◌++◌, length, take, drop, map, slice_get, Option, Some, None, option_map, unwrap_or, Result, Ok, Err}
use Rattle.std.specs.Int.{is_in_range}
use Rattle.std.specs.List.{list_all, list_any}
use Rattle.expression_text.specs.declared.error.ExprError.{ExprError}
use Rattle.expression_text.specs.declared.error.ExprError.TheVariants.{Syntax, NoNode, TooDeep, Nested, NoMemory}
use Rattle.expression_text.specs.Spelling.{is_word, number_of}

-- a token: its bytes, and the column of the first of them, counted from 1
pub record PlacedToken : Type 0 where
  pub text : List ℕ
  pub column : ℕ

-- a line in tokens, and the column after the line
pub record LexedLine : Type 0 where
  pub tokens : List PlacedToken
  pub end : ℕ

-- the bytes of the tokens
abbrev pub token_texts : LexedLine → List (List ℕ)
token_texts line = map (λ t. t.text) line.tokens

-- the column of a token, from 0, and after the last one that of the line's end
abbrev pub column_of_token : LexedLine → ℕ → ℕ
column_of_token line n = unwrap_or (option_map (λ t. t.column) (slice_get line.tokens n)) line.end

abbrev pub number_of_token : Option (List ℕ) → Option ℕ
number_of_token None = None
number_of_token (Some text) = number_of text

-- the number that a token is, if there is such a token and it is one
abbrev pub number_of_token_at : LexedLine → ℕ → Option ℕ
number_of_token_at line n = number_of_token (slice_get (token_texts line) n)

-- ---- tokens

-- a space or a tab
abbrev pub is_blank : ℕ → Bool
is_blank b = (b == 32) || (b == 9)

-- the bytes of a string are those from a space to a tilde, but for the quote
abbrev pub is_string_byte : ℕ → Bool
is_string_byte b = is_in_range 32 126 b && not (b == 34)

-- a sign of one byte
abbrev pub is_sign : ℕ → Bool
is_sign b = list_any (λ sign. b == sign) (codes "@.[](){},;$+-*/%!<>")

-- a sign of two bytes: == != <= >= && ||
abbrev pub is_pair : ℕ → ℕ → Bool
is_pair a b = (((a == 61) || (a == 33) || (a == 60) || (a == 62)) && (b == 61)) || ((a == 38) && (b == 38)) || ((a == 124) && (b == 124))

-- The bytes are a token: a word, a string in its quotes, or a sign.
pub data IsToken : List ℕ → Type 0 where
  word : (w : List ℕ) → is_word w ≡ true → IsToken w
  string : (body : List ℕ) → list_all is_string_byte body ≡ true → IsToken (34 ∷ (body ++ 34 ∷ []))
  sign : (b : ℕ) → is_sign b ≡ true → IsToken (b ∷ [])
  pair : (a b : ℕ) → is_pair a b ≡ true → IsToken (a ∷ b ∷ [])

-- the first n of the bytes are a token, and no more of them are
pub record IsLongest (bytes : List ℕ) (n : ℕ) : Type 0 where
  pub within : n ≤ length bytes
  pub token : IsToken (take n bytes)
  pub longest : (m : ℕ) → m ≤ length bytes → IsToken (take m bytes) → m ≤ n

-- no token begins the bytes
abbrev pub BeginsNone : List ℕ → Type 0
BeginsNone bytes = (m : ℕ) → m ≤ length bytes → IsToken (take m bytes) → ⊥

-- ---- lines

-- The bytes from a column on are these tokens: blanks are passed over, and at each other place stands the longest
-- token that begins there.
pub data LexesTokens : ℕ → List ℕ → List PlacedToken → Type 0 where
  end : (column : ℕ) → LexesTokens column [] []
  blank : (column b : ℕ) (bytes : List ℕ) (ts : List PlacedToken) → is_blank b ≡ true → LexesTokens (column + 1) bytes ts → LexesTokens column (b ∷ bytes) ts
  token : (column n : ℕ) (bytes : List ℕ) (ts : List PlacedToken) → IsLongest bytes n → LexesTokens (column + n) (drop n bytes) ts
      → LexesTokens column bytes (record { text = take n bytes; column = column } ∷ ts)

-- Among the bytes from a column on, the first byte that begins no token is at this one.
pub data IsBadAt : ℕ → List ℕ → ℕ → Type 0 where
  here : (column b : ℕ) (bytes : List ℕ) → is_blank b ≡ false → BeginsNone (b ∷ bytes) → IsBadAt column (b ∷ bytes) column
  past_blank : (column b : ℕ) (bytes : List ℕ) (bad : ℕ) → is_blank b ≡ true → IsBadAt (column + 1) bytes bad → IsBadAt column (b ∷ bytes) bad
  past_token : (column n : ℕ) (bytes : List ℕ) (bad : ℕ) → IsLongest bytes n → IsBadAt (column + n) (drop n bytes) bad → IsBadAt column bytes bad

-- ---- limits

-- how many brackets are open after this token: an opening one adds one, and a closing one takes one away
abbrev pub depth_after : ℕ → List ℕ → ℕ
depth_after depth text =
    if bytes_eq text (codes "(") || bytes_eq text (codes "[") || bytes_eq text (codes "{") then depth + 1 else
    (if bytes_eq text (codes ")") || bytes_eq text (codes "]") || bytes_eq text (codes "}") then depth - 1 else depth)

-- how many brackets may be open at once
abbrev pub most_open : ℕ
most_open = 64

-- how many tokens a line may have
abbrev pub most_tokens : ℕ
most_tokens = 512

-- where so many are open, more than may be are at some place
abbrev pub brackets_go_deep : ℕ → List (List ℕ) → Bool
brackets_go_deep depth [] = false
brackets_go_deep depth (text ∷ texts) = nat_lt most_open (depth_after depth text) || brackets_go_deep (depth_after depth text) texts

-- too many tokens, or too many brackets that are open at once
abbrev pub is_too_deep : List (List ℕ) → Bool
is_too_deep texts = nat_lt most_tokens (length texts) || brackets_go_deep 0 texts

-- What is answered of a line, but for memory.
abbrev pub LexedAs : List ℕ → Result LexedLine ExprError → Type 0
LexedAs line (Ok lexed) = LexesTokens 1 line lexed.tokens × (lexed.end ≡ length line + 1) × (is_too_deep (token_texts lexed) ≡ false)
LexedAs line (Err (Syntax column)) = IsBadAt 1 line column
LexedAs line (Err TooDeep) = (tokens : List PlacedToken) × LexesTokens 1 line tokens × (is_too_deep (map (λ t. t.text) tokens) ≡ true)
LexedAs line (Err NoNode) = ⊥
LexedAs line (Err Nested) = ⊥
LexedAs line (Err NoMemory) = Unit {0}
