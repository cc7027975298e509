-- What the tokens of a program spell, as a function that computes. The tokens are read from the first one on.
use Rattle.std.specs.Prelude.{ℕ, zero, suc, ◌==◌, Bool, true, false, ◌&&◌, not, List, [], ◌∷◌, length, take, drop, codes, bytes_eq, Option, Some, None, option_map, Result, Ok, Err, if◌then◌else◌}
use Rattle.std.specs.List.{find}
use Rattle.expression_text.specs.Computed.{expression_spelled, viable_tokens}
use Rattle.expression_text.specs.Spelling.{is_word}
use Rattle.expression_text.specs.Expression.{Expression}
use Rattle.point_programs.specs.declared.keyword.Keyword.{Keyword}
use Rattle.point_programs.specs.declared.keyword.Keyword.TheVariants as keyword
use Rattle.point_programs.specs.Tree.{SaidItem, Words, Value, NodeOfEvent, Statement, Set, Say, Stop, If, Statements, End, sequence}

-- the tokens that are left
abbrev pub LeftTokens : Type 0
LeftTokens = List (List ℕ)

-- what was read, with the tokens after it; or the tokens from the first one on that no program could have there
abbrev pub ReadOfTokens : Type 0 → Type 0
ReadOfTokens A = Result (A × LeftTokens) LeftTokens

abbrev pub then_reads : {A B : Type 0} → ReadOfTokens A → (A → LeftTokens → ReadOfTokens B) → ReadOfTokens B
then_reads (Ok r) next = next r.0 r.1
then_reads (Err left) next = Err left

abbrev pub then_goes_past : {B : Type 0} → Result LeftTokens LeftTokens → (LeftTokens → ReadOfTokens B) → ReadOfTokens B
then_goes_past (Ok left) next = next left
then_goes_past (Err left) next = Err left

-- ---- one token

-- after this token
abbrev pub after_token : List ℕ → LeftTokens → Result LeftTokens LeftTokens
after_token text [] = Err []
after_token text (t ∷ ts) = if bytes_eq t text then Ok ts else Err (t ∷ ts)

abbrev pub read_or_stays : {A : Type 0} → Option A → LeftTokens → LeftTokens → ReadOfTokens A
read_or_stays None here left = Err here
read_or_stays (Some a) here left = Ok (a, left)

-- the token, as what it is to be
abbrev pub token_read_as : {A : Type 0} → (List ℕ → Option A) → LeftTokens → ReadOfTokens A
token_read_as meaning [] = Err []
token_read_as meaning (t ∷ ts) = read_or_stays (meaning t) (t ∷ ts) ts

abbrev pub word_of : List ℕ → Option (List ℕ)
word_of t = if is_word t then Some t else None

-- the bytes in front of a quote at the end
abbrev pub before_quote : List ℕ → Option (List ℕ)
before_quote [] = None
before_quote (b ∷ []) = if b == 34 then Some [] else None
before_quote (b ∷ bytes) = option_map (λ body. b ∷ body) (before_quote bytes)

-- a string, without its quotes
abbrev pub string_of : List ℕ → Option (List ℕ)
string_of [] = None
string_of (b ∷ bytes) = if b == 34 then before_quote bytes else None

abbrev pub keyword_text : Keyword → List ℕ
keyword_text keyword.Set = codes "set"
keyword_text keyword.Say = codes "say"
keyword_text keyword.Stop = codes "stop"
keyword_text keyword.If = codes "if"

abbrev pub keywords : List Keyword
keywords = keyword.Set ∷ keyword.Say ∷ keyword.Stop ∷ keyword.If ∷ []

-- the keyword that begins a statement
unfoldable pub keyword_of : List ℕ → Option Keyword
keyword_of text = find (λ k. bytes_eq (keyword_text k) text) keywords

-- ---- expressions, and lists of what is read

abbrev pub expression_or : LeftTokens → Option Expression → ReadOfTokens Expression
expression_or left None = Err left
expression_or left (Some x) = Ok (x, left)

-- so many tokens
abbrev pub expression_in : List (List ℕ) → LeftTokens → ℕ → ReadOfTokens Expression
expression_in names ts n = expression_or (drop n ts) (expression_spelled names (take n ts))

-- an expression, of as many tokens as begin one
abbrev pub expression : List (List ℕ) → LeftTokens → ReadOfTokens Expression
expression names ts = expression_in names ts (viable_tokens names [] ts)

abbrev pub then_more_items : {A : Type 0} → List ℕ → (LeftTokens → ReadOfTokens (List A)) → A → LeftTokens → ReadOfTokens (List A)
then_more_items sign rest a [] = Ok (a ∷ [], [])
then_more_items sign rest a (t ∷ ts) = if bytes_eq t sign then then_reads (rest ts) (λ more left. Ok (a ∷ more, left)) else Ok (a ∷ [], t ∷ ts)

-- One or more of what `one` reads, with a sign between them. The number is no less than how many tokens there are.
abbrev pub separated_in : {A : Type 0} → List ℕ → (LeftTokens → ReadOfTokens A) → ℕ → LeftTokens → ReadOfTokens (List A)
separated_in sign one zero ts = Err ts
separated_in sign one (suc most) ts = then_reads (one ts) (then_more_items sign (separated_in sign one most))

abbrev pub separated_items : {A : Type 0} → List ℕ → (LeftTokens → ReadOfTokens A) → LeftTokens → ReadOfTokens (List A)
separated_items sign one ts = separated_in sign one (length ts) ts

-- ---- statements

-- a dot comes first
abbrev pub begins_with_dot : LeftTokens → Bool
begins_with_dot [] = false
begins_with_dot (t ∷ ts) = bytes_eq t (codes ".")

-- the node of the position's event comes first, and no place of it
abbrev pub names_event_node : LeftTokens → Bool
names_event_node [] = false
names_event_node (a ∷ []) = false
names_event_node (a ∷ b ∷ ts) = bytes_eq a (codes "@") && (bytes_eq b (codes "!") && not (begins_with_dot ts))

abbrev pub node_or_value : List (List ℕ) → Bool → LeftTokens → ReadOfTokens SaidItem
node_or_value names true ts = Ok (NodeOfEvent, drop 2 ts)
node_or_value names false ts = then_reads (expression names ts) (λ x left. Ok (Value x, left))

-- a string, the node of the position's event, or the value of an expression
abbrev pub string_or_value : List (List ℕ) → Option (List ℕ) → List ℕ → LeftTokens → ReadOfTokens SaidItem
string_or_value names (Some body) t ts = Ok (Words body, ts)
string_or_value names None t ts = node_or_value names (names_event_node (t ∷ ts)) (t ∷ ts)

abbrev pub item : List (List ℕ) → LeftTokens → ReadOfTokens SaidItem
item names [] = Err []
item names (t ∷ ts) = string_or_value names (string_of t) t ts

abbrev pub set_statement : List (List ℕ) → LeftTokens → ReadOfTokens Statement
set_statement names ts =
    then_goes_past (after_token (codes "$") ts) (λ ts. then_reads (token_read_as word_of ts) (λ name ts.
    then_reads (expression names ts) (λ x left. Ok (Set name x, left))))

abbrev pub say_statement : List (List ℕ) → LeftTokens → ReadOfTokens Statement
say_statement names ts = then_reads (separated_items (codes ",") (item names) ts) (λ items left. Ok (Say items, left))

-- a part in braces, in which `inside` reads
abbrev pub braced_part : (LeftTokens → ReadOfTokens Statements) → LeftTokens → ReadOfTokens Statements
braced_part inside ts =
    then_goes_past (after_token (codes "{") ts) (λ ts. then_reads (inside ts) (λ body ts.
    then_goes_past (after_token (codes "}") ts) (λ left. Ok (body, left))))

-- a second part, which may be left out
abbrev pub else_part : (LeftTokens → ReadOfTokens Statements) → LeftTokens → ReadOfTokens Statements
else_part inside [] = Ok (End, [])
else_part inside (t ∷ ts) = if bytes_eq t (codes "else") then braced_part inside ts else Ok (End, t ∷ ts)

abbrev pub if_statement : (LeftTokens → ReadOfTokens Statements) → List (List ℕ) → LeftTokens → ReadOfTokens Statement
if_statement inside names ts =
    then_reads (expression names ts) (λ x ts. then_reads (braced_part inside ts) (λ on_true ts.
    then_reads (else_part inside ts) (λ on_false left. Ok (If x on_true on_false, left))))

abbrev pub statement_by : (LeftTokens → ReadOfTokens Statements) → List (List ℕ) → Keyword → LeftTokens → ReadOfTokens Statement
statement_by inside names keyword.Set ts = set_statement names ts
statement_by inside names keyword.Say ts = say_statement names ts
statement_by inside names keyword.Stop ts = Ok (Stop, ts)
statement_by inside names keyword.If ts = if_statement inside names ts

-- a statement, where `inside` reads what is in its braces
abbrev pub statement : (LeftTokens → ReadOfTokens Statements) → List (List ℕ) → LeftTokens → ReadOfTokens Statement
statement inside names ts = then_reads (token_read_as keyword_of ts) (statement_by inside names)

-- ---- programs

-- A program, as far as it goes. The number is no less than how deep its braces nest.
abbrev pub program_in : ℕ → List (List ℕ) → LeftTokens → ReadOfTokens Statements
program_in zero names ts = Err ts
program_in (suc levels) names ts = then_reads (separated_items (codes ";") (statement (program_in levels names) names) ts) (λ list left. Ok (sequence list, left))

abbrev pub whole_program : ReadOfTokens Statements → Result Statements LeftTokens
whole_program (Ok (body, [])) = Ok body
whole_program (Ok (body, t ∷ left)) = Err (t ∷ left)
whole_program (Err left) = Err left

-- the program that the tokens spell, over nodes with these names, or the tokens from the first one on that no program
-- could have there
unfoldable pub program_of : List (List ℕ) → List (List ℕ) → Result Statements LeftTokens
program_of names ts = whole_program (program_in (length ts) names ts)
