-- The commands that lines spell.
use Rattle.std.specs.Prelude.{ℕ, ◌+◌, ◌-◌, Bool, false, ◌&&◌, ◌||◌, nat_le, is_none, List, [], ◌∷◌, length, take, drop, codes, bytes_eq, position, slice_get, Option, Some, None, option_and_then, option_map, Result, Ok, Err, if◌then◌else◌}
use Rattle.std.specs.List.{find}
use Rattle.expression_text.specs.Computed.{expression_spelled, viable_tokens}
use Rattle.call_table.specs.Table.{kind_named}
use Rattle.call_table.specs.declared.kind.Kind.{Kind}
use Rattle.expression_text.specs.Faulty.{is_nested, lacks_node, lacks_some_node, names_variable}
use Rattle.expression_text.specs.Spelling.{is_word, most_number, number_of}
use Rattle.expression_text.specs.Expression.{Expression}
use Rattle.point_programs.specs.Faulty.{lacks_names, nests_aggregates}
use Rattle.point_programs.specs.Reading.{program_of, word_of}
use Rattle.point_programs.specs.Tree.{Statements}
use Rattle.shell_lines.specs.Limits.{most_shown_bytes, most_shown_events, greatest_thread}
use Rattle.shell_lines.specs.declared.command.Verb.{Verb}
use Rattle.shell_lines.specs.declared.command.Verb.TheVariants as verb

-- which nodes a breakpoint is for: all, or the one with a name, as which it is given by its number
pub data WhichNodes : Type 0 where
  Everywhere : WhichNodes
  At : (node : Option ℕ) → WhichNodes

-- a command. A node is given by its number, or none where no process has the name. A watchpoint and a breakpoint may have a
-- condition; a breakpoint may be for a kind of call or for all, and `continue` may go so many positions at most
pub data LineCommand : Type 0 where
  Goto : (position : ℕ) → LineCommand
  Step : (count : ℕ) → LineCommand
  Back : (count : ℕ) → LineCommand
  Print : (x : Expression) → LineCommand
  Mem : (node : Option ℕ) → (addr len : ℕ) → LineCommand
  Threads : (node : Option ℕ) → LineCommand
  Frames : (node : Option ℕ) → (thread : ℕ) → LineCommand
  Events : (count : ℕ) → LineCommand
  Watch : (x : Expression) → (condition : Option Expression) → LineCommand
  Break : (scope : WhichNodes) → (kind : Option Kind) → (condition : Option Expression) → LineCommand
  Delete : (number : ℕ) → LineCommand
  Do : (number : ℕ) → (program : Statements) → LineCommand
  ListPoints : LineCommand
  SetTo : (name : List ℕ) → (x : Expression) → LineCommand
  ListVariables : LineCommand
  Continue : (most : Option ℕ) → LineCommand
  Rcontinue : LineCommand
  Quit : LineCommand

-- ---- one token

abbrev pub verb_word : Verb → List ℕ
verb_word verb.Goto = codes "goto"
verb_word verb.Step = codes "step"
verb_word verb.Back = codes "back"
verb_word verb.Print = codes "print"
verb_word verb.Mem = codes "mem"
verb_word verb.Threads = codes "threads"
verb_word verb.Frames = codes "frames"
verb_word verb.Events = codes "events"
verb_word verb.Watch = codes "watch"
verb_word verb.Break = codes "break"
verb_word verb.Delete = codes "delete"
verb_word verb.Do = codes "do"
verb_word verb.List = codes "list"
verb_word verb.Set = codes "set"
verb_word verb.Vars = codes "vars"
verb_word verb.Continue = codes "continue"
verb_word verb.Rcontinue = codes "rcontinue"
verb_word verb.Quit = codes "quit"

abbrev pub verbs : List Verb
verbs =
    verb.Goto ∷ verb.Step ∷ verb.Back ∷ verb.Print ∷ verb.Mem ∷ verb.Threads ∷ verb.Frames ∷ verb.Events ∷ verb.Watch ∷ verb.Break ∷ verb.Delete
    ∷ verb.Do ∷ verb.List ∷ verb.Set ∷ verb.Vars ∷ verb.Continue ∷ verb.Rcontinue ∷ verb.Quit ∷ []

unfoldable pub verb_of : List ℕ → Option Verb
verb_of text = find (λ v. bytes_eq (verb_word v) text) verbs

-- a number from the one to the other
abbrev pub number_in_range : ℕ → ℕ → Option ℕ → Option ℕ
number_in_range least most None = None
number_in_range least most (Some n) = if nat_le least n && nat_le n most then Some n else None

abbrev pub number_from : ℕ → ℕ → List ℕ → Option ℕ
number_from least most text = number_in_range least most (number_of text)

-- the process that a word names, by its number, if there is one with the name
abbrev pub node_called : List (List ℕ) → List ℕ → Option ℕ
node_called names word = position (λ name. bytes_eq name word) names

-- a word that names a node, and which one, if there is one with the name
abbrev pub node_named : List (List ℕ) → List ℕ → Option (Option ℕ)
node_named names text = if is_word text then Some (node_called names text) else None

-- a star, or a word that names a node
abbrev pub scope_named : List (List ℕ) → List ℕ → Option WhichNodes
scope_named names text = if bytes_eq text (codes "*") then Some Everywhere else option_map At (node_named names text)

-- a star, or a word that names a kind of call
abbrev pub calls_named : List ℕ → Option (Option Kind)
calls_named text = if bytes_eq text (codes "*") then Some None else option_map (λ kind. Some kind) (kind_named text)

-- this sign
abbrev pub sign_of : List ℕ → List ℕ → Option (List ℕ)
sign_of sign text = if bytes_eq text sign then Some text else None

-- ---- a line of tokens, or the number of the first token, from 0, that no command could have there; that of the
-- line's end is the number of tokens

abbrev pub or_at : {A : Type 0} → ℕ → Option A → Result A ℕ
or_at n None = Err n
or_at n (Some a) = Ok a

-- the token with this number, as what it is to be
abbrev pub token_at : {A : Type 0} → (List ℕ → Option A) → List (List ℕ) → ℕ → Result A ℕ
token_at meaning texts n = or_at n (option_and_then meaning (slice_get texts n))

abbrev pub then_takes : {A B : Type 0} → Result A ℕ → (A → Result B ℕ) → Result B ℕ
then_takes (Ok a) next = next a
then_takes (Err n) next = Err n

-- no token has this number
abbrev pub ends_at : List (List ℕ) → ℕ → LineCommand → Result LineCommand ℕ
ends_at texts n command = if nat_le (length texts) n then Ok command else Err n

-- a dollar and a word, which name a variable
abbrev pub variable_at : List (List ℕ) → ℕ → Result (List ℕ) ℕ
variable_at texts n = then_takes (token_at (sign_of (codes "$")) texts n) (λ _. token_at word_of texts (n + 1))

abbrev pub expression_or_at : ℕ → Option Expression → Result Expression ℕ
expression_or_at n None = Err n
expression_or_at n (Some x) = Ok x

-- all tokens from this one on are an expression
abbrev pub expression_from : List (List ℕ) → List (List ℕ) → ℕ → Result Expression ℕ
expression_from names texts from = expression_or_at (from + viable_tokens names [] (drop from texts)) (expression_spelled names (drop from texts))

abbrev pub expression_and_end : ℕ → Option Expression → Result (Expression × ℕ) ℕ
expression_and_end n None = Err n
expression_and_end n (Some x) = Ok (x, n)

-- so many tokens from this one on
abbrev pub expression_of_tokens : List (List ℕ) → List (List ℕ) → ℕ → ℕ → Result (Expression × ℕ) ℕ
expression_of_tokens names texts from n = expression_and_end (from + n) (expression_spelled names (take n (drop from texts)))

-- the expression of as many tokens from this one on as begin one, and the number of the token after it
abbrev pub expression_before : List (List ℕ) → List (List ℕ) → ℕ → Result (Expression × ℕ) ℕ
expression_before names texts from = expression_of_tokens names texts from (viable_tokens names [] (drop from texts))

-- all tokens from this one on are a condition: there are none, or an `if` and an expression
abbrev pub condition_from : List (List ℕ) → List (List ℕ) → ℕ → Result (Option Expression) ℕ
condition_from names texts at =
    if nat_le (length texts) at then Ok None
    else then_takes (token_at (sign_of (codes "if")) texts at) (λ _. then_takes (expression_from names texts (at + 1)) (λ x. Ok (Some x)))

-- where a program was read or not, of all these tokens
abbrev pub located_program : List (List ℕ) → Result Statements (List (List ℕ)) → Result Statements ℕ
located_program texts (Ok program) = Ok program
located_program texts (Err left) = Err (length texts - length left)

-- all tokens from this one on are a program
abbrev pub program_from : List (List ℕ) → List (List ℕ) → ℕ → Result Statements ℕ
program_from names texts from = located_program texts (program_of names (drop from texts))

-- a count that may be left out
abbrev pub count_or : ℕ → ℕ → ℕ → List (List ℕ) → Result ℕ ℕ
count_or least most absent texts = if nat_le (length texts) 1 then Ok absent else token_at (number_from least most) texts 1

-- what follows `continue`: nothing, or how many positions it goes at most
abbrev pub continue_in : List (List ℕ) → Result LineCommand ℕ
continue_in texts =
    if nat_le (length texts) 1 then Ok (Continue None)
    else then_takes (token_at (number_from 1 most_number) texts 1) (λ n. ends_at texts 2 (Continue (Some n)))

abbrev pub command_of_verb : List (List ℕ) → List (List ℕ) → Verb → Result LineCommand ℕ
command_of_verb names texts verb.Goto = then_takes (token_at (number_from 0 most_number) texts 1) (λ k. ends_at texts 2 (Goto k))
command_of_verb names texts verb.Step = then_takes (count_or 0 most_number 1 texts) (λ n. ends_at texts 2 (Step n))
command_of_verb names texts verb.Back = then_takes (count_or 0 most_number 1 texts) (λ n. ends_at texts 2 (Back n))
command_of_verb names texts verb.Print = then_takes (expression_from names texts 1) (λ x. Ok (Print x))
command_of_verb names texts verb.Mem =
    then_takes (token_at (node_named names) texts 1) (λ node. then_takes (token_at (number_from 0 most_number) texts 2) (λ addr.
    then_takes (token_at (number_from 1 most_shown_bytes) texts 3) (λ len. ends_at texts 4 (Mem node addr len))))
command_of_verb names texts verb.Threads = then_takes (token_at (node_named names) texts 1) (λ node. ends_at texts 2 (Threads node))
command_of_verb names texts verb.Frames =
    then_takes (token_at (node_named names) texts 1) (λ node. then_takes (token_at (number_from 0 greatest_thread) texts 2) (λ t. ends_at texts 3 (Frames node t)))
command_of_verb names texts verb.Events = then_takes (count_or 1 most_shown_events 10 texts) (λ n. ends_at texts 2 (Events n))
command_of_verb names texts verb.Watch =
    then_takes (expression_before names texts 1) (λ p. then_takes (condition_from names texts p.1) (λ c. Ok (Watch p.0 c)))
command_of_verb names texts verb.Break =
    then_takes (token_at (scope_named names) texts 1) (λ scope. then_takes (token_at calls_named texts 2) (λ kind.
    then_takes (condition_from names texts 3) (λ c. Ok (Break scope kind c))))
command_of_verb names texts verb.Delete = then_takes (token_at (number_from 0 most_number) texts 1) (λ n. ends_at texts 2 (Delete n))
command_of_verb names texts verb.Do =
    then_takes (token_at (number_from 0 most_number) texts 1) (λ n. then_takes (program_from names texts 2) (λ p. Ok (Do n p)))
command_of_verb names texts verb.List = ends_at texts 1 ListPoints
command_of_verb names texts verb.Set =
    then_takes (variable_at texts 1) (λ name. then_takes (expression_from names texts 3) (λ x. Ok (SetTo name x)))
command_of_verb names texts verb.Vars = ends_at texts 1 ListVariables
command_of_verb names texts verb.Continue = continue_in texts
command_of_verb names texts verb.Rcontinue = ends_at texts 1 Rcontinue
command_of_verb names texts verb.Quit = ends_at texts 1 Quit

-- the command that the tokens spell, over a group whose processes have these names
abbrev pub command_spelled : List (List ℕ) → List (List ℕ) → Result LineCommand ℕ
command_spelled names texts = then_takes (token_at verb_of texts 0) (command_of_verb names texts)

-- ---- what is wrong with a command that is of the grammar

-- there is a condition, and this is so of it
abbrev pub is_in_condition : (Expression → Bool) → Option Expression → Bool
is_in_condition test None = false
is_in_condition test (Some x) = test x

-- an aggregate is in an aggregate
abbrev pub has_nested : LineCommand → Bool
has_nested (Print x) = is_nested x
has_nested (Watch x c) = is_nested x || is_in_condition is_nested c
has_nested (Break scope kind c) = is_in_condition is_nested c
has_nested (Delete n) = false
has_nested (Do n program) = nests_aggregates program
has_nested ListPoints = false
has_nested (SetTo name x) = is_nested x
has_nested ListVariables = false
has_nested (Continue n) = false
has_nested Rcontinue = false
has_nested (Goto k) = false
has_nested (Step n) = false
has_nested (Back n) = false
has_nested (Mem place addr len) = false
has_nested (Threads place) = false
has_nested (Frames place thread) = false
has_nested (Events n) = false
has_nested Quit = false

abbrev pub scopes_none : WhichNodes → Bool
scopes_none Everywhere = false
scopes_none (At node) = is_none node

-- it names no node where it is to name one
abbrev pub names_none : LineCommand → Bool
names_none (Print x) = lacks_some_node x
names_none (Watch x c) = lacks_some_node x || is_in_condition (lacks_node false) c
names_none (Break scope kind c) = scopes_none scope || is_in_condition (lacks_node false) c
names_none (Delete n) = false
names_none (Do n program) = lacks_names program
names_none ListPoints = false
names_none (SetTo name x) = lacks_some_node x
names_none ListVariables = false
names_none (Continue n) = false
names_none Rcontinue = false
names_none (Mem node addr len) = is_none node
names_none (Threads node) = is_none node
names_none (Frames node thread) = is_none node
names_none (Goto k) = false
names_none (Step n) = false
names_none (Back n) = false
names_none (Events n) = false
names_none Quit = false

-- a point names a variable, also in its condition
abbrev pub watches_variable : LineCommand → Bool
watches_variable (Watch x c) = names_variable x || is_in_condition names_variable c
watches_variable (Print x) = false
watches_variable (Break scope kind c) = is_in_condition names_variable c
watches_variable (Delete n) = false
watches_variable (Do n program) = false
watches_variable ListPoints = false
watches_variable (SetTo name x) = false
watches_variable ListVariables = false
watches_variable (Continue n) = false
watches_variable Rcontinue = false
watches_variable (Goto k) = false
watches_variable (Step n) = false
watches_variable (Back n) = false
watches_variable (Mem place addr len) = false
watches_variable (Threads place) = false
watches_variable (Frames place thread) = false
watches_variable (Events n) = false
watches_variable Quit = false
