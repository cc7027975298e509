-- The commands that lines of a play spell.
use Rattle.std.specs.Prelude.{ℕ, ◌-◌, Bool, false, nat_le, is_none, List, [], ◌∷◌, length, codes, bytes_eq, Option, Result, Ok, Err, if◌then◌else◌}
use Rattle.std.specs.List.{find}
use Rattle.expression_text.specs.Expression.{Expression}
use Rattle.expression_text.specs.Faulty.{is_nested, lacks_some_node}
use Rattle.expression_text.specs.Spelling.{most_number}
use Rattle.shell_lines.specs.Limits.{most_shown_bytes}
use Rattle.shell_lines.specs.Lines.{expression_from, node_named, number_from, then_takes, token_at}
use Rattle.play_lines.specs.declared.command.PlayVerb.{PlayVerb}
use Rattle.play_lines.specs.declared.command.PlayVerb.TheVariants as verb

-- A command. A node is given by its number, or none where no process has the name. A datagram is given by its sender and its
-- number among those that this process sent, from 1; printed bytes by how many come before them.
pub data PlayCommand : Type 0 where
  Processes : PlayCommand
  Threads : (node : Option ℕ) → PlayCommand
  Datagram : (sender number : ℕ) → PlayCommand
  Printed : (node : Option ℕ) → (from : ℕ) → PlayCommand
  Print : (x : Expression) → PlayCommand
  Mem : (node : Option ℕ) → (addr len : ℕ) → PlayCommand
  Again : PlayCommand
  Quit : PlayCommand

abbrev pub play_verb_word : PlayVerb → List ℕ
play_verb_word verb.Processes = codes "processes"
play_verb_word verb.Threads = codes "threads"
play_verb_word verb.Datagram = codes "datagram"
play_verb_word verb.Printed = codes "printed"
play_verb_word verb.Print = codes "print"
play_verb_word verb.Mem = codes "mem"
play_verb_word verb.Again = codes "again"
play_verb_word verb.Quit = codes "quit"

abbrev pub play_verbs : List PlayVerb
play_verbs = verb.Processes ∷ verb.Threads ∷ verb.Datagram ∷ verb.Printed ∷ verb.Print ∷ verb.Mem ∷ verb.Again ∷ verb.Quit ∷ []

unfoldable pub play_verb_of : List ℕ → Option PlayVerb
play_verb_of text = find (λ v. bytes_eq (play_verb_word v) text) play_verbs

-- no token has this number
abbrev pub ends_after : List (List ℕ) → ℕ → PlayCommand → Result PlayCommand ℕ
ends_after texts n command = if nat_le (length texts) n then Ok command else Err n

abbrev pub play_of_verb : List (List ℕ) → List (List ℕ) → PlayVerb → Result PlayCommand ℕ
play_of_verb names texts verb.Processes = ends_after texts 1 Processes
play_of_verb names texts verb.Threads = then_takes (token_at (node_named names) texts 1) (λ node. ends_after texts 2 (Threads node))
play_of_verb names texts verb.Datagram =
    then_takes (token_at (number_from 0 (length names - 1)) texts 1) (λ sender. then_takes (token_at (number_from 1 most_number) texts 2) (λ number.
    ends_after texts 3 (Datagram sender number)))
play_of_verb names texts verb.Printed =
    then_takes (token_at (node_named names) texts 1) (λ node. then_takes (token_at (number_from 0 most_number) texts 2) (λ from. ends_after texts 3 (Printed node from)))
play_of_verb names texts verb.Print = then_takes (expression_from names texts 1) (λ x. Ok (Print x))
play_of_verb names texts verb.Mem =
    then_takes (token_at (node_named names) texts 1) (λ node. then_takes (token_at (number_from 0 most_number) texts 2) (λ addr.
    then_takes (token_at (number_from 1 most_shown_bytes) texts 3) (λ len. ends_after texts 4 (Mem node addr len))))
play_of_verb names texts verb.Again = ends_after texts 1 Again
play_of_verb names texts verb.Quit = ends_after texts 1 Quit

-- the command that the tokens spell, over a group whose processes have these names, or the number of the first token, from 0,
-- that no command could have there; that of the line's end is the number of tokens
abbrev pub play_spelled : List (List ℕ) → List (List ℕ) → Result PlayCommand ℕ
play_spelled names texts = then_takes (token_at play_verb_of texts 0) (play_of_verb names texts)

-- ---- what is wrong with a command that is of the grammar

-- an aggregate is in an aggregate
abbrev pub nests_in_play : PlayCommand → Bool
nests_in_play Processes = false
nests_in_play (Threads _) = false
nests_in_play (Datagram sender number) = false
nests_in_play (Printed _ from) = false
nests_in_play (Print x) = is_nested x
nests_in_play (Mem _ addr len) = false
nests_in_play Again = false
nests_in_play Quit = false

-- it names no node where it is to name one
abbrev pub lacks_in_play : PlayCommand → Bool
lacks_in_play Processes = false
lacks_in_play (Threads node) = is_none node
lacks_in_play (Datagram sender number) = false
lacks_in_play (Printed node from) = is_none node
lacks_in_play (Print x) = lacks_some_node x
lacks_in_play (Mem node addr len) = is_none node
lacks_in_play Again = false
lacks_in_play Quit = false
