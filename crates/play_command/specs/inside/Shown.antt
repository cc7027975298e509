-- What is shown of a group that goes on try by try.
use Rattle.std.specs.Prelude.{◌≡◌, ℕ, nat_lt, List, length, map, Option, Some, None, if◌then◌else◌}
use Rattle.group_record.specs.Answer.{summary_line}
use Rattle.group_record.specs.Live.{IsLiveAfter, LiveParts, live_states}
use Rattle.group_record.specs.Run.{GroupStart, RunStep}
use Rattle.group_record.specs.declared.summary.SummaryLine.{SummaryLine}
use Rattle.group_state.specs.Nodes.{seen_node}
use Rattle.watch_expr.specs.View.{Node}
use Rattle.play_lines.specs.Lines.{PlayCommand}
use Rattle.play_command.specs.Play.{shown_text}

-- the text is what the command shows, wherever the group stands
abbrev pub Shows : List (List ℕ) → LiveParts → PlayCommand → List ℕ → Type 0
Shows names live command text = (group : GroupStart) (steps : List RunStep) → group.names ≡ names → IsLiveAfter group steps live → text ≡ shown_text group steps command

-- the line is what is said of process p, which has this name
abbrev pub SumsUp : LiveParts → List ℕ → ℕ → SummaryLine → Type 0
SumsUp live name p line = (group : GroupStart) (steps : List RunStep) → IsLiveAfter group steps live → line ≡ summary_line group steps p name

-- the processes as expressions see them
abbrev pub nodes_of_live : LiveParts → List Node
nodes_of_live live = map seen_node (live_states live)

-- the number of a node, if a process has it
abbrev pub node_within : List (List ℕ) → Option ℕ → Option ℕ
node_within names None = None
node_within names (Some p) = if nat_lt p (length names) then Some p else None
