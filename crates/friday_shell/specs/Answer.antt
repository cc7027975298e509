-- What a line of a session answers, and what the session then keeps.
use Rattle.std.specs.Prelude.{ℕ, ◌+◌, ◌-◌, min, Bool, true, false, ◌||◌, nat_le, nat_lt, List, [], ◌++◌, length, slice_get, codes, decimal, Option, Some, None, ℤ, if◌then◌else◌}
use Rattle.std.specs.List.{flat_map}
use Rattle.fri_text.specs.Hex.{hex_word}
use Rattle.call_table.specs.declared.kind.Kind.{Kind}
use Rattle.guest_process.specs.Meanings.{thread_frames}
use Rattle.guest_process.specs.State.{State}
use Rattle.expression_text.specs.Expression.{Expression}
use Rattle.watch_expr.specs.View.{bytes_of_node}
use Rattle.group_state.specs.Place.{GroupPlace, events_of_replays, node_names, states_of_nodes}
use Rattle.group_state.specs.Nodes.{nodes_at}
use Rattle.group_text.specs.Texts.{frames_line, last_lines, node_name, position_line, process_lines}
use Rattle.point_programs.specs.Faulty.{set_names}
use Rattle.point_programs.specs.Running.{value_in, value_word}
use Rattle.point_programs.specs.Tree.{Statements}
use Rattle.point_programs.specs.Variables.{Variable, is_mentioned, mention_all, with_value}
use Rattle.shell_lines.specs.Lines.{At, Back, Break, LineCommand, Continue, Delete, Do, Events, Everywhere, Frames, Goto, ListPoints, ListVariables, Mem, Print, Quit, Rcontinue, WhichNodes, SetTo, Step, Threads, Watch}
use Rattle.shell_lines.specs.Meaning.{Does, LineMeaning, Refuses, Silent, line_meaning, trimmed}
use Rattle.shell_lines.specs.Refusals.{refusal_line}
use Rattle.shell_lines.specs.declared.refusal.LineRefusal.{LineRefusal}
use Rattle.shell_lines.specs.declared.refusal.LineRefusal.TheVariants as refusal
use Rattle.shell_points.specs.Firing.{place_at}
use Rattle.shell_points.specs.Points.{Trigger, has_point, index_of_point, point_text, with_program, without_point, Break as OnCall, Watch as OnChange}
use Rattle.shell_points.specs.Returning.{Return, return_from}
use Rattle.shell_points.specs.Walking.{Walk, walk_from}
use Rattle.friday_shell.specs.Points.{SessionState, with_point}

-- the text, the session after it, and whether the session ends
pub record LineAnswer : Type 0 where
  pub text : List ℕ
  pub state : SessionState
  pub quits : Bool

-- text, and the session as it was
abbrev pub says_text : SessionState → List ℕ → LineAnswer
says_text state text = record { text = text; state = state; quits = false }

-- a refusal, which leaves the session as it was
abbrev pub refuses_line : SessionState → LineRefusal → LineAnswer
refuses_line state why = says_text state (refusal_line why)

-- the session at this position
abbrev pub session_moved_to : SessionState → ℕ → SessionState
session_moved_to state k = record state { place = place_at state.place.start k }

-- lines, and then the position to which the session goes
abbrev pub arrives_at_position : SessionState → List ℕ → ℕ → LineAnswer
arrives_at_position state lines k = record { text = lines ++ position_line (place_at state.place.start k); state = session_moved_to state k; quits = false }

-- ---- the answers of commands

abbrev pub value_text : Option ℤ → List ℕ
value_text v = value_word v ++ codes "\n"

abbrev pub piece_text : Option (List ℕ) → List ℕ
piece_text None = codes "undef\n"
piece_text (Some bytes) = hex_word bytes ++ codes "\n"

-- of a node that no process is, nothing is said: such a line is refused
abbrev pub memory_text : GroupPlace → Option ℕ → ℕ → ℕ → List ℕ
memory_text place None addr len = []
memory_text place (Some n) addr len = piece_text (bytes_of_node (nodes_at place) n addr len)

abbrev pub text_of_state : List ℕ → Option State → List ℕ
text_of_state name None = []
text_of_state name (Some S) = process_lines name S

abbrev pub threads_of : GroupPlace → Option ℕ → List ℕ
threads_of place None = []
threads_of place (Some n) = text_of_state (node_name place.start n) (slice_get (states_of_nodes place.start place.at) n)

abbrev pub frames_in : SessionState → ℕ → Option State → LineAnswer
frames_in state t None = says_text state []
frames_in state t (Some S) = if nat_lt t (length S.crew.threads) then says_text state (frames_line t (thread_frames S t)) else refuses_line state refusal.NoThread

-- the frames of a thread, where it was made
abbrev pub shows_frames : SessionState → Option ℕ → ℕ → LineAnswer
shows_frames state None t = says_text state []
shows_frames state (Some n) t = frames_in state t (slice_get (states_of_nodes state.place.start state.place.at) n)

-- how many points may be held at once
abbrev pub most_points : ℕ
most_points = 64

-- a point more, with the line that made it, unless there are as many as there may be
abbrev pub adds_point : SessionState → List ℕ → Trigger → Option Expression → LineAnswer
adds_point state text trigger condition =
    if nat_lt (length state.points) most_points
    then record { text = codes "point " ++ (decimal (state.made + 1) ++ codes "\n"); state = with_point state text trigger condition; quits = false }
    else refuses_line state refusal.TooMany

abbrev pub deletes_point : SessionState → ℕ → LineAnswer
deletes_point state n =
    if has_point state.points n
    then record { text = codes "deleted " ++ (decimal n ++ codes "\n"); state = record state { points = without_point state.points n }; quits = false }
    else refuses_line state refusal.NoPoint

-- a walk's lines, and then the position to which the session goes
abbrev pub walks_on : SessionState → Walk → LineAnswer
walks_on state w = record {
  text = w.text ++ position_line (place_at state.place.start w.at);
  state = record state { place = place_at state.place.start w.at; variables = w.variables };
  quits = false;
}

-- the lines of a walk back, and then the position to which the session goes
abbrev pub returns_back : SessionState → Return → LineAnswer
returns_back state r = arrives_at_position state r.text r.at

-- how many variables there may be
abbrev pub most_variables : ℕ
most_variables = 256

-- a variable gets a value, unless there were too many then
abbrev pub sets_variable : SessionState → List ℕ → Option ℤ → LineAnswer
sets_variable state name value =
    if is_mentioned state.variables name || nat_lt (length state.variables) most_variables
    then says_text (record state { variables = with_value state.variables name value }) []
    else refuses_line state refusal.TooMany

-- A program is attached to the point at this place. Then all variables that it sets are mentioned, unless there were too many
-- then.
abbrev pub attaches_at : SessionState → Statements → Option ℕ → LineAnswer
attaches_at state body None = refuses_line state refusal.NoPoint
attaches_at state body (Some place) =
    if nat_le (length (mention_all state.variables (set_names body))) most_variables
    then says_text (record state { points = with_program state.points place body; variables = mention_all state.variables (set_names body) }) []
    else refuses_line state refusal.TooMany

abbrev pub attaches_program : SessionState → ℕ → Statements → LineAnswer
attaches_program state n body = attaches_at state body (index_of_point state.points n)

abbrev pub variable_text : Variable → List ℕ
variable_text v = codes "$" ++ (v.0 ++ (codes " " ++ value_text v.1))

-- of a breakpoint for a node that no process is, nothing is said either
abbrev pub breaks_at : SessionState → List ℕ → Option Kind → Option Expression → WhichNodes → LineAnswer
breaks_at state text kind condition Everywhere = adds_point state text (OnCall None kind) condition
breaks_at state text kind condition (At None) = says_text state []
breaks_at state text kind condition (At (Some n)) = adds_point state text (OnCall (Some n) kind) condition

-- what a command answers, whose line without outer blanks is this
abbrev pub command_answer : SessionState → List ℕ → LineCommand → LineAnswer
command_answer state line (Goto k) = if nat_le k (length (events_of_replays state.place.start)) then arrives_at_position state [] k else refuses_line state refusal.NoPosition
command_answer state line (Step n) = arrives_at_position state [] (min (state.place.at + n) (length (events_of_replays state.place.start)))
command_answer state line (Back n) = arrives_at_position state [] (state.place.at - n)
command_answer state line (Print x) = says_text state (value_text (value_in (nodes_at state.place) state.variables x))
command_answer state line (Mem node addr len) = says_text state (memory_text state.place node addr len)
command_answer state line (Threads node) = says_text state (threads_of state.place node)
command_answer state line (Frames node t) = shows_frames state node t
command_answer state line (Events n) = says_text state (last_lines state.place n)
command_answer state line (Watch x c) = adds_point state line (OnChange x) c
command_answer state line (Break scope kind c) = breaks_at state line kind c scope
command_answer state line (Delete n) = deletes_point state n
command_answer state line (Do n body) = attaches_program state n body
command_answer state line ListPoints = says_text state (flat_map point_text state.points)
command_answer state line (SetTo name x) = sets_variable state name (value_in (nodes_at state.place) state.variables x)
command_answer state line ListVariables = says_text state (flat_map variable_text state.variables)
command_answer state line (Continue most) = walks_on state (walk_from state.place state.points state.variables most)
command_answer state line Rcontinue = returns_back state (return_from state.place state.points)
command_answer state line Quit = record { text = []; state = state; quits = true }

-- ---- the answer of a line

-- what a line of this meaning answers, which without outer blanks is this
abbrev pub answer_of_meaning : SessionState → List ℕ → LineMeaning → LineAnswer
answer_of_meaning state line Silent = says_text state []
answer_of_meaning state line (Refuses why) = refuses_line state why
answer_of_meaning state line (Does command) = command_answer state line command

-- the answer of a line
abbrev pub answer : SessionState → List ℕ → LineAnswer
answer state line = answer_of_meaning state (trimmed line) (line_meaning (node_names state.place.start) line)
