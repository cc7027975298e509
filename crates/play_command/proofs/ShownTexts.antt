-- What is shown of a group, by what its processes tell.
use Rattle.std.proofs.Common.{◌≡◌, ◌∙◌, ℕ, suc, ◌+◌, ◌<◌, ◌≤◌, ◌++◌, Bool, true, false, cond, ltb, List, [], length, map, drop, get_or, slice_get, Option, Some, None, refl, ap, sym, append-nil, append_assoc, add-one}
use Rattle.std.specs.Prelude.{codes, option_map, ℤ}
use Rattle.std.specs.List.{flat_map}
use Rattle.std.proofs.Math.ListN.{drop_of_length-le}
use Rattle.std.proofs.lemmas.Bool.{ltb-true}
use Rattle.std.proofs.lemmas.List.{drop_more, get_or_read}
use Rattle.std.proofs.lemmas.Option.{cond_some}
use Rattle.fri_text.specs.Hex.{hex_word}
use Rattle.lossy_net.specs.Network.{kept_sent}
use Rattle.lossy_net.specs.declared.net.SentBytes.{SentBytes}
use Rattle.guest_process.specs.State.{State}
use Rattle.group_world.specs.History.{is_killed}
use Rattle.group_record.specs.Answer.{summary_line, summary_lines}
use Rattle.group_record.specs.Live.{IsLiveAfter, LiveParts, LiveStates, TellsKilled, TellsPrinted, TellsSent, live_states}
use Rattle.group_record.specs.Run.{GroupStart, RunStep, history_of_steps, name_of_process, process_after}
use Rattle.group_record.specs.declared.summary.SummaryLine.{SummaryLine}
use Rattle.group_state.specs.Nodes.{seen_node}
use Rattle.group_text.specs.Texts.{process_lines}
use Rattle.record_command.specs.Record.{process_line}
use Rattle.expression_text.specs.Expression.{Expression}
use Rattle.watch_expr.specs.Reads.{no_variables}
use Rattle.watch_expr.specs.Value.{value}
use Rattle.watch_expr.specs.View.{Node, ◌>>=◌, bytes_of_node, piece_in_memory}
use Rattle.play_lines.specs.Lines.{Datagram, Mem, Print, Printed, Threads}
use Rattle.play_command.specs.Play.{bytes_line, datagram_line, lines_of_state, nodes_after, nth_datagram, printed_text, processes_text, said_of_node, threads_after, value_line}
use Rattle.play_command.specs.inside.Shown.{Shows, node_within, nodes_of_live}
use Rattle.play_command.proofs.SeenNodes.{node_of_state, state_after}

-- ---- a line for each process

-- the lines of the processes from p on
abbrev pub lines_from : GroupStart → List RunStep → List (List ℕ) → ℕ → List ℕ
lines_from group steps names p = flat_map process_line (summary_lines group steps p (drop p names))

-- the text lacks the lines from p on alone
abbrev pub LacksLinesFrom : List (List ℕ) → LiveParts → ℕ → List ℕ → Type 0
LacksLinesFrom names live p text = (group : GroupStart) (steps : List RunStep) → IsLiveAfter group steps live → text ++ lines_from group steps names p ≡ lines_from group steps names 0

next_line : (group : GroupStart) (steps : List RunStep) (names : List (List ℕ)) (p : ℕ) (name : List ℕ) → p < length names → name ≡ get_or names p name
    → lines_from group steps names p ≡ process_line (summary_line group steps p name) ++ lines_from group steps names (p + 1)
next_line group steps names p name within is =
    let rest = drop (p + 1) names in
    ap (λ (ns : List (List ℕ)). flat_map process_line (summary_lines group steps p ns)) (drop_more names p name within)
    ∙ ap (λ (n : List ℕ). process_line (summary_line group steps p n) ++ flat_map process_line (summary_lines group steps (suc p) rest)) (sym is)
    ∙ ap (λ (q : ℕ). process_line (summary_line group steps p name) ++ flat_map process_line (summary_lines group steps q rest)) (sym (add-one p))

pub one_line_more : (names : List (List ℕ)) (live : LiveParts) (p : ℕ) (name text new : List ℕ) (line : SummaryLine) → p < length names → name ≡ get_or names p name
    → ((group : GroupStart) (steps : List RunStep) → IsLiveAfter group steps live → line ≡ summary_line group steps p name) → new ≡ text ++ process_line line → LacksLinesFrom names live p text
    → LacksLinesFrom names live (p + 1) new
one_line_more names live p name text new line within is tells added lacks = λ group steps lives.
    let rest = lines_from group steps names (p + 1) in
    ap (λ (t : List ℕ). t ++ rest) added
    ∙ append_assoc text (process_line line) rest
    ∙ ap (λ (l : SummaryLine). text ++ (process_line l ++ rest)) (tells group steps lives)
    ∙ ap (λ (t : List ℕ). text ++ t) (sym (next_line group steps names p name within is))
    ∙ lacks group steps lives

pub all_lines_there : (names : List (List ℕ)) (live : LiveParts) (p : ℕ) (text : List ℕ) → length names ≤ p → LacksLinesFrom names live p text
    → (group : GroupStart) (steps : List RunStep) → group.names ≡ names → IsLiveAfter group steps live → text ≡ processes_text group steps
all_lines_there names live p text past lacks group steps named lives =
    sym (append-nil text)
    ∙ ap (λ (ns : List (List ℕ)). text ++ flat_map process_line (summary_lines group steps p ns)) (sym (drop_of_length-le names past))
    ∙ lacks group steps lives
    ∙ ap (λ (ns : List (List ℕ)). flat_map process_line (summary_lines group steps 0 ns)) (sym named)

-- ---- a node that is named

within_test : (b : Bool) (q : ℕ) (text : List ℕ) → cond b (Some q) None ≡ None → [] ≡ cond b text []
within_test true q text none = absurd cc
within_test false q text none = refl

-- where no process has the number, nothing is said
pub no_node_says : (names : List (List ℕ)) (node : Option ℕ) → node_within names node ≡ None → (group : GroupStart) → group.names ≡ names → (text : ℕ → List ℕ) → [] ≡ said_of_node group node text
no_node_says names None none group named text = refl
no_node_says names (Some q) none group named text =
    within_test (ltb q (length names)) q (text q) none ∙ ap (λ (ns : List (List ℕ)). cond (ltb q (length ns)) (text q) []) (sym named)

-- where one has it, this is said
pub node_says : (names : List (List ℕ)) (node : Option ℕ) (p : ℕ) → node_within names node ≡ Some p → (group : GroupStart) → group.names ≡ names → (text : ℕ → List ℕ) → text p ≡ said_of_node group node text
node_says names None p some group named text = absurd cc
node_says names (Some q) p some group named text =
    let both = cond_some (ltb q (length names)) q p some in
    ap text (sym both.1)
    ∙ ap (λ (b : Bool). cond b (text q) []) (sym both.0)
    ∙ ap (λ (ns : List (List ℕ)). cond (ltb q (length ns)) (text q) []) (sym named)

pub node_is_within : (names : List (List ℕ)) (node : Option ℕ) (p : ℕ) → node_within names node ≡ Some p → p < length names
node_is_within names None p some = absurd cc
node_is_within names (Some q) p some =
    let both = cond_some (ltb q (length names)) q p some in
    let below = ltb-true q (length names) both.0 in
    let same = both.1 in
    rw same at below

-- ---- how a process stands, and its memory

-- the name of a process that is there
pub name_there : (names : List (List ℕ)) (p : ℕ) (name : List ℕ) → p < length names → name ≡ get_or names p name → (group : GroupStart) → group.names ≡ names → name ≡ name_of_process group p
name_there names p name within is group named = get_or_read names p name within is [] ∙ ap (λ (ns : List (List ℕ)). get_or ns p []) (sym named)

-- how it stands, by its state
pub threads_shown : (group : GroupStart) (steps : List RunStep) (live : LiveParts) (p : ℕ) (name : List ℕ) (S : State) (killed : Bool) → IsLiveAfter group steps live → name ≡ name_of_process group p
    → slice_get (live_states live) p ≡ Some S → killed ≡ is_killed (history_of_steps steps) p → cond killed (name ++ codes " killed\n") (process_lines name S) ≡ threads_after group steps p
threads_shown group steps live p name S killed lives named at is =
    ap (λ (n : List ℕ). cond killed (n ++ codes " killed\n") (process_lines n S)) named
    ∙ ap (λ (o : Option State). cond killed (name_of_process group p ++ codes " killed\n") (lines_of_state (name_of_process group p) o)) (sym (state_after group steps live lives p S at))
    ∙ ap (λ (b : Bool). cond b (name_of_process group p ++ codes " killed\n") (lines_of_state (name_of_process group p) (process_after group steps p))) is

-- the nodes are those of the run
pub nodes_are : LiveStates → (group : GroupStart) (steps : List RunStep) (live : LiveParts) → IsLiveAfter group steps live → nodes_of_live live ≡ nodes_after group steps
nodes_are states group steps live lives = ap (λ (ss : List State). map seen_node ss) (states group steps live lives).1

pub memory_shown : LiveStates → (group : GroupStart) (steps : List RunStep) (live : LiveParts) (p addr len : ℕ) (S : State) → IsLiveAfter group steps live → slice_get (live_states live) p ≡ Some S
    → piece_in_memory S.store.memory addr len ≡ bytes_of_node (nodes_after group steps) p addr len
memory_shown states group steps live p addr len S lives at =
    ap (λ (o : Option Node). o >>= (λ s. piece_in_memory s.memory addr len)) (sym (node_of_state live p S at))
    ∙ ap (λ (nodes : List Node). bytes_of_node nodes p addr len) (nodes_are states group steps live lives)

-- ---- what each command shows

-- of no process nothing is shown
pub nobody_shown : (names : List (List ℕ)) (live : LiveParts) (node : Option ℕ) (text : List ℕ) (said : GroupStart → List RunStep → ℕ → List ℕ) → node_within names node ≡ None → text ≡ []
    → (group : GroupStart) (steps : List RunStep) → group.names ≡ names → IsLiveAfter group steps live → text ≡ said_of_node group node (said group steps)
nobody_shown names live node text said none empty = λ group steps named lives. empty ∙ no_node_says names node none group named (said group steps)

pub threads_answer : (names : List (List ℕ)) (live : LiveParts) (node : Option ℕ) (p : ℕ) (name text : List ℕ) (S : State) (killed : Bool) → node_within names node ≡ Some p → name ≡ get_or names p name
    → slice_get (live_states live) p ≡ Some S → TellsKilled live p killed → text ≡ cond killed (name ++ codes " killed\n") (process_lines name S) → Shows names live (Threads node) text
threads_answer names live node p name text S killed found is at tells said = λ group steps named lives.
    said
    ∙ threads_shown group steps live p name S killed lives (name_there names p name (node_is_within names node p found) is group named) at (tells group steps lives)
    ∙ node_says names node p found group named (threads_after group steps)

pub datagram_answer : (names : List (List ℕ)) (live : LiveParts) (sender p n : ℕ) (sent : Option SentBytes) (text : List ℕ) → node_within names (Some sender) ≡ Some p → TellsSent live p n sent
    → text ≡ datagram_line (option_map kept_sent sent) → Shows names live (Datagram sender n) text
datagram_answer names live sender p n sent text found tells said = λ group steps named lives.
    said
    ∙ ap datagram_line (tells group steps lives)
    ∙ node_says names (Some sender) p found group named (λ p. datagram_line (nth_datagram group steps p n))

pub printed_answer : (names : List (List ℕ)) (live : LiveParts) (node : Option ℕ) (p from : ℕ) (bytes text : List ℕ) → node_within names node ≡ Some p → TellsPrinted live p bytes
    → text ≡ hex_word (drop from bytes) ++ codes "\n" → Shows names live (Printed node from) text
printed_answer names live node p from bytes text found tells said = λ group steps named lives.
    said
    ∙ ap (λ (bytes : List ℕ). hex_word (drop from bytes) ++ codes "\n") (tells group steps lives)
    ∙ node_says names node p found group named (λ p. printed_text steps p from)

pub value_answer : LiveStates → (names : List (List ℕ)) (live : LiveParts) (x : Expression) (v : Option ℤ) (text : List ℕ) → v ≡ value (nodes_of_live live) no_variables x → text ≡ value_line v → Shows names live (Print x) text
value_answer states names live x v text is said = λ group steps named lives.
    said ∙ ap value_line (is ∙ ap (λ (nodes : List Node). value nodes no_variables x) (nodes_are states group steps live lives))

pub memory_answer : LiveStates → (names : List (List ℕ)) (live : LiveParts) (node : Option ℕ) (p addr len : ℕ) (S : State) (found : Option (List ℕ)) (text : List ℕ) → node_within names node ≡ Some p
    → slice_get (live_states live) p ≡ Some S → found ≡ piece_in_memory S.store.memory addr len → text ≡ bytes_line found → Shows names live (Mem node addr len) text
memory_answer states names live node p addr len S found text there at piece said = λ group steps named lives.
    said
    ∙ ap bytes_line (piece ∙ memory_shown states group steps live p addr len S lives at)
    ∙ node_says names node p there group named (λ p. bytes_line (bytes_of_node (nodes_after group steps) p addr len))
