-- The states of the processes of a group that goes on try by try, and what expressions see of them.
use Rattle.std.proofs.Common.{◌≡◌, ◌∙◌, ℕ, zero, suc, ◌++◌, List, [], ◌∷◌, length, slice_get, Option, Some, refl, ap, sym}
use Rattle.std.specs.Prelude.{option_map}
use Rattle.std.specs.List.{flat_map}
use Rattle.std.specs.Option.{option_to_list}
use Rattle.std.proofs.lemmas.List.{length-map}
use Rattle.std.proofs.lemmas.Option.{slice_get-map}
use Rattle.guest_process.specs.State.{State}
use Rattle.group_record.specs.Live.{IsLiveAfter, LiveMember, LiveParts, live_count, live_states}
use Rattle.group_record.specs.Run.{GroupStart, RunStep, process_after}
use Rattle.group_state.specs.Nodes.{seen_node}
use Rattle.play_command.specs.inside.Playing.{IsUnderWay}
use Rattle.play_command.specs.inside.Shown.{nodes_of_live}

-- ---- the states

-- each of these processes is there
abbrev AreThere : List LiveMember → Type 0
AreThere ms = (p : ℕ) (m : LiveMember) → slice_get ms p ≡ Some m → (S : State) × (m.process ≡ Some S)

abbrev states_of : List LiveMember → List State
states_of ms = flat_map (λ (m : LiveMember). option_to_list m.process) ms

states_length : (ms : List LiveMember) → AreThere ms → length (states_of ms) ≡ length ms
states_length [] there = refl
states_length (x ∷ ms) there =
    ap (λ (o : Option State). length (option_to_list o ++ states_of ms)) (there 0 x refl).1 ∙ ap suc (states_length ms (λ q n at. there (suc q) n at))

-- the member of a state that is there
member_of : (ms : List LiveMember) (p : ℕ) (S : State) → AreThere ms → slice_get (states_of ms) p ≡ Some S → (m : LiveMember) × (slice_get ms p ≡ Some m) × (m.process ≡ Some S)
member_of [] p S there at = absurd cc
member_of (x ∷ ms) zero S there at =
    let first = there 0 x refl in
    (x, refl, first.1 ∙ sym (ap (λ (o : Option State). slice_get (option_to_list o ++ states_of ms) 0) first.1) ∙ at)
member_of (x ∷ ms) (suc p) S there at =
    let first = there 0 x refl in
    member_of ms p S (λ q n at. there (suc q) n at) (sym (ap (λ (o : Option State). slice_get (option_to_list o ++ states_of ms) (suc p)) first.1) ∙ at)

are_there : (group : GroupStart) (steps : List RunStep) (live : LiveParts) → IsLiveAfter group steps live → AreThere live.members
are_there group steps live lives p m at = let k = lives.members p m at in (k.state, k.process)

-- each process of a group that stands in a run is there
pub whole_run : (group : GroupStart) (steps : List RunStep) (live : LiveParts) → IsLiveAfter group steps live → length (live_states live) ≡ length group.names
whole_run group steps live lives = states_length live.members (are_there group steps live lives) ∙ lives.count

pub whole_group : (names : List (List ℕ)) (live : LiveParts) → IsUnderWay names live → length (live_states live) ≡ live_count live
whole_group names live way = way.whole ∙ sym way.count

-- there are as many as names
pub counted_names : (names : List (List ℕ)) (live : LiveParts) → IsUnderWay names live → live_count live ≡ length names
counted_names names live way = way.count

-- a state is that of the run
pub state_after : (group : GroupStart) (steps : List RunStep) (live : LiveParts) → IsLiveAfter group steps live → (p : ℕ) (S : State) → slice_get (live_states live) p ≡ Some S → process_after group steps p ≡ Some S
state_after group steps live lives p S at =
    let one = member_of live.members p S (are_there group steps live lives) at in
    let k = lives.members p one.0 one.1 in
    k.after ∙ sym k.process ∙ one.2

-- ---- the nodes

-- there is a node for each
pub nodes_length : (live : LiveParts) → length (nodes_of_live live) ≡ length (live_states live)
nodes_length live = length-map (live_states live) seen_node

pub node_of_state : (live : LiveParts) (p : ℕ) (S : State) → slice_get (live_states live) p ≡ Some S → slice_get (nodes_of_live live) p ≡ Some (seen_node S)
node_of_state live p S at = slice_get-map seen_node (live_states live) p ∙ ap (option_map seen_node) at
