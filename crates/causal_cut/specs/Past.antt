-- The least causal past of an event of a group: how many of the first events of each log it needs.
use Rattle.std.specs.Prelude.{ℕ, zero, suc, ◌==◌, ◌&&◌, Bool, true, false, nat_le, min, if◌then◌else◌, List, [], ◌∷◌, ◌++◌, length, map, take, filter, position, Option, Some, None}
use Rattle.std.specs.List.{flat_map, list_all, slice_index_or}
use Rattle.std.specs.Option.{option_map_or}
use Rattle.lamport_tag.specs.declared.Tag.{Tag}
use Rattle.lib_calls.specs.declared.entry.Entry.{Entry}
use Rattle.proc_replay.specs.Course.{entries_ahead}
use Rattle.proc_replay.specs.Replaying.{Replaying}

-- ---- what an event asks of the logs

-- how many events there are up to the one with this clock, or 0 where none has it
abbrev pub count_to : ℕ → List Entry → ℕ
count_to clock es = option_map_or suc (position (λ e. e.clock == clock) es) 0

-- how many of a log's accepted events there are up to the one that a tag names, or 0 where the tag names none of them
abbrev pub count_asked : Option Tag → Replaying → ℕ
count_asked None r = 0
count_asked (Some tag) r = if r.head.process == tag.sender then count_to tag.clock (entries_ahead r) else 0

-- ---- families of lengths, one for each log

-- each length is at most the one at its place
abbrev pub is_within_lengths : List ℕ → List ℕ → Bool
is_within_lengths [] [] = true
is_within_lengths [] (n ∷ ns) = false
is_within_lengths (m ∷ ms) [] = false
is_within_lengths (m ∷ ms) (n ∷ ns) = nat_le m n && is_within_lengths ms ns

-- how many events of each log are accepted
abbrev pub accepted_counts : List Replaying → List ℕ
accepted_counts start = map (λ r. length (entries_ahead r)) start

-- the first accepted events of each log, as many as the family says
abbrev pub events_within : List Replaying → List ℕ → List Entry
events_within [] ns = []
events_within (r ∷ rs) [] = []
events_within (r ∷ rs) (n ∷ ns) = take n (entries_ahead r) ++ events_within rs ns

-- each of these events that took a tag has the event that the tag names among them, where a given log has it
abbrev pub is_closed_family : List Replaying → List ℕ → Bool
is_closed_family start family = list_all (λ e. is_within_lengths (map (count_asked e.tag) start) family) (events_within start family)

-- the log of this node has at least so many events in the family
abbrev pub holds_event : ℕ → ℕ → List ℕ → Bool
holds_event node event family = nat_le event (slice_index_or family node 0)

-- ---- the least one

-- the numbers from 0 to this one
abbrev pub numbers_up_to : ℕ → List ℕ
numbers_up_to zero = 0 ∷ []
numbers_up_to (suc n) = numbers_up_to n ++ suc n ∷ []

-- all families of at most these lengths
abbrev pub families_within_lengths : List ℕ → List (List ℕ)
families_within_lengths [] = [] ∷ []
families_within_lengths (n ∷ ns) = flat_map (λ m. map (λ family. m ∷ family) (families_within_lengths ns)) (numbers_up_to n)

-- at each place the lesser of two
abbrev pub lesser_lengths : List ℕ → List ℕ → List ℕ
lesser_lengths [] ns = []
lesser_lengths (m ∷ ms) [] = []
lesser_lengths (m ∷ ms) (n ∷ ns) = min m n ∷ lesser_lengths ms ns

-- at each place the least of these and of several families
abbrev pub least_of : List ℕ → List (List ℕ) → List ℕ
least_of most [] = most
least_of most (family ∷ families) = lesser_lengths family (least_of most families)

-- the closed families of a group's logs that hold so many events of a node
abbrev pub closed_families : List Replaying → ℕ → ℕ → List (List ℕ)
closed_families start node event = filter (λ family. is_closed_family start family && holds_event node event family) (families_within_lengths (accepted_counts start))

-- at each node the least length that one of them has
abbrev pub least_past : List Replaying → ℕ → ℕ → List ℕ
least_past start node event = least_of (accepted_counts start) (closed_families start node event)

-- ---- what is cut

-- how many events of each log an event needs, and how many are accepted
pub record Lengths : Type 0 where
  pub kept : List ℕ
  pub accepted : List ℕ

-- none where the node has fewer events
abbrev pub lengths_or_none : List Replaying → ℕ → ℕ → Option Lengths
lengths_or_none start node event =
    if nat_le event (slice_index_or (accepted_counts start) node 0)
    then Some (record { kept = least_past start node event; accepted = accepted_counts start })
    else None
