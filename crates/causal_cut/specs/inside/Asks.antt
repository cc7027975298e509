-- What events ask of each other by their tags, and the least family that has what its events ask for.
use Rattle.std.specs.Prelude.{◌≡◌, ◌<◌, ◌≤◌, ◌↔◌, ◌==◌, ℕ, suc, max, nat_le, IsTrue, if◌then◌else◌, List, [], ◌∷◌, ◌++◌, length, map, position, replicate, slice_index_or, slice_set, Option, option_and_then, option_map}
use Rattle.std.specs.List.{AllByRecursion}
use Rattle.lamport_tag.specs.declared.Tag.{Tag}
use Rattle.lib_calls.specs.declared.entry.Entry.{Entry}
use Rattle.group_order.specs.Order.{ClocksRise, NodeEvent}
use Rattle.proc_replay.specs.Course.{entries_ahead}
use Rattle.proc_replay.specs.Replaying.{Replaying}
use Rattle.causal_cut.specs.declared.asks.Ask.{Ask}
use Rattle.causal_cut.specs.Past.{is_closed_family}

-- ---- clocks

-- the clocks of each node's events, with one more
abbrev pub with_node_clock : List (List ℕ) → ℕ → ℕ → List (List ℕ)
with_node_clock clocks node clock = slice_set clocks node (slice_index_or clocks node [] ++ clock ∷ [])

-- the number of this one among them, from 1
abbrev pub number_among : ℕ → List ℕ → Option ℕ
number_among clock clocks = option_map suc (position (λ c. c == clock) clocks)

abbrev pub AreRisingClocks : List ℕ → Type 0
AreRisingClocks clocks = ClocksRise (λ (clock : ℕ). clock) clocks

-- the clocks of so many nodes, which rise at each
pub record AreClocks (nodes : ℕ) (clocks : List (List ℕ)) : Type 0 where
  pub count : length clocks ≡ nodes
  pub rise : (node : ℕ) → AreRisingClocks (slice_index_or clocks node [])

-- ---- what an event asks for

abbrev pub process_numbers : List Replaying → List ℕ
process_numbers start = map (λ r. r.head.process) start

-- the next event of `node` asks for the event of `of` with this clock, where that is among the clocks
abbrev pub ask_for : List (List ℕ) → ℕ → ℕ → ℕ → Option Ask
ask_for clocks node clock of =
    option_map (λ upto. record { node = node; number = suc (length (slice_index_or clocks node [])); of = of; upto = upto }) (number_among clock (slice_index_or clocks of []))

-- it is of the first node whose process the tag names
abbrev pub ask_by : List ℕ → List (List ℕ) → ℕ → Tag → Option Ask
ask_by processes clocks node tag = option_and_then (ask_for clocks node tag.clock) (position (λ p. p == tag.sender) processes)

-- what an event asks for that comes after events with these clocks
abbrev pub ask_of : List ℕ → List (List ℕ) → NodeEvent Entry → Option Ask
ask_of processes clocks e = option_and_then (ask_by processes clocks e.node) e.entry.tag

-- ---- families that have what their events ask for

-- a family with so many events of the asking node has those that are asked for
abbrev pub IsMetAsk : List ℕ → Ask → Type 0
IsMetAsk family a = a.number ≤ slice_index_or family a.node 0 → a.upto ≤ slice_index_or family a.of 0

-- what the first asks for comes before the event that asks for the second
abbrev pub PrecedesAsk : Ask → Ask → Type 0
PrecedesAsk a b = b.node ≡ a.of → a.upto < b.number

-- what each asks for comes before it, and before all that asks later
abbrev pub AreOrderedAsks : List Ask → Type 0
AreOrderedAsks [] = Unit {0}
AreOrderedAsks (a ∷ asks) = PrecedesAsk a a × AllByRecursion (PrecedesAsk a) asks × AreOrderedAsks asks

-- the nodes are below this count
abbrev pub AreOfNodes : ℕ → List Ask → Type 0
AreOfNodes nodes asks = AllByRecursion (λ a. (a.node < nodes) × (a.of < nodes)) asks

abbrev pub AreCountedAsks : List Ask → Type 0
AreCountedAsks asks = AllByRecursion (λ a. 1 ≤ a.number) asks

-- all that the events of a group ask for, in their order: a family is closed exactly where it is met. All events together
-- have it
pub record AreAsks (start : List Replaying) (asks : List Ask) : Type 0 where
  pub within : AreOfNodes (length start) asks
  pub counted : AreCountedAsks asks
  pub ordered : AreOrderedAsks asks
  pub had : AllByRecursion (IsMetAsk (map (λ r. length (entries_ahead r)) start)) asks
  pub closes : (family : List ℕ) → length family ≡ length start → IsTrue (is_closed_family start family) ↔ AllByRecursion (IsMetAsk family) asks

-- ---- the least of them

-- so many events of one node, and none of the others
abbrev pub lengths_of_one : ℕ → ℕ → ℕ → List ℕ
lengths_of_one nodes node event = slice_set (replicate nodes 0) node event

-- the family with what is asked for, where it has the event that asks
abbrev pub follow_ask : Ask → List ℕ → List ℕ
follow_ask a family = if nat_le a.number (slice_index_or family a.node 0) then slice_set family a.of (max (slice_index_or family a.of 0) a.upto) else family

-- so for each of them, from the last to the first
abbrev pub settled_family : List Ask → List ℕ → List ℕ
settled_family [] family = family
settled_family (a ∷ asks) family = follow_ask a (settled_family asks family)
