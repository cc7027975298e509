-- The replay of entries: events are made from them, up to the first that is not legal.
use Rattle.std.specs.Prelude.{ℕ, suc, List, [], ◌∷◌, length, take, Option, Some, None, option_map, unwrap_or}
use Rattle.lib_calls.specs.declared.entry.Entry.{Entry}
use Rattle.guest_process.specs.declared.divergence.Divergence.{Divergence}
use Rattle.guest_process.specs.declared.verdict.Verdict.{Verdict}
use Rattle.guest_process.specs.declared.verdict.Verdict.TheVariants.{Whole, Left, Diverged}
use Rattle.guest_process.specs.Legal.{reason}
use Rattle.guest_process.specs.Next.{next}
use Rattle.guest_process.specs.State.{State}

-- the state after these events
abbrev pub replayed : State → List Entry → State
replayed S [] = S
replayed S (e ∷ es) = replayed (next S e) es

-- the state after the first n
abbrev pub state_after : State → List Entry → ℕ → State
state_after S es n = replayed S (take n es)

-- how far the replay of entries comes: how many are accepted, the longest prefix of which each is legal at the
-- state where it comes, and why the one after them is not legal, where there is one
pub record ReplayReach : Type 0 where
  pub accepted : ℕ
  pub divergence : Option Divergence

-- how far it comes with one more entry before them, which is legal or not
abbrev pub reach_with_entry : Option Divergence → ReplayReach → ReplayReach
reach_with_entry None rest = record rest { accepted = suc rest.accepted }
reach_with_entry (Some why) rest = record { accepted = 0; divergence = Some why }

abbrev pub reach_of_entries : State → List Entry → ReplayReach
reach_of_entries S [] = record { accepted = 0; divergence = None }
reach_of_entries S (e ∷ es) = reach_with_entry (reason S e) (reach_of_entries (next S e) es)

abbrev pub accepted : State → List Entry → ℕ
accepted S es = (reach_of_entries S es).accepted

-- the state after the events of those that are accepted
abbrev pub last_state : State → List Entry → State
last_state S es = state_after S es (accepted S es)

-- the verdict on a log of which all entries are accepted, with these bytes behind them
abbrev pub left_over : List ℕ → Verdict
left_over [] = Whole
left_over (first ∷ rest) = Left (suc (length rest))

-- the verdict on entries that are replayed so far, with these bytes after them
abbrev pub verdict_of : ReplayReach → List ℕ → Verdict
verdict_of reach rest = unwrap_or (option_map (Diverged (suc reach.accepted)) reach.divergence) (left_over rest)

-- the verdict on the entries of a log and on what is left after them
abbrev pub verdict : State → List Entry → List ℕ → Verdict
verdict S es rest = verdict_of (reach_of_entries S es) rest
