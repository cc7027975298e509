-- At which positions the nodes of a group had their events.
use Rattle.std.specs.Prelude.{ℕ, zero, suc, nat_lt, List, [], ◌∷◌, ◌++◌, replicate, slice_index_or, slice_set, if◌then◌else◌}

-- how far the group has been, and the positions of each node's events up to there
pub record Motions : Type 0 where
  pub reached : ℕ
  pub lists : List (List ℕ)

-- so many nodes had no event
abbrev pub no_motions : ℕ → Motions
no_motions count = record { reached = 0; lists = replicate count [] }

-- the node had the event of this position, which is known where the group has been there
abbrev pub with_motion : Motions → ℕ → ℕ → Motions
with_motion m node position =
    if nat_lt m.reached position
    then record { reached = position; lists = slice_set m.lists node (slice_index_or m.lists node [] ++ position ∷ []) }
    else m

-- the position of the event of this number, from 1; 0 where there is none
abbrev pub nth_position : List ℕ → ℕ → ℕ
nth_position positions zero = 0
nth_position positions (suc n) = slice_index_or positions n 0

abbrev pub position_of : Motions → ℕ → ℕ → ℕ
position_of m node number = nth_position (slice_index_or m.lists node []) number
