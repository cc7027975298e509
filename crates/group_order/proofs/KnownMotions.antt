-- A position more that is known.
use Rattle.std.proofs.Common.{◌≡◌, ◌<◌, ℕ, true, List, [], ◌∷◌, ◌++◌, get_or, set, ap}
use Rattle.std.specs.Prelude.{nat_lt}
use Rattle.std.proofs.lemmas.Bool.{lt-ltb}
use Rattle.group_order.specs.Motions.{Motions, with_motion}

pub added : (old : Motions) (node position : ℕ) (new : List (List ℕ)) → old.reached < position
    → new ≡ set old.lists node (get_or old.lists node [] ++ position ∷ []) → record { reached = position; lists = new } ≡ with_motion old node position
added old node position new later is =
    let test : nat_lt old.reached position ≡ true = lt-ltb old.reached position later in
    rw test (ap (λ (l : List (List ℕ)). record { reached = position; lists = l }) is)
