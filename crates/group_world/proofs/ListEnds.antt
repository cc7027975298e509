-- A list that has one more item at its end, or has not.
use Rattle.std.proofs.Common.{◌≡◌, Bool, true, false, List, [], ◌∷◌, ◌++◌, refl, sym}
use Rattle.std.specs.Prelude.{if◌then◌else◌}
use Rattle.std.proofs.lemmas.List.{append-nil}
use Rattle.group_world.specs.History.{put_last_if}

pub put_last_is : {A : Type 0} (b : Bool) (xs : List A) (x : A) → put_last_if b xs x ≡ xs ++ (if b then x ∷ [] else [])
put_last_is true xs x = refl
put_last_is false xs x = sym (append-nil xs)
