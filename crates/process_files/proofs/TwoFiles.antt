-- The two files of an image, of which one failed.
use Rattle.std.proofs.Common.{◌≡◌, ◌∙◌, ℕ, List, [], ◌∷◌, Option}
use Rattle.std.specs.Prelude.{OnErr, Result, Ok, Err}
use Rattle.fri_outside.specs.Outside.{Folder, with_file}
use Rattle.fri_outside.specs.Several.{AreFirstMade}

pub first_fails : (one other : List ℕ × List ℕ) (before after : Option Folder) → after ≡ before → AreFirstMade (one ∷ other ∷ []) before after
first_fails one other before after same = (0, same)

pub second_fails : {T E : Type 0} (one other : List ℕ × List ℕ) (before now after : Option Folder) (result : Result T E) → now ≡ with_file one.0 one.1 before → OnErr result (after ≡ now) → OnErr result (AreFirstMade (one ∷ other ∷ []) before after)
second_fails one other before now after (Ok value) first same = same
second_fails one other before now after (Err error) first same = (1, same ∙ first)
