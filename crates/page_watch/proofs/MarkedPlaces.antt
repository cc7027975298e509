-- Places that are looked at one after the other.
use Rattle.std.proofs.Common.{◌≡◌, ℕ, true, List, drop}
use Rattle.std.specs.List.{list_all}
use Rattle.watch_expr.specs.declared.reads.Place.{Place}
use Rattle.watch_expr.specs.Reads.{is_low_place}
use Rattle.page_watch.specs.Touch.{meets}

-- none of the places before this one has the mark
pub record IsUnmetBefore (marks : Place → ℕ) (at : ℕ) (places : List Place) (i : ℕ) : Type 0 where
  pub low : list_all is_low_place (drop i places) ≡ true
  pub met : meets marks at places ≡ meets marks at (drop i places)
