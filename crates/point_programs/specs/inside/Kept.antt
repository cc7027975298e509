-- Variables as they are kept.
use Rattle.std.specs.Prelude.{ℕ, List, map, Option, ℤ}
use Rattle.std.specs.Global.{Vec}
use Rattle.point_programs.specs.Variables.{Variable}

-- an entry, without where its name lies in memory
abbrev pub variable : Vec ℕ × Option ℤ → Variable
variable e = (e.0.items, e.1)

abbrev pub variables_of : List (Vec ℕ × Option ℤ) → List Variable
variables_of entries = map {A = Vec ℕ × Option ℤ} variable entries
