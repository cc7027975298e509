-- What an error of a cut says of the lengths that were asked for.
use Rattle.std.specs.Prelude.{◌≡◌, Option, None}
use Rattle.causal_cut.specs.declared.refusal.CutError.{CutError}
use Rattle.causal_cut.specs.declared.refusal.CutError.TheVariants as error
use Rattle.causal_cut.specs.Past.{Lengths}

-- the error is that there is no such event, or want of memory, which may come at any time
abbrev pub IsCutError : Option Lengths → CutError → Type 0
IsCutError lengths error.NoEvent = lengths ≡ None
IsCutError lengths error.NoMemory = Unit {0}
