-- What is said at the end of a replay.
use Rattle.std.specs.Prelude.{◌≡◌, ℕ, List, Bool, true, false}
use Rattle.command_run.specs.declared.refusal.WorkText.{WorkText}
use Rattle.command_run.specs.declared.refusal.WorkText.TheVariants as answered

-- this is printed at the end, and says whether a log diverged
abbrev pub PrintsAtEnd : List ℕ → Bool → WorkText → Type 0
PrintsAtEnd text diverged (answered.Done said) = (said ≡ text) × (diverged ≡ false)
PrintsAtEnd text diverged (answered.Diverged said) = (said ≡ text) × (diverged ≡ true)
