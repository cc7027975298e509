-- A report that is made log after log.
use Rattle.std.specs.Prelude.{◌≡◌}
use Rattle.group_state.specs.Report.{Reporting}

-- what is said of all logs is the same
pub record SaysSame (old new : Reporting) : Type 0 where
  pub lines : new.lines ≡ old.lines
  pub counts : new.counts ≡ old.counts
