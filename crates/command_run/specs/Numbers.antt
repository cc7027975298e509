-- The numbers with which the program ends.
use Rattle.std.specs.Prelude.{ℕ}
use Rattle.command_run.specs.declared.status.Status.{Status}
use Rattle.command_run.specs.declared.status.Status.TheVariants as ends

abbrev pub status_number : Status → ℕ
status_number ends.Done = 0
status_number ends.Diverged = 1
status_number ends.Usage = 2
status_number ends.Refused = 3
status_number ends.Absent = 4
status_number ends.ReadFault = 5
status_number ends.WriteFault = 6
status_number ends.NoMemory = 7
