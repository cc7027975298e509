-- The outcome of a command: the work that it does, or the stop at which it ends.
use Rattle.std.specs.Prelude.{ℕ, List, [], ◌++◌, Bool, false, nat_le, map, length, decimal, codes, Option, Some, None, Result, Ok, Err, if◌then◌else◌}
use Rattle.std.specs.FinMap.{get}
use Rattle.fri_outside.specs.Outside.{Folder}
use Rattle.command_run.specs.declared.status.Status.{Status}
use Rattle.command_run.specs.declared.status.Status.TheVariants as status
use Rattle.command_run.specs.declared.refusal.Reason.{Reason}
use Rattle.command_run.specs.declared.refusal.Reason.TheVariants as reason

-- what a command does: the text that it prints, the files that it makes, each with its bytes and in their order, and whether a log diverged
pub record CommandWork : Type 0 where
  pub text : List ℕ
  pub writes : List (List ℕ × List ℕ)
  pub diverged : Bool

-- why a command does not do its work. A refusal says what was printed and written before it
pub data CommandStop : Type 0 where
  NotACommand : CommandStop
  Refuses : (file : List ℕ) → Reason → (done : CommandWork) → CommandStop
  Lacks : (file : List ℕ) → CommandStop

-- a refusal before all work
abbrev pub refuses_at_once : List ℕ → Reason → CommandStop
refuses_at_once file why = Refuses file why (record { text = []; writes = []; diverged = false })

abbrev pub CommandOutcome : Type 0
CommandOutcome = Result CommandWork CommandStop

-- what follows, unless there is a stop
abbrev pub and_then : {A B : Type 0} → Result A CommandStop → (A → Result B CommandStop) → Result B CommandStop
and_then (Ok value) next = next value
and_then (Err stop) next = Err stop

-- what there is, or a refusal of the file if there is nothing
abbrev pub some_or_refused : {A : Type 0} → List ℕ → Reason → Option A → Result A CommandStop
some_or_refused name why None = Err (refuses_at_once name why)
some_or_refused name why (Some value) = Ok value

-- a value, unless there is a reason to refuse the file
abbrev pub unless_refused : {A : Type 0} → List ℕ → A → Option Reason → Result A CommandStop
unless_refused name value None = Ok value
unless_refused name value (Some why) = Err (refuses_at_once name why)

-- the bytes of a file, where it is there and within its limit
abbrev pub file_within : List ℕ → ℕ → Option (List ℕ) → Result (List ℕ) CommandStop
file_within name limit None = Err (Lacks name)
file_within name limit (Some bytes) = if nat_le (length bytes) limit then Ok bytes else Err (refuses_at_once name reason.TooLarge)

abbrev pub file_of : Folder → List ℕ → ℕ → Result (List ℕ) CommandStop
file_of folder name limit = file_within name limit (get folder name)

-- why a file is refused, as it is printed
abbrev pub reason_text : Reason → List ℕ
reason_text reason.TooLarge = codes "TooLarge"
reason_text (reason.BadLine line) = codes "line " ++ (decimal line ++ codes " BadLine")
reason_text reason.TooMany = codes "TooMany"
reason_text (reason.LogFull item) = codes "item " ++ (decimal item ++ codes " LogFull")
reason_text reason.Malformed = codes "1 Malformed"
reason_text reason.HasFloat = codes "2 HasFloat"
reason_text reason.BadImport = codes "3 BadImport"
reason_text reason.Untyped = codes "4 Untyped"
reason_text reason.OverLimit = codes "5 OverLimit"
reason_text reason.NoStart = codes "6 NoStart"
reason_text reason.BadSegment = codes "7 BadSegment"
reason_text reason.BadHead = codes "1 BadHead"
reason_text reason.OtherGroup = codes "2 OtherGroup"
reason_text reason.SameProcess = codes "3 SameProcess"
reason_text reason.SameName = codes "4 SameName"
reason_text reason.Grown = codes "6 Grown"
reason_text reason.Incomplete = codes "7 Incomplete"
reason_text reason.NotWhole = codes "8 NotWhole"
reason_text reason.BadModuleName = codes "9 BadModuleName"
reason_text reason.TooManyEvents = codes "10 TooManyEvents"
reason_text reason.TooLong = codes "11 TooLong"
reason_text reason.NoProcess = codes "12 NoProcess"
reason_text reason.NoEvent = codes "13 NoEvent"
reason_text reason.OverInput = codes "14 OverInput"

abbrev pub usage_line : List ℕ
usage_line = codes "friday: these words are not a command\n"

abbrev pub refused_with : List ℕ → List ℕ → List ℕ
refused_with file why = codes "friday: refused " ++ (file ++ (codes ": " ++ (why ++ codes "\n")))

abbrev pub refused_line : List ℕ → Reason → List ℕ
refused_line file why = refused_with file (reason_text why)

abbrev pub absent_line : List ℕ → List ℕ
absent_line file = codes "friday: absent " ++ (file ++ codes "\n")

abbrev pub outcome_status : CommandOutcome → Status
outcome_status (Ok work) = if work.diverged then status.Diverged else status.Done
outcome_status (Err NotACommand) = status.Usage
outcome_status (Err (Refuses file why done)) = status.Refused
outcome_status (Err (Lacks file)) = status.Absent

abbrev pub outcome_text : CommandOutcome → List ℕ
outcome_text (Ok work) = work.text
outcome_text (Err NotACommand) = usage_line
outcome_text (Err (Refuses file why done)) = done.text ++ refused_line file why
outcome_text (Err (Lacks file)) = absent_line file

abbrev pub writes_of : CommandOutcome → List (List ℕ × List ℕ)
writes_of (Ok work) = work.writes
writes_of (Err NotACommand) = []
writes_of (Err (Refuses file why done)) = done.writes
writes_of (Err (Lacks file)) = []

-- the names of the files that it makes
abbrev pub written_names : CommandOutcome → List (List ℕ)
written_names outcome = map (λ file. file.0) (writes_of outcome)
