-- What the functions give that read a schedule, part after part.
use Rattle.std.specs.Prelude.{◌≡◌, ℕ, List, Option, Some, None, Result, Ok, Err, Bool, true, false}
use Rattle.std.specs.declared.alloc.AllocError.{AllocError}
use Rattle.schedule_text.specs.declared.error.ScheduleError.{ScheduleError}
use Rattle.schedule_text.specs.Fields.{field_at}
use Rattle.schedule_text.specs.Reading.{ScheduleRefusal, SchedulePart, schedule_part}
use Rattle.schedule_text.specs.Schedule.{Schedule}
use Rattle.schedule_text.specs.Outcome.{IsScheduleError}

-- the first field is taken, or there is none
abbrev pub TakesField : List (List ℕ) → List (List ℕ) → Option (List ℕ) → Type 0
TakesField old new None = (field_at old ≡ None) × (new ≡ old)
TakesField old new (Some field) = field_at old ≡ Some (field, new)

-- the end was tested: the outcome is the schedule of what has come, or this refusal
abbrev pub EndsSchedule : Result (Unit {0}) ScheduleError → SchedulePart → Result Schedule ScheduleRefusal → Type 0
EndsSchedule (Ok x) part outcome = outcome ≡ Ok (schedule_part part)
EndsSchedule (Err e) part outcome = IsScheduleError e outcome

-- the lines were read: the outcome is the schedule of what has come, or this refusal
abbrev pub ReadsLines : Result SchedulePart ScheduleError → Result Schedule ScheduleRefusal → Type 0
ReadsLines (Ok part) outcome = outcome ≡ Ok (schedule_part part)
ReadsLines (Err e) outcome = IsScheduleError e outcome

-- A line was taken, and is allowed where something comes of it. Memory may run out at any time.
abbrev pub TakesLine : Result Bool AllocError → SchedulePart → Option SchedulePart → Type 0
TakesLine (Ok true) new found = found ≡ Some new
TakesLine (Ok false) new found = found ≡ None
TakesLine (Err e) new found = Unit {0}
