-- What reading a schedule answers.
use Rattle.std.specs.Prelude.{◌≡◌, Result, Ok, Err}
use Rattle.schedule_text.specs.declared.error.ScheduleError.{ScheduleError}
use Rattle.schedule_text.specs.declared.error.ScheduleError.TheVariants as errors
use Rattle.schedule_text.specs.Reading.{ScheduleRefusal, BadLineAt, TooManyRuns}
use Rattle.schedule_text.specs.Schedule.{Schedule}

-- the error is this refusal, or want of memory, which may come at any time
abbrev pub IsScheduleError : ScheduleError → Result Schedule ScheduleRefusal → Type 0
IsScheduleError (errors.BadLine n) outcome = outcome ≡ Err (BadLineAt n)
IsScheduleError errors.TooMany outcome = outcome ≡ Err TooManyRuns
IsScheduleError errors.NoMemory outcome = Unit {0}

-- the answer is this outcome, but for want of memory
abbrev pub AnswersOutcome : Result Schedule ScheduleError → Result Schedule ScheduleRefusal → Type 0
AnswersOutcome (Ok s) outcome = outcome ≡ Ok s
AnswersOutcome (Err e) outcome = IsScheduleError e outcome
