use Rattle.std.proofs.Common.{ℕ, ◌<◌, List, Result, Ok, Err, subst}
use Rattle.std.specs.Prelude.{IfOk, IsErrOf}
use Rattle.schedule_text.specs.declared.error.ScheduleError.{ScheduleError}
use Rattle.schedule_text.specs.declared.error.ScheduleError.TheVariants as errors
use Rattle.schedule_text.specs.Limits.{most_runs}
use Rattle.schedule_text.specs.Grammar.{SpellsSchedule, SpellsBadLineAt}
use Rattle.schedule_text.specs.Outcome.{AnswersOutcome}
use Rattle.schedule_text.specs.Reading.{schedule_of}
use Rattle.schedule_text.specs.Schedule.{Schedule, IsSchedule, run_count}
use Rattle.schedule_text.proofs.OutcomeLemmas.{schedule_found, schedule_bad, schedule_over, schedule_again, over_again, bad_again}
use Rattle.schedule_text.proofs.read.read_schedule.Goals as goal

is_found : (bytes : List ℕ) (r : Result Schedule ScheduleError) → AnswersOutcome r (schedule_of bytes) → IfOk r (λ s. SpellsSchedule bytes s × IsSchedule s)
is_found bytes (Ok s) answer = schedule_found bytes s answer
is_found bytes (Err e) answer = tt

is_bad : (bytes : List ℕ) (r : Result Schedule ScheduleError) (n : ℕ) → AnswersOutcome r (schedule_of bytes) → IsErrOf r (errors.BadLine n) → SpellsBadLineAt bytes n
is_bad bytes r n answer is = schedule_bad bytes n (subst (λ (r : Result Schedule ScheduleError). AnswersOutcome r (schedule_of bytes)) is answer)

is_over : (bytes : List ℕ) (r : Result Schedule ScheduleError) → AnswersOutcome r (schedule_of bytes) → IsErrOf r errors.TooMany → (s : Schedule) × SpellsSchedule bytes s × (most_runs < run_count s.items)
is_over bytes r answer is = schedule_over bytes (subst (λ (r : Result Schedule ScheduleError). AnswersOutcome r (schedule_of bytes)) is answer)

pub returns-clause-found : goal.returns-clause-found
returns-clause-found c = is_found c.args.bytes.now c.read_whole.result c.read_whole.ensures

pub returns-clause-bad_line : goal.returns-clause-bad_line
returns-clause-bad_line c = λ n is. is_bad c.args.bytes.now c.read_whole.result n c.read_whole.ensures is

pub returns-clause-too_many : goal.returns-clause-too_many
returns-clause-too_many c = λ is. is_over c.args.bytes.now c.read_whole.result c.read_whole.ensures is

pub returns-clause-spelled : goal.returns-clause-spelled
returns-clause-spelled c = λ s spelled few. subst (AnswersOutcome c.read_whole.result) (schedule_again c.args.bytes.now s spelled few) c.read_whole.ensures

pub returns-clause-bad : goal.returns-clause-bad
returns-clause-bad c = λ n bad. subst (AnswersOutcome c.read_whole.result) (bad_again c.args.bytes.now n bad) c.read_whole.ensures

pub returns-clause-over : goal.returns-clause-over
returns-clause-over c = λ s spelled many. subst (AnswersOutcome c.read_whole.result) (over_again c.args.bytes.now s spelled many) c.read_whole.ensures
