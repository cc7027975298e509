-- The text of the schedule that records to the logs of a group, or why there is none.
use Rattle.std.specs.Prelude.{ℕ, Bool, true, false, not, nat_le, if◌then◌else◌, List, length, map, position, Option, Some, None, Result, Ok, Err}
use Rattle.guest_process.specs.declared.verdict.Verdict.{Verdict}
use Rattle.guest_process.specs.declared.verdict.Verdict.TheVariants as said
use Rattle.schedule_text.specs.Limits.{most_runs, most_schedule}
use Rattle.schedule_text.specs.Schedule.{is_module_name}
use Rattle.schedule_text.specs.Text.{text_of}
use Rattle.schedule_text.specs.declared.process.ProcessLine.{ProcessLine}
use Rattle.proc_replay.specs.Replaying.{Replaying}
use Rattle.group_state.specs.Place.{events_of_replays}
use Rattle.group_state.specs.Report.{verdict_on}
use Rattle.schedule_back.specs.Back.{back}

-- the log of this process is not whole; this process's module has a name that no schedule may have; there are more events
-- than a schedule may try; or its text is too long
pub data BackRefusal : Type 0 where
  NotWhole : (process : ℕ) → BackRefusal
  BadModuleName : (process : ℕ) → BackRefusal
  TooManyEvents : BackRefusal
  TooLong : BackRefusal

abbrev pub is_whole : Verdict → Bool
is_whole said.Whole = true
is_whole (said.Left bytes) = false
is_whole (said.Diverged at why) = false

-- the first log that is not whole
abbrev pub first_not_whole : List Replaying → Option ℕ
first_not_whole start = position (λ v. not (is_whole v)) (map verdict_on start)

-- the first process whose module no schedule may name
abbrev pub first_bad_name : List ProcessLine → Option ℕ
first_bad_name lines = position (λ line. not (is_module_name line.«module»)) lines

-- this process is refused so, where there is one
abbrev pub refuse_where : (ℕ → BackRefusal) → Option ℕ → Result (List ℕ) BackRefusal → Result (List ℕ) BackRefusal
refuse_where why None rest = rest
refuse_where why (Some p) rest = Err (why p)

-- the text, where it is within the limit of a schedule
abbrev pub text_within : List ℕ → Result (List ℕ) BackRefusal
text_within text = if nat_le (length text) most_schedule then Ok text else Err TooLong

abbrev pub text_or_refusal : List ProcessLine → List Replaying → Result (List ℕ) BackRefusal
text_or_refusal lines start =
    refuse_where NotWhole (first_not_whole start) (refuse_where BadModuleName (first_bad_name lines)
    (if nat_le (length (events_of_replays start)) most_runs then text_within (text_of (back lines start)) else Err TooManyEvents))
