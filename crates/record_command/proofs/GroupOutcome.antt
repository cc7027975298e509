-- What `record` says of its result, from what the recording of a group answers.
use Rattle.std.proofs.Common.{◌≡◌, ◌<◌, ◌++◌, ℕ, Bool, true, false, cond, List, [], ◌∷◌, append-nil, Option, Some, None, Result, Ok, Err, length, refl, sym, ap, subst, ◌∙◌, arith}
use Rattle.std.specs.Prelude.{is_none}
use Rattle.std.proofs.Math.Seq.{take-length}
use Rattle.fri_outside.specs.Laws.{KeepsFiles}
use Rattle.fri_outside.specs.Outside.{Folder}
use Rattle.fri_outside.specs.Several.{ChangesOnlyFiles, with_files}
use Rattle.guest_process.specs.State.{State}
use Rattle.wasm_types.specs.Modules.{Module}
use Rattle.schedule_text.specs.Schedule.{Schedule}
use Rattle.group_record.specs.declared.error.RecordError.{RecordError}
use Rattle.group_record.specs.declared.error.RecordError.TheVariants as errors
use Rattle.group_record.specs.declared.summary.Summary.{Summary}
use Rattle.group_record.specs.declared.summary.SummaryLine.{SummaryLine}
use Rattle.group_record.specs.Answer.{RecordAnswers, StoppedWhereBegun, IsSummary, first_states, group_of, summary_lines}
use Rattle.group_record.specs.Files.{Between, InImages, IsStoppedRecording, change}
use Rattle.group_record.specs.Images.{images_of, images as all_images}
use Rattle.group_record.specs.Logs.{logs_of_steps}
use Rattle.group_record.specs.Run.{GroupStart, RunProgress, run}
use Rattle.command_run.specs.declared.refusal.WorkText.TheVariants as answered
use Rattle.command_run.specs.declared.refusal.Reason.TheVariants as reason
use Rattle.command_run.specs.declared.refusal.StopCause.{StopCause}
use Rattle.command_run.specs.declared.refusal.StopCause.TheVariants as refusal
use Rattle.command_run.specs.Call.{MakesWorkFiles, TellsOutcome}
use Rattle.record_command.specs.Expected.{group_outcome}
use Rattle.command_run.specs.Outcome.{Refuses, writes_of}
use Rattle.record_command.specs.Record.{outcome_by_room, recorded_work, run_outcome, summary_text, written_before}
use Rattle.record_command.specs.Gathering.{IsRefusalOf}
use Rattle.record_command.proofs.FileFronts.{all_made}
use Rattle.command_run.specs.FileLaws.{same_changes}
use Rattle.record_command.proofs.GroupModules.{fails_within}
use Rattle.record_command.proofs.StoppedFiles.{stopped_changes}

abbrev run_of : Schedule → List State → RunProgress
run_of schedule first = run (group_of schedule first) schedule.items

abbrev files_of : Bool → Schedule → List State → List (List ℕ × List ℕ)
files_of images schedule first = logs_of_steps (group_of schedule first) (run_of schedule first).steps ++ images_of images (group_of schedule first) (run_of schedule first)

-- where a log was full, there are no images
no_images : (images : Bool) (group : GroupStart) (done : RunProgress) (item : ℕ) → done.full ≡ Some item → images_of images group done ≡ []
no_images true group done item full = ap (λ (f : Option ℕ). cond (is_none f) (all_images group done.steps) []) full
no_images false group done item full = refl

full_writes : (images : Bool) (group : GroupStart) (done : RunProgress) (item : ℕ) → done.full ≡ Some item → logs_of_steps group done.steps ≡ logs_of_steps group done.steps ++ images_of images group done
full_writes images group done item full =
    sym (append-nil (logs_of_steps group done.steps)) ∙ ap (λ (files : List (List ℕ × List ℕ)). logs_of_steps group done.steps ++ files) (sym (no_images images group done item full))

-- whether or not a log is full, all logs are written, and after them the images
writes_by_room : (images : Bool) (name : List ℕ) (group : GroupStart) (done : RunProgress) (full : Option ℕ) → done.full ≡ full → writes_of (outcome_by_room images name group done full) ≡ logs_of_steps group done.steps ++ images_of images group done
writes_by_room images name group done None room = refl
writes_by_room images name group done (Some item) full = full_writes images group done item full

pub group_writes : (images : Bool) (name : List ℕ) (schedule : Schedule) (first : List State) → writes_of (group_outcome images name schedule (Ok first)) ≡ files_of images schedule first
group_writes images name schedule first = writes_by_room images name (group_of schedule first) (run_of schedule first) (run_of schedule first).full refl

-- the outcome of a group that begins so
of_states : (images : Bool) (name : List ℕ) (schedule : Schedule) (states : Result (List State) ℕ) (first : List State) → states ≡ Ok first → group_outcome images name schedule states ≡ run_outcome images name (group_of schedule first) (run_of schedule first)
of_states images name schedule states first is = ap (group_outcome images name schedule) is

writes_at : (images : Bool) (name : List ℕ) (schedule : Schedule) (states : Result (List State) ℕ) (first : List State) → states ≡ Ok first → files_of images schedule first ≡ writes_of (group_outcome images name schedule states)
writes_at images name schedule states first is = sym (ap writes_of (ap (group_outcome images name schedule) is) ∙ group_writes images name schedule first)

-- ---- the whole run was recorded

same_text : (images : Bool) (group : GroupStart) (done : RunProgress) (summary : Summary) → IsSummary group done summary
    → summary_text summary.lines.items summary.acted summary.idle ≡ (recorded_work images group done).text
same_text images group done summary told =
    ap (λ (lines : List SummaryLine). summary_text lines summary.acted summary.idle) told.lines
    ∙ ap (λ (acted : ℕ). summary_text (summary_lines group done.steps 0 group.names) acted summary.idle) told.acted
    ∙ ap (λ (idle : ℕ). summary_text (summary_lines group done.steps 0 group.names) (length done.steps) idle) told.idle

pub done_tells : (images : Bool) (name : List ℕ) (schedule : Schedule) (states : Result (List State) ℕ) (summary : Summary) (text : List ℕ) (before after : Option Folder) → RecordAnswers schedule images states (Ok summary) (change before after)
    → text ≡ summary_text summary.lines.items summary.acted summary.idle → TellsOutcome (group_outcome images name schedule states) (Ok (answered.Done text))
done_tells images name schedule states summary text before after (first, is, done) printed =
    let group = group_of schedule first in
    let progress = run_of schedule first in (
      recorded_work images group progress,
      of_states images name schedule states first is ∙ ap (outcome_by_room images name group progress) done.room,
      printed ∙ same_text images group progress summary done.summary,
      refl,
    )

pub done_makes : (images : Bool) (name : List ℕ) (schedule : Schedule) (states : Result (List State) ℕ) (summary : Summary) (before after : Option Folder) → RecordAnswers schedule images states (Ok summary) (change before after)
    → after ≡ with_files (writes_of (group_outcome images name schedule states)) before
done_makes images name schedule states summary before after (first, is, done) =
    done.files ∙ ap (λ (files : List (List ℕ × List ℕ)). with_files files before) (writes_at images name schedule states first is)

-- the same where there was no memory for the text
pub done_changes : KeepsFiles → (images : Bool) (name : List ℕ) (schedule : Schedule) (states : Result (List State) ℕ) (summary : Summary) (before after : Option Folder) → RecordAnswers schedule images states (Ok summary) (change before after)
    → ChangesOnlyFiles before (writes_of (group_outcome images name schedule states)) after
done_changes keeps images name schedule states summary before after answers = all_made keeps _ before after (done_makes images name schedule states summary before after answers)

-- ---- it was not

full_tells : (images : Bool) (name : List ℕ) (schedule : Schedule) (states : Result (List State) ℕ) (item : ℕ) (file : List ℕ) (before after : Option Folder) → RecordAnswers schedule images states (Err (errors.LogFull item)) (change before after) → file ≡ name
    → (done : _) × (group_outcome images name schedule states ≡ Err (Refuses file (reason.LogFull item) done)) × (done.text ≡ [])
full_tells images name schedule states item file before after (first, is, full) named =
    let group = group_of schedule first in
    let progress = run_of schedule first in (
      written_before group progress,
      of_states images name schedule states first is ∙ ap (outcome_by_room images name group progress) full.full
          ∙ ap (λ (f : List ℕ). Err (Refuses f (reason.LogFull item) (written_before group progress))) (sym named),
      refl,
    )

pub error_tells : (images : Bool) (name : List ℕ) (schedule : Schedule) (states : Result (List State) ℕ) (error : RecordError) (e : StopCause) (before after : Option Folder) → RecordAnswers schedule images states (Err error) (change before after) → IsRefusalOf name schedule error e
    → TellsOutcome (group_outcome images name schedule states) (Err e)
error_tells images name schedule states (errors.BadSegment p) (refusal.Refused file why) before after answers (named, is) =
    (record { text = []; writes = []; diverged = false }, rw (named, is) (ap (group_outcome images name schedule) answers.0), refl)
error_tells images name schedule states (errors.BadSegment p) refusal.NoMemory before after answers named = tt
error_tells images name schedule states (errors.BadSegment p) other before after answers named = absurd named
error_tells images name schedule states (errors.LogFull item) (refusal.Refused file why) before after answers (named, is) =
    rw is (full_tells images name schedule states item _ before after answers named)
error_tells images name schedule states (errors.LogFull item) refusal.NoMemory before after answers named = tt
error_tells images name schedule states (errors.LogFull item) other before after answers named = absurd named
error_tells images name schedule states errors.WriteFault e before after answers is = subst (λ (r : StopCause). TellsOutcome (group_outcome images name schedule states) (Err r)) (sym is) tt
error_tells images name schedule states errors.NoMemory e before after answers is = subst (λ (r : StopCause). TellsOutcome (group_outcome images name schedule states) (Err r)) (sym is) tt

where_changes : KeepsFiles → (images : Bool) (name : List ℕ) (schedule : Schedule) (states : Result (List State) ℕ) (before after : Option Folder) → StoppedWhereBegun schedule images states before after
    → ChangesOnlyFiles before (writes_of (group_outcome images name schedule states)) after
where_changes keeps images name schedule (Err p) before after same = same_changes before after _ same
where_changes keeps images name schedule (Ok first) before after stopped =
    subst (λ (files : List (List ℕ × List ℕ)). ChangesOnlyFiles before files after) (sym (group_writes images name schedule first))
    (stopped_changes keeps (group_of schedule first) (run_of schedule first).steps (images_of images (group_of schedule first) (run_of schedule first)) before after stopped)

full_makes : (images : Bool) (name : List ℕ) (schedule : Schedule) (states : Result (List State) ℕ) (item : ℕ) (before after : Option Folder) → RecordAnswers schedule images states (Err (errors.LogFull item)) (change before after)
    → after ≡ with_files (writes_of (group_outcome images name schedule states)) before
full_makes images name schedule states item before after (first, is, full) =
    full.files ∙ ap (λ (files : List (List ℕ × List ℕ)). with_files files before)
    (full_writes images (group_of schedule first) (run_of schedule first) item full.full ∙ writes_at images name schedule states first is)

pub error_makes : KeepsFiles → (images : Bool) (name : List ℕ) (schedule : Schedule) (states : Result (List State) ℕ) (error : RecordError) (e : StopCause) (before after : Option Folder) → RecordAnswers schedule images states (Err error) (change before after) → IsRefusalOf name schedule error e
    → MakesWorkFiles (Err e) (writes_of (group_outcome images name schedule states)) before after
error_makes keeps images name schedule states (errors.BadSegment p) (refusal.Refused file why) before after answers named =
    answers.1 ∙ ap (λ (files : List (List ℕ × List ℕ)). with_files files before) (sym (ap writes_of (ap (group_outcome images name schedule) answers.0)))
error_makes keeps images name schedule states (errors.BadSegment p) refusal.NoMemory before after answers named = same_changes before after _ answers.1
error_makes keeps images name schedule states (errors.BadSegment p) other before after answers named = absurd named
error_makes keeps images name schedule states (errors.LogFull item) (refusal.Refused file why) before after answers named = full_makes images name schedule states item before after answers
error_makes keeps images name schedule states (errors.LogFull item) refusal.NoMemory before after answers named = all_made keeps _ before after (full_makes images name schedule states item before after answers)
error_makes keeps images name schedule states (errors.LogFull item) other before after answers named = absurd named
error_makes keeps images name schedule states errors.WriteFault e before after answers is =
    subst (λ (r : StopCause). MakesWorkFiles (Err r) (writes_of (group_outcome images name schedule states)) before after) (sym is) (where_changes keeps images name schedule states before after answers)
error_makes keeps images name schedule states errors.NoMemory e before after answers is =
    subst (λ (r : StopCause). MakesWorkFiles (Err r) (writes_of (group_outcome images name schedule states)) before after) (sym is) (where_changes keeps images name schedule states before after answers)

-- ---- whatever it answers, the files are those of a moment of the run

at_first : (images : Bool) (schedule : Schedule) (states : Result (List State) ℕ) (first : List State) (before after : Option Folder) → states ≡ Ok first
    → IsStoppedRecording (group_of schedule first) (run_of schedule first).steps (images_of images (group_of schedule first) (run_of schedule first)) before after → StoppedWhereBegun schedule images states before after
at_first images schedule states first before after is stopped = subst (λ (s : Result (List State) ℕ). StoppedWhereBegun schedule images s before after) (sym is) stopped

pub answer_stops : (images : Bool) (schedule : Schedule) (states : Result (List State) ℕ) (result : Result Summary RecordError) (before after : Option Folder) → RecordAnswers schedule images states result (change before after) → StoppedWhereBegun schedule images states before after
answer_stops images schedule states (Ok summary) before after (first, is, done) =
    let files = images_of images (group_of schedule first) (run_of schedule first) in
    at_first images schedule states first before after is
    (InImages (length files) (done.files ∙ ap (λ (some : List (List ℕ × List ℕ)). with_files (logs_of_steps (group_of schedule first) (run_of schedule first).steps ++ some) before) (sym (take-length files))))
answer_stops images schedule states (Err (errors.BadSegment p)) before after (is, same) = subst (λ (s : Result (List State) ℕ). StoppedWhereBegun schedule images s before after) (sym is) same
answer_stops images schedule states (Err (errors.LogFull item)) before after (first, is, full) = at_first images schedule states first before after is (Between (run_of schedule first).steps ([], refl) full.files)
answer_stops images schedule states (Err errors.WriteFault) before after stopped = stopped
answer_stops images schedule states (Err errors.NoMemory) before after stopped = stopped

-- a process that does not begin is one of the schedule's
pub refuses_within : (images : Bool) (schedule : Schedule) (modules : List Module) (error : RecordError) (before after : Option Folder) → RecordAnswers schedule images (first_states schedule modules) (Err error) (change before after) → length modules ≡ length schedule.processes
    → (p : ℕ) → error ≡ errors.BadSegment p → p < length schedule.processes
refuses_within images schedule modules error before after answers many p is =
    let refused = subst (λ (e : RecordError). RecordAnswers schedule images (first_states schedule modules) (Err e) (change before after)) is answers in
    let within = fails_within (length schedule.processes) 0 p modules refused.0 in
    omega (arith, within, many)
