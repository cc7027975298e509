-- What a recording answers, from how it begins and how far its recorder comes.
use Rattle.std.proofs.Common.{◌≡◌, ℕ, Bool, List, [], length, slice_index_or, Option, refl, ap, sym, subst, ◌∙◌, append-nil}
use Rattle.std.specs.Prelude.{All, IsTrue, Result, Ok, Err, is_some}
use Rattle.std.proofs.lemmas.Option.{slice_get-get_or}
use Rattle.std.proofs.lemmas.List.{length-map}
use Rattle.fri_outside.specs.Outside.{Folder}
use Rattle.fri_outside.specs.Several.{AreFirstMade, with_files}
use Rattle.schedule_text.specs.declared.process.ProcessLine.{ProcessLine}
use Rattle.schedule_text.specs.Schedule.{IsInRange, IsSchedule, Schedule}
use Rattle.guest_process.specs.State.{State}
use Rattle.group_record.specs.declared.error.RecordError.{RecordError}
use Rattle.group_record.specs.declared.error.RecordError.TheVariants as errors
use Rattle.group_record.specs.declared.recorder.Recorder.{Recorder}
use Rattle.group_record.specs.declared.summary.Summary.{Summary}
use Rattle.group_record.specs.Answer.{RecordAnswers, StoppedWhereBegun, group_of}
use Rattle.group_record.specs.inside.Begun.{GroupBegins, StopsAtHead}
use Rattle.group_record.specs.Files.{Between, IsStoppedRecording, change}
use Rattle.group_record.specs.Images.{images_of}
use Rattle.group_record.specs.Logs.{logs_of_steps}
use Rattle.group_record.specs.inside.Recorded.{AdvancesRecorder, FilesOf, KeepsUpWithRun, MakesFiles, MakesImages, IsSummaryOfRun, RecordingUnderWay}
use Rattle.group_record.specs.Run.{GroupStart, RunProgress, after_items, no_progress_yet, run}
use Rattle.group_record.proofs.GroupRunStops.{stopped_before, stopped_in, stopped_on}
use Rattle.process_files.specs.FirstLaws.{files_after}

-- what was stopped before the images
stops_in : (asked : Bool) (schedule : Schedule) (first : List State) (before after : Option Folder) → IsStoppedRecording (group_of schedule first) (run (group_of schedule first) schedule.items).steps [] before after
    → StoppedWhereBegun schedule asked (Ok first) before after
stops_in asked schedule first before after h =
    let group = group_of schedule first in
    let done = run group schedule.items in
    stopped_before group done.steps (images_of asked group done) before after h

stops_where : (asked : Bool) (schedule : Schedule) (begun : Result (List State) ℕ) (before after : Option Folder) → StopsAtHead schedule begun before after → StoppedWhereBegun schedule asked begun before after
stops_where asked schedule (Err p) before after h = h
stops_where asked schedule (Ok first) before after h =
    let steps = (run (group_of schedule first) schedule.items).steps in
    stops_in asked schedule first before after (stopped_on (group_of schedule first) [] steps before after (steps, sym (append-nil steps)) h)

-- the group did not begin
pub begin_fails : (asked : Bool) (schedule : Schedule) (begun : Result (List State) ℕ) (error : RecordError) (before after : Option Folder) → GroupBegins schedule begun (Err error) before after → RecordAnswers schedule asked begun (Err error) (change before after)
begin_fails asked schedule begun (errors.BadSegment p) before after h = h
begin_fails asked schedule begun (errors.LogFull item) before after h = absurd h
begin_fails asked schedule begun errors.WriteFault before after h = stops_where asked schedule begun before after h
begin_fails asked schedule begun errors.NoMemory before after h = stops_where asked schedule begun before after h

-- it has begun
pub under_way : (schedule : Schedule) (begun : Result (List State) ℕ) (recorder : Recorder) (before now : Option Folder) → GroupBegins schedule begun (Ok recorder) before now → RecordingUnderWay recorder now
under_way schedule begun recorder before now b = record { group = group_of schedule b.0; done = no_progress_yet; before = before; keeps = b.2; files = b.3 }

pub items_fit : (schedule : Schedule) (begun : Result (List State) ℕ) (recorder : Recorder) (before now : Option Folder) → IsSchedule schedule → GroupBegins schedule begun (Ok recorder) before now
    → All (IsInRange (length recorder.members.items)) schedule.items
items_fit schedule begun recorder before now fits b =
    let count : length recorder.members.items ≡ length schedule.processes = b.2.count ∙ length-map schedule.processes (λ (line : ProcessLine). line.name) in
    subst (λ n. All (IsInRange n) schedule.items) (sym count) fits.formed.items

-- it was not done to its end
pub run_fails : (asked : Bool) (schedule : Schedule) (begun : Result (List State) ℕ) (recorder last : Recorder) (error : RecordError) (before now after : Option Folder) → GroupBegins schedule begun (Ok recorder) before now
    → AdvancesRecorder (λ group. after_items group 1 schedule.items) recorder (Err error) last (change now after) → RecordAnswers schedule asked begun (Err error) (change before after)
run_fails asked schedule begun recorder last (errors.BadSegment p) before now after b does = absurd (does (group_of schedule b.0) no_progress_yet before b.2 b.3)
run_fails asked schedule begun recorder last (errors.LogFull item) before now after b does =
    let h = does (group_of schedule b.0) no_progress_yet before b.2 b.3 in
    (b.0, b.1, record { full = h.0; files = h.1 })
run_fails asked schedule begun recorder last errors.WriteFault before now after b does =
    subst (λ x. StoppedWhereBegun schedule asked x before after) (sym b.1) (stops_in asked schedule b.0 before after (does (group_of schedule b.0) no_progress_yet before b.2 b.3))
run_fails asked schedule begun recorder last errors.NoMemory before now after b does =
    subst (λ x. StoppedWhereBegun schedule asked x before after) (sym b.1) (stops_in asked schedule b.0 before after (does (group_of schedule b.0) no_progress_yet before b.2 b.3))

-- all was done, and there was no memory to say so
pub saying_fails : (asked : Bool) (schedule : Schedule) (begun : Result (List State) ℕ) (recorder last : Recorder) (before now after : Option Folder) → GroupBegins schedule begun (Ok recorder) before now
    → AdvancesRecorder (λ group. after_items group 1 schedule.items) recorder (Ok tt) last (change now after) → StoppedWhereBegun schedule asked begun before after
saying_fails asked schedule begun recorder last before now after b does =
    let h = does (group_of schedule b.0) no_progress_yet before b.2 b.3 in
    subst (λ x. StoppedWhereBegun schedule asked x before after) (sym b.1) (Between (run (group_of schedule b.0) schedule.items).steps ([], refl) h.1)

-- the images were not all made
pub images_fail : (asked : Bool) (schedule : Schedule) (begun : Result (List State) ℕ) (recorder last : Recorder) (error : RecordError) (before now middle after : Option Folder) → GroupBegins schedule begun (Ok recorder) before now
    → AdvancesRecorder (λ group. after_items group 1 schedule.items) recorder (Ok tt) last (change now middle) → MakesImages asked schedule.processes last (Err error) (change middle after) → RecordAnswers schedule asked begun (Err error) (change before after)
images_fail asked schedule begun recorder last error before now middle after b does makes = by_error error (makes group done h.0 refl)
  where
    group : GroupStart
    group = group_of schedule b.0

    done : RunProgress
    done = run group schedule.items

    h : KeepsUpWithRun group done last × FilesOf group done before middle
    h = does group no_progress_yet before b.2 b.3

    stopped : AreFirstMade (images_of asked group done) middle after → StoppedWhereBegun schedule asked begun before after
    stopped part = subst (λ x. StoppedWhereBegun schedule asked x before after) (sym b.1) (stopped_in group done.steps (images_of asked group done) before middle after h.1 part)

    by_error : (error : RecordError) → MakesFiles (images_of asked group done) (Err error) middle after → RecordAnswers schedule asked begun (Err error) (change before after)
    by_error (errors.BadSegment p) made = absurd made
    by_error (errors.LogFull item) made = absurd made
    by_error errors.WriteFault made = stopped made
    by_error errors.NoMemory made = stopped made

-- all was done and said
pub run_done : (asked : Bool) (schedule : Schedule) (begun : Result (List State) ℕ) (recorder last : Recorder) (said : Summary) (before now middle after : Option Folder) → GroupBegins schedule begun (Ok recorder) before now
    → AdvancesRecorder (λ group. after_items group 1 schedule.items) recorder (Ok tt) last (change now middle) → IsSummaryOfRun schedule.processes last said → MakesImages asked schedule.processes last (Ok tt) (change middle after)
    → RecordAnswers schedule asked begun (Ok said) (change before after)
run_done asked schedule begun recorder last said before now middle after b does sums makes =
    let group = group_of schedule b.0 in
    let done = run group schedule.items in
    let h = does group no_progress_yet before b.2 b.3 in (
      b.0,
      b.1,
      record {
        room = h.0.room;
        summary = sums group done h.0 refl;
        files = makes group done h.0 refl ∙ ap (with_files (images_of asked group done)) h.1 ∙ sym (files_after (logs_of_steps group done.steps) (images_of asked group done) before);
      },
    )

-- ---- what is said of it

pub last_keeps : (schedule : Schedule) (begun : Result (List State) ℕ) (recorder last : Recorder) (before now after : Option Folder) → (b : GroupBegins schedule begun (Ok recorder) before now)
    → AdvancesRecorder (λ group. after_items group 1 schedule.items) recorder (Ok tt) last (change now after) → KeepsUpWithRun (group_of schedule b.0) (run (group_of schedule b.0) schedule.items) last
last_keeps schedule begun recorder last before now after b does = (does (group_of schedule b.0) no_progress_yet before b.2 b.3).0

pub last_count : (schedule : Schedule) (first : List State) (last : Recorder) → KeepsUpWithRun (group_of schedule first) (run (group_of schedule first) schedule.items) last → length last.members.items ≡ length schedule.processes
last_count schedule first last keeps = keeps.count ∙ length-map schedule.processes (λ (line : ProcessLine). line.name)

pub all_present : (group : GroupStart) (done : RunProgress) (r : Recorder) → KeepsUpWithRun group done r → All (λ m. IsTrue (is_some m.process)) r.members.items
all_present group done r keeps = λ i d within. ap is_some (keeps.members i (slice_index_or r.members.items i d) (slice_get-get_or r.members.items i d within)).process
