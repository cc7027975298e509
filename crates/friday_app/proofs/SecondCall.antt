-- The second call shows what the first recorded.
use Rattle.std.proofs.Common.{◌≡◌, ◌∙◌, ◌<◌, ℕ, Bool, List, [], ◌∷◌, ◌++◌, Option, Some, option_map, Ok, ap, arith, refl, subst, sym}
use Rattle.std.specs.Prelude.{option_and_then}
use Rattle.std.specs.Io.KnownBytes.{append_known}
use Rattle.std.specs.FinMap.{get}
use Rattle.std.specs.List.{AllByRecursion, AllZip}
use Rattle.std.proofs.lemmas.List.{length-map}
use Rattle.fri_outside.specs.Outside.{Folder}
use Rattle.fri_outside.specs.Several.{with_files}
use Rattle.fri_outside.specs.Terminal.{Hearing}
use Rattle.schedule_text.specs.Laws.{GivesSchedules}
use Rattle.schedule_text.specs.declared.process.ProcessLine.{ProcessLine}
use Rattle.group_record.specs.Images.{images_of}
use Rattle.group_record.specs.Logs.{logs_of_steps}
use Rattle.group_record.specs.Run.{processes_in_group}
use Rattle.command_run.specs.declared.status.Status.{Status}
use Rattle.command_run.specs.declared.status.Status.TheVariants as ends
use Rattle.command_run.specs.Call.{IsAnswerStatus}
use Rattle.command_run.specs.Outcome.{CommandOutcome, outcome_text, writes_of}
use Rattle.command_run.specs.Run.{Outside}
use Rattle.record_command.specs.Agreement.{IsRecordable, group_in, run_in, steps_in}
use Rattle.record_command.specs.Expected.{module_name, record_outcome}
use Rattle.record_command.specs.ExpectedLaws.{schedule_is}
use Rattle.replay_command.specs.Report.{replay_outcome}
use Rattle.debug_command.specs.Debug.{debug_outcome}
use Rattle.debug_command.specs.Session.{session_outcome}
use Rattle.friday_app.specs.Command.{Command, Debug, Record, Replay}
use Rattle.friday_app.specs.Expected.{expected}
use Rattle.friday_app.specs.Run.{CommandRun}
use Rattle.friday_app.specs.TwoCalls.{HasOutcome, ShowsRecorded, ShowsThese, pairs_of_processes, printed_by}
use Rattle.headline.specs.Headline.{AreProcesses, ShowsSteps, logs_in, run_to, sorted_of, HoldsPair}
use Rattle.headline.specs.Shown.{no_cut, recorded_report}
use Rattle.friday_app.proofs.ImagesApart.{images_apart}
use Rattle.friday_app.proofs.LeftByRecording.{IsDone, is_done, module_not_written, schedule_formed}

-- ---- the recording

-- how a recording that was done leaves what is outside
record Recorded (images : Bool) {before : Folder} {name : List ℕ} (r : IsRecordable before name) (old middle : Outside) : Type 0 where
  done : IsDone images r
  folder : Folder
  told : middle.told ≡ Some folder
  left : with_files (logs_of_steps (group_in r) (steps_in r) ++ images_of images (group_in r) (run_in r)) (Some before) ≡ Some folder
  shows : ShowsSteps r (steps_in r) no_cut folder
  modules : (p : ℕ) → p < processes_in_group (group_in r) → get folder (module_name r.schedule p) ≡ get before (module_name r.schedule p)
  printed : middle.taken ≡ printed_by images r old.taken
  unheard : middle.hearing ≡ old.hearing

recorded : GivesSchedules → (images : Bool) (before : Folder) (name : List ℕ) (r : IsRecordable before name) (old middle : Outside) → old.told ≡ Some before → CommandRun (Some (Record images name)) old middle ends.Done
    → Recorded images r old middle
recorded gives images before name r old middle is run =
    let outcome = record_outcome images name before in
    let known : (expected (Some (Record images name)) old.told old.hearing.left).outcome ≡ Some outcome = ap (option_map (record_outcome images name)) is in
    let done : IsDone images r = is_done images r (run.call.status outcome known tt) in
    let others = run.call.others.each before is in
    let files : middle.told ≡ with_files (logs_of_steps (group_in r) (steps_in r) ++ images_of images (group_in r) (run_in r)) (Some before) =
    (run.call.files outcome known).whole tt ∙ ap (with_files (writes_of outcome)) is ∙ ap (λ (o : CommandOutcome). with_files (writes_of o) (Some before)) done.outcome in
    let formed = schedule_formed gives before name r.schedule (schedule_is r) in
    let count = length-map r.schedule.processes (λ (line : ProcessLine). line.name) in
    record {
      done = done;
      folder = others.0;
      told = others.1;
      left = sym files ∙ others.1;
      shows = (run.promises.shown before is others.0 others.1 r).done refl;
      modules = λ p below. others.2 (module_name r.schedule p) (module_not_written images r formed done p (omega (arith, below, count)));
      printed = (run.call.text outcome known).whole tt ∙ ap (λ (o : CommandOutcome). append_known old.taken (outcome_text o)) done.outcome;
      unheard = run.promises.input.unheard;
    }

-- the folder then has the files of each process
has_all : (images : Bool) {before : Folder} {name : List ℕ} (r : IsRecordable before name) (old middle : Outside) (rec : Recorded images r old middle) (ps : List ℕ) → AllByRecursion (λ p. p < processes_in_group (group_in r)) ps
    → AllZip (HoldsPair r (logs_in (group_in r) rec.folder) rec.folder) ps (pairs_of_processes r.schedule ps)
has_all images r old middle rec [] below = tt
has_all images r old middle rec (p ∷ ps) below = (record { «module» = rec.modules p below.0; log = refl }, has_all images r old middle rec ps below.1)

-- ---- the second call

-- a call from which this is expected has this outcome
came_to : (command : Option Command) (outcome : CommandOutcome) (folder : Folder) (printed : Option (List ℕ)) (middle new : Outside) (answer : Status) → CommandRun command middle new answer
    → (expected command middle.told middle.hearing.left).outcome ≡ Some outcome → middle.told ≡ Some folder → middle.taken ≡ printed → IsAnswerStatus answer → HasOutcome outcome folder printed new answer
came_to command outcome folder printed middle new answer run known told said answers = record {
  status = run.call.status outcome known answers;
  text = (run.call.text outcome known).whole answers ∙ ap (λ (t : Option (List ℕ)). append_known t (outcome_text outcome)) said;
  files = (run.call.files outcome known).whole answers ∙ ap (with_files (writes_of outcome)) told;
}

these : GivesSchedules → (images : Bool) (before : Folder) (name : List ℕ) (r : IsRecordable before name) (second : Option Command) (old middle new : Outside) (answer : Status) → old.told ≡ Some before
    → CommandRun (Some (Record images name)) old middle ends.Done → CommandRun second middle new answer → (ps : List ℕ) → AreProcesses (processes_in_group (group_in r)) ps → ShowsThese images r ps (record { command = second; old = old; new = new; answer = answer })
these gives images before name r second old middle new answer is first run ps are =
    let rec = recorded gives images before name r old middle is first in
    let pairs = pairs_of_processes r.schedule ps in
    let shown = rec.shows ps are rec.folder pairs (has_all images r old middle rec ps are.within) in
    let formed = schedule_formed gives before name r.schedule (schedule_is r) in
    let below = subst (λ (count : ℕ). AllByRecursion (λ p. p < count) ps) (length-map r.schedule.processes (λ (line : ProcessLine). line.name)) are.within in
    let apart = λ (asked : Bool). images_apart asked (run_to r (steps_in r)) (sorted_of (processes_in_group (group_in r)) ps) r.schedule formed ps below in
    record {
      whole = rec.done.whole;
      folder = rec.folder;
      left = rec.left;
      shown = shown;
      replayed = λ asked names answers.
          came_to (Some (Replay asked pairs)) (Ok (recorded_report asked (run_to r (steps_in r)) no_cut (sorted_of (processes_in_group (group_in r)) ps))) rec.folder (printed_by images r old.taken) middle new answer
          (subst (λ (c : Option Command). CommandRun c middle new answer) names run)
          (ap (option_map (replay_outcome asked pairs)) rec.told ∙ ap (λ (o : CommandOutcome). Some o) (shown.replay asked (apart asked))) rec.told rec.printed answers;
      debugged = λ names answers input typed.
          came_to (Some (Debug pairs)) (session_outcome shown.start input) rec.folder (printed_by images r old.taken) middle new answer
          (subst (λ (c : Option Command). CommandRun c middle new answer) names run)
          (ap (option_and_then (debug_outcome pairs middle.hearing.left)) rec.told
          ∙ ap (λ (left : Option (List ℕ)). debug_outcome pairs left rec.folder) (ap (λ (h : Hearing). h.left) rec.unheard ∙ typed) ∙ shown.debug shown.start shown.shows.recorded input) rec.told rec.printed answers;
    }

pub shows_recorded : GivesSchedules → (first second : Option Command) (old middle new : Outside) (status answer : Status) → CommandRun first old middle status → status ≡ ends.Done → CommandRun second middle new answer → ShowsRecorded first second old new answer
shows_recorded gives first second old middle new status answer one ended other images name names before is r ps are =
    these gives images before name r second old middle new answer is
    (subst (λ (c : Option Command). CommandRun c old middle ends.Done) names (subst (λ (s : Status). CommandRun first old middle s) ended one)) other ps are
