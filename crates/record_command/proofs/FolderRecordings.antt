-- The recording of the files that a folder holds: there is one, its logs agree with it, and it leaves them.
use Rattle.std.proofs.Common.{◌≡◌, ◌++◌, ℕ, Bool, List, Option, Some, Result, Ok, Err, refl, sym, ap, subst, ◌∙◌}
use Rattle.fri_outside.specs.Laws.{KeepsFiles}
use Rattle.fri_outside.specs.Outside.{Folder, WhenTold}
use Rattle.fri_outside.specs.Several.{with_files}
use Rattle.wasm_types.specs.Modules.{Module}
use Rattle.guest_process.specs.State.{State}
use Rattle.schedule_text.specs.Laws.{GivesSchedules}
use Rattle.schedule_text.specs.Reading.{ScheduleRefusal, BadLineAt, TooManyRuns, schedule_of}
use Rattle.schedule_text.specs.Schedule.{IsWellFormed, Schedule}
use Rattle.group_record.specs.Answer.{StoppedWhereBegun, first_states}
use Rattle.group_record.specs.Files.{InHeads}
use Rattle.group_record.specs.Images.{images_of}
use Rattle.group_record.specs.Laws.{Agreement, Beginning, CutAgreement, Delivery, TakesDrawn, TakesWaiting}
use Rattle.group_record.specs.Logs.{logs_of_steps}
use Rattle.group_record.specs.Run.{log_of}
use Rattle.record_command.specs.Agreement.{IsRecordable, LeavesMoment, group_in, run_in, steps_in}
use Rattle.record_command.specs.Laws.{RecordingsAgree, RecordingsLeaveLogs}
use Rattle.record_command.specs.Expected.{KeepsSchedule, modules_of, record_outcome, schedule_in, schedule_or_refusal}
use Rattle.record_command.specs.ExpectedLaws.{first_are, modules_are, outcome_is_run, schedule_is}
use Rattle.schedule_text.specs.Limits.{most_schedule}
use Rattle.command_run.specs.Outcome.{file_of, writes_of}
use Rattle.record_command.specs.Gathering.{GathersFromFolder}
use Rattle.record_command.proofs.GroupOutcome.{group_writes}
use Rattle.command_run.specs.Laws.{ReadsModules}
use Rattle.command_run.specs.OutcomeLaws.{result_follows, same_Ok_value}
use Rattle.record_command.proofs.GroupModules.{modules_valid}
use Rattle.record_command.proofs.StoppedFiles.{images_are_no_logs, logs_apart, logs_stand}

-- ---- a schedule that was read

read_by : (name : List ℕ) (r : Result Schedule ScheduleRefusal) (schedule : Schedule) → schedule_or_refusal name r ≡ Ok schedule → r ≡ Ok schedule
read_by name (Ok s) schedule is = ap (λ (s : Schedule). Ok s) (same_Ok_value (schedule_or_refusal name (Ok s)) s schedule refl is)
read_by name (Err (BadLineAt line)) schedule is = cc
read_by name (Err TooManyRuns) schedule is = cc

pub schedule_formed : GivesSchedules → (folder : Folder) (name : List ℕ) (schedule : Schedule) → schedule_in folder name ≡ Ok schedule → IsWellFormed schedule
schedule_formed gives folder name schedule is =
    let bytes = result_follows (file_of folder name most_schedule) _ schedule is in
    ((gives bytes.given schedule).0 (read_by name (schedule_of bytes.given) schedule bytes.comes)).0.formed

-- ---- its logs agree with it

-- what is known of runs
pub record RunLaws : Type 0 where
  pub logs : Agreement
  pub cut : CutAgreement
  pub datagrams : Delivery
  pub waiting : TakesWaiting
  pub random : TakesDrawn

pub recordings_agree_so : ReadsModules → GivesSchedules → Beginning → RunLaws → RecordingsAgree
recordings_agree_so reads gives beginning laws folder name r =
    let modules = modules_valid reads folder r.schedule.processes r.modules (modules_are r) in
    let begun = beginning r.schedule r.modules r.first (schedule_formed gives folder name r.schedule (schedule_is r)) modules.count modules.valid (first_are r) in
    record {
      logs = laws.logs (group_in r) r.schedule.items begun.0 begun.1;
      cut = laws.cut (group_in r) r.schedule.items begun.0 begun.1;
      datagrams = laws.datagrams (group_in r) r.schedule.items begun.0 begun.1;
      waiting = laws.waiting (group_in r) r.schedule.items begun.0 begun.1;
      random = laws.random (group_in r) r.schedule.items begun.0 begun.1;
    }

-- ---- it is the one that was gathered

record IsOne (schedule : Schedule) (modules : List Module) {folder : Folder} {name : List ℕ} (r : IsRecordable folder name) : Type 0 where
  schedules : schedule ≡ r.schedule
  modules_same : modules ≡ r.modules

one_recording : {folder : Folder} {name : List ℕ} (schedule : Schedule) (modules : List Module) → GathersFromFolder folder name schedule modules → (r : IsRecordable folder name) → IsOne schedule modules r
one_recording {folder} {name} schedule modules g r =
    let schedules : schedule ≡ r.schedule = same_Ok_value (schedule_in folder name) schedule r.schedule g.spelled (schedule_is r) in
    record {
      schedules = schedules;
      modules_same = same_Ok_value (modules_of folder r.schedule.processes) modules r.modules (ap (λ (s : Schedule). modules_of folder s.processes) (sym schedules) ∙ g.found) (modules_are r);
    }

-- ---- what stands of it

-- before anything was made
pub moment_before : (told after : Option Folder) (images : Bool) (name : List ℕ) → after ≡ told → WhenTold told (λ before. LeavesMoment images name before after)
moment_before told after images name same before is r = InHeads 0 (λ p. 0) (same ∙ is)

-- where the recording was stopped or reached its end
pub moment_then : (told middle after : Option Folder) (images : Bool) (name : List ℕ) (schedule : Schedule) (modules : List Module) → WhenTold told (λ folder. GathersFromFolder folder name schedule modules)
    → middle ≡ told → StoppedWhereBegun schedule images (first_states schedule modules) middle after → WhenTold told (λ before. LeavesMoment images name before after)
moment_then told middle after images name schedule modules gathers same stopped before is r =
    let one = one_recording schedule modules (gathers before is) r in
    subst (λ (s : Result (List State) ℕ). StoppedWhereBegun r.schedule images s (Some before) after) (first_are r)
    (subst (λ (m : List Module). StoppedWhereBegun r.schedule images (first_states r.schedule m) (Some before) after) one.modules_same
    (subst (λ (s : Schedule). StoppedWhereBegun s images (first_states s modules) (Some before) after) one.schedules
    (subst (λ (t : Option Folder). StoppedWhereBegun schedule images (first_states schedule modules) t after) (same ∙ is) stopped)))

-- those of a recording are its logs, and after them the images that were asked for
recording_writes : {folder : Folder} {name : List ℕ} (images : Bool) (r : IsRecordable folder name) → KeepsSchedule images name r.schedule → writes_of (record_outcome images name folder) ≡ logs_of_steps (group_in r) (steps_in r) ++ images_of images (group_in r) (run_in r)
recording_writes {folder} {name} images r kept =
    ap writes_of (outcome_is_run images r kept) ∙ group_writes images name r.schedule r.first

pub recordings_leave_logs_so : KeepsFiles → GivesSchedules → RecordingsLeaveLogs
recordings_leave_logs_so keeps gives images name before after r kept made =
    let whole = made ∙ ap (λ (files : List (List ℕ × List ℕ)). with_files files (Some before)) (recording_writes images r kept) in
    let formed = schedule_formed gives before name r.schedule (schedule_is r) in
    logs_stand keeps (group_in r) (steps_in r) (images_of images (group_in r) (run_in r)) before after (logs_apart r.schedule.processes 0 (log_of (group_in r) (steps_in r)) formed.names)
    (images_are_no_logs images (group_in r) (run_in r)) (sym whole)
