-- A schedule and modules that can be recorded whole have an outcome that is work.
use Rattle.std.proofs.Common.{◌≡◌, ◌+◌, ℕ, suc, Bool, List, [], ◌∷◌, length, Some, None, Ok, arith, refl, ap, subst, ◌∙◌}
use Rattle.std.specs.List.{AllZip, enumerate_from}
use Rattle.fri_outside.specs.Outside.{Folder}
use Rattle.schedule_text.specs.Laws.{GivesSchedules}
use Rattle.schedule_text.specs.Schedule.{Schedule}
use Rattle.schedule_text.specs.declared.process.ProcessLine.{ProcessLine}
use Rattle.guest_process.specs.Start.{start}
use Rattle.guest_process.specs.State.{State}
use Rattle.command_run.specs.Inputs.{module_in}
use Rattle.command_run.specs.Laws.{ReadsModules}
use Rattle.command_run.specs.Outcome.{CommandWork}
use Rattle.record_command.specs.Agreement.{IsRecordable, group_in, run_in}
use Rattle.record_command.specs.Laws.{RecordingsWork}
use Rattle.record_command.specs.Expected.{KeepsSchedule, record_outcome}
use Rattle.record_command.specs.ExpectedLaws.{first_are, outcome_is_run}
use Rattle.schedule_text.specs.Limits.{most_schedule}
use Rattle.record_command.specs.Record.{outcome_by_room, recorded_work}
use Rattle.record_command.specs.Valid.{AreModuleFiles, RecordsApart, RecordsWhole, modules_in}

module _ (modules : ReadsModules) (schedules : GivesSchedules) where
  found : (folder : Folder) (count p : ℕ) (lines : List ProcessLine) (files : AreModuleFiles folder count p lines) → AllZip (λ line m. module_in folder line.«module» ≡ Ok m) lines (modules_in folder count p lines files)
  found folder count p [] files = tt
  found folder count p (line ∷ lines) files = (modules.modules folder line.«module» files.0.0, found folder count (suc p) lines files.1)

  -- the first states of their processes
  abbrev states_in : (folder : Folder) (count p : ℕ) (lines : List ProcessLine) → AreModuleFiles folder count p lines → List State
  states_in folder count p [] files = []
  states_in folder count p (line ∷ lines) files = files.0.1.0 ∷ states_in folder count (suc p) lines files.1

  begun : (folder : Folder) (count p : ℕ) (lines : List ProcessLine) (files : AreModuleFiles folder count p lines)
      → AllZip (λ m S. start m.1 m.0 count ≡ Some S) (enumerate_from p (modules_in folder count p lines files)) (states_in folder count p lines files)
  begun folder count p [] files = tt
  begun folder count p (line ∷ lines) files =
      let next : suc p ≡ p + 1 = omega arith in
      let rest = begun folder count (suc p) lines files.1 in
      (files.0.1.1, subst (λ (n : ℕ). AllZip (λ m S. start m.1 m.0 count ≡ Some S) (enumerate_from n (modules_in folder count (suc p) lines files.1)) (states_in folder count (suc p) lines files.1)) next rest)

  -- it can be recorded, and its schedule is the one that is spelled
  record CanRecord (folder : Folder) (name : List ℕ) (schedule : Schedule) : Type 0 where
    recordable : IsRecordable folder name
    same : schedule ≡ recordable.schedule
    room : (run_in recordable).full ≡ None

  can_record : (name : List ℕ) (folder : Folder) (h : RecordsWhole folder name) → CanRecord folder name h.schedule
  can_record name folder h =
      let schedule = h.schedule in
      let count = length schedule.processes in
      let first = states_in folder count 0 schedule.processes h.files in
      let r : IsRecordable folder name = record {
        bytes = h.file.bytes;
        read = modules.files folder name most_schedule h.file.bytes h.file.stands;
        schedule = schedule;
        spelled = (schedules h.file.bytes schedule).1 (h.file.spelled, h.file.few);
        modules = modules_in folder count 0 schedule.processes h.files;
        found = found folder count 0 schedule.processes h.files;
        first = first;
        begins = begun folder count 0 schedule.processes h.files;
      } in
      record { recordable = r; same = refl; room = h.room first (first_are r) }

  works : (images : Bool) (name : List ℕ) (folder : Folder) → RecordsApart images folder name → (work : CommandWork) × (record_outcome images name folder ≡ Ok work)
  works images name folder h =
      let can = can_record name folder h.whole in
      let r = can.recordable in
      (recorded_work images (group_in r) (run_in r), outcome_is_run images r (subst (KeepsSchedule images name) can.same h.kept) ∙ ap (outcome_by_room images name (group_in r) (run_in r)) can.room)

  pub recording_works : RecordingsWork
  recording_works = record {
    recordable = λ name folder h. let can = can_record name folder h in (can.recordable, can.room);
    work = works;
  }
