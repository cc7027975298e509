-- Where words, files and input are valid and no fault comes, the work is done.
use Rattle.std.proofs.Common.{◌≡◌, ◌⊎◌, ◌∙◌, ℕ, List, Option, Some, None, Ok, refl, ap, arith, inl, inr, subst}
use Rattle.fri_outside.specs.Outside.{Folder}
use Rattle.command_run.specs.declared.status.Status.{Status}
use Rattle.command_run.specs.declared.status.Status.TheVariants as ends
use Rattle.command_run.specs.Call.{IsAnswerStatus}
use Rattle.command_run.specs.Outcome.{CommandWork}
use Rattle.command_run.specs.Run.{NoFault, Outside, TellsFaults}
use Rattle.record_command.specs.Laws.{RecordingsWork}
use Rattle.replay_command.specs.Laws.{ReplaysWork}
use Rattle.debug_command.specs.Laws.{SessionsWork}
use Rattle.drill_command.specs.Drill.{drill_run, drill_work}
use Rattle.migrate_command.specs.Laws.{MigrationsWork}
use Rattle.schedule_command.specs.Laws.{SchedulesWork}
use Rattle.cut_command.specs.Laws.{CutsWork}
use Rattle.streams_command.specs.Laws.{StreamsWork}
use Rattle.play_command.specs.Laws.{PlaysWork}
use Rattle.friday_app.specs.Command.{Command, Cut, Debug, Drill, Migrate, Play, Record, Replay, Schedule, Streams}
use Rattle.friday_app.specs.Expected.{expected}
use Rattle.friday_app.specs.Run.{CommandRun, CompletesWork}
use Rattle.friday_app.specs.Valid.{IsValidCall}

settled : (answer wanted : Status) → (IsAnswerStatus answer → answer ≡ wanted) → (answer ≡ ends.ReadFault → ⊥) → (answer ≡ ends.WriteFault → ⊥) → (answer ≡ wanted) ⊎ (answer ≡ ends.NoMemory)
settled ends.ReadFault wanted answers reads writes = absurd (reads refl)
settled ends.WriteFault wanted answers reads writes = absurd (writes refl)
settled ends.NoMemory wanted answers reads writes = inr refl
settled ends.Done wanted answers reads writes = inl (answers tt)
settled ends.Diverged wanted answers reads writes = inl (answers tt)
settled ends.Usage wanted answers reads writes = inl (answers tt)
settled ends.Refused wanted answers reads writes = inl (answers tt)
settled ends.Absent wanted answers reads writes = inl (answers tt)

-- how often each of the four failed
abbrev Faults : Type 0
Faults = (ℕ × ℕ) × (ℕ × ℕ)

-- a status of a fault tells that one was counted
read_counted : (old new : Outside) → TellsFaults ends.ReadFault old new → NoFault old new → ⊥
read_counted old new (inl is) quiet = quiet.reads (omega (arith, ap (λ (f : Faults). f.0.0) is))
read_counted old new (inr is) quiet = quiet.input (omega (arith, ap (λ (f : Faults). f.1.0) is))

write_counted : (old new : Outside) → TellsFaults ends.WriteFault old new → NoFault old new → ⊥
write_counted old new (inl is) quiet = quiet.writes (omega (arith, ap (λ (f : Faults). f.0.1) is))
write_counted old new (inr is) quiet = quiet.out (omega (arith, ap (λ (f : Faults). f.1.1) is))

module _ (recordings : RecordingsWork) (replays : ReplaysWork) (sessions : SessionsWork) (migrations : MigrationsWork) (schedules : SchedulesWork) (cuts : CutsWork) (streams : StreamsWork) (plays : PlaysWork) where
  -- what is valid has an outcome that is work
  has_work : (command : Command) (folder : Folder) (left : Option (List ℕ)) → IsValidCall (Some command) folder left
      → (work : CommandWork) × ((expected (Some command) (Some folder) left).outcome ≡ Some (Ok work))
  has_work (Record images schedule_name) folder left h = let w = recordings.work images schedule_name folder h in (w.0, ap Some w.1)
  has_work (Replay images pairs) folder left h = let w = replays images pairs folder h in (w.0, ap Some w.1)
  has_work (Debug pairs) folder left h = sessions pairs folder left h
  has_work (Drill rounds) folder left h = (drill_work rounds (drill_run rounds), refl)
  has_work (Migrate log_name new_name) folder left h = let w = migrations log_name new_name folder h in (w.0, ap Some w.1)
  has_work (Schedule pairs) folder left h = let w = schedules pairs folder h in (w.0, ap Some w.1)
  has_work (Cut process event pairs) folder left h = let w = cuts process event pairs folder h in (w.0, ap Some w.1)
  has_work (Streams pairs) folder left h = let w = streams pairs folder h in (w.0, ap Some w.1)
  has_work (Play schedule_name) folder left h = plays schedule_name folder left h

  pub run_completes : (command : Option Command) (old new : Outside) (answer : Status) (folder : Folder) → CommandRun command old new answer → old.told ≡ Some folder → IsValidCall command folder old.hearing.left → NoFault old new
      → CompletesWork command old.told old.hearing.left answer
  run_completes None old new answer folder run told valid quiet = absurd valid
  run_completes (Some command) old new answer folder run told valid quiet =
      let w = has_work command folder old.hearing.left valid in
      let is = ap (λ (t : Option Folder). (expected (Some command) t old.hearing.left).outcome) told ∙ w.1 in
      record {
        work = w.0;
        is_expected = is;
        status = settled answer _ (run.call.status (Ok w.0) is)
            (λ e. read_counted old new (subst (λ (a : Status). TellsFaults a old new) e run.call.faults) quiet)
            (λ e. write_counted old new (subst (λ (a : Status). TellsFaults a old new) e run.call.faults) quiet);
      }
