-- What can be recorded whole can be played.
use Rattle.std.proofs.Common.{◌≡◌, ◌∙◌, ℕ, List, None, Result, Ok, ap}
use Rattle.fri_outside.specs.Outside.{Folder}
use Rattle.wasm_types.specs.Modules.{Module}
use Rattle.schedule_text.specs.Schedule.{Schedule}
use Rattle.group_record.specs.Answer.{first_states}
use Rattle.command_run.specs.Outcome.{CommandStop, and_then}
use Rattle.record_command.specs.Agreement.{IsRecordable, run_in}
use Rattle.record_command.specs.ExpectedLaws.{first_are, inputs_are, modules_are, schedule_is}
use Rattle.record_command.specs.Laws.{RecordingsWork}
use Rattle.conversation.specs.OpeningLaws.{opened_works}
use Rattle.play_command.specs.Laws.{PlaysWork}
use Rattle.play_command.specs.Outcome.{opening_play, play_in, play_of_modules, play_opener, unless_full_log}

begins : (name : List ℕ) (folder : Folder) (r : IsRecordable folder name) → (run_in r).full ≡ None → play_in name folder ≡ Ok (opening_play r.schedule r.first)
begins name folder r room =
    ap (λ (i : Result (Schedule × List Module) CommandStop). and_then i (λ inputs. play_of_modules name inputs.0 (first_states inputs.0 inputs.1))) (inputs_are folder name r.schedule r.modules (schedule_is r) (modules_are r))
    ∙ ap (play_of_modules name r.schedule) (first_are r) ∙ ap (unless_full_log name r.schedule r.first) room

pub plays_do_work : RecordingsWork → PlaysWork
plays_do_work recordings name folder left h =
    let recorded = recordings.recordable name folder h.recorded in
    let is_begun = begins name folder recorded.0 recorded.1 in
    opened_works (play_opener name) folder (opening_play recorded.0.schedule recorded.0.first) left h.input is_begun h.told (h.within (opening_play recorded.0.schedule recorded.0.first) is_begun)
