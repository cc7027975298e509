use Rattle.std.proofs.Common.{◌∙◌, List, Result, Ok, ap, map, refl}
use Rattle.proc_replay.specs.Replaying.{Replaying}
use Rattle.command_run.specs.Apart.{apart_work}
use Rattle.command_run.specs.ApartLaws.{apart_goes_on, apart_works}
use Rattle.command_run.specs.Outcome.{CommandStop, and_then}
use Rattle.log_pairs.specs.Pairs.{names_of_pairs}
use Rattle.replay_command.specs.Report.{replay_work}
use Rattle.replay_command.proofs.laws.replays_work.Goals as goal

pub returns : goal.returns
returns c = λ images pairs folder h.
    let opened = c.opens_groups.ensures folder pairs h.group in
    let work = replay_work images opened.0 in
    let kept = apart_goes_on (names_of_pairs pairs) (map (λ file. file.0) (replay_work images opened.0).writes) (h.apart opened.0 opened.1) in
    (work, ap (λ (r : Result (List Replaying) CommandStop). and_then r (λ start. apart_work (names_of_pairs pairs) (replay_work images start))) opened.1 ∙ apart_works (names_of_pairs pairs) (Ok work) work refl kept)
