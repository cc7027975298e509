use Rattle.std.proofs.Common.{◌∙◌, List, ℕ, ap, false, length, map, subst, sym}
use Rattle.std.proofs.lemmas.List.{length-map}
use Rattle.wasm_types.specs.Modules.{module_of}
use Rattle.guest_module.specs.declared.shared.SharedModule.{SharedModule}
use Rattle.group_record.specs.Answer.{first_states}
use Rattle.record_command.specs.Gathering.{GathersFromFolder}
use Rattle.command_run.specs.CountLaws.{counts_none, counts_of_part, counts_still}
use Rattle.command_run.specs.Run.{Outside, outside}
use Rattle.conversation.specs.OpeningLaws.{opening_performed, run_conversed, run_unopened}
use Rattle.conversation.specs.Conversing.{Converses, terminal_at}
use Rattle.conversation.specs.Talker.{talker_of}
use Rattle.play_command.specs.Outcome.{opening_play, play_opener}
use Rattle.play_command.specs.Play.{play_answer}
use Rattle.play_command.proofs.GatheredPlay.{begins, begins_not, gathering_stops, refusal_raises, refusal_still, refused_within}
use Rattle.play_command.proofs.playing.play.Goals as goal

pub returns-in-Err : goal.returns-in-Err
returns-in-Err g c =
    let name = c.args.schedule_file.now in
    let old : Outside = outside (g.F.Files.told c.args.files.now) (g.F.Files.counts c.args.files.now) (g.T.Sink.hearing c.args.io.now) (g.T.Sink.taken c.args.io.now) (g.T.Sink.faults c.args.io.now) in
    let new : Outside = outside (g.F.Files.told c.gather.new.files) (g.F.Files.counts c.gather.new.files) (g.T.Sink.hearing c.finish.new.out) (g.T.Sink.taken c.finish.new.out) (g.T.Sink.faults c.finish.new.out) in
    run_unopened (play_opener name) c.in-Err.stop c.finish.result old new
    (c.finish.ensures _ _ _
    (opening_performed (play_opener name) c.in-Err.stop old new (λ folder told. gathering_stops name folder c.in-Err.stop (c.in-Err.ensures.answer folder told)) c.in-Err.ensures.cause
    (counts_of_part _ _ _ c.in-Err.ensures.counts) c.gather.ensures.asks c.gather.ensures.same))

pub returns : goal.returns
returns g c =
    let name = c.args.schedule_file.now in
    let schedule = c.in-Ok.inputs.schedule in
    let modules = map module_of c.deref.result.now in
    let error = c.in-Err-begin.error in
    let stop = c.refusal_of-stop.result in
    let old : Outside = outside (g.F.Files.told c.args.files.now) (g.F.Files.counts c.args.files.now) (g.T.Sink.hearing c.args.io.now) (g.T.Sink.taken c.args.io.now) (g.T.Sink.faults c.args.io.now) in
    let new : Outside = outside (g.F.Files.told c.gather.new.files) (g.F.Files.counts c.gather.new.files) (g.T.Sink.hearing c.finish-in-Err-begin.new.out) (g.T.Sink.taken c.finish-in-Err-begin.new.out) (g.T.Sink.faults c.finish-in-Err-begin.new.out) in
    run_unopened (play_opener name) stop c.finish-in-Err-begin.result old new
    (c.finish-in-Err-begin.ensures _ _ _
    (opening_performed (play_opener name) stop old new
    (λ folder told. begins_not folder name schedule modules error stop
    (subst (λ (ms : List SharedModule). GathersFromFolder folder name schedule (map module_of ms)) (sym c.deref.ensures.value) (c.in-Ok.ensures.answer folder told)) c.in-Err-begin.ensures c.refusal_of-stop.ensures)
    (refusal_raises name schedule modules (first_states schedule modules) error stop old.counts new.counts c.in-Err-begin.ensures c.refusal_of-stop.ensures)
    (counts_still _ _ _ _ (refusal_still name schedule modules (first_states schedule modules) error stop c.in-Err-begin.ensures c.refusal_of-stop.ensures) c.in-Ok.ensures.counts)
    c.gather.ensures.asks c.gather.ensures.same))

pub returns-in-Ok-begin : goal.returns-in-Ok-begin
returns-in-Ok-begin g c =
    let name = c.args.schedule_file.now in
    let schedule = c.in-Ok.inputs.schedule in
    let modules = map module_of c.deref.result.now in
    let o = c.in-Ok-begin.ensures in
    let begun = opening_play schedule o.0 in
    let terminal = terminal_at g.T.Sink.hearing g.T.Sink.taken g.T.Sink.faults in
    run_conversed (play_opener name) begun c.converse.result _ _
    (begins (g.F.Files.told c.args.files.now) name schedule modules o.0 (λ folder told. subst (λ (ms : List SharedModule). GathersFromFolder folder name schedule (map module_of ms)) (sym c.deref.ensures.value) (c.in-Ok.ensures.answer folder told)) o.1 o.2.room)
    (subst (λ (opening : List ℕ). Converses (talker_of opening begun play_answer) (terminal c.args.io.now) (terminal c.converse.new.io) c.converse.result) o.2.text_is (c.converse.ensures begun o.2.stands))
    c.gather.ensures.same (counts_none _ _ _ c.in-Ok.ensures.counts) c.in-Ok.ensures.asks_all

pub refusal_of-stop-requires : goal.refusal_of-stop-requires
refusal_of-stop-requires g c =
    refused_within c.in-Ok.inputs.schedule (map module_of c.deref.result.now) c.in-Err-begin.error c.in-Err-begin.ensures
    (length-map c.deref.result.now module_of ∙ ap length c.deref.ensures.value ∙ c.in-Ok.ensures.count)
