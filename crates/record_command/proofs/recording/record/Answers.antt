use Rattle.std.proofs.Common.{Err, List, map, subst, sym}
use Rattle.std.proofs.lemmas.Result.{err_from_is_err_and}
use Rattle.wasm_types.specs.Modules.{module_of as shown}
use Rattle.record_command.specs.Expected.{record_outcome}
use Rattle.record_command.specs.Gathering.{GathersFromFolder}
use Rattle.record_command.proofs.GatheredOutcome.{group_makes, group_tells, inputs_stop, kept_stops}
use Rattle.command_run.specs.AskedLaws.{asks_first_only, asks_no_more, on_any}
use Rattle.command_run.specs.CountLaws.{counts_still}
use Rattle.command_run.specs.OutcomeLaws.{refused_makes, refused_tells}
use Rattle.record_command.proofs.FolderRecordings.{moment_before, moment_then}
use Rattle.record_command.proofs.recording.record.Goals as goal

pub returns-in_err-inputs-clause-tells : goal.returns-in_err-inputs-clause-tells
returns-in_err-inputs-clause-tells g c =
    let p = err_from_is_err_and c.from_residual.result c.from_residual.ensures.1 in
    rw (p.1, p.2) (refused_tells (record_outcome c.args.images c.args.schedule_file.now) (g.F.Files.told c.args.files.now) c.in_err-inputs.field-0.0 (λ folder told. inputs_stop folder c.args.images c.args.schedule_file.now c.in_err-inputs.field-0.0 (c.in_err-inputs.ensures.answer folder told)))

pub returns-in_err-inputs-clause-makes : goal.returns-in_err-inputs-clause-makes
returns-in_err-inputs-clause-makes g c =
    let p = err_from_is_err_and c.from_residual.result c.from_residual.ensures.1 in
    rw (p.1, p.2) (refused_makes (record_outcome c.args.images c.args.schedule_file.now) (g.F.Files.told c.args.files.now) (g.F.Files.told c.gather.new.files) c.in_err-inputs.field-0.0 (λ folder told. inputs_stop folder c.args.images c.args.schedule_file.now c.in_err-inputs.field-0.0 (c.in_err-inputs.ensures.answer folder told)) c.gather.ensures.same)

pub returns-in_err-inputs-clause-moment : goal.returns-in_err-inputs-clause-moment
returns-in_err-inputs-clause-moment g c = moment_before (g.F.Files.told c.args.files.now) (g.F.Files.told c.gather.new.files) c.args.images c.args.schedule_file.now c.gather.ensures.same

pub returns-in_err-keep_schedule-clause-tells : goal.returns-in_err-keep_schedule-clause-tells
returns-in_err-keep_schedule-clause-tells g c =
    let p = err_from_is_err_and c.from_residual-in_err-keep_schedule.result c.from_residual-in_err-keep_schedule.ensures.1 in
    rw (p.1, p.2) (refused_tells (record_outcome c.args.images c.args.schedule_file.now) (g.F.Files.told c.args.files.now) c.in_err-keep_schedule.field-0.0
    (λ folder told. kept_stops folder c.args.images c.args.schedule_file.now c.in_ok-inputs.inputs.schedule (map shown c.in_ok-inputs.inputs.modules.items) c.in_err-keep_schedule.field-0.0 (c.in_ok-inputs.ensures.answer folder told) c.in_err-keep_schedule.ensures.answer))

pub returns-in_err-keep_schedule-clause-makes : goal.returns-in_err-keep_schedule-clause-makes
returns-in_err-keep_schedule-clause-makes g c =
    let p = err_from_is_err_and c.from_residual-in_err-keep_schedule.result c.from_residual-in_err-keep_schedule.ensures.1 in
    rw (p.1, p.2) (refused_makes (record_outcome c.args.images c.args.schedule_file.now) (g.F.Files.told c.args.files.now) (g.F.Files.told c.gather.new.files) c.in_err-keep_schedule.field-0.0
    (λ folder told. kept_stops folder c.args.images c.args.schedule_file.now c.in_ok-inputs.inputs.schedule (map shown c.in_ok-inputs.inputs.modules.items) c.in_err-keep_schedule.field-0.0 (c.in_ok-inputs.ensures.answer folder told) c.in_err-keep_schedule.ensures.answer) c.gather.ensures.same)

pub returns-in_err-keep_schedule-clause-moment : goal.returns-in_err-keep_schedule-clause-moment
returns-in_err-keep_schedule-clause-moment g c = moment_before (g.F.Files.told c.args.files.now) (g.F.Files.told c.gather.new.files) c.args.images c.args.schedule_file.now c.gather.ensures.same

pub returns-in_err-keep_schedule-clause-counts : goal.returns-in_err-keep_schedule-clause-counts
returns-in_err-keep_schedule-clause-counts g c =
    let p = err_from_is_err_and c.from_residual-in_err-keep_schedule.result c.from_residual-in_err-keep_schedule.ensures.1 in
    rw (p.1, p.2) (counts_still _ _ _ (Err c.in_err-keep_schedule.field-0.0) c.in_err-keep_schedule.ensures.still c.in_ok-inputs.ensures.counts)

pub returns-in_err-keep_schedule-clause-cause : goal.returns-in_err-keep_schedule-clause-cause
returns-in_err-keep_schedule-clause-cause g c =
    let p = err_from_is_err_and c.from_residual-in_err-keep_schedule.result c.from_residual-in_err-keep_schedule.ensures.1 in
    rw (p.1, p.2) (c.in_err-keep_schedule.ensures.cause (g.F.Files.counts c.args.files.now) (g.F.Files.counts c.gather.new.files))

pub returns-clause-tells : goal.returns-clause-tells
returns-clause-tells g c =
    group_tells (g.F.Files.told c.args.files.now) c.args.images c.args.schedule_file.now c.in_ok-inputs.inputs.schedule (map shown c.deref.result.now) c.record_group.result
    (λ folder told. subst (λ (ms : List _). GathersFromFolder folder c.args.schedule_file.now c.in_ok-inputs.inputs.schedule (map shown ms)) (sym c.deref.ensures.value) (c.in_ok-inputs.ensures.answer folder told))
    c.in_ok-keep_schedule.ensures.answer c.record_group.ensures.tells

pub returns-clause-makes : goal.returns-clause-makes
returns-clause-makes g c =
    group_makes (g.F.Files.told c.args.files.now) (g.F.Files.told c.gather.new.files) (g.F.Files.told c.record_group.new.files) c.args.images c.args.schedule_file.now c.in_ok-inputs.inputs.schedule (map shown c.deref.result.now) c.record_group.result
    (λ folder told. subst (λ (ms : List _). GathersFromFolder folder c.args.schedule_file.now c.in_ok-inputs.inputs.schedule (map shown ms)) (sym c.deref.ensures.value) (c.in_ok-inputs.ensures.answer folder told)) c.in_ok-keep_schedule.ensures.answer c.gather.ensures.same c.record_group.ensures.makes

pub returns-clause-moment : goal.returns-clause-moment
returns-clause-moment g c =
    moment_then (g.F.Files.told c.args.files.now) (g.F.Files.told c.gather.new.files) (g.F.Files.told c.record_group.new.files) c.args.images c.args.schedule_file.now c.in_ok-inputs.inputs.schedule (map shown c.deref.result.now)
    (λ folder told. subst (λ (ms : List _). GathersFromFolder folder c.args.schedule_file.now c.in_ok-inputs.inputs.schedule (map shown ms)) (sym c.deref.ensures.value) (c.in_ok-inputs.ensures.answer folder told)) c.gather.ensures.same c.record_group.ensures.stopped

pub returns-clause-asks : goal.returns-clause-asks
returns-clause-asks g c = λ folder told. asks_first_only _ _ _ _ (c.gather.ensures.asks folder told) c.record_group.ensures.asked

pub returns-clause-asks_all : goal.returns-clause-asks_all
returns-clause-asks_all g c = λ folder told. on_any c.record_group.result (asks_no_more _ (g.F.Files.counts c.args.files.now) (g.F.Files.counts c.gather.new.files) (g.F.Files.counts c.record_group.new.files) (c.in_ok-inputs.ensures.asks_all folder told) c.record_group.ensures.asked)
