use Rattle.std.proofs.Common.{◌∙◌, Err, Ok, map}
use Rattle.std.proofs.lemmas.List.{length-map}
use Rattle.std.proofs.lemmas.Result.{err_from_is_err_and}
use Rattle.wasm_types.specs.Modules.{module_of as shown}
use Rattle.group_record.specs.Answer.{first_states}
use Rattle.record_command.proofs.GroupOutcome.{answer_stops, done_changes, done_tells, error_makes, error_tells, refuses_within}
use Rattle.record_command.proofs.recording.record_group.Goals as goal

pub returns-in_err-text-in-Ok-clause-makes : goal.returns-in_err-text-in-Ok-clause-makes
returns-in_err-text-in-Ok-clause-makes g c =
    let p = err_from_is_err_and c.from_residual.result c.from_residual.ensures.1 in
    rw (p.1, p.2) (done_changes c.keeps_files.ensures c.args.images c.args.schedule_file.now c.args.schedule.now (first_states c.args.schedule.now (map shown c.args.modules.now)) c.in-Ok.summary (g.F.Files.told c.args.files.now) (g.F.Files.told c.run_record.new.files) c.in-Ok.ensures.answers)

pub returns-in_err-text-in-Ok-clause-stopped : goal.returns-in_err-text-in-Ok-clause-stopped
returns-in_err-text-in-Ok-clause-stopped g c = answer_stops c.args.images c.args.schedule.now (first_states c.args.schedule.now (map shown c.args.modules.now)) (Ok c.in-Ok.summary) (g.F.Files.told c.args.files.now) (g.F.Files.told c.run_record.new.files) c.in-Ok.ensures.answers

pub refusal_of-requires : goal.refusal_of-requires
refusal_of-requires g c =
    refuses_within c.args.images c.args.schedule.now (map shown c.args.modules.now) c.in-Err.error (g.F.Files.told c.args.files.now) (g.F.Files.told c.run_record.new.files) c.in-Err.ensures.answers
    (length-map c.args.modules.now shown ∙ c.requires)

pub returns-in_ok-text-in-Ok-clause-tells : goal.returns-in_ok-text-in-Ok-clause-tells
returns-in_ok-text-in-Ok-clause-tells g c =
    done_tells c.args.images c.args.schedule_file.now c.args.schedule.now (first_states c.args.schedule.now (map shown c.args.modules.now)) c.in-Ok.summary c.in_ok-text-in-Ok.text
    (g.F.Files.told c.args.files.now) (g.F.Files.told c.run_record.new.files) c.in-Ok.ensures.answers c.in_ok-text-in-Ok.ensures

pub returns-in_ok-text-in-Ok-clause-stopped : goal.returns-in_ok-text-in-Ok-clause-stopped
returns-in_ok-text-in-Ok-clause-stopped g c = answer_stops c.args.images c.args.schedule.now (first_states c.args.schedule.now (map shown c.args.modules.now)) (Ok c.in-Ok.summary) (g.F.Files.told c.args.files.now) (g.F.Files.told c.run_record.new.files) c.in-Ok.ensures.answers

pub returns-in-Err-clause-tells : goal.returns-in-Err-clause-tells
returns-in-Err-clause-tells g c =
    error_tells c.args.images c.args.schedule_file.now c.args.schedule.now (first_states c.args.schedule.now (map shown c.args.modules.now)) c.in-Err.error c.refusal_of.result
    (g.F.Files.told c.args.files.now) (g.F.Files.told c.run_record.new.files) c.in-Err.ensures.answers c.refusal_of.ensures

pub returns-in-Err-clause-makes : goal.returns-in-Err-clause-makes
returns-in-Err-clause-makes g c =
    error_makes c.keeps_files.ensures c.args.images c.args.schedule_file.now c.args.schedule.now (first_states c.args.schedule.now (map shown c.args.modules.now)) c.in-Err.error c.refusal_of.result
    (g.F.Files.told c.args.files.now) (g.F.Files.told c.run_record.new.files) c.in-Err.ensures.answers c.refusal_of.ensures

pub returns-in-Err-clause-stopped : goal.returns-in-Err-clause-stopped
returns-in-Err-clause-stopped g c = answer_stops c.args.images c.args.schedule.now (first_states c.args.schedule.now (map shown c.args.modules.now)) (Err c.in-Err.error) (g.F.Files.told c.args.files.now) (g.F.Files.told c.run_record.new.files) c.in-Err.ensures.answers
