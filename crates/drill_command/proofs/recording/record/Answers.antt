use Rattle.std.proofs.Common.{Some, map, ap}
use Rattle.fri_outside.specs.Memory.{FilesInMemory}
use Rattle.wasm_types.specs.Modules.{module_of}
use Rattle.drill_command.proofs.RecordedLogs.{never_full, recorded_by}
use Rattle.drill_command.proofs.recording.record.Goals as goal

pub returns-in-Ok : goal.returns-in-Ok
returns-in-Ok c =
    recorded_by c.keeps_files.ensures c.exact_fault.ensures c.beginning.ensures c.agreement.ensures.whole c.args.rounds c.drill.ensures.limits
    (map module_of c.args.modules.now) c.requires.modules c.in_ok-schedule.schedule c.in_ok-schedule.ensures.exact
    c.new-files.result.folder (ap (λ (f : FilesInMemory). f.folder) c.new-files.ensures) c.in-Ok.summary c.run_record.new.files c.in-Ok.ensures.answers

pub unreachable-requires : goal.unreachable-requires
unreachable-requires c =
    never_full c.args.rounds c.requires.few (map module_of c.args.modules.now) c.requires.modules c.in_ok-schedule.schedule c.in_ok-schedule.ensures.exact
    c.in-Err-LogFull.field-0-0 c.in-Err-LogFull.field-0 c.in-Err-LogFull.field-0-is (Some c.new-files.result.folder) (Some c.run_record.new.files.folder) c.in-Err-LogFull.ensures.answers
