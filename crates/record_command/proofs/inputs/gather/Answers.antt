use Rattle.std.proofs.Common.{◌≡◌, ◌∙◌, List, Ok, map, subst}
use Rattle.std.proofs.lemmas.Result.{err_from_is_err_and}
use Rattle.wasm_types.specs.Modules.{module_of as shown}
use Rattle.schedule_text.specs.declared.process.ProcessLine.{ProcessLine}
use Rattle.command_run.specs.Call.{StopsAsCause}
use Rattle.command_run.specs.Asked.{AsksAll, AsksFirst}
use Rattle.record_command.specs.Expected.{module_files, modules_of}
use Rattle.record_command.proofs.GatheredOutcome.{asks_all_modules, asks_modules, asks_schedule, modules_stop, schedule_stops}
use Rattle.record_command.proofs.inputs.gather.Goals as goal

pub returns-in_err-schedule-clause-answer : goal.returns-in_err-schedule-clause-answer
returns-in_err-schedule-clause-answer g c = λ folder told.
    let p = err_from_is_err_and c.from_residual.result c.from_residual.ensures.1 in
    rw (p.1, p.2) (schedule_stops folder c.args.schedule_file.now c.in_err-schedule.field-0.0 (c.in_err-schedule.ensures.answer folder told))

pub returns-in_err-modules-clause-answer : goal.returns-in_err-modules-clause-answer
returns-in_err-modules-clause-answer g c = λ folder told.
    let p = err_from_is_err_and c.from_residual-in_err-modules.result c.from_residual-in_err-modules.ensures.1 in
    rw (p.1, p.2) (modules_stop folder c.args.schedule_file.now c.in_ok-schedule.schedule c.in_err-modules.field-0.0 (c.in_ok-schedule.ensures.answer folder told)
    (subst (λ (lines : List ProcessLine). StopsAsCause (modules_of folder lines) c.in_err-modules.field-0.0) c.processes.ensures.value (c.in_err-modules.ensures.answer folder (c.take_schedule.ensures.same ∙ told))))

pub returns-clause-answer : goal.returns-clause-answer
returns-clause-answer g c = λ folder told. record {
  spelled = c.in_ok-schedule.ensures.answer folder told;
  found = subst (λ (lines : List ProcessLine). modules_of folder lines ≡ Ok (map shown c.in_ok-modules.modules.items)) c.processes.ensures.value (c.in_ok-modules.ensures.answer folder (c.take_schedule.ensures.same ∙ told));
}

pub returns-in_err-schedule-clause-asks : goal.returns-in_err-schedule-clause-asks
returns-in_err-schedule-clause-asks g c = λ folder told. asks_schedule folder c.args.schedule_file.now _ _ c.take_schedule.ensures.asks

pub returns-in_err-modules-clause-asks : goal.returns-in_err-modules-clause-asks
returns-in_err-modules-clause-asks g c = λ folder told.
    asks_modules folder c.args.schedule_file.now c.in_ok-schedule.schedule _ _ _ (c.in_ok-schedule.ensures.answer folder told) c.in_ok-schedule.ensures.asks_all
    (subst (λ (lines : List ProcessLine). AsksFirst (module_files lines) (g.F.Files.counts c.take_schedule.new.files) (g.F.Files.counts c.take_modules.new.files)) c.processes.ensures.value c.take_modules.ensures.asks)

pub returns-clause-asks : goal.returns-clause-asks
returns-clause-asks g c = λ folder told.
    asks_modules folder c.args.schedule_file.now c.in_ok-schedule.schedule _ _ _ (c.in_ok-schedule.ensures.answer folder told) c.in_ok-schedule.ensures.asks_all
    (subst (λ (lines : List ProcessLine). AsksFirst (module_files lines) (g.F.Files.counts c.take_schedule.new.files) (g.F.Files.counts c.take_modules.new.files)) c.processes.ensures.value c.take_modules.ensures.asks)

pub returns-clause-asks_all : goal.returns-clause-asks_all
returns-clause-asks_all g c = λ folder told.
    asks_all_modules folder c.args.schedule_file.now c.in_ok-schedule.schedule (g.F.Files.counts c.args.files.now) (g.F.Files.counts c.take_schedule.new.files) (g.F.Files.counts c.take_modules.new.files) (c.in_ok-schedule.ensures.answer folder told) c.in_ok-schedule.ensures.asks_all
    (subst (λ (lines : List ProcessLine). AsksAll (module_files lines) (g.F.Files.counts c.take_schedule.new.files) (g.F.Files.counts c.take_modules.new.files)) c.processes.ensures.value c.in_ok-modules.ensures.asks_all)
