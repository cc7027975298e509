use Rattle.std.proofs.Common.{◌∙◌, ◌≤◌, List, length, map, ap, sym, subst, arith}
use Rattle.std.specs.Prelude.{Ok, Err}
use Rattle.std.proofs.lemmas.Result.{err_from_is_err_and}
use Rattle.schedule_text.specs.Limits.{most_runs}
use Rattle.schedule_text.specs.Schedule.{run_count}
use Rattle.schedule_text.specs.declared.item.Item.{Item}
use Rattle.schedule_text.specs.declared.process.ProcessLine.{ProcessLine}
use Rattle.wasm_types.specs.Modules.{module_of}
use Rattle.group_record.specs.Answer.{first_states, group_of}
use Rattle.group_record.specs.Files.{change}
use Rattle.group_record.specs.inside.Recorded.{AdvancesRecorder, MakesImages, IsSummaryOfRun}
use Rattle.group_record.specs.Run.{after_items, run}
use Rattle.group_record.proofs.RecordAnswer.{all_present, begin_fails, images_fail, last_count, last_keeps, run_done, run_fails, saying_fails}
use Rattle.group_record.proofs.RecorderCounts.{schedule_few}
use Rattle.group_record.proofs.RecorderSteps.{world_size}
use Rattle.group_record.proofs.run.run_record.Goals as goal

pub returns-in_err-recorder-clause-answers : goal.returns-in_err-recorder-clause-answers
returns-in_err-recorder-clause-answers g c =
    let p = err_from_is_err_and c.from_residual.result c.from_residual.ensures.1 in
    rw (p.1, p.2) (begin_fails c.args.images c.args.schedule.now (first_states c.args.schedule.now (map module_of c.args.modules.now)) c.in_err-recorder.field-0.0 (g.F.Files.told c.args.files.now) (g.F.Files.told c.begin.new.files) c.in_err-recorder.ensures.begins)

pub returns-in_err-perform_all-clause-answers : goal.returns-in_err-perform_all-clause-answers
returns-in_err-perform_all-clause-answers g c =
    let p = err_from_is_err_and c.from_residual-in_err-perform_all.result c.from_residual-in_err-perform_all.ensures.1 in
    let does = subst (λ (items : List Item). AdvancesRecorder (λ group. after_items group 1 items) c.in_ok-recorder.recorder (Err c.in_err-perform_all.field-0.0) c.perform_all.new.self (change (g.F.Files.told c.begin.new.files) (g.F.Files.told c.perform_all.new.files))) c.items.ensures.value c.in_err-perform_all.ensures.comes in
    rw (p.1, p.2) (run_fails c.args.images c.args.schedule.now (first_states c.args.schedule.now (map module_of c.args.modules.now)) c.in_ok-recorder.recorder c.perform_all.new.self c.in_err-perform_all.field-0.0 (g.F.Files.told c.args.files.now) (g.F.Files.told c.begin.new.files) (g.F.Files.told c.perform_all.new.files) c.in_ok-recorder.ensures.begins does)

pub perform_all-requires-clause-few : goal.perform_all-requires-clause-few
perform_all-requires-clause-few g c =
    let keeps = c.in_ok-recorder.ensures.begins.2 in
    schedule_few c.items.result.now c.in_ok-recorder.recorder keeps.acted keeps.idle (omega (arith, c.items.type_inv.1))
    (subst (λ (items : List Item). run_count items ≤ most_runs) (sym c.items.ensures.value) c.items.ensures.in_range.runs)

pub summary_of-requires-clause-members : goal.summary_of-requires-clause-members
summary_of-requires-clause-members g c =
    let schedule = c.args.schedule.now in
    let b = c.in_ok-recorder.ensures.begins in
    let does = subst (λ (items : List Item). AdvancesRecorder (λ group. after_items group 1 items) c.in_ok-recorder.recorder (Ok tt) c.perform_all.new.self (change (g.F.Files.told c.begin.new.files) (g.F.Files.told c.perform_all.new.files))) c.items.ensures.value c.in_ok-perform_all.ensures.comes in
    let keeps = last_keeps schedule (first_states schedule (map module_of c.args.modules.now)) c.in_ok-recorder.recorder c.perform_all.new.self (g.F.Files.told c.args.files.now) (g.F.Files.told c.begin.new.files) (g.F.Files.told c.perform_all.new.files) b does in
    last_count schedule b.0 c.perform_all.new.self keeps ∙ ap length (sym c.processes.ensures.value)

pub summary_of-requires-clause-around : goal.summary_of-requires-clause-around
summary_of-requires-clause-around g c =
    let schedule = c.args.schedule.now in
    let b = c.in_ok-recorder.ensures.begins in
    let does = subst (λ (items : List Item). AdvancesRecorder (λ group. after_items group 1 items) c.in_ok-recorder.recorder (Ok tt) c.perform_all.new.self (change (g.F.Files.told c.begin.new.files) (g.F.Files.told c.perform_all.new.files))) c.items.ensures.value c.in_ok-perform_all.ensures.comes in
    let keeps = last_keeps schedule (first_states schedule (map module_of c.args.modules.now)) c.in_ok-recorder.recorder c.perform_all.new.self (g.F.Files.told c.args.files.now) (g.F.Files.told c.begin.new.files) (g.F.Files.told c.perform_all.new.files) b does in
    world_size c.by_counting.ensures.counted (group_of schedule b.0) (run (group_of schedule b.0) schedule.items) c.perform_all.new.self keeps ∙ sym keeps.count
    ∙ last_count schedule b.0 c.perform_all.new.self keeps ∙ ap length (sym c.processes.ensures.value)

pub summary_of-requires-clause-present : goal.summary_of-requires-clause-present
summary_of-requires-clause-present g c =
    let schedule = c.args.schedule.now in
    let b = c.in_ok-recorder.ensures.begins in
    let does = subst (λ (items : List Item). AdvancesRecorder (λ group. after_items group 1 items) c.in_ok-recorder.recorder (Ok tt) c.perform_all.new.self (change (g.F.Files.told c.begin.new.files) (g.F.Files.told c.perform_all.new.files))) c.items.ensures.value c.in_ok-perform_all.ensures.comes in
    let keeps = last_keeps schedule (first_states schedule (map module_of c.args.modules.now)) c.in_ok-recorder.recorder c.perform_all.new.self (g.F.Files.told c.args.files.now) (g.F.Files.told c.begin.new.files) (g.F.Files.told c.perform_all.new.files) b does in
    all_present (group_of schedule b.0) (run (group_of schedule b.0) schedule.items) c.perform_all.new.self keeps

pub returns-in_err-summary-clause-answers : goal.returns-in_err-summary-clause-answers
returns-in_err-summary-clause-answers g c =
    let p = err_from_is_err_and c.from_residual-in_err-summary.result c.from_residual-in_err-summary.ensures.1 in
    let does = subst (λ (items : List Item). AdvancesRecorder (λ group. after_items group 1 items) c.in_ok-recorder.recorder (Ok tt) c.perform_all.new.self (change (g.F.Files.told c.begin.new.files) (g.F.Files.told c.perform_all.new.files))) c.items.ensures.value c.in_ok-perform_all.ensures.comes in
    rw (p.1, p.2) (saying_fails c.args.images c.args.schedule.now (first_states c.args.schedule.now (map module_of c.args.modules.now)) c.in_ok-recorder.recorder c.perform_all.new.self (g.F.Files.told c.args.files.now) (g.F.Files.told c.begin.new.files) (g.F.Files.told c.perform_all.new.files) c.in_ok-recorder.ensures.begins does)

pub write_images-requires-clause-members : goal.write_images-requires-clause-members
write_images-requires-clause-members g c =
    let schedule = c.args.schedule.now in
    let b = c.in_ok-recorder.ensures.begins in
    let does = subst (λ (items : List Item). AdvancesRecorder (λ group. after_items group 1 items) c.in_ok-recorder.recorder (Ok tt) c.perform_all.new.self (change (g.F.Files.told c.begin.new.files) (g.F.Files.told c.perform_all.new.files))) c.items.ensures.value c.in_ok-perform_all.ensures.comes in
    let keeps = last_keeps schedule (first_states schedule (map module_of c.args.modules.now)) c.in_ok-recorder.recorder c.perform_all.new.self (g.F.Files.told c.args.files.now) (g.F.Files.told c.begin.new.files) (g.F.Files.told c.perform_all.new.files) b does in
    last_count schedule b.0 c.perform_all.new.self keeps ∙ ap length (sym c.processes-2.ensures.value)

pub write_images-requires-clause-present : goal.write_images-requires-clause-present
write_images-requires-clause-present g c =
    let schedule = c.args.schedule.now in
    let b = c.in_ok-recorder.ensures.begins in
    let does = subst (λ (items : List Item). AdvancesRecorder (λ group. after_items group 1 items) c.in_ok-recorder.recorder (Ok tt) c.perform_all.new.self (change (g.F.Files.told c.begin.new.files) (g.F.Files.told c.perform_all.new.files))) c.items.ensures.value c.in_ok-perform_all.ensures.comes in
    let keeps = last_keeps schedule (first_states schedule (map module_of c.args.modules.now)) c.in_ok-recorder.recorder c.perform_all.new.self (g.F.Files.told c.args.files.now) (g.F.Files.told c.begin.new.files) (g.F.Files.told c.perform_all.new.files) b does in
    all_present (group_of schedule b.0) (run (group_of schedule b.0) schedule.items) c.perform_all.new.self keeps

pub returns-in_err-write_images-clause-answers : goal.returns-in_err-write_images-clause-answers
returns-in_err-write_images-clause-answers g c =
    let p = err_from_is_err_and c.from_residual-in_err-write_images.result c.from_residual-in_err-write_images.ensures.1 in
    let now = g.F.Files.told c.perform_all.new.files in
    let after = g.F.Files.told c.write_images.new.files in
    let does = subst (λ (items : List Item). AdvancesRecorder (λ group. after_items group 1 items) c.in_ok-recorder.recorder (Ok tt) c.perform_all.new.self (change (g.F.Files.told c.begin.new.files) now)) c.items.ensures.value c.in_ok-perform_all.ensures.comes in
    let makes = subst (λ (lines : List ProcessLine). MakesImages c.args.images lines c.perform_all.new.self (Err c.in_err-write_images.field-0.0) (change now after)) c.processes-2.ensures.value c.in_err-write_images.ensures.images in
    rw (p.1, p.2) (images_fail c.args.images c.args.schedule.now (first_states c.args.schedule.now (map module_of c.args.modules.now)) c.in_ok-recorder.recorder c.perform_all.new.self c.in_err-write_images.field-0.0 (g.F.Files.told c.args.files.now) (g.F.Files.told c.begin.new.files) now after c.in_ok-recorder.ensures.begins does makes)

pub returns-clause-answers : goal.returns-clause-answers
returns-clause-answers g c =
    let now = g.F.Files.told c.perform_all.new.files in
    let after = g.F.Files.told c.write_images.new.files in
    let does = subst (λ (items : List Item). AdvancesRecorder (λ group. after_items group 1 items) c.in_ok-recorder.recorder (Ok tt) c.perform_all.new.self (change (g.F.Files.told c.begin.new.files) now)) c.items.ensures.value c.in_ok-perform_all.ensures.comes in
    let sums = subst (λ (lines : List ProcessLine). IsSummaryOfRun lines c.perform_all.new.self c.in_ok-summary.summary) c.processes.ensures.value c.in_ok-summary.ensures in
    let makes = subst (λ (lines : List ProcessLine). MakesImages c.args.images lines c.perform_all.new.self (Ok tt) (change now after)) c.processes-2.ensures.value c.in_ok-write_images.ensures.images in
    run_done c.args.images c.args.schedule.now (first_states c.args.schedule.now (map module_of c.args.modules.now)) c.in_ok-recorder.recorder c.perform_all.new.self c.in_ok-summary.summary (g.F.Files.told c.args.files.now) (g.F.Files.told c.begin.new.files) now after c.in_ok-recorder.ensures.begins does sums makes
