use Rattle.std.proofs.Common.{List, [], length, map, subst, arith, Vec}
use Rattle.std.specs.Prelude.{Ok, Err}
use Rattle.std.specs.Global.{Global}
use Rattle.std.proofs.lemmas.List.{length-map}
use Rattle.std.proofs.lemmas.Result.{err_from_is_err_and}
use Rattle.schedule_text.specs.declared.process.ProcessLine.{ProcessLine}
use Rattle.wasm_types.specs.Modules.{module_of}
use Rattle.group_record.specs.Answer.{first_states, first_states_from, group_of}
use Rattle.group_record.specs.inside.Begun.{BeginsAll}
use Rattle.group_record.specs.declared.member.Member.{Member}
use Rattle.group_record.proofs.LiveGroups.{live_begun, live_fails, sound_of}
use Rattle.group_record.proofs.live.LiveGroup.begin.Goals as goal

pub returns-in_err-members : goal.returns-in_err-members
returns-in_err-members c =
    let p = err_from_is_err_and c.from_residual.result c.from_residual.ensures.1 in
    let ms = map module_of c.args.modules.now in
    rw (p.1, p.2) (live_fails (λ (v : Vec Member Global). v.items) (map (λ (line : ProcessLine). line.name) c.args.schedule.now.processes) c.args.schedule.now (first_states c.args.schedule.now ms) c.in_err-members.field-0.0
    (subst (λ (lines : List ProcessLine). BeginsAll (λ (v : Vec Member Global). v.items) (map (λ (line : ProcessLine). line.name) lines) (first_states_from (length lines) 0 ms) (Err c.in_err-members.field-0.0)) c.processes.ensures.value c.in_err-members.ensures))

pub returns : goal.returns
returns c =
    let schedule = c.args.schedule.now in
    let ms = map module_of c.args.modules.now in
    let all = subst (λ (lines : List ProcessLine). BeginsAll (λ (v : Vec Member Global). v.items) (map (λ (line : ProcessLine). line.name) lines) (first_states_from (length lines) 0 ms) (Ok c.in_ok-members.members)) c.processes.ensures.value c.in_ok-members.ensures in
    (all.0, all.1, live_begun schedule all.0 c.in_ok-members.members.items c.in_ok-parts.parts c.processes.ensures.in_range all.2 c.in_ok-parts.ensures)

pub invariant_of-result : goal.invariant_of-result
invariant_of-result c =
    let schedule = c.args.schedule.now in
    let ms = map module_of c.args.modules.now in
    let all = subst (λ (lines : List ProcessLine). BeginsAll (λ (v : Vec Member Global). v.items) (map (λ (line : ProcessLine). line.name) lines) (first_states_from (length lines) 0 ms) (Ok c.in_ok-members.members)) c.processes.ensures.value c.in_ok-members.ensures in
    sound_of c.by_counting.ensures.counted (group_of schedule all.0) [] c.in_ok-parts.parts (live_begun schedule all.0 c.in_ok-members.members.items c.in_ok-parts.parts c.processes.ensures.in_range all.2 c.in_ok-parts.ensures)
    (omega (arith, length-map schedule.processes (λ (line : ProcessLine). line.name), c.processes.ensures.in_range.formed.most))
