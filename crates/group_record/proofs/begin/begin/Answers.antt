use Rattle.std.proofs.Common.{◌≡◌, ◌∙◌, List, length, map, sym, subst, Vec}
use Rattle.std.specs.Prelude.{Ok, Err}
use Rattle.std.specs.Global.{Global}
use Rattle.std.proofs.lemmas.Result.{err_from_is_err_and}
use Rattle.schedule_text.specs.declared.process.ProcessLine.{ProcessLine}
use Rattle.wasm_types.specs.Modules.{module_of}
use Rattle.group_record.specs.Answer.{first_states, first_states_from, group_of, names_of}
use Rattle.group_record.specs.inside.Begun.{AreStarted, BeginsAll, heads_of_logs}
use Rattle.group_record.specs.declared.member.Member.{Member}
use Rattle.group_record.proofs.FirstRecorder.{files_begun, have_heads, logs_fail, members_fail, nothing_made, recorder_begun}
use Rattle.group_record.proofs.begin.begin.Goals as goal

pub returns-in_err-members-clause-begins : goal.returns-in_err-members-clause-begins
returns-in_err-members-clause-begins g c =
    let p = err_from_is_err_and c.from_residual.result c.from_residual.ensures.1 in
    let ms = map module_of c.args.modules.now in
    rw (p.1, p.2) (members_fail (λ (v : Vec Member Global). v.items) (names_of c.args.schedule.now) c.args.schedule.now (first_states c.args.schedule.now ms) c.in_err-members.field-0.0 (g.F.Files.told c.args.files.now)
    (subst (λ (lines : List ProcessLine). BeginsAll (λ (v : Vec Member Global). v.items) (map (λ (line : ProcessLine). line.name) lines) (first_states_from (length lines) 0 ms) (Err c.in_err-members.field-0.0)) c.processes.ensures.value c.in_err-members.ensures))

pub returns-in_err-recorder-clause-begins : goal.returns-in_err-recorder-clause-begins
returns-in_err-recorder-clause-begins g c =
    let p = err_from_is_err_and c.from_residual-in_err-recorder.result c.from_residual-in_err-recorder.ensures.1 in
    rw (p.1, p.2) (nothing_made c.args.schedule.now (first_states c.args.schedule.now (map module_of c.args.modules.now)) (g.F.Files.told c.args.files.now))

pub returns-in_err-begin_logs-clause-begins : goal.returns-in_err-begin_logs-clause-begins
returns-in_err-begin_logs-clause-begins g c =
    let p = err_from_is_err_and c.from_residual-in_err-begin_logs.result c.from_residual-in_err-begin_logs.ensures.1 in
    let schedule = c.args.schedule.now in
    let ms = map module_of c.args.modules.now in
    let all = subst (λ (lines : List ProcessLine). BeginsAll (λ (v : Vec Member Global). v.items) (map (λ (line : ProcessLine). line.name) lines) (first_states_from (length lines) 0 ms) (Ok c.in_ok-members.members)) c.processes.ensures.value c.in_ok-members.ensures in
    let same : c.deref.result.now ≡ c.in_ok-members.members.items = c.deref.ensures.value ∙ c.in_ok-recorder.ensures.members in
    let started = subst (λ (members : List Member). AreStarted (names_of schedule) all.0 members) (sym same) all.2 in
    rw (p.1, p.2) (logs_fail schedule (first_states schedule ms) all.0 (heads_of_logs (group_of schedule all.0)) c.in_err-begin_logs.field-0.0 (g.F.Files.told c.args.files.now) (g.F.Files.told c.begin_logs.new.files) all.1
    (c.in_err-begin_logs.ensures.logs (group_of schedule all.0) (have_heads schedule all.0 c.deref.result.now c.processes.ensures.in_range started)))

pub returns-clause-begins : goal.returns-clause-begins
returns-clause-begins g c =
    let schedule = c.args.schedule.now in
    let ms = map module_of c.args.modules.now in
    let all = subst (λ (lines : List ProcessLine). BeginsAll (λ (v : Vec Member Global). v.items) (map (λ (line : ProcessLine). line.name) lines) (first_states_from (length lines) 0 ms) (Ok c.in_ok-members.members)) c.processes.ensures.value c.in_ok-members.ensures in
    let same : c.deref.result.now ≡ c.in_ok-members.members.items = c.deref.ensures.value ∙ c.in_ok-recorder.ensures.members in
    let started = subst (λ (members : List Member). AreStarted (names_of schedule) all.0 members) (sym same) all.2 in (
      all.0,
      all.1,
      recorder_begun c.args.images schedule all.0 c.in_ok-members.members.items c.in_ok-recorder.recorder c.processes.ensures.in_range all.2 c.in_ok-recorder.ensures,
      files_begun schedule all.0 (g.F.Files.told c.args.files.now) (g.F.Files.told c.begin_logs.new.files) (c.in_ok-begin_logs.ensures.logs (group_of schedule all.0) (have_heads schedule all.0 c.deref.result.now c.processes.ensures.in_range started)),
    )
