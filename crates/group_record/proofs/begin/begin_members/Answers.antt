use Rattle.std.proofs.Common.{◌≡◌, ◌<◌, ◌+◌, ◌∙◌, List, [], length, map, ap, sym, subst, arith, Vec}
use Rattle.std.specs.Global.{Global}
use Rattle.std.proofs.lemmas.List.{get_or-map, length-map}
use Rattle.std.proofs.lemmas.Result.{err_from_is_err_and}
use Rattle.schedule_text.specs.declared.process.ProcessLine.{ProcessLine}
use Rattle.wasm_types.specs.Modules.{module_of}
use Rattle.group_record.specs.declared.member.Member.{Member}
use Rattle.group_record.proofs.SharedLemmas.{at_place}
use Rattle.group_record.proofs.FirstProcesses.{HaveStarted, all_begun, member_fails, name_at, next_started, none_started}
use Rattle.group_record.proofs.begin.begin_members.Goals as goal

pub loop-p-init : goal.loop-p-init
loop-p-init c =
    let names = map (λ (line : ProcessLine). line.name) c.args.lines.now in
    let modules = map module_of c.args.modules.now in
    subst (λ (ms : List Member). HaveStarted names modules 0 ms) (sym c.new-members.ensures.items) (none_started names modules)

pub returns-in_err-member : goal.returns-in_err-member
returns-in_err-member c =
    let p = err_from_is_err_and c.from_residual.result c.from_residual.ensures.1 in
    let lines = c.args.lines.now in
    let names = map (λ (line : ProcessLine). line.name) lines in
    let all : length lines ≡ length names = sym (length-map lines (λ (line : ProcessLine). line.name)) in
    let inside : c.loop-p.p < length (map module_of c.args.modules.now) = omega (arith, c.loop-p-test.true, length-map c.args.modules.now module_of, c.requires.modules) in
    let here = ap module_of (c.module-module.ensures ∙ c.index-modules-index.is) ∙ sym (get_or-map module_of c.args.modules.now c.loop-p.p c.index-modules-index.result (module_of c.module-module.result.now) (omega (arith, c.loop-p-test.true, c.requires.modules))) in
    rw (p.1, p.2) (member_fails (λ (v : Vec Member Global). v.items) names (map module_of c.args.modules.now) c.loop-p.p (length lines) c.loop-p.members.items (module_of c.module-module.result.now) c.index-lines-index.result.name c.in_err-member.field-0.0 all c.loop-p.invariant inside here c.in_err-member.ensures)

pub loop-p-preserved : goal.loop-p-preserved
loop-p-preserved c =
    let lines = c.args.lines.now in
    let names = map (λ (line : ProcessLine). line.name) lines in
    let all : length lines ≡ length names = sym (length-map lines (λ (line : ProcessLine). line.name)) in
    let inside : c.loop-p.p < length (map module_of c.args.modules.now) = omega (arith, c.loop-p-test.true, length-map c.args.modules.now module_of, c.requires.modules) in
    let here = ap module_of (c.module-module.ensures ∙ c.index-modules-index.is) ∙ sym (get_or-map module_of c.args.modules.now c.loop-p.p c.index-modules-index.result (module_of c.module-module.result.now) (omega (arith, c.loop-p-test.true, c.requires.modules))) in
    let named = sym (name_at lines c.loop-p.p c.index-lines-index.result [] (at_place lines c.loop-p.p c.index-lines-index.result c.loop-p-test.true c.index-lines-index.is)) in
    subst (λ (ms : List Member). HaveStarted names (map module_of c.args.modules.now) (c.loop-p.p + 1) ms) (sym c.in_ok-push.ensures.items)
    (next_started names (map module_of c.args.modules.now) c.loop-p.p (length lines) c.loop-p.members.items c.in_ok-member.member (module_of c.module-module.result.now) c.index-lines-index.result.name all c.loop-p.invariant inside here named c.in_ok-member.ensures)

pub returns : goal.returns
returns c =
    let lines = c.args.lines.now in
    let names = map (λ (line : ProcessLine). line.name) lines in
    let all : length lines ≡ length names = sym (length-map lines (λ (line : ProcessLine). line.name)) in
    all_begun names (map module_of c.args.modules.now) c.loop-p.p (length lines) c.loop-p.members.items all c.loop-p.invariant
    (omega (arith, c.loop-p-test.false, length-map c.args.modules.now module_of, c.requires.modules)) (omega (arith, all, c.loop-p-test.false, c.loop-p.auto.p-end))
