use Rattle.std.proofs.Common.{◌<◌, ◌≤◌, ◌++◌, List, ℕ, length, ap, subst, arith}
use Rattle.play_command.specs.inside.Shown.{SumsUp}
use Rattle.play_command.proofs.SeenNodes.{counted_names}
use Rattle.play_command.proofs.ShownTexts.{all_lines_there, lines_from, one_line_more}
use Rattle.play_command.proofs.shown.show_processes.Goals as goal

pub loop-p-init : goal.loop-p-init
loop-p-init c = λ group steps lives. ap (λ (t : List ℕ). t ++ lines_from group steps c.args.names.now 0) c.new-text.ensures

pub loop-p-preserved : goal.loop-p-preserved
loop-p-preserved c =
    let names = c.args.names.now in
    let live = c.args.live.now in
    let p = c.loop-p.p in
    let within : p < length names = omega (arith, c.loop-p-test.true, c.count-p-end.ensures, counted_names names live c.requires) in
    one_line_more names live p c.index-names-p.result c.loop-p.text c.push_process_line.new.text c.in_ok-line.line within c.index-names-p.is
    (subst (λ (name : List ℕ). SumsUp live name p c.in_ok-line.line) c.as_slice.ensures c.in_ok-line.ensures)
    c.in_ok-push_process_line.ensures c.loop-p.invariant

pub returns : goal.returns
returns c =
    let names = c.args.names.now in
    let live = c.args.live.now in
    let past : length names ≤ c.loop-p.p = omega (arith, c.loop-p-test.false, c.count-p-end.ensures, counted_names names live c.requires) in
    all_lines_there names live c.loop-p.p c.loop-p.text past c.loop-p.invariant
