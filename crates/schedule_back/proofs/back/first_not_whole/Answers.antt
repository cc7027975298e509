use Rattle.std.proofs.Common.{◌∙◌, ◌≤◌, arith, length, map, sym}
use Rattle.std.proofs.lemmas.List.{length-map}
use Rattle.group_state.specs.Report.{verdict_on}
use Rattle.schedule_back.proofs.FirstVerdict.{all_whole, first_other}
use Rattle.schedule_back.proofs.back.first_not_whole.Goals as goal

pub returns-then-not-is_whole : goal.returns-then-not-is_whole
returns-then-not-is_whole c =
    sym (first_other c.args.group.now.start c.loop-node.node c.in-Some.verdict c.loop-node.invariant (sym c.verdict.ensures ∙ c.in-Some.is) (sym c.is_whole.ensures ∙ c.if-not-is_whole.true))

pub returns : goal.returns
returns c =
    let all : length (map verdict_on c.args.group.now.start) ≤ c.loop-node.node = omega (arith, c.loop-node-test.false, c.nodes-node-end.ensures, length-map c.args.group.now.start verdict_on) in
    sym (all_whole c.args.group.now.start c.loop-node.node c.loop-node.invariant all)
