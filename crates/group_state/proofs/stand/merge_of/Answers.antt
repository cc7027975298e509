use Rattle.std.proofs.Common.{◌<◌, ◌≤◌, ◌∙◌, length, map, sym, ap, arith, take_all}
use Rattle.std.proofs.lemmas.List.{length-set}
use Rattle.group_state.specs.inside.Turns.{head_of_replay}
use Rattle.group_state.proofs.GroupSteps.{headed}
use Rattle.group_state.proofs.stand.merge_of.Goals as goal

pub loop-node-preserved : goal.loop-node-preserved
loop-node-preserved c =
    let i = c.loop-node.invariant in
    let replayers = c.args.replayers.now in
    let node = c.loop-node.node in
    let within : node < length replayers = omega arith in
    record {
      size = omega (arith, i.size, ap length c.set_head.ensures, length-set c.loop-node.merge node c.head_of.result);
      heads = headed replayers node c.index-replayers-node.result c.loop-node.merge c.set_head.new.self c.head_of.result within i.size c.index-replayers-node.is c.head_of.ensures c.set_head.ensures i.heads;
    }

pub returns : goal.returns
returns c =
    let i = c.loop-node.invariant in
    let replayers = c.args.replayers.now in
    let node = c.loop-node.node in
    let done : length replayers ≤ node = c.loop-node-test.false in
    sym (take_all node c.loop-node.merge (omega (arith, i.size, done))) ∙ i.heads ∙ ap (map head_of_replay) (take_all node replayers done)
