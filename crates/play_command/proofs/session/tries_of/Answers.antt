use Rattle.std.proofs.Common.{◌∙◌, ◌+◌, arith}
use Rattle.play_command.proofs.CountRoom.{all_tries, tries_next, tries_within}
use Rattle.play_command.proofs.session.tries_of.Goals as goal

pub overflow_add-tries : goal.overflow_add-tries
overflow_add-tries c =
    omega (arith, c.loop-item.invariant, c.tries-tries.ensures, c.requires, tries_next c.args.items.now c.loop-item.item-index c.item-item.result c.loop-item-test.true c.item-item.is, tries_within c.args.items.now (c.loop-item.item-index + 1))

pub loop-item-preserved : goal.loop-item-preserved
loop-item-preserved c =
    omega (arith, c.loop-item.invariant, c.tries-tries.ensures, tries_next c.args.items.now c.loop-item.item-index c.item-item.result c.loop-item-test.true c.item-item.is)

pub returns : goal.returns
returns c = c.loop-item.invariant ∙ all_tries c.args.items.now c.loop-item.item-index c.loop-item-test.false
