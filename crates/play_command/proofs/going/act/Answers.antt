use Rattle.std.proofs.Common.{Bool, true, false, subst}
use Rattle.group_record.specs.Live.{ActsAfter}
use Rattle.play_command.proofs.Attempts.{act_goes}
use Rattle.play_command.proofs.going.act.Goals as goal

pub returns-then-branch-clause-goes : goal.returns-then-branch-clause-goes
returns-then-branch-clause-goes c = λ number group before named room stands.
    let acts = subst (λ (acted : Bool). ActsAfter group before.steps c.args.item.now acted c.act.new.self) c.if-branch.true (c.in_ok-act.ensures c.requires.other group before.steps stands) in
    act_goes group number c.args.item.now before c.act.new.self c.args.told.now true room acts

pub returns-else-branch-clause-goes : goal.returns-else-branch-clause-goes
returns-else-branch-clause-goes c = λ number group before named room stands.
    let acts = subst (λ (acted : Bool). ActsAfter group before.steps c.args.item.now acted c.act.new.self) c.if-branch.false (c.in_ok-act.ensures c.requires.other group before.steps stands) in
    act_goes group number c.args.item.now before c.act.new.self c.args.told.now false room acts
