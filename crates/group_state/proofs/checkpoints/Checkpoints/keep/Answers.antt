use Rattle.group_state.proofs.GroupCopies.{keeps_more, keeps_rest}
use Rattle.group_state.proofs.checkpoints.Checkpoints.keep.Goals as goal

pub returns-in_err-copy : goal.returns-in_err-copy
returns-in_err-copy c = λ start all here. c.make_room.ensures start all

pub returns-in_err-push : goal.returns-in_err-push
returns-in_err-push c = keeps_rest _ _ _ _ c.make_room.ensures c.in_err-push.ensures.items

pub returns : goal.returns
returns c = keeps_more _ _ _ _ _ c.make_room.ensures c.in_ok-copy.ensures c.in_ok-push.ensures.items
