use Rattle.friday_shell.proofs.answer.go.Goals as goal

pub returns-in-Goto-clause-answer : goal.returns-in-Goto-clause-answer
returns-in-Goto-clause-answer g c = λ line. rw c.in-Goto.is (c.go_to.ensures c.args.kept.now)

pub returns-in-Step-clause-answer : goal.returns-in-Step-clause-answer
returns-in-Step-clause-answer g c = λ line. rw c.in-Step.is (c.step.ensures c.args.kept.now)

pub returns-in-Back-clause-answer : goal.returns-in-Back-clause-answer
returns-in-Back-clause-answer g c = λ line. rw c.in-Back.is (c.back.ensures c.args.kept.now)
