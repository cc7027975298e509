use Rattle.shell_lines.specs.Spelled.{move_command}
use Rattle.friday_shell.specs.inside.Meanings.{state_with}
use Rattle.friday_shell.proofs.LineAnswers.{start_stays}
use Rattle.friday_shell.proofs.answer.perform.Goals as goal

pub returns-in-Moves-clause-start : goal.returns-in-Moves-clause-start
returns-in-Moves-clause-start g c =
    start_stays (state_with c.args.group.now c.args.kept.now) c.args.line.now (move_command c.in-Moves.command) c.go.result (state_with c.go.new.group c.go.new.kept) (c.go.ensures.answer c.args.line.now)
