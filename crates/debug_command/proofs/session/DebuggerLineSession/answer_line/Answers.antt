use Rattle.debug_command.proofs.ShellAnswers.{shell_answers}
use Rattle.debug_command.proofs.session.DebuggerLineSession.answer_line.Goals as goal

pub returns : goal.returns
returns g c =
    shell_answers c.args.self.session c.args.line.now c.in_ok-session.session c.in_ok-session.said c.in_ok-session.goes c.in_ok-session.ensures.answer
