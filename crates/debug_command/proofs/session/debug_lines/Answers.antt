use Rattle.std.proofs.Common.{List, ℕ, subst}
use Rattle.std.specs.Prelude.{codes}
use Rattle.friday_shell.specs.Session.{opening_session}
use Rattle.conversation.specs.Conversing.{Converses, terminal_at}
use Rattle.conversation.specs.Talker.{talker_of}
use Rattle.debug_command.specs.Session.{shell_answer}
use Rattle.debug_command.proofs.session.debug_lines.Goals as goal

pub returns-in-Ok : goal.returns-in-Ok
returns-in-Ok g c =
    let terminal = terminal_at g.T.Sink.hearing g.T.Sink.taken g.T.Sink.faults in
    let state = opening_session c.args.replayers.items in
    subst (λ (opening : List ℕ). Converses (talker_of opening state shell_answer) (terminal c.args.io.now) (terminal c.converse.new.io) c.converse.result) c.in-Ok.ensures.text
    (c.converse.ensures state c.in-Ok.ensures.session)

pub returns-in-Err : goal.returns-in-Err
returns-in-Err g c =
    let terminal = terminal_at g.T.Sink.hearing g.T.Sink.taken g.T.Sink.faults in
    c.ends_unbegun.ensures (codes "at 0\n") (opening_session c.args.replayers.items) (terminal c.args.io.now)
