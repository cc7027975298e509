use Rattle.std.proofs.Common.{List, ℕ, sym}
use Rattle.std.proofs.lemmas.Result.{IfOk-weaker}
use Rattle.play_lines.specs.Lines.{Datagram}
use Rattle.play_command.specs.inside.Shown.{Shows}
use Rattle.play_command.proofs.ShownTexts.{datagram_answer}
use Rattle.play_command.proofs.shown.show_datagram.Goals as goal

pub returns : goal.returns
returns c =
    let names = c.args.names.now in
    let live = c.args.live.now in
    IfOk-weaker _ _ (λ (text : List ℕ). Shows names live (Datagram c.args.sender c.args.number) text)
    (λ text said. datagram_answer names live c.args.sender c.in-Some.p c.args.number c.sent.result text (sym c.in-Some.ensures) c.sent.ensures said)
    c.datagram_text.ensures
