use Rattle.std.proofs.Common.{◌∙◌, List, ℕ, ap, sym}
use Rattle.std.proofs.lemmas.Result.{IfOk-weaker}
use Rattle.guest_memory.specs.Memory.{Memory}
use Rattle.watch_expr.specs.View.{piece_in_memory}
use Rattle.play_lines.specs.Lines.{Mem}
use Rattle.play_command.specs.inside.Shown.{Shows}
use Rattle.play_command.proofs.ShownTexts.{memory_answer}
use Rattle.play_command.proofs.shown.show_memory.Goals as goal

pub returns : goal.returns
returns c =
    let names = c.args.names.now in
    let live = c.args.live.now in
    IfOk-weaker _ _ (λ (text : List ℕ). Shows names live (Mem c.args.node c.args.addr c.args.len) text)
    (λ text said. memory_answer c.live_groups.ensures.states names live c.args.node c.in-Some.p c.args.addr c.args.len c.process.result.now c.in_ok-found.found text (sym c.in-Some.ensures) c.process.ensures.state
    (c.in_ok-found.ensures ∙ ap (λ (m : Memory). piece_in_memory m c.args.addr c.args.len) c.memory.ensures) said)
    c.bytes_text.ensures
