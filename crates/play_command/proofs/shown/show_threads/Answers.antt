use Rattle.std.proofs.Common.{List, ℕ, sym}
use Rattle.std.proofs.lemmas.Result.{IfOk-weaker}
use Rattle.play_lines.specs.Lines.{Threads}
use Rattle.play_command.specs.inside.Shown.{Shows}
use Rattle.play_command.proofs.ShownTexts.{threads_answer}
use Rattle.play_command.proofs.shown.show_threads.Goals as goal

pub returns : goal.returns
returns c =
    let names = c.args.names.now in
    let live = c.args.live.now in
    IfOk-weaker _ _ (λ (text : List ℕ). Shows names live (Threads c.args.node) text)
    (λ text said. threads_answer names live c.args.node c.in-Some.p c.as_slice-name.result.now text c.process.result.now c.is_killed.result (sym c.in-Some.ensures)
    (rw c.as_slice-name.ensures c.index-names-p.is) c.process.ensures.state c.is_killed.ensures said)
    c.process_text.ensures
