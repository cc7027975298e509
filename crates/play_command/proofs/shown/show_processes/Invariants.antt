use Rattle.play_command.proofs.ShownTexts.{LacksLinesFrom}
use Rattle.play_command.proofs.shown.show_processes.Given as goal

abbrev pub invariant-loop-p : goal.invariant-loop-p
invariant-loop-p l = LacksLinesFrom l.names l.live l.p l.text
