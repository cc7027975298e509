use Rattle.std.proofs.Common.{◌-◌, length}
use Rattle.expression_text.proofs.OneCut.{Cuts}
use Rattle.expression_text.proofs.lexer.lex.Given as goal

abbrev pub invariant-loop-at : goal.invariant-loop-at
invariant-loop-at l = Cuts l.line l.at l.tokens.items

abbrev pub decreases-loop-at : goal.decreases-loop-at
decreases-loop-at l = length l.line - l.at
