use Rattle.std.proofs.Common.{◌-◌, length}
use Rattle.expression_text.specs.Lexing.{token_texts}
use Rattle.expression_text.specs.inside.Frames.{machine_state}
use Rattle.expression_text.proofs.ParseResults.{Reached}
use Rattle.expression_text.proofs.parser.parse.Given as goal

abbrev pub invariant-loop-text : goal.invariant-loop-text
invariant-loop-text l = Reached l.names (token_texts l.tokens) l.from l.at (machine_state l.frames.items l.mode)

abbrev pub decreases-loop-text : goal.decreases-loop-text
decreases-loop-text l = length (token_texts l.tokens) - l.at
