use Rattle.std.proofs.Common.{◌≡◌, ℕ, List, Option, length}
use Rattle.std.specs.Prelude.{Result}
use Rattle.fri_text.specs.Line.{lines_of}
use Rattle.conversation.specs.declared.conversing.Ended.{Ended}
use Rattle.conversation.specs.inside.Reader.{WasTold}
use Rattle.conversation.proofs.conversing.answer_lines.Given as goal

abbrev pub invariant-loop-line : goal.invariant-loop-line
invariant-loop-line g l = record {
  told : (now : Option (List ℕ)) (result : Result _ Ended) → WasTold g.S.LineSession.stands g.S.LineSession.answer l.session (lines_of l.lines.left) (g.K.Sink.taken l.out) now result
      → WasTold g.S.LineSession.stands g.S.LineSession.answer l.fn.session (lines_of l.fn.bytes) (g.K.Sink.taken l.fn.out) now result;
  counted : g.K.Sink.faults l.out ≡ g.K.Sink.faults l.fn.out;
  heard : g.K.Sink.hearing l.out ≡ g.K.Sink.hearing l.fn.out;
}

abbrev pub decreases-loop-line : goal.decreases-loop-line
decreases-loop-line g l = length l.lines.left
