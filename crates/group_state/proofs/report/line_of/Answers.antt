use Rattle.std.proofs.Common.{ap, ◌∙◌}
use Rattle.call_log.specs.Head.{Head}
use Rattle.guest_process.specs.State.{State}
use Rattle.group_state.proofs.ReplayEnds.{line_so}
use Rattle.group_state.proofs.report.line_of.Goals as goal

pub verdict-requires : goal.verdict-requires
verdict-requires c = let ends = c.requires.1.1 in (ends.verdict, ends.tells)

pub returns : goal.returns
returns c = λ first fresh ends.
    line_so c.replays.ensures.turn first c.args.last.now ends.verdict _ _ _ _ fresh ends ends.tells
    (c.in_ok-from_slice.ensures ∙ ap (λ (h : Head). h.name) c.head.ensures)
    (c.events.ensures.count ∙ ap (λ (S : State). S.events) c.process-process.ensures)
    (c.end.ensures ∙ ap (λ (S : State). S.end) c.process-process.ensures)
    (c.verdict.ensures ends.verdict ends.tells)
