use Rattle.std.proofs.Common.{◌≡◌, ◌∙◌, ◌+◌, ◌++◌, Some, suc, ap, sym, arith}
use Rattle.std.specs.Prelude.{slice_get}
use Rattle.group_state.specs.Place.{GroupPlace, events_of_replays}
use Rattle.group_text.specs.Texts.{event_line}
use Rattle.friday_shell.proofs.EventLines.{events_more}
use Rattle.friday_shell.proofs.answer.write_events.Goals as goal

pub loop-position-preserved : goal.loop-position-preserved
loop-position-preserved c =
    let i = c.loop-position.invariant in
    let start = c.args.group.now.start in
    let here = c.loop-position.group in
    let k = c.loop-position.position in
    let text = c.loop-position.text in
    let made = c.in_ok-write_next.ensures in
    let after : suc here.at ≡ k + 1 = omega (arith, i.at) in
    let found : slice_get (events_of_replays start) k ≡ Some made.event = (λ j. slice_get (events_of_replays (sym i.start j)) (sym i.at j)) ∙ made.gives in
    let line = made.written ∙ (λ j. text ++ event_line (i.start j) (after j) made.event) in
    record {
      start = ap (λ (p : GroupPlace). p.start) made.place ∙ i.start;
      at = ap (λ (p : GroupPlace). p.at) made.place ∙ after;
      written = events_more start text _ _ (events_of_replays start) k c.args.at (k + 1) made.event found (omega (arith, c.loop-position-test.true)) (omega arith) line i.written;
    }
