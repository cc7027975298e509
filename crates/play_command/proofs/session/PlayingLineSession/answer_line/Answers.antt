use Rattle.std.proofs.Common.{◌∙◌, ℕ, List, ap, length, subst, sym}
use Rattle.schedule_text.specs.Schedule.{IsInRange}
use Rattle.play_lines.specs.Spelled.{play_line_meaning}
use Rattle.play_command.specs.declared.live_play.Play.{Play}
use Rattle.play_command.proofs.PlayedIsRecorded.{item_in, item_of_played}
use Rattle.play_command.proofs.session.PlayingLineSession.answer_line.Goals as goal

pub play_item-requires : goal.play_item-requires
play_item-requires c =
    let names = c.deref-2.result.now in
    let line = c.args.line.now in
    let meaning = ap play_line_meaning (sym c.in-Plays.is) ∙ c.in_ok-read_play_line.ensures.line in
    subst (λ (names : List (List ℕ)). IsInRange (length names) c.in-Plays.item) (c.deref-2.ensures.value ∙ ap (λ (play : Play). play.names.items) c.deref.ensures)
    ((c.exact_item_lines.ensures.exact (length names) line c.in-Plays.item).0 (item_of_played names line c.in-Plays.item (ap item_in (sym meaning)))).1
