use Rattle.std.proofs.Common.{◌≡◌, ◌∙◌, ℕ, List, length, slice_index_or, refl, subst}
use Rattle.group_record.specs.Run.{after_item}
use Rattle.play_command.specs.Play.{process_of_item}
use Rattle.play_command.specs.inside.Playing.{GoesOnBy}
use Rattle.play_command.specs.inside.Said.{said_by}
use Rattle.play_command.proofs.Attempts.{name_at}
use Rattle.play_command.proofs.ItemAnswers.{in_group, playing_on, plays_on}
use Rattle.play_command.proofs.live_play.Play.take_item.Goals as goal

pub returns-clause-playing : goal.returns-clause-playing
returns-clause-playing c =
    let old = c.args.self.now in
    let goes = subst (λ (names : List (List ℕ)). (number : ℕ) → GoesOnBy names (λ group. after_item group number c.args.item.now) old.live c.restart.new.self c.perform.new.live c.perform.new.told c.in_ok-full.full) c.deref.ensures.value c.in_ok-full.ensures.goes in
    playing_on old.schedule.now _ old.names.items old.live c.perform.new.live old.tries c.args.tries 1 c.args.item.now c.restart.new.self c.perform.new.told c.in_ok-full.full c.requires.playing c.requires.few (goes 1)

pub returns-clause-answers : goal.returns-clause-answers
returns-clause-answers c =
    let old = c.args.self.now in
    let goes = subst (λ (names : List (List ℕ)). (number : ℕ) → GoesOnBy names (λ group. after_item group number c.args.item.now) old.live c.restart.new.self c.perform.new.live c.perform.new.told c.in_ok-full.full) c.deref.ensures.value c.in_ok-full.ensures.goes in
    let at = subst (λ (p : ℕ). c.index.result.now ≡ slice_index_or old.names.items p c.index.result.now) c.process_of_item.ensures c.index.ensures in
    plays_on old _ c.args.item.now c.restart.new.self c.perform.new.told c.as_slice-name.result.now (said_by c.in_ok-usual.usual c.end.new.told.text) refl refl refl c.requires.room c.requires.tries c.requires.few
    c.restart.ensures.text c.restart.ensures.tells c.restart.ensures.acted c.restart.ensures.idle goes (λ state s. c.as_slice-name.ensures ∙ name_at state.group old.names.items (process_of_item c.args.item.now) c.index.result.now s.names (in_group (length old.names.items) c.args.item.now c.requires.in_range) at) c.in_ok-usual.ensures
