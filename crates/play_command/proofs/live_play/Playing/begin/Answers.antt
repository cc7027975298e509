use Rattle.std.proofs.Common.{◌∙◌, ◌++◌, ◌≤◌, ℕ, List, Option, None, ap, map, refl, sym, subst, arith}
use Rattle.std.proofs.lemmas.List.{length-map}
use Rattle.wasm_types.specs.Modules.{module_of}
use Rattle.schedule_text.specs.Limits.{most_runs}
use Rattle.schedule_text.specs.Schedule.{run_count}
use Rattle.schedule_text.specs.declared.item.Item.{Item}
use Rattle.group_record.specs.Answer.{first_states}
use Rattle.group_record.specs.Run.{after_items}
use Rattle.record_command.specs.Record.{items_line}
use Rattle.play_command.specs.declared.live_play.Play.{Play}
use Rattle.play_command.specs.inside.Answers.{OpensWith}
use Rattle.play_command.specs.inside.Playing.{IsPlaying, IsUnderWay, StopsAtItem}
use Rattle.play_command.proofs.CountRoom.{schedule_few}
use Rattle.play_command.proofs.PlayBegins.{is_playing, items_done, opens, under_way}
use Rattle.play_command.proofs.live_play.Playing.begin.Goals as goal

pub perform_all-requires-clause-under_way : goal.perform_all-requires-clause-under_way
perform_all-requires-clause-under_way c =
    subst (λ (names : List (List ℕ)). IsUnderWay names c.in_ok-live.live) (sym c.deref.ensures.value)
    (under_way c.args.schedule.now (first_states c.args.schedule.now (map module_of c.args.modules.now)) c.in_ok-live.live c.in_ok-names.names.items c.in_ok-live.ensures c.in_ok-names.ensures)

pub perform_all-requires-clause-counts : goal.perform_all-requires-clause-counts
perform_all-requires-clause-counts c =
    schedule_few c.items-items.result.now c.new-told.result c.new-told.ensures.acted c.new-told.ensures.idle (omega (arith, c.items-items.type_inv.1))
    (subst (λ (items : List Item). run_count items ≤ most_runs) (sym c.items-items.ensures.value) c.items-items.ensures.in_range.runs)

pub invariant_of-result : goal.invariant_of-result
invariant_of-result c =
    let schedule = c.args.schedule.now in
    let modules = map module_of c.args.modules.now in
    let stops = subst (λ (full : Option ℕ). StopsAtItem c.deref.result.now (λ group. after_items group 1 c.items-items.result.now) c.in_ok-live.live c.new-told.result c.perform_all.new.live c.perform_all.new.told full) c.in_default.is c.in_ok-item.ensures in
    let done = items_done schedule (first_states schedule modules) c.deref.result.now c.items-items.result.now c.in_ok-live.live c.perform_all.new.live c.new-told.result c.perform_all.new.told None
    (c.deref.ensures.value ∙ c.in_ok-names.ensures) c.items-items.ensures.value c.new-told.ensures.acted c.new-told.ensures.idle c.in_ok-live.ensures stops in
    record {
      playing = subst (λ (play : Play). IsPlaying play.schedule.now (map module_of play.modules.now) play.names.items play.live play.tries) (sym c.in_ok-play.ensures.ok)
          (is_playing schedule modules c.in_ok-names.names.items c.perform_all.new.live c.perform_all.new.told c.tries_of.result c.items-items.ensures.in_range (length-map c.args.modules.now module_of ∙ c.requires) c.in_ok-names.ensures
          (c.tries_of.ensures ∙ ap run_count c.items-items.ensures.value) done);
    }

pub returns : goal.returns
returns c =
    let schedule = c.args.schedule.now in
    let modules = map module_of c.args.modules.now in
    let told = c.perform_all.new.told in
    let text = c.push_items_line.new.text in
    let stops = subst (λ (full : Option ℕ). StopsAtItem c.deref.result.now (λ group. after_items group 1 c.items-items.result.now) c.in_ok-live.live c.new-told.result c.perform_all.new.live told full) c.in_default.is c.in_ok-item.ensures in
    let done = items_done schedule (first_states schedule modules) c.deref.result.now c.items-items.result.now c.in_ok-live.live c.perform_all.new.live c.new-told.result told None
    (c.deref.ensures.value ∙ c.in_ok-names.ensures) c.items-items.ensures.value c.new-told.ensures.acted c.new-told.ensures.idle c.in_ok-live.ensures stops in (
      done.first,
      done.is_begun,
      subst (λ (play : Play). OpensWith schedule modules done.first play text) (sym c.in_ok-play.ensures.ok)
          (opens schedule modules _ told text done refl c.in_ok-names.ensures refl (c.tries_of.ensures ∙ ap run_count c.items-items.ensures.value) refl
          (c.in_ok-push_items_line.ensures ∙ ap (λ (t : List ℕ). t ++ items_line told.acted told.idle) c.new-text.ensures)),
    )
