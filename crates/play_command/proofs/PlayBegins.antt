-- How a play begins, and begins again.
use Rattle.std.proofs.Common.{◌≡◌, ◌∙◌, ℕ, false, List, [], length, map, Option, None, Result, Ok, refl, ap, sym, subst, arith, append-nil, length-append}
use Rattle.std.proofs.lemmas.List.{length-map}
use Rattle.std.specs.Prelude.{is_some}
use Rattle.std.proofs.lemmas.Grind.{merely}
use Rattle.wasm_types.specs.Modules.{Module, module_of}
use Rattle.command_run.specs.OutcomeLaws.{same_Ok_value}
use Rattle.schedule_text.specs.Schedule.{IsSchedule, Schedule, run_count}
use Rattle.schedule_text.specs.declared.item.Item.{Item}
use Rattle.schedule_text.specs.declared.process.ProcessLine.{ProcessLine}
use Rattle.guest_process.specs.State.{State}
use Rattle.group_record.specs.Answer.{first_states, group_of, names_of}
use Rattle.group_record.specs.Live.{BeginsLive, IsLiveAfter, LiveParts}
use Rattle.group_record.specs.Run.{RunProgress, after_items, no_progress_yet, run}
use Rattle.record_command.specs.Record.{items_line}
use Rattle.play_command.specs.Outcome.{opening_play}
use Rattle.play_command.specs.Play.{played_run}
use Rattle.play_command.specs.declared.live_play.Play.{Play}
use Rattle.play_command.specs.declared.told.Told.{Told}
use Rattle.play_command.specs.inside.Answers.{OpensWith}
use Rattle.play_command.specs.inside.Playing.{IsPlaying, IsUnderWay, StopsAtItem}
use Rattle.play_command.proofs.Reached.{is_under_way}

-- ---- before the first item

pub under_way : (schedule : Schedule) (begun : Result (List State) ℕ) (live : LiveParts) (names : List (List ℕ)) → BeginsLive schedule begun (Ok live) → names ≡ names_of schedule → IsUnderWay names live
under_way schedule begun live names b named = is_under_way names live (merely (record { group = group_of schedule b.0; steps = []; stands = b.2; named = sym named }))

pub many_names : (schedule : Schedule) (names : List (List ℕ)) → names ≡ names_of schedule → length names ≡ length schedule.processes
many_names schedule names named = ap length named ∙ length-map schedule.processes (λ (line : ProcessLine). line.name)

-- ---- once the items of the file are done

-- they were done from the first state on
pub record IsDone (schedule : Schedule) (begun : Result (List State) ℕ) (live : LiveParts) (told : Told) (full : Option ℕ) : Type 0 where
  pub first : List State
  pub is_begun : begun ≡ Ok first
  pub stands : IsLiveAfter (group_of schedule first) (run (group_of schedule first) schedule.items).steps live
  pub acted : told.acted ≡ length (run (group_of schedule first) schedule.items).steps
  pub idle : told.idle ≡ (run (group_of schedule first) schedule.items).idle
  pub stopped : (run (group_of schedule first) schedule.items).full ≡ full

pub items_done : (schedule : Schedule) (begun : Result (List State) ℕ) (names : List (List ℕ)) (items : List Item) (live live_after : LiveParts) (told told_after : Told) (full : Option ℕ) → names ≡ names_of schedule → items ≡ schedule.items
    → told.acted ≡ 0 → told.idle ≡ 0 → BeginsLive schedule begun (Ok live) → StopsAtItem names (λ group. after_items group 1 items) live told live_after told_after full → IsDone schedule begun live_after told_after full
items_done schedule begun names items live live_after told told_after full named is none_acted none_idle b stops =
    let here = subst (λ (items : List Item). StopsAtItem names (λ group. after_items group 1 items) live told live_after told_after full) is stops in
    let went = here (group_of schedule b.0) no_progress_yet (sym named) refl b.2 in
    record {
      first = b.0;
      is_begun = b.1;
      stands = went.0.stands;
      acted = omega (arith, went.0.acted, none_acted, ap length went.0.steps, length-append went.0.made []);
      idle = omega (arith, went.0.idle, none_idle);
      stopped = went.1;
    }

-- what holds of it then
pub is_playing : (schedule : Schedule) (modules : List Module) (names : List (List ℕ)) (live : LiveParts) (told : Told) (tries : ℕ) → IsSchedule schedule → length modules ≡ length schedule.processes → names ≡ names_of schedule
    → tries ≡ run_count schedule.items → IsDone schedule (first_states schedule modules) live told None → IsPlaying schedule modules names live tries
is_playing schedule modules names live told tries formed count named counted done = record {
  begun = merely (record { first = done.first; begun = done.is_begun; room = done.stopped });
  under_way = is_under_way names live (merely (record { group = group_of schedule done.first; steps = (run (group_of schedule done.first) schedule.items).steps; stands = done.stands; named = sym named }));
  count = count;
  some = omega (arith, formed.formed.some, many_names schedule names named);
  few_names = omega (arith, formed.formed.most, many_names schedule names named);
  few = omega (arith, counted, formed.runs);
}

same_group : (s t : Schedule) (ms ns : List Module) (first other : List State) → t ≡ s → ns ≡ ms → first_states s ms ≡ Ok first → first_states t ns ≡ Ok other → group_of s first ≡ group_of t other
same_group s t ms ns first other same_schedule same_modules is that =
    let there : first_states s ms ≡ Ok other = ap (λ (u : Schedule). first_states u ms) (sym same_schedule) ∙ ap (first_states t) (sym same_modules) ∙ that in
    ap (λ (u : Schedule). group_of u first) (sym same_schedule) ∙ ap (group_of t) (same_Ok_value (first_states s ms) first other is there)

-- the run of the file's items, as that of a play that begins
of_opening : (schedule : Schedule) (first : List State) → played_run (opening_play schedule first) ≡ run (group_of schedule first) schedule.items
of_opening schedule first = ap (run (group_of schedule first)) (append-nil schedule.items)

pub opens : (schedule : Schedule) (modules : List Module) (play : Play) (told : Told) (text : List ℕ) (done : IsDone schedule (first_states schedule modules) play.live told None) → play.schedule.now ≡ schedule → play.names.items ≡ names_of schedule → map module_of play.modules.now ≡ modules
    → play.tries ≡ run_count schedule.items → play.full ≡ false → text ≡ items_line told.acted told.idle → OpensWith schedule modules done.first play text
opens schedule modules play told text done schedule_is named modules_are counted not_full said =
    let opened = of_opening schedule done.first in
    record {
      schedule_is = schedule_is;
      modules_are = modules_are;
      stands = record {
        group = λ other that. same_group schedule play.schedule.now modules (map module_of play.modules.now) done.first other schedule_is modules_are done.is_begun that;
        names = sym named;
        own = ap (λ (s : Schedule). s.items) (sym schedule_is);
        live = subst (λ (d : RunProgress). IsLiveAfter (group_of schedule done.first) d.steps play.live) (sym opened) done.stands;
        tries = counted ∙ ap run_count (sym (append-nil schedule.items));
        full = not_full ∙ ap (λ (o : Option ℕ). is_some o) (sym (ap (λ (d : RunProgress). d.full) opened ∙ done.stopped));
      };
      text_is = said ∙ ap (λ (n : ℕ). items_line n told.idle) done.acted ∙ ap (items_line (length (run (group_of schedule done.first) schedule.items).steps)) done.idle
          ∙ ap (λ (d : RunProgress). items_line (length d.steps) d.idle) (sym opened);
      room = done.stopped;
    }
