-- What an item answers, and where the play then stands.
use Rattle.std.proofs.Common.{◌≡◌, ◌∙◌, ℕ, ◌+◌, ◌-◌, ◌<◌, ◌≤◌, Bool, true, false, cond, List, [], ◌∷◌, ◌++◌, length, take, map, refl, ap, sym, subst, arith, length-append}
use Rattle.std.specs.Prelude.{is_some, nat_lt}
use Rattle.std.proofs.lemmas.Bool.Decides.{nat_tests}
use Rattle.std.proofs.lemmas.List.{append_assoc}
use Rattle.std.proofs.Math.Seq.{take-append_seam}
use Rattle.wasm_types.specs.Modules.{Module, module_of}
use Rattle.schedule_text.specs.Limits.{most_runs}
use Rattle.schedule_text.specs.Schedule.{IsInRange, Schedule, run_count, tries}
use Rattle.schedule_text.specs.declared.item.Item.{Item}
use Rattle.schedule_text.specs.declared.item.Item.TheVariants as item
use Rattle.group_record.specs.Answer.{first_states, group_of}
use Rattle.group_record.specs.Live.{IsLiveAfter, LiveParts}
use Rattle.group_record.specs.Run.{GroupStart, RunProgress, RunStep, after_item, name_of_process, no_progress_yet, run}
use Rattle.conversation.specs.Talker.{Answered}
use Rattle.play_lines.specs.Refusals.{play_refusal_line}
use Rattle.play_lines.specs.declared.refusal.PlayRefusal.TheVariants as refusal
use Rattle.play_command.specs.Play.{PlayState, counts_line, full_line, played_text, items_so_far, plays_item, process_of_item, refuses_play, played_run, step_lines, steps_since, with_played}
use Rattle.play_command.specs.declared.live_play.Play.{Play}
use Rattle.play_command.specs.declared.told.Told.{Told}
use Rattle.play_command.specs.inside.Answers.{AnswersOnce, StandsInPlay, StaysAndSays}
use Rattle.play_command.specs.inside.Playing.{GoesOnBy, IsPlaying, WentOn, told_if}
use Rattle.play_command.specs.inside.Said.{said_of}
use Rattle.play_command.proofs.CountRoom.{tries_more}
use Rattle.play_command.proofs.ItemsDone.{items_more}
use Rattle.play_command.proofs.Reached.{none_of, still_under_way}

-- ---- the tests

-- an item by the two tests that come before it is done
abbrev pub plays_as : Bool → Bool → PlayState → Item → Answered PlayState
plays_as many full state i =
    cond many (refuses_play state refusal.TooManyTries) (cond full (refuses_play state refusal.Full) (record { text = played_text state.group i (played_run state) (played_run (with_played state i)); state = with_played state i; quits = false }))

-- the code answered this, and goes on so
abbrev pub AnswersIn : Play → List ℕ → Answered PlayState → Type 0
AnswersIn new text answered = (text ≡ answered.text) × (answered.quits ≡ false) × StandsInPlay new answered.state

joined : (state : PlayState) (i : Item) → state.own ++ (state.more ++ i ∷ []) ≡ items_so_far state ++ i ∷ []
joined state i = sym (append_assoc state.own state.more (i ∷ []))

pub counted_more : (state : PlayState) (i : Item) → run_count (items_so_far (with_played state i)) ≡ run_count (items_so_far state) + tries i
counted_more state i = ap run_count (joined state i) ∙ tries_more (items_so_far state) i

over : (n m : ℕ) → n < m → nat_lt n m ≡ true
over n m is = grind (arith, nat_tests)

within : (n m : ℕ) → m ≤ n → nat_lt n m ≡ false
within n m is = grind (arith, nat_tests)

pub refuses_many : (old new : Play) (i : Item) (tries_then : ℕ) → tries_then ≡ old.tries + tries i → most_runs < tries_then → StaysAndSays old (play_refusal_line refusal.TooManyTries) new → AnswersOnce old (λ state. plays_item state i) new (said_of new)
refuses_many old new i tries_then is many stays state s =
    let more = counted_more state i in
    let here : nat_lt most_runs (run_count (items_so_far (with_played state i))) ≡ true = over _ _ (omega (arith, is, many, more, s.tries)) in
    subst (λ (many : Bool). AnswersIn new (said_of new) (plays_as many (is_some (played_run state).full) state i)) (sym here) (stays.1, refl, stays.0 state s)

few_yet : (old : Play) (i : Item) (tries_then : ℕ) (state : PlayState) → tries_then ≡ old.tries + tries i → tries_then ≤ most_runs → StandsInPlay old state → nat_lt most_runs (run_count (items_so_far (with_played state i))) ≡ false
few_yet old i tries_then state is few s = let more = counted_more state i in within _ _ (omega (arith, is, few, more, s.tries))

pub refuses_full : (old new : Play) (i : Item) (tries_then : ℕ) → tries_then ≡ old.tries + tries i → tries_then ≤ most_runs → old.full ≡ true → StaysAndSays old (play_refusal_line refusal.Full) new → AnswersOnce old (λ state. plays_item state i) new (said_of new)
refuses_full old new i tries_then is few full stays state s =
    subst (λ (many : Bool). AnswersIn new (said_of new) (plays_as many (is_some (played_run state).full) state i)) (sym (few_yet old i tries_then state is few s))
    (subst (λ (full : Bool). AnswersIn new (said_of new) (plays_as false full state i)) (sym full ∙ s.full) (stays.1, refl, stays.0 state s))

-- ---- what is told of it

pub run_more : (state : PlayState) (i : Item) → played_run (with_played state i) ≡ after_item state.group (1 + length (items_so_far state)) i (played_run state)
run_more state i = ap (run state.group) (joined state i) ∙ items_more state.group 1 (items_so_far state) i no_progress_yet

made_since : (made : List RunStep) (before after : RunProgress) → after.steps ≡ made ++ before.steps → steps_since before after ≡ made
made_since made before after is =
    ap (λ (steps : List RunStep). take (length steps - length before.steps) steps) is
    ∙ ap (λ (n : ℕ). take n (made ++ before.steps)) (omega (arith, length-append made before.steps)) ∙ take-append_seam made before.steps

pub told_so : (group : GroupStart) (i : Item) (before after : RunProgress) (live : LiveParts) (told told_after : Told) (full : Bool) (name text : List ℕ) → WentOn group before after live told told_after → told.text ≡ [] → told.tells ≡ true
    → told.acted ≡ 0 → told.idle ≡ 0 → is_some after.full ≡ full → name ≡ name_of_process group (process_of_item i) → text ≡ told_after.text ++ cond full (full_line name) (counts_line told_after.acted told_after.idle) → text ≡ played_text group i before after
told_so group i before after live told told_after full name text w no_text tells none_acted none_idle is_full named said =
    let lines : told_after.text ≡ step_lines group (steps_since before after) =
    w.text ∙ ap (λ (t : List ℕ). t ++ told_if told.tells (step_lines group w.made)) no_text ∙ ap (λ (tells : Bool). told_if tells (step_lines group w.made)) tells
    ∙ ap (step_lines group) (sym (made_since w.made before after w.steps)) in
    let acted : told_after.acted ≡ length after.steps - length before.steps = omega (arith, w.acted, none_acted, ap length w.steps, length-append w.made before.steps) in
    let idle : told_after.idle ≡ after.idle - before.idle = omega (arith, w.idle, none_idle) in
    said
    ∙ ap (λ (t : List ℕ). t ++ cond full (full_line name) (counts_line told_after.acted told_after.idle)) lines
    ∙ ap (λ (n : List ℕ). step_lines group (steps_since before after) ++ cond full (full_line n) (counts_line told_after.acted told_after.idle)) named
    ∙ ap (λ (n : ℕ). step_lines group (steps_since before after) ++ cond full (full_line (name_of_process group (process_of_item i))) (counts_line n told_after.idle)) acted
    ∙ ap (λ (n : ℕ). step_lines group (steps_since before after) ++ cond full (full_line (name_of_process group (process_of_item i))) (counts_line (length after.steps - length before.steps) n)) idle
    ∙ ap (λ (b : Bool). step_lines group (steps_since before after) ++ cond b (full_line (name_of_process group (process_of_item i))) (counts_line (length after.steps - length before.steps) (after.idle - before.idle))) (sym is_full)

-- ---- where the play then stands

pub plays_on : (old new : Play) (i : Item) (told told_after : Told) (name text : List ℕ)
    → new.schedule.now ≡ old.schedule.now → new.modules.now ≡ old.modules.now → new.names.items ≡ old.names.items → old.full ≡ false → new.tries ≡ old.tries + tries i → new.tries ≤ most_runs
    → told.text ≡ [] → told.tells ≡ true → told.acted ≡ 0 → told.idle ≡ 0 → ((number : ℕ) → GoesOnBy old.names.items (λ group. after_item group number i) old.live told new.live told_after new.full)
    → ((state : PlayState) → StandsInPlay old state → name ≡ name_of_process state.group (process_of_item i)) → text ≡ told_after.text ++ cond new.full (full_line name) (counts_line told_after.acted told_after.idle)
    → AnswersOnce old (λ state. plays_item state i) new text
plays_on old new i told told_after name text same_schedule same_modules same_names not_full counted few no_text tells none_acted none_idle goes called said state s =
    let before = played_run state in
    let number = 1 + length (items_so_far state) in
    let g = goes number state.group before s.names (none_of before.full (sym s.full ∙ not_full)) s.live in
    let more = run_more state i in
    let told_text : text ≡ played_text state.group i before (played_run (with_played state i)) =
    told_so state.group i before (after_item state.group number i before) new.live told told_after new.full name text g.0 no_text tells none_acted none_idle g.1 (called state s) said
    ∙ ap (played_text state.group i before) (sym more) in
    subst (λ (many : Bool). AnswersIn new text (plays_as many (is_some before.full) state i)) (sym (few_yet old i new.tries state counted few s))
    (subst (λ (full : Bool). AnswersIn new text (plays_as false full state i)) (sym not_full ∙ s.full) (
      told_text,
      refl,
      record {
        group = λ first begun. s.group first (ap (λ (t : Schedule). first_states t (map module_of old.modules.now)) (sym same_schedule) ∙ ap (λ (ms : _). first_states new.schedule.now (map module_of ms)) (sym same_modules) ∙ begun)
            ∙ ap (λ (t : Schedule). group_of t first) (sym same_schedule);
        names = s.names ∙ sym same_names;
        own = s.own ∙ ap (λ (t : Schedule). t.items) (sym same_schedule);
        live = subst (λ (d : RunProgress). IsLiveAfter state.group d.steps new.live) (sym more) g.0.stands;
        tries = counted ∙ ap (λ (n : ℕ). n + tries i) s.tries ∙ sym (counted_more state i);
        full = sym g.1 ∙ ap (λ (d : RunProgress). is_some d.full) (sym more);
      },
    ))

-- what holds of the play then
pub playing_on : (schedule : Schedule) (modules : List Module) (names : List (List ℕ)) (live live_after : LiveParts) (tries_before tries_then number : ℕ) (i : Item) (told told_after : Told) (full : Bool) → IsPlaying schedule modules names live tries_before
    → tries_then ≤ most_runs → GoesOnBy names (λ group. after_item group number i) live told live_after told_after full → IsPlaying schedule modules names live_after tries_then
playing_on schedule modules names live live_after tries_before tries_then number i told told_after full p few goes = record {
  begun = p.begun;
  under_way = still_under_way names (λ group. after_item group number i) live live_after told told_after full p.under_way goes;
  count = p.count;
  some = p.some;
  few_names = p.few_names;
  few = few;
}

-- an item in range is about one of the processes
pub in_group : (n : ℕ) (i : Item) → IsInRange n i → process_of_item i < n
in_group n (item.Run p thread times) r = r.0
in_group n (item.Deliver p number) r = r.0
in_group n (item.Inject p bytes) r = r.0
in_group n (item.Clock p time) r = r.0
in_group n (item.Random p bytes) r = r.0
in_group n (item.Signal p signal) r = r.0
in_group n (item.Kill p) r = r
