-- The acts of a run can follow each other, and so a run stands at each moment.
use Rattle.std.proofs.Common.{◌≡◌, ℕ, ◌≤◌, Bool, true, false, List, [], ◌∷◌, length, refl, ap, ◌∙◌, arith}
use Rattle.std.specs.Prelude.{IsTrue}
use Rattle.call_table.specs.declared.kind.Kind.{Kind}
use Rattle.call_table.specs.declared.kind.Kind.TheVariants.{Random}
use Rattle.lib_calls.specs.Effects.{is_good}
use Rattle.lib_calls.specs.Traffic.{drawn, draws_as, is_taken}
use Rattle.lib_calls.specs.declared.entry.Entry.{Entry}
use Rattle.guest_process.specs.Live.{Event}
use Rattle.guest_process.specs.State.{State}
use Rattle.group_world.specs.History.{Act, mailbox, pool}
use Rattle.group_world.specs.History as world
use Rattle.group_world.specs.Laws.{IsPossibleHistory, IsPossibleNext}
use Rattle.group_record.specs.Run.{GroupStart, RunStep, Had, Did, world_around, history_of_steps, processes_in_group}
use Rattle.group_record.specs.Laws.{DrawsFromPoolIf, IsBegun}
use Rattle.group_record.specs.Standing.{IsDoneAct, IsRun, Standing, StandsReplayed}
use Rattle.group_record.proofs.RunSteps.{is_run}
use Rattle.group_record.proofs.LogsAgree.{KeepsAfter, Laws, keeps, stands_last}
use Rattle.group_record.proofs.DeliveredDatagrams.{took, takes_kind}
use Rattle.group_record.proofs.EventTakes.{Came, answers_random, came_by, draws_if}

-- ---- what an event takes is there

takes_there : (group : GroupStart) (early : List RunStep) (p : ℕ) (e : Event) (S : State) → Came group early p e S → IsTrue (is_taken e.entry) → 1 ≤ length (mailbox (processes_in_group group) (history_of_steps early) p)
takes_there group early p e S c takes =
    let w = c.in_it.waiting in
    let t = took w.call.kind S c.thread w.call (world_around (processes_in_group group) early p) c.in_it.given e.entry c.in_it.answer c.reply (takes_kind e.entry w.call.kind c.of_kind takes) in
    omega (arith, ap (λ (box : List (List ℕ)). length box) t.first)

drawn_by : (e : Entry) (k : Kind) → e.call.kind ≡ k → drawn e ≡ draws_as k e
unfolding drawn
drawn_by e k of_kind = ap (λ (k : Kind). draws_as k e) of_kind

drawn_within : (early : List RunStep) (p : ℕ) (e : Event) (good : Bool) → DrawsFromPoolIf good early p e → drawn e.entry ≤ length (pool (history_of_steps early) p)
drawn_within early p e true draws = omega (arith, draws.count, draws.enough)
drawn_within early p e false none = omega (arith, none)

draws_as_within : (k : Kind) (e : Entry) (many : ℕ) → (k ≡ Random → draws_as k e ≤ many) → draws_as k e ≤ many
draws_as_within Random e many within = within refl
draws_as_within _ e many within = omega arith

draws_there : (group : GroupStart) (early : List RunStep) (p : ℕ) (e : Event) (S : State) → Came group early p e S → drawn e.entry ≤ length (pool (history_of_steps early) p)
draws_there group early p e S c =
    let kind = c.in_it.waiting.call.kind in
    let by : drawn e.entry ≡ draws_as kind e.entry = drawn_by e.entry kind c.of_kind in
    let few : draws_as kind e.entry ≤ length (pool (history_of_steps early) p) = draws_as_within kind e.entry (length (pool (history_of_steps early) p)) (λ is.
    let random : e.entry.call.kind ≡ Random = c.of_kind ∙ is in
    let within = drawn_within early p e (is_good e.entry.call S.store.memory)
    (draws_if S early (processes_in_group group) p e (is_good e.entry.call S.store.memory) refl random (answers_random group early p e S c random)) in
    omega (arith, within, by)) in
    omega (arith, by, few)

-- ---- the acts

act_follows : (group : GroupStart) (early : List RunStep) (act : Act) → IsDoneAct group early act → IsPossibleNext (processes_in_group group) (history_of_steps early) act
act_follows group early (world.Event p e) done = absurd done
act_follows group early (world.Deliver p n) done = done.0
act_follows group early (world.Inject p bytes) done = done
act_follows group early (world.Clock p value) done = done.0
act_follows group early (world.Random p bytes) done = done
act_follows group early (world.Signal p signal) done = done
act_follows group early (world.Kill p) done = done.0

acts_follow : Laws → (group : GroupStart) → IsBegun group → (steps : List RunStep) → IsRun group steps → IsPossibleHistory (processes_in_group group) (history_of_steps steps)
acts_follow laws group begun [] run = tt
acts_follow laws group begun (Had p e ∷ early) run =
    let k : KeepsAfter group early p = keeps laws group begun early run.1 p run.0.within in
    let c : Came group early p e k.last = came_by group early p e k run.0 in
    ((run.0.within, record { datagrams = takes_there group early p e k.last c; bytes = draws_there group early p e k.last c }), acts_follow laws group begun early run.1)
acts_follow laws group begun (Did act ∷ early) run = (act_follows group early act run.0, acts_follow laws group begun early run.1)

-- ---- all of it

process_stands : (group : GroupStart) (steps : List RunStep) (p : ℕ) → KeepsAfter group steps p → StandsReplayed group steps p
process_stands group steps p k = record {
  first = k.first;
  begun = k.begun;
  last = k.last;
  stands = stands_last group steps p k;
  replay = k.reached;
  events = k.events;
  count = k.group_size;
  fits = k.fits;
}

pub stands : Laws → Standing
stands laws group items begun fits early front =
    let run : IsRun group early = is_run group items fits early front in
    record {
      steps = run;
      acts = acts_follow laws group begun early run;
      processes = λ p within. process_stands group early p (keeps laws group begun early run p within);
    }
