-- The events of a group's logs are new where they come, and each can be counted.
use Rattle.std.proofs.Common.{◌≡◌, ℕ, ◌+◌, ◌<◌, ◌≤◌, ◌^◌, ◌==◌, ◌&&◌, Bool, true, false, cond, List, [], ◌∷◌, ◌++◌, length, take, Option, Some, None, refl, sym, subst, ◌∙◌, arith}
use Rattle.std.specs.FinMap as map
use Rattle.std.specs.List.{AllByRecursion}
use Rattle.std.proofs.lemmas.Bool.Decides.{nat_tests}
use Rattle.call_log.specs.Log.{entries_of}
use Rattle.lib_calls.specs.declared.entry.Entry.{Entry}
use Rattle.guest_process.specs.declared.divergence.Divergence.{Divergence}
use Rattle.guest_process.specs.Fits.{StateFits}
use Rattle.guest_process.specs.Legal.{reason}
use Rattle.guest_process.specs.Next.{next}
use Rattle.guest_process.specs.OneEvent.{IsKeptByEvents, Rises}
use Rattle.guest_process.specs.Replay.{accepted, reach_of_entries, reach_with_entry}
use Rattle.guest_process.specs.State.{State}
use Rattle.proc_replay.specs.Course.{entries_ahead}
use Rattle.proc_replay.specs.Replaying.{Replaying}
use Rattle.group_order.specs.Sends.{FindsOneMoreSend, SendReceivers, by_sender}
use Rattle.group_state.specs.Place.{AscendsByProcess}
use Rattle.group_state.specs.Report.{accepted_in, all_accepted_events}
use Rattle.group_state.specs.Tally.{AcceptedEvent, is_send, of_process}
use Rattle.group_state.specs.inside.Tallying.{AreNewEvents, HasTallyRoomFor, IsNewSend, GroupTallying, nothing_tallied, send_by, with_accepted, with_all_accepted}
use Rattle.group_state.proofs.TallyCounts.{adds, few_more}

abbrev event : ℕ → Entry → AcceptedEvent
event p e = record { process = p; entry = e }

-- no send of the process was counted past this clock
record Until (p clock : ℕ) (sent : SendReceivers) : Type 0 where
  holds : (at to : ℕ) → map.get sent (p, at) ≡ Some to → at ≤ clock

-- no send of the process was counted
record Clear (p : ℕ) (sent : SendReceivers) : Type 0 where
  holds : (at to : ℕ) → map.get sent (p, at) ≡ Some to → ⊥

abbrev AreClear : List Replaying → SendReceivers → Type 0
AreClear rs sent = AllByRecursion (λ r. Clear r.head.process sent) rs

module _ (finds : FindsOneMoreSend) where
  -- ---- the events of a process whose clock rises are new where they come

  until_more : (p clock : ℕ) (e : Entry) (t : GroupTallying) (b : Bool) → clock < e.clock → Until p clock t.sent → Until p e.clock (send_by b t (event p e)).sent
  until_more p clock e t false rises until = record { holds = λ at to found. let l = until.holds at to found in omega (arith, l, rises) }
  until_more p clock e t true rises until = record {
    holds = λ at to found. by_key at to ((p == p) && (e.clock == at)) refl (sym (finds t.sent p e.clock e.call.a0 p at) ∙ found);
  }
    where
      by_key : (at to : ℕ) (b : Bool) → ((p == p) && (e.clock == at)) ≡ b → cond b (Some e.call.a0) (map.get t.sent (p, at)) ≡ Some to → at ≤ e.clock
      by_key at to true test found = grind (arith, nat_tests)
      by_key at to false test found = let l = until.holds at to found in omega (arith, l, rises)

  until_event : (p clock : ℕ) (e : Entry) (t : GroupTallying) → clock < e.clock → Until p clock t.sent → Until p e.clock (with_accepted t (event p e)).sent
  until_event p clock e t rises until = subst (Until p e.clock) (sym (adds t (event p e)).sent) (until_more p clock e t (is_send t.count (event p e)) rises until)

  is_new : (p clock : ℕ) (e : Entry) (t : GroupTallying) → clock < e.clock → Until p clock t.sent → IsNewSend t (event p e)
  is_new p clock e t rises until = by_found (map.get t.sent (p, e.clock)) refl
    where
      by_found : (o : Option ℕ) → map.get t.sent (p, e.clock) ≡ o → o ≡ None
      by_found None found = refl
      by_found (Some to) found = let l = until.holds e.clock to found in absurd (omega (arith, l, rises))

  are_new : Rises → IsKeptByEvents → (es : List Entry) (S : State) (p : ℕ) (t : GroupTallying) → StateFits S → Until p S.clock t.sent → AreNewEvents t (of_process p (take (accepted S es) es))
  are_new rises kept [] S p t fits until = tt
  are_new rises kept (e ∷ es) S p t fits until = by_reason (are_new rises kept es (next S e) p (with_accepted t (event p e))) (reason S e) refl
    where
      by_reason : (StateFits (next S e) → Until p (next S e).clock (with_accepted t (event p e)).sent → AreNewEvents (with_accepted t (event p e)) (of_process p (take (accepted (next S e) es) es)))
          → (o : Option Divergence) → reason S e ≡ o → AreNewEvents t (of_process p (take (reach_with_entry o (reach_of_entries (next S e) es)).accepted (e ∷ es)))
      by_reason rest None legal =
          let r = rises S e fits legal in
          let later : S.clock < e.clock = omega (arith, r.last, r.told) in (
            is_new p S.clock e t later until,
            rest (kept S e fits legal) (subst (λ (n : ℕ). Until p n (with_accepted t (event p e)).sent) (sym r.told) (until_event p S.clock e t later until)),
          )
      by_reason rest (Some why) differs = tt

  -- ---- the sends of one process leave those of another

  until_clear : (p clock : ℕ) (sent : SendReceivers) → Clear p sent → Until p clock sent
  until_clear p clock sent clear = record { holds = λ at to found. absurd (clear.holds at to found) }

  clear_nothing : (p : ℕ) → Clear p map.empty
  clear_nothing p = record { holds = λ at to found. let none = map.get-empty {X = ℕ} by_sender (p, at) in cc }

  clear_more : (p q : ℕ) (e : Entry) (t : GroupTallying) (b : Bool) → p < q → Clear q t.sent → Clear q (send_by b t (event p e)).sent
  clear_more p q e t false above clear = clear
  clear_more p q e t true above clear = record {
    holds = λ at to found. by_key at to ((p == q) && (e.clock == at)) refl (sym (finds t.sent p e.clock e.call.a0 q at) ∙ found);
  }
    where
      by_key : (at to : ℕ) (b : Bool) → ((p == q) && (e.clock == at)) ≡ b → cond b (Some e.call.a0) (map.get t.sent (q, at)) ≡ Some to → ⊥
      by_key at to true test found = grind (arith, nat_tests)
      by_key at to false test found = clear.holds at to found

  clear_events : (es : List Entry) (p q : ℕ) (t : GroupTallying) → p < q → Clear q t.sent → Clear q (with_all_accepted t (of_process p es)).sent
  clear_events [] p q t above clear = clear
  clear_events (e ∷ es) p q t above clear =
      clear_events es p q (with_accepted t (event p e)) above
      (subst (Clear q) (sym (adds t (event p e)).sent) (clear_more p q e t (is_send t.count (event p e)) above clear))

  -- ---- event behind event

  all_clear : (rs : List Replaying) (r : Replaying) (t : GroupTallying) → AllByRecursion (λ s. r.head.process < s.head.process) rs → AreClear rs t.sent → AreClear rs (with_all_accepted t (accepted_in r)).sent
  all_clear [] r t above clear = tt
  all_clear (s ∷ rs) r t above clear = (clear_events (entries_ahead r) r.head.process s.head.process t above.0 clear.0, all_clear rs r t above.1 clear.1)

  none_clear : (rs : List Replaying) → AreClear rs map.empty
  none_clear [] = tt
  none_clear (r ∷ rs) = (clear_nothing r.head.process, none_clear rs)

  join_new : (xs ys : List AcceptedEvent) (t : GroupTallying) → AreNewEvents t xs → AreNewEvents (with_all_accepted t xs) ys → AreNewEvents t (xs ++ ys)
  join_new [] ys t new more = more
  join_new (a ∷ xs) ys t new more = (new.0, join_new xs ys (with_accepted t a) new.1 more)

  logs_new : Rises → IsKeptByEvents → (rs : List Replaying) (t : GroupTallying) → AscendsByProcess rs → AllByRecursion (λ r. StateFits r.state) rs → AreClear rs t.sent → AreNewEvents t (all_accepted_events rs)
  logs_new rises kept [] t ascends fits clear = tt
  logs_new rises kept (r ∷ rs) t ascends fits clear =
      let p = r.head.process in
      join_new (accepted_in r) (all_accepted_events rs) t
      (are_new rises kept (entries_of r.left) r.state p t fits.0 (until_clear p r.state.clock t.sent clear.0))
      (logs_new rises kept rs (with_all_accepted t (accepted_in r)) ascends.1 fits.1 (all_clear rs r t ascends.0 clear.1))

  -- the events of logs in order of their processes' numbers are new where they come
  pub all_new : Rises → IsKeptByEvents → (count : ℕ) (rs : List Replaying) → AscendsByProcess rs → AllByRecursion (λ r. StateFits r.state) rs → AreNewEvents (nothing_tallied count) (all_accepted_events rs)
  all_new rises kept count rs ascends fits = logs_new rises kept rs (nothing_tallied count) ascends fits (none_clear rs)

-- fewer events than can be counted have room
pub has_room : (es : List AcceptedEvent) (t : GroupTallying) → t.sends + length es < 2 ^ 64 → t.untagged + length es < 2 ^ 64 → HasTallyRoomFor t es
has_room [] t sends untagged = tt
has_room (a ∷ es) t sends untagged =
    let few = few_more t a in (
      record { sends = omega (arith, sends); untagged = omega (arith, untagged) },
      has_room es (with_accepted t a) (omega (arith, sends, few.0)) (omega (arith, untagged, few.1)),
    )

-- ---- the first of the events

pub first_new : (xs ys : List AcceptedEvent) (t : GroupTallying) → AreNewEvents t (xs ++ ys) → AreNewEvents t xs × AreNewEvents (with_all_accepted t xs) ys
first_new [] ys t new = (tt, new)
first_new (a ∷ xs) ys t new = let more = first_new xs ys (with_accepted t a) new.1 in ((new.0, more.0), more.1)

pub first_room : (xs ys : List AcceptedEvent) (t : GroupTallying) → HasTallyRoomFor t (xs ++ ys) → HasTallyRoomFor t xs × HasTallyRoomFor (with_all_accepted t xs) ys
first_room [] ys t room = (tt, room)
first_room (a ∷ xs) ys t room = let more = first_room xs ys (with_accepted t a) room.1 in ((room.0, more.0), more.1)

pub first_counted : (xs ys : List AcceptedEvent) (t : GroupTallying) → with_all_accepted t (xs ++ ys) ≡ with_all_accepted (with_all_accepted t xs) ys
first_counted [] ys t = refl
first_counted (a ∷ xs) ys t = first_counted xs ys (with_accepted t a)
