-- The clocks of what is ahead of a replay rise, each above that of the tag that its event took.
use Rattle.std.proofs.Common.{◌≡◌, ◌<◌, ℕ, zero, suc, List, [], ◌∷◌, take, drop, Option, Some, None, refl, arith}
use Rattle.std.specs.List.{AllByRecursion}
use Rattle.call_log.specs.Log.{entries_of}
use Rattle.lamport_tag.specs.Tag.{clock_of as tag_clock}
use Rattle.lib_calls.specs.declared.entry.Entry.{Entry}
use Rattle.guest_process.specs.declared.divergence.Divergence.{Divergence}
use Rattle.guest_process.specs.Fits.{StateFits}
use Rattle.guest_process.specs.Legal.{reason}
use Rattle.guest_process.specs.Next.{next}
use Rattle.guest_process.specs.OneEvent.{IsKeptByEvents, Rises as AreRising}
use Rattle.guest_process.specs.Replay.{accepted, reach_of_entries, reach_with_entry}
use Rattle.guest_process.specs.State.{State}
use Rattle.group_order.specs.Order.{ClocksRise}
use Rattle.proc_replay.specs.Course.{entries_ahead}
use Rattle.proc_replay.specs.Replaying.{Replaying}
use Rattle.group_state.specs.Place.{entry_clock}

all_so : {X : Type 0} (P Q : X → Type 0) (xs : List X) → ((x : X) → P x → Q x) → AllByRecursion P xs → AllByRecursion Q xs
all_so P Q [] so all = tt
all_so P Q (x ∷ xs) so all = (so x all.0, all_so P Q xs so all.1)

abbrev pub IsAboveTag : Entry → Type 0
IsAboveTag e = tag_clock e.tag < e.clock

-- these entries come after this clock, one after the other
pub record Climbs (floor : ℕ) (es : List Entry) : Type 0 where
  pub above : AllByRecursion (λ e. floor < e.clock) es
  pub tags : AllByRecursion IsAboveTag es
  pub rises : ClocksRise entry_clock es

module _ (rising : AreRising) (kept : IsKeptByEvents) where
  climbs_by : (S : State) (e : Entry) (es : List Entry) → StateFits S → (StateFits (next S e) → Climbs (next S e).clock (take (accepted (next S e) es) es))
      → (o : Option Divergence) → reason S e ≡ o → Climbs S.clock (take (reach_with_entry o (reach_of_entries (next S e) es)).accepted (e ∷ es))
  climbs_by S e es fits more None legal =
      let to = rising S e fits legal in
      let left = more (kept S e fits legal) in
      record {
        above = (omega (arith, to.told, to.last), all_so _ (λ (f : Entry). S.clock < f.clock) _ (λ f l. omega (arith, l, to.last)) left.above);
        tags = (omega (arith, to.told, to.tag), left.tags);
        rises = (all_so _ (λ (f : Entry). e.clock < f.clock) _ (λ f l. omega (arith, l, to.told)) left.above, left.rises);
      }
  climbs_by S e es fits more (Some why) differs = record { above = tt; tags = tt; rises = tt }

  climbs : (es : List Entry) (S : State) → StateFits S → Climbs S.clock (take (accepted S es) es)
  climbs [] S fits = record { above = tt; tags = tt; rises = tt }
  climbs (e ∷ es) S fits = climbs_by S e es fits (climbs es (next S e)) (reason S e) refl

  pub ahead_rises : (r : Replaying) → StateFits r.state → ClocksRise entry_clock (entries_ahead r)
  ahead_rises r fits = (climbs (entries_of r.left) r.state fits).rises

  pub ahead_tags : (r : Replaying) → StateFits r.state → AllByRecursion IsAboveTag (entries_ahead r)
  ahead_tags r fits = (climbs (entries_of r.left) r.state fits).tags

pub rises_drop : (n : ℕ) (es : List Entry) → ClocksRise entry_clock es → ClocksRise entry_clock (drop n es)
rises_drop zero es rises = rises
rises_drop (suc n) [] rises = tt
rises_drop (suc n) (e ∷ es) rises = rises_drop n es rises.1
