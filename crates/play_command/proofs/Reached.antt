-- A group that goes on by one thing after the other: what is so far and what the rest gives is what the whole gives.
use Rattle.std.proofs.Common.{◌≡◌, ◌∙◌, ℕ, Bool, true, false, List, length, Option, Some, None, refl, ap, sym, subst}
use Rattle.std.proofs.Math.Logic.{∥∥₁_elim, ∥∥₁_map}
use Rattle.std.specs.Coded.{coded_ℕ}
use Rattle.std.specs.Prelude.{is_some}
use base.Stored.{Coded-set}
use Rattle.group_record.specs.Live.{IsLiveAfter, LiveParts}
use Rattle.schedule_text.specs.declared.item.Item.{Item}
use Rattle.group_record.specs.Run.{GroupStart, RunProgress, after_item}
use Rattle.play_command.specs.declared.told.Told.{Told}
use Rattle.play_command.specs.inside.Playing.{GoesOnBy, IsUnderWay, StandsInRun, StopsAtItem, WentOn}
use Rattle.play_command.proofs.Attempts.{WentOnTo}
use Rattle.play_command.proofs.GoingOn.{goes_further}
use Rattle.play_command.proofs.ItemsDone.{full_here, item_at}
use Rattle.play_command.proofs.SeenNodes.{whole_run}

-- a progress was reached, no log is full, and from there the rest gives the whole
pub record Reached (group : GroupStart) (before whole : RunProgress) (rest : RunProgress → RunProgress) (live : LiveParts) (old new : Told) : Type 0 where
  pub middle : RunProgress
  pub went : WentOn group before middle live old new
  pub room : middle.full ≡ None
  pub leads : rest middle ≡ whole

-- so it is wherever the group stood
abbrev pub ReachedFrom : List (List ℕ) → (GroupStart → RunProgress → RunProgress) → (GroupStart → RunProgress → RunProgress) → LiveParts → Told → LiveParts → Told → Type 0
ReachedFrom names whole rest live told live_now told_now =
    (group : GroupStart) (before : RunProgress) → group.names ≡ names → before.full ≡ None → IsLiveAfter group before.steps live
    → Reached group before (whole group before) (rest group) live_now told told_now

pub none_of : (o : Option ℕ) → is_some o ≡ false → o ≡ None
none_of None room = refl
none_of (Some n) room = cc

-- the processes of a group that stands in a run are there
pub is_under_way : (names : List (List ℕ)) (live : LiveParts) → ∥ StandsInRun names live ∥₁ → IsUnderWay names live
is_under_way names live somewhere = record {
  somewhere = somewhere;
  count = ∥∥₁_elim somewhere (Coded-set coded_ℕ _ _) (λ (r : StandsInRun names live). r.stands.count ∙ ap (λ (names : List (List ℕ)). length names) r.named);
  whole = ∥∥₁_elim somewhere (Coded-set coded_ℕ _ _) (λ (r : StandsInRun names live). whole_run r.group r.steps live r.stands ∙ ap (λ (names : List (List ℕ)). length names) r.named);
}

-- a group with these names stays under way
stands_on : (names : List (List ℕ)) (next : GroupStart → RunProgress → RunProgress) (live live_after : LiveParts) (told told_after : Told) (full : Bool) → GoesOnBy names next live told live_after told_after full
    → StandsInRun names live → StandsInRun names live_after
stands_on names next live live_after told told_after full goes r =
    let before : RunProgress = record { steps = r.steps; idle = 0; full = None } in
    record { group = r.group; steps = (next r.group before).steps; stands = (goes r.group before r.named refl r.stands).0.stands; named = r.named }

pub still_under_way : (names : List (List ℕ)) (next : GroupStart → RunProgress → RunProgress) (live live_after : LiveParts) (told told_after : Told) (full : Bool) → IsUnderWay names live
    → GoesOnBy names next live told live_after told_after full → IsUnderWay names live_after
still_under_way names next live live_after told told_after full u goes =
    let somewhere : ∥ StandsInRun names live_after ∥₁ = ∥∥₁_map u.somewhere (stands_on names next live live_after told told_after full goes) in
    is_under_way names live_after somewhere

-- one thing more, after which no log is full
pub reached_next : (names : List (List ℕ)) (whole rest less next : GroupStart → RunProgress → RunProgress) (first now live : LiveParts) (t u v : Told)
    → ReachedFrom names whole rest first t now u → GoesOnBy names next now u live v false → ((group : GroupStart) (done : RunProgress) → rest group done ≡ less group (next group done)) → ReachedFrom names whole less first t live v
reached_next names whole rest less next first now live t u v reached goes one group before named room stands =
    let r = reached group before named room stands in
    let g = goes group r.middle named r.room r.went.stands in
    record {
      middle = next group r.middle;
      went = goes_further group before r.middle (next group r.middle) now live t u v r.went g.0;
      room = none_of (next group r.middle).full g.1;
      leads = sym (one group r.middle) ∙ r.leads;
    }

-- one thing more, at which a log is full, so that nothing follows
pub reached_full : (names : List (List ℕ)) (whole rest next : GroupStart → RunProgress → RunProgress) (first now live : LiveParts) (t u v : Told)
    → ReachedFrom names whole rest first t now u → GoesOnBy names next now u live v true → ((group : GroupStart) (done : RunProgress) → is_some (next group done).full ≡ true → rest group done ≡ next group done) → GoesOnBy names whole first t live v true
reached_full names whole rest next first now live t u v reached goes stop group before named room stands =
    let r = reached group before named room stands in
    let g = goes group r.middle named r.room r.went.stands in
    subst (WentOnTo group before live t v true) (sym (stop group r.middle g.1) ∙ r.leads)
    (goes_further group before r.middle (next group r.middle) now live t u v r.went g.0, g.1)

-- nothing is left
pub reached_all : (names : List (List ℕ)) (whole rest : GroupStart → RunProgress → RunProgress) (first live : LiveParts) (t u : Told)
    → ReachedFrom names whole rest first t live u → ((group : GroupStart) (done : RunProgress) → rest group done ≡ done) → GoesOnBy names whole first t live u false
reached_all names whole rest first live t u reached none group before named room stands =
    let r = reached group before named room stands in
    subst (WentOnTo group before live t u false) (sym (none group r.middle) ∙ r.leads) (r.went, ap (λ (o : Option ℕ). is_some o) r.room)

-- one item more, at which a log is full
pub reached_item : (names : List (List ℕ)) (whole rest : GroupStart → RunProgress → RunProgress) (number : ℕ) (i : Item) (first now live : LiveParts) (t u v : Told)
    → ReachedFrom names whole rest first t now u → GoesOnBy names (λ group. after_item group number i) now u live v true
    → ((group : GroupStart) (done : RunProgress) → is_some (after_item group number i done).full ≡ true → rest group done ≡ after_item group number i done) → StopsAtItem names whole first t live v (Some number)
reached_item names whole rest number i first now live t u v reached goes stop group before named room stands =
    let r = reached group before named room stands in
    let g = goes group r.middle named r.room r.went.stands in
    subst (λ (after : RunProgress). WentOn group before after live t v × (after.full ≡ Some number)) (sym (stop group r.middle g.1) ∙ r.leads)
    (goes_further group before r.middle (after_item group number i r.middle) now live t u v r.went g.0, full_here number (after_item group number i r.middle).full (item_at group number i r.middle r.room) g.1)

-- no item is left
pub reached_end : (names : List (List ℕ)) (whole rest : GroupStart → RunProgress → RunProgress) (first live : LiveParts) (t u : Told)
    → ReachedFrom names whole rest first t live u → ((group : GroupStart) (done : RunProgress) → rest group done ≡ done) → StopsAtItem names whole first t live u None
reached_end names whole rest first live t u reached none group before named room stands =
    let r = reached group before named room stands in
    subst (λ (after : RunProgress). WentOn group before after live t u × (after.full ≡ None)) (sym (none group r.middle) ∙ r.leads) (r.went, r.room)
