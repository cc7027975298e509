-- The walk over all events of a group, one further event at a time.
use Rattle.std.proofs.Common.{◌≡◌, ◌∙◌, ◌<◌, ◌≤◌, ◌+◌, ℕ, zero, suc, List, [], ◌∷◌, ◌++◌, Option, Some, None, length, take, ap, arith, refl, subst, sym}
use Rattle.std.specs.Prelude.{slice_get}
use Rattle.std.specs.List.{AllByRecursion}
use Rattle.std.proofs.Math.Seq.{take-length}
use Rattle.std.proofs.lemmas.List.Elements.{All-from_recursion, recursion_from_All}
use Rattle.std.proofs.lemmas.Option.{slice_get_within}
use Rattle.fri_bytes.specs.Laws.{AreBytes}
use Rattle.lib_calls.specs.declared.entry.Entry.{Entry}
use Rattle.group_order.specs.Order.{NodeEvent}
use Rattle.proc_replay.specs.Replaying.{Replaying}
use Rattle.group_state.specs.declared.event.GroupEvent.{GroupEvent}
use Rattle.group_state.specs.Moves.{GroupMoves, event_of}
use Rattle.group_state.specs.Place.{GroupPlace, events_of_replays}
use Rattle.schedule_text.specs.declared.process.ProcessLine.{ProcessLine}
use Rattle.schedule_back.specs.Meanings.{IncomingAreBytes}
use Rattle.schedule_back.specs.inside.Draft.{IsDraft}
use Rattle.schedule_back.proofs.NodeFronts.{take_more}

-- ---- the first events, and one more

past : {X : Type 0} (xs : List X) (n : ℕ) → None ≡ slice_get xs n → length xs ≤ n
past [] n none = omega arith
past (x ∷ xs) zero none = cc
past (x ∷ xs) (suc n) none = let rest = past xs n none in omega (arith, rest)

all_push : {X : Type 0} (P : X → Type 0) (xs : List X) (x : X) → AllByRecursion P xs → P x → AllByRecursion P (xs ++ x ∷ [])
all_push P [] x all one = (one, tt)
all_push P (y ∷ xs) x all one = (all.0, all_push P xs x all.1 one)

abbrev Brings : NodeEvent Entry → Type 0
Brings e = AreBytes e.entry.incoming

bytes_more : (es : List (NodeEvent Entry)) (e : NodeEvent Entry) → IncomingAreBytes es → AreBytes e.entry.incoming → IncomingAreBytes (es ++ e ∷ [])
bytes_more es e all one = All-from_recursion Brings (es ++ e ∷ []) (all_push Brings es e (recursion_from_All Brings es all) one)

-- ---- the walk

-- the walk has reached a position, and this is the draft up to there
pub record WalkedTo (first here : GroupPlace) (begun longer : Option (List ℕ)) : Type 0 where
  pub start : here.start ≡ first.start
  pub within : here.at ≤ length (events_of_replays first.start)
  pub draft : (lines : List ProcessLine) → IsDraft lines [] begun → IsDraft lines (take here.at (events_of_replays first.start)) longer
  pub bytes : IncomingAreBytes (take here.at (events_of_replays first.start))

no_bytes : IncomingAreBytes []
no_bytes k d below = absurd (omega (arith, below))

pub none_walked : (first : GroupPlace) (begun : Option (List ℕ)) → first.at ≡ 0 → WalkedTo first first begun begun
none_walked first begun none =
    let same : take first.at (events_of_replays first.start) ≡ [] = ap (λ (n : ℕ). take n (events_of_replays first.start)) none in
    record {
      start = refl;
      within = omega (arith, none);
      draft = λ lines is. subst (λ (es : List (NodeEvent Entry)). IsDraft lines es begun) (sym same) is;
      bytes = subst IncomingAreBytes (sym same) no_bytes;
    }

-- at one position more
pub one_walked : (first old new : GroupPlace) (event : GroupEvent) (begun longer next : Option (List ℕ)) → WalkedTo first old begun longer → GroupMoves old new (Some event)
    → ((lines : List ProcessLine) (es : List (NodeEvent Entry)) → IsDraft lines es longer → IsDraft lines (es ++ event_of event ∷ []) next) → AreBytes (event_of event).entry.incoming
    → WalkedTo first new begun next × (old.at < length (events_of_replays first.start)) × (new.at ≡ suc old.at)
one_walked first old new event begun longer next so_far moves adds are =
    let one : old.at + 1 ≡ suc old.at = omega arith in
    let same : events_of_replays old.start ≡ events_of_replays first.start = ap (λ (s : List Replaying). events_of_replays s) so_far.start in
    let at : new.at ≡ suc old.at = ap (λ (p : GroupPlace). p.at) moves.place ∙ one in
    let given : slice_get (events_of_replays first.start) old.at ≡ Some (event_of event) = ap (λ (es : List (NodeEvent Entry)). slice_get es old.at) (sym same) ∙ sym moves.gives in
    let more : take old.at (events_of_replays first.start) ++ event_of event ∷ [] ≡ take new.at (events_of_replays first.start) =
    sym (take_more (events_of_replays first.start) old.at (event_of event) given) ∙ ap (λ (n : ℕ). take n (events_of_replays first.start)) (sym at) in
    let below = slice_get_within (events_of_replays first.start) old.at (event_of event) given in (
      record {
        start = ap (λ (p : GroupPlace). p.start) moves.place ∙ so_far.start;
        within = omega (arith, below, at);
        draft = λ lines is.
            subst (λ (es : List (NodeEvent Entry)). IsDraft lines es next) more (adds lines (take old.at (events_of_replays first.start)) (so_far.draft lines is));
        bytes = subst IncomingAreBytes more (bytes_more (take old.at (events_of_replays first.start)) (event_of event) so_far.bytes are);
      },
      below,
      at,
    )

-- all events were walked
pub record WalkedAll (first here : GroupPlace) (begun longer : Option (List ℕ)) : Type 0 where
  pub start : here.start ≡ first.start
  pub end : here.at ≡ length (events_of_replays first.start)
  pub draft : (lines : List ProcessLine) → IsDraft lines [] begun → IsDraft lines (events_of_replays first.start) longer
  pub bytes : IncomingAreBytes (events_of_replays first.start)

-- there is no event more
pub all_walked : (first old new : GroupPlace) (begun longer : Option (List ℕ)) → WalkedTo first old begun longer → GroupMoves old new None → WalkedAll first new begun longer
all_walked first old new begun longer so_far moves =
    let es = events_of_replays first.start in
    let same : events_of_replays old.start ≡ es = ap (λ (s : List Replaying). events_of_replays s) so_far.start in
    let none : None ≡ slice_get es old.at = moves.gives ∙ ap (λ (es : List (NodeEvent Entry)). slice_get es old.at) same in
    let end : old.at ≡ length es = omega (arith, so_far.within, past es old.at none) in
    let whole : take old.at es ≡ es = ap (λ (n : ℕ). take n es) end ∙ take-length es in
    record {
      start = ap (λ (p : GroupPlace). p.start) moves.place ∙ so_far.start;
      end = ap (λ (p : GroupPlace). p.at) moves.place ∙ end;
      draft = λ lines is. subst (λ (es : List (NodeEvent Entry)). IsDraft lines es longer) whole (so_far.draft lines is);
      bytes = subst IncomingAreBytes whole so_far.bytes;
    }
