-- A walk over the positions of a group, one further position at a time.
use Rattle.std.proofs.Common.{◌≡◌, ◌∙◌, ◌<◌, ◌≤◌, ◌+◌, ℕ, zero, suc, true, false, cond, not, List, [], ◌∷◌, ◌++◌, Option, Some, None, length, ap, arith, sym}
use Rattle.std.specs.Prelude.{count_by, is_some, slice_get, sum_by, ℤ}
use Rattle.std.specs.List.{range_with_len}
use Rattle.std.proofs.lemmas.List.Sums.{count_by-le-length, sum_by-append}
use Rattle.std.proofs.lemmas.Option.{slice_get_within}
use Rattle.std.proofs.lemmas.List.FromFn.{length-range_with_len}
use Rattle.proc_replay.specs.Replaying.{Replaying}
use Rattle.group_state.specs.declared.event.GroupEvent.{GroupEvent}
use Rattle.group_state.specs.Moves.{GroupMoves, event_of}
use Rattle.group_state.specs.Place.{GroupPlace, events_of_replays}
use Rattle.page_watch.specs.Firing.{is_same_value}
use Rattle.shell_points.specs.Firing.{watchpoint_fires, place_at, value_at_position}
use Rattle.drill_command.specs.Drill.{drill_watch}
use Rattle.drill_command.specs.inside.Results.{IsWatchedDrill}

-- how often the watchpoint fires up to a position
abbrev pub fired_by : List Replaying → ℕ → ℕ
fired_by start at = count_by (watchpoint_fires start drill_watch) (range_with_len 1 at)

pub fired_within : (start : List Replaying) (at : ℕ) → fired_by start at ≤ at
fired_within start at = omega (arith, count_by-le-length (watchpoint_fires start drill_watch) (range_with_len 1 at), length-range_with_len 1 at)

one_more : (first n : ℕ) → range_with_len first (suc n) ≡ range_with_len first n ++ (first + n) ∷ []
one_more first zero = let same : first ≡ first + 0 = omega arith in ap (λ k. k ∷ []) same
one_more first (suc n) =
    let same : (first + 1) + n ≡ first + suc n = omega arith in
    ap (λ hs. first ∷ hs) (one_more (first + 1) n ∙ ap (λ k. range_with_len (first + 1) n ++ k ∷ []) same)

abbrev once : List Replaying → ℕ → ℕ
once start k = cond (watchpoint_fires start drill_watch k) 1 0

-- at the next position it fires where the value is another
pub fired_more : (start : List Replaying) (at : ℕ) → fired_by start (suc at) ≡ fired_by start at + once start (suc at)
fired_more start at =
    let last : 1 + at ≡ suc at = omega arith in
    let alone : sum_by (once start) ((1 + at) ∷ []) ≡ once start (1 + at) = plus-zero (once start (1 + at)) in
    ap (sum_by (once start)) (one_more 1 at) ∙ sum_by-append (once start) (range_with_len 1 at) ((1 + at) ∷ [])
    ∙ ap (λ n. sum_by (once start) (range_with_len 1 at) + n) (alone ∙ ap (once start) last)
  where
    plus-zero : (n : ℕ) → 0 + n ≡ n
    plus-zero n = omega arith

-- ---- one event

past : {X : Type 0} (xs : List X) (n : ℕ) → None ≡ slice_get xs n → length xs ≤ n
past [] n none = omega arith
past (x ∷ xs) zero none = cc
past (x ∷ xs) (suc n) none = let rest = past xs n none in omega (arith, rest)

pub moves_on : (old new : GroupPlace) (event : Option GroupEvent) → is_some event ≡ true → GroupMoves old new event
    → (new ≡ place_at old.start (suc old.at)) × (old.at < length (events_of_replays old.start))
moves_on old new None some moves = absurd cc
moves_on old new (Some e) some moves =
    let one : old.at + 1 ≡ suc old.at = omega arith in
    (moves.place ∙ ap (place_at old.start) one, slice_get_within (events_of_replays old.start) old.at (event_of e) (sym moves.gives))

-- there is no event more
pub stays : (old new : GroupPlace) (event : Option GroupEvent) → is_some event ≡ false → GroupMoves old new event → (new ≡ old) × (length (events_of_replays old.start) ≤ old.at)
stays old new None none moves = (moves.place, past (events_of_replays old.start) old.at moves.gives)
stays old new (Some e) none moves = absurd cc

-- the walk has reached a position, and this was seen up to there
pub record WalkedTo (first here : GroupPlace) (firings : ℕ) (last : Option ℤ) : Type 0 where
  pub start : here.start ≡ first.start
  pub within : here.at ≤ length (events_of_replays first.start)
  pub fired : firings ≡ fired_by first.start here.at
  pub value : last ≡ value_at_position first.start drill_watch here.at

-- at the end all of it was seen
pub all_watched : (first old new : GroupPlace) (event : Option GroupEvent) (walked firings : ℕ) (last : Option ℤ) → WalkedTo first old firings last → GroupMoves old new event
    → is_some event ≡ false → walked ≡ new.at → IsWatchedDrill first.start (record { events = walked; firings = firings; last = last })
all_watched first old new event walked firings last so_far moves none at =
    let stay = stays old new event none moves in
    let same : length (events_of_replays old.start) ≡ length (events_of_replays first.start) = ap (λ (s : List Replaying). length (events_of_replays s)) so_far.start in
    let end : old.at ≡ length (events_of_replays first.start) = omega (arith, so_far.within, stay.1, same) in
    record {
      walked = at ∙ ap (λ (p : GroupPlace). p.at) stay.0 ∙ end;
      firings = so_far.fired ∙ ap (fired_by first.start) end;
      last = so_far.value ∙ ap (value_at_position first.start drill_watch) end;
    }

-- at one position more
pub one_walked : (first old new : GroupPlace) (event : Option GroupEvent) (firings next : ℕ) (last now : Option ℤ) → WalkedTo first old firings last → GroupMoves old new event
    → is_some event ≡ true → now ≡ value_at_position new.start drill_watch new.at → next ≡ firings + cond (not (is_same_value last now)) 1 0 → WalkedTo first new next now
one_walked first old new event firings next last now so_far moves some is counted =
    let went = moves_on old new event some moves in
    let here : new ≡ place_at first.start (suc old.at) = went.0 ∙ ap (λ (s : List Replaying). place_at s (suc old.at)) so_far.start in
    let start : new.start ≡ first.start = ap (λ (p : GroupPlace). p.start) here in
    let at : new.at ≡ suc old.at = ap (λ (p : GroupPlace). p.at) here in
    let same : length (events_of_replays old.start) ≡ length (events_of_replays first.start) = ap (λ (s : List Replaying). length (events_of_replays s)) so_far.start in
    let value : now ≡ value_at_position first.start drill_watch (suc old.at) = is ∙ ap (λ (p : GroupPlace). value_at_position p.start drill_watch p.at) here in
    let fires_here : cond (not (is_same_value last now)) 1 0 ≡ once first.start (suc old.at) =
    ap (λ (v : Option ℤ). cond (not (is_same_value v now)) 1 0) so_far.value ∙ ap (λ (v : Option ℤ). cond (not (is_same_value (value_at_position first.start drill_watch old.at) v)) 1 0) value in
    record {
      start = start;
      within = omega (arith, went.1, same, at);
      fired = counted ∙ ap (λ (n : ℕ). n + cond (not (is_same_value last now)) 1 0) so_far.fired ∙ ap (λ (n : ℕ). fired_by first.start old.at + n) fires_here
          ∙ sym (fired_more first.start old.at) ∙ ap (fired_by first.start) (sym at);
      value = value ∙ ap (value_at_position first.start drill_watch) (sym at);
    }
