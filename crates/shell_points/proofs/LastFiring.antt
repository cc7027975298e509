-- What points say that fire at a position, and where they fire last.
use Rattle.std.proofs.Common.{◌≡◌, ℕ, zero, suc, ◌+◌, ◌-◌, ◌<◌, ◌≤◌, Bool, true, false, ◌||◌, ◌&&◌, cond, drop, List, [], ◌∷◌, ◌++◌, length, get_or, map, Option, Some, refl, sym, ap, ◌∙◌, append_assoc, arith}
use Rattle.std.specs.Prelude.{codes}
use Rattle.std.proofs.Math.Bool.{or_assoc}
use Rattle.std.proofs.lemmas.List.{drop_more}
use Rattle.group_state.specs.declared.event.GroupEvent.{GroupEvent}
use Rattle.group_state.specs.Moves.{IsAtPosition, GroupMoves}
use Rattle.group_state.specs.Place.{GroupPlace, events_of_replays}
use Rattle.proc_replay.specs.Replaying.{Replaying}
use Rattle.shell_points.specs.declared.point.Point.{Point as Held}
use Rattle.shell_points.specs.declared.back.Said.{Said}
use Rattle.shell_points.specs.Firing.{firing_line, firing_lines, has_due_point, is_due_point, place_at, point_said_at}
use Rattle.shell_points.specs.Points.{Point}
use Rattle.shell_points.specs.Returning.{Return, has_stopping_point, is_stopping_point, last_due, may_stop, return_from, return_to}
use Rattle.shell_points.specs.Meanings.{PointsReturn}
use Rattle.shell_points.specs.inside.Meanings.{point}
use Rattle.shell_points.specs.inside.Reading.{SaysAt}
use Rattle.shell_points.proofs.PointWalks.{moves_on, place_is}

-- ---- at one position

-- one point more has said its line
pub said_more : (start : List Replaying) (at n : ℕ) (points : List Held) (p : Held) (text next whole line : List ℕ) → n < length points → get_or points n p ≡ p
    → next ≡ text ++ line → line ≡ point_said_at start at (point p) → text ++ firing_lines start (map {A = Held} point (drop n points)) at ≡ whole
    → next ++ firing_lines start (map {A = Held} point (drop (n + 1) points)) at ≡ whole
said_more start at n points p text next whole line within here pushed is so_far =
    let rest = firing_lines start (map {A = Held} point (drop (n + 1) points)) at in
    ap (λ (t : List ℕ). t ++ rest) pushed ∙ append_assoc text line rest ∙ ap (λ (l : List ℕ). text ++ (l ++ rest)) is
    ∙ ap (λ (q : Held). text ++ (point_said_at start at (point q) ++ rest)) (sym here)
    ∙ ap (λ (ps : List Held). text ++ firing_lines start (map {A = Held} point ps) at) (sym (drop_more points n p within)) ∙ so_far

-- whether one of them may stop
pub stopping_more : (start : List Replaying) (at n : ℕ) (points : List Held) (p : Held) (old next whole stops : Bool) → n < length points → get_or points n p ≡ p
    → next ≡ (old || stops) → stops ≡ is_stopping_point start at (point p) → (old || has_stopping_point start (map {A = Held} point (drop n points)) at) ≡ whole
    → (next || has_stopping_point start (map {A = Held} point (drop (n + 1) points)) at) ≡ whole
stopping_more start at n points p old next whole stops within here is may so_far =
    let rest = has_stopping_point start (map {A = Held} point (drop (n + 1) points)) at in
    ap (λ (b : Bool). b || rest) is ∙ or_assoc old stops rest ∙ ap (λ (b : Bool). old || (b || rest)) may
    ∙ ap (λ (q : Held). old || (is_stopping_point start at (point q) || rest)) (sym here)
    ∙ ap (λ (ps : List Held). old || has_stopping_point start (map {A = Held} point ps) at) (sym (drop_more points n p within)) ∙ so_far

pub or-false : (a b : Bool) → (a || b) ≡ false → (a ≡ false) × (b ≡ false)
or-false true b h = absurd cc
or-false false b h = (refl, h)

-- where none fires, nothing is said
pub nothing_said : (start : List Replaying) (k : ℕ) (ps : List Point) → has_due_point start ps k ≡ false → firing_lines start ps k ≡ []
nothing_said start k [] none = refl
nothing_said start k (p ∷ ps) none =
    let both = or-false (is_due_point start k p) (has_due_point start ps k) none in
    ap (λ (b : Bool). cond b (firing_line start k p.number p.trigger) [] ++ firing_lines start ps k) both.0 ∙ nothing_said start k ps both.1

-- and none may stop
pub nothing_stops : (start : List Replaying) (k : ℕ) (ps : List Point) → has_due_point start ps k ≡ false → has_stopping_point start ps k ≡ false
nothing_stops start k [] none = refl
nothing_stops start k (p ∷ ps) none =
    let both = or-false (is_due_point start k p) (has_due_point start ps k) none in
    ap (λ (b : Bool). (b && may_stop p.program) || has_stopping_point start ps k) both.0 ∙ nothing_stops start k ps both.1

pub none_at_start : (start : List Replaying) (ps : List Point) → has_stopping_point start ps 0 ≡ false
none_at_start start [] = refl
none_at_start start (p ∷ ps) = none_at_start start ps

-- ---- from one position to the next

abbrev here_or : List Replaying → List Point → ℕ → Bool → Return
here_or start ps k b = return_to start ps (cond b (Some k) (last_due start ps k))

here_last : (b : Bool) (start : List Replaying) (ps : List Point) (k at : ℕ) (r : Return) (text : List ℕ) → at ≡ k → text ≡ firing_lines start ps k
    → r ≡ return_from (place_at start k) ps → cond b (record { at = at; text = text }) r ≡ here_or start ps k b
here_last true start ps k at r text here is so_far = λ i. record { at = here i; text = is i }
here_last false start ps k at r text here is so_far = so_far

-- where points fire at a position that may stop, or none does, they fired last where is kept
pub later_last : (start : List Replaying) (ps : List Point) (k at : ℕ) (r new : Return) (said : Said) → at ≡ k → SaysAt start k ps said → r ≡ return_from (place_at start k) ps
    → new ≡ cond said.stops (record { at = at; text = said.text }) r → new ≡ return_from (place_at start (suc k)) ps
later_last start ps k at r new said here says so_far gives =
    gives ∙ here_last said.stops start ps k at r said.text here says.text_is so_far ∙ ap (here_or start ps k) says.stops_is

pub begins : (start : List Replaying) (ps : List Point) → record { at = 0; text = codes "start\n" } ≡ return_from (place_at start 1) ps
begins start ps = ap (here_or start ps 0) (sym (none_at_start start ps))

pub begins_so : (start : List Replaying) (ps : List Point) (at : ℕ) (text : List ℕ) → at ≡ 0 → text ≡ codes "start\n" → record { at = 0; text = text } ≡ return_from (place_at start (suc at)) ps
begins_so start ps at text here is = (λ i. record { at = 0; text = is i }) ∙ begins start ps ∙ ap (λ (n : ℕ). return_from (place_at start (suc n)) ps) (sym here)

-- the same, of a group that began there
pub goes_to : (first old new : GroupPlace) (event : Option GroupEvent) (count : ℕ) → old.start ≡ first.start → old.at < count → count ≤ length (events_of_replays first.start) → GroupMoves old new event
    → new ≡ place_at first.start (suc old.at)
goes_to first old new event count same lt le moves =
    moves_on old new event (omega (arith, lt, le, ap (λ (s : List Replaying). length (events_of_replays s)) same)) moves ∙ ap (λ (s : List Replaying). place_at s (suc old.at)) same

pub gone_to : (old new : GroupPlace) (k : ℕ) (went : Bool) → k ≤ length (events_of_replays old.start) → IsAtPosition old k new went → new ≡ place_at old.start k
gone_to old new k went within is = place_is new old.start k is.start (is.at (is.exact.1 within))

-- ---- as a whole

ends_within : (start : List Replaying) (ps : List Point) (n : ℕ) → (return_from (place_at start (suc n)) ps).at ≤ n
ends_within start ps zero = by (has_stopping_point start ps 0)
  where
    by : (b : Bool) → (here_or start ps 0 b).at ≤ 0
    by true = omega arith
    by false = omega arith
ends_within start ps (suc n) = by (has_stopping_point start ps (suc n)) (ends_within start ps n)
  where
    by : (b : Bool) → (return_from (place_at start (suc n)) ps).at ≤ n → (here_or start ps (suc n) b).at ≤ suc n
    by true before = omega arith
    by false before = omega (arith, before)

pub last_within : (start : List Replaying) (ps : List Point) (count all : ℕ) (r : Return) → count ≤ all → r ≡ return_from (place_at start (suc count)) ps → r.at ≤ all
last_within start ps count all r within is = omega (arith, within, ap (λ (w : Return). w.at) is, ends_within start ps count)

-- below position 0 none fires, and at it neither
front_is : (start : List Replaying) (ps : List Point) (at count : ℕ) → count ≡ at - 1 → return_from (place_at start (suc count)) ps ≡ return_from (place_at start at) ps
front_is start ps zero count is = ap (λ (n : ℕ). return_from (place_at start (suc n)) ps) is ∙ sym (begins start ps)
front_is start ps (suc k) count is =
    let same : count ≡ k = omega (arith, is) in
    ap (λ (n : ℕ). return_from (place_at start (suc n)) ps) same

pub returns_there : (first new : GroupPlace) (ps : List Point) (count : ℕ) (r : Return) (text : List ℕ) → count ≡ first.at - 1 → r ≡ return_from (place_at first.start (suc count)) ps
    → new ≡ place_at first.start r.at → text ≡ r.text → PointsReturn first ps new text
returns_there first new ps count r text front is came says =
    let whole : r ≡ return_from first ps = is ∙ front_is first.start ps first.at count front in
    record { place = came ∙ ap (λ (w : Return). place_at first.start w.at) whole; text_is = says ∙ ap (λ (w : Return). w.text) whole }
