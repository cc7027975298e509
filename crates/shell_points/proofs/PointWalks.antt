-- What points do at a position, by what they read, and how a walk goes on.
use Rattle.std.proofs.Common.{◌≡◌, ℕ, ℤ, zero, suc, ◌+◌, ◌-◌, ◌<◌, ◌≤◌, Bool, true, false, cond, drop, List, [], ◌∷◌, ◌++◌, length, get_or, map, Option, Some, None, inl, inr, refl, sym, ap, ◌∙◌, arith}
use Rattle.std.specs.Prelude.{◌==◌, codes, nat_le, option_map, slice_get}
use Rattle.std.proofs.lemmas.Bool.{eqb-true, le-leb, ne_eqb}
use Rattle.std.proofs.lemmas.Bool.Decides.{leb_tells}
use Rattle.std.proofs.lemmas.List.{drop_more}
use Rattle.std.proofs.lemmas.List.Sums.{sum_by-append}
use Rattle.fri_text.specs.Line.{is_line_feed}
use Rattle.group_state.specs.declared.event.GroupEvent.{GroupEvent}
use Rattle.group_state.specs.Moves.{GroupMoves}
use Rattle.group_state.specs.Place.{GroupPlace, events_of_replays}
use Rattle.proc_replay.specs.Replaying.{Replaying}
use Rattle.point_programs.specs.Running.{ProgramState}
use Rattle.point_programs.specs.Variables.{Variable}
use Rattle.shell_points.specs.declared.point.Point.{Point as Held}
use Rattle.shell_points.specs.Firing.{place_at, reading, point_said_at}
use Rattle.shell_points.specs.Points.{Point, Trigger}
use Rattle.shell_points.specs.Returning.{is_stopping_point}
use Rattle.shell_points.specs.inside.Reading.{point_readings, point_said_by, stops_by, treat_by}
use Rattle.shell_points.specs.Meanings.{trigger}
use Rattle.shell_points.specs.Meanings.{PointsWalk}
use Rattle.shell_points.specs.inside.Meanings.{point}
use Rattle.shell_points.specs.Walking.{Walk, last_word, lines_in, most_walk_lines, positions_ahead, quiet_program, steps_of, treat_point, treat_points, walk_ended, walk_from, walk_on, walk_over}

-- ---- at one position

-- what is made of both readings is made of what the point reads at both positions
both_read : {A : Type 0} (f : Option ℤ → Option ℤ → A) (start : List Replaying) (k : ℕ) (t : Trigger) (before now : Option ℤ) → before ≡ reading start (suc k - 1) t → now ≡ reading start (suc k) t
    → f before now ≡ f (reading start k t) (reading start (suc k) t)
both_read f start k t before now was is =
    let e : suc k - 1 ≡ k = omega arith in
    ap (λ (b : Option ℤ). f b now) (was ∙ ap (λ (m : ℕ). reading start m t) e) ∙ ap (f (reading start k t)) is

-- what one point does, by what was read
pub treated : (start : List Replaying) (at : ℕ) (r new : ProgramState) (p : Point) (before now : Option ℤ) → 0 < at
    → before ≡ reading start (at - 1) p.trigger → now ≡ reading start at p.trigger → new ≡ treat_by before now (place_at start at) r p → new ≡ treat_point start at r p
treated start zero r new p before now moved was is did = absurd (omega (arith, moved))
treated start (suc k) r new p before now moved was is did = did ∙ both_read (λ b n. treat_by b n (place_at start (suc k)) r p) start k p.trigger before now was is

-- what one point says, by what was read
pub said : (start : List Replaying) (at : ℕ) (p : Point) (before now : Option ℤ) → 0 < at → before ≡ reading start (at - 1) p.trigger → now ≡ reading start at p.trigger
    → point_said_by before now (place_at start at) p ≡ point_said_at start at p
said start zero p before now moved was is = absurd (omega (arith, moved))
said start (suc k) p before now moved was is = both_read (λ b n. point_said_by b n (place_at start (suc k)) p) start k p.trigger before now was is

-- whether it may stop there
pub stopping : (start : List Replaying) (at : ℕ) (p : Point) (before now : Option ℤ) → 0 < at → before ≡ reading start (at - 1) p.trigger → now ≡ reading start at p.trigger
    → stops_by before now (place_at start at) p ≡ is_stopping_point start at p
stopping start zero p before now moved was is = absurd (omega (arith, moved))
stopping start (suc k) p before now moved was is = both_read (λ b n. stops_by b n (place_at start (suc k)) p) start k p.trigger before now was is

among : (start : List Replaying) (k m : ℕ) (ps : List Held) (p : Held) (value : Option ℤ) → m < length ps → get_or ps m p ≡ p
    → get_or (point_readings start k (map {A = Held} point ps)) m value ≡ reading start k (trigger p.trigger)
among start k m [] p value lt e = absurd (omega (arith, lt))
among start k zero (q ∷ ps) p value lt e = ap (λ (r : Held). reading start k (trigger r.trigger)) e
among start k (suc m) (q ∷ ps) p value lt e = among start k m ps p value (omega (arith, lt)) e

-- what one point reads, among all that are read
pub read_at : (start : List Replaying) (k n : ℕ) (points : List Held) (p : Held) (values : List (Option ℤ)) (value : Option ℤ)
    → values ≡ point_readings start k (map {A = Held} point points) → n < length points → get_or points n p ≡ p
    → get_or values n value ≡ reading start k (trigger p.trigger)
read_at start k n points p values value is within here =
    ap (λ (vs : List (Option ℤ)). get_or vs n value) is ∙ among start k n points p value within here

-- one point more was treated, of those that are still to come
pub treated_more : (start : List Replaying) (at n : ℕ) (points : List Held) (p : Held) (r new whole : ProgramState) → n < length points → get_or points n p ≡ p
    → new ≡ treat_point start at r (point p) → treat_points start at r (map {A = Held} point (drop n points)) ≡ whole
    → treat_points start at new (map {A = Held} point (drop (n + 1) points)) ≡ whole
treated_more start at n points p r new whole within here did so_far =
    let rest = drop (n + 1) points in
    ap (λ (q : ProgramState). treat_points start at q (map {A = Held} point rest)) did
    ∙ ap (λ (q : Held). treat_points start at (treat_point start at r (point q)) (map {A = Held} point rest)) (sym here)
    ∙ ap (λ (ps : List Held). treat_points start at r (map {A = Held} point ps)) (sym (drop_more points n p within))
    ∙ so_far

-- ---- from one position to the next

pub place_is : (here : GroupPlace) (start : List Replaying) (k : ℕ) → here.start ≡ start → here.at ≡ k → here ≡ place_at start k
place_is here start k same at = λ i. record { start = same i; at = at i }

pub past : {A : Type 0} (xs : List A) (n : ℕ) → None ≡ slice_get xs n → length xs ≤ n
past [] n e = omega arith
past (x ∷ xs) zero e = absurd cc
past (x ∷ xs) (suc n) e = omega (arith, past xs n e)

-- the position that comes next
pub moves_on : (old new : GroupPlace) (event : Option GroupEvent) → old.at < length (events_of_replays old.start) → GroupMoves old new event → new ≡ place_at old.start (suc old.at)
moves_on old new None before moves = absurd (omega (arith, before, past (events_of_replays old.start) old.at moves.gives))
moves_on old new (Some e) before moves =
    let one : old.at + 1 ≡ suc old.at = omega arith in
    moves.place ∙ ap (place_at old.start) one

-- ---- how many positions may be walked

pub no_steps : (n : ℕ) → (n == 0) ≡ true → n ≡ 0
no_steps n e = eqb-true n 0 e

pub not_none : (n : ℕ) → 0 < n → (n == 0) ≡ false
not_none n lt = ne_eqb n 0 (λ e. absurd (omega (arith, lt, e)))

pub some_steps : (n : ℕ) → (n == 0) ≡ false → 0 < n
some_steps zero e = absurd cc
some_steps (suc n) e = omega arith

steps_within : (left : Option ℕ) (n : ℕ) → steps_of left n ≤ n
steps_within None n = omega arith
steps_within (Some m) n = elim (leb_tells m n) [
  | inl t ↦
      let is : steps_of (Some m) n ≡ m = ap (λ (b : Bool). cond b m n) t.0 in
      omega (arith, is, t.1)
  | inr f ↦
      let is : steps_of (Some m) n ≡ n = ap (λ (b : Bool). cond b m n) f.0 in
      omega (arith, is)
]

abbrev pub less : Option ℕ → Option ℕ
less left = option_map (λ (n : ℕ). n - 1) left

steps_more : (left : Option ℕ) (a b : ℕ) → 0 < steps_of left a → b ≡ a - 1 → steps_of left a ≡ suc (steps_of (less left) b)
steps_more None a b some is = omega (arith, some, is)
steps_more (Some m) a b some is = elim (leb_tells m a) [
  | inl t ↦
      let here : steps_of (Some m) a ≡ m = ap (λ (c : Bool). cond c m a) t.0 in
      elim (leb_tells (m - 1) b) [
        | inl u ↦
            let then : steps_of (less (Some m)) b ≡ m - 1 = ap (λ (c : Bool). cond c (m - 1) b) u.0 in
            omega (arith, here, then, some)
        | inr g ↦ absurd (omega (arith, g.1, t.1, is, here, some))
      ]
  | inr f ↦
      let here : steps_of (Some m) a ≡ a = ap (λ (c : Bool). cond c m a) f.0 in
      elim (leb_tells (m - 1) b) [
        | inl u ↦ absurd (omega (arith, u.1, f.1, is, here, some))
        | inr g ↦
            let then : steps_of (less (Some m)) b ≡ b = ap (λ (c : Bool). cond c (m - 1) b) g.0 in
            omega (arith, here, then, some, is)
      ]
]

-- whether none may be walked any more
pub over_without : (end at : ℕ) → nat_le end at ≡ (end - at == 0)
over_without end at = elim (leb_tells end at) [
  | inl t ↦
      let none : end - at ≡ 0 = omega (arith, t.1) in
      t.0 ∙ sym (ap (λ (n : ℕ). n == 0) none)
  | inr f ↦ f.0 ∙ sym (not_none (end - at) (omega (arith, f.1)))
]

abbrev end_of : List Replaying → ℕ
end_of start = length (events_of_replays start)

-- what the walk over one position more is
step : (start : List Replaying) (ps : List Point) (at : ℕ) (left : Option ℕ) (variables : List Variable) (said : List ℕ) → 0 < steps_of left (end_of start - at)
    → walk_over start ps at (steps_of left (end_of start - at)) variables said
    ≡ walk_on (walk_over start ps (suc at) (steps_of (less left) (end_of start - suc at))) (suc at) said (treat_points start (suc at) (quiet_program variables) ps)
step start ps at left variables said some =
    let one : end_of start - suc at ≡ end_of start - at - 1 = omega arith in
    ap (λ (n : ℕ). walk_over start ps at n variables said) (steps_more left (end_of start - at) (end_of start - suc at) some one)

-- ---- after all points of a position were treated

pub stops_here : (rest : List Variable → List ℕ → Walk) (at : ℕ) (said : List ℕ) (r : ProgramState) → r.stopped ≡ true → walk_on rest at said r ≡ walk_ended at r.variables (said ++ r.text)
stops_here rest at said r stops =
    ap (λ (b : Bool). cond b (walk_ended at r.variables (said ++ r.text)) (cond (nat_le most_walk_lines (lines_in (said ++ r.text))) (walk_ended at r.variables ((said ++ r.text) ++ codes "paused\n")) (rest r.variables (said ++ r.text)))) stops

not_stopped : (rest : List Variable → List ℕ → Walk) (at : ℕ) (said : List ℕ) (r : ProgramState) → r.stopped ≡ false
    → walk_on rest at said r ≡ cond (nat_le most_walk_lines (lines_in (said ++ r.text))) (walk_ended at r.variables ((said ++ r.text) ++ codes "paused\n")) (rest r.variables (said ++ r.text))
not_stopped rest at said r goes =
    ap (λ (b : Bool). cond b (walk_ended at r.variables (said ++ r.text)) (cond (nat_le most_walk_lines (lines_in (said ++ r.text))) (walk_ended at r.variables ((said ++ r.text) ++ codes "paused\n")) (rest r.variables (said ++ r.text)))) goes

pub pauses_here : (rest : List Variable → List ℕ → Walk) (at : ℕ) (said : List ℕ) (r : ProgramState) → r.stopped ≡ false → most_walk_lines ≤ lines_in (said ++ r.text)
    → walk_on rest at said r ≡ walk_ended at r.variables ((said ++ r.text) ++ codes "paused\n")
pauses_here rest at said r goes many =
    not_stopped rest at said r goes
    ∙ ap (λ (b : Bool). cond b (walk_ended at r.variables ((said ++ r.text) ++ codes "paused\n")) (rest r.variables (said ++ r.text))) (le-leb most_walk_lines (lines_in (said ++ r.text)) many)

few_lines : (n : ℕ) → n < most_walk_lines → nat_le most_walk_lines n ≡ false
few_lines n few = elim (leb_tells most_walk_lines n) [ inl t ↦ absurd (omega (arith, t.1, few)) | inr f ↦ f.0 ]

pub rests_here : (rest : List Variable → List ℕ → Walk) (at : ℕ) (said : List ℕ) (r : ProgramState) → r.stopped ≡ false → lines_in (said ++ r.text) < most_walk_lines
    → walk_on rest at said r ≡ rest r.variables (said ++ r.text)
rests_here rest at said r goes few =
    not_stopped rest at said r goes
    ∙ ap (λ (b : Bool). cond b (walk_ended at r.variables ((said ++ r.text) ++ codes "paused\n")) (rest r.variables (said ++ r.text))) (few_lines (lines_in (said ++ r.text)) few)

pub lines_append : (a b : List ℕ) → lines_in (a ++ b) ≡ lines_in a + lines_in b
lines_append a b = sum_by-append (λ (x : ℕ). cond (is_line_feed x) 1 0) a b

-- ---- the group after one event more, in a walk that began at the first place

abbrev pub IsLeft : GroupPlace → Option ℕ → ℕ → Type 0
IsLeft first left at = 0 < steps_of left (end_of first.start - at)

-- a position more may be walked
pub goes_further : (first old : GroupPlace) (left : Option ℕ) → (steps_of left (positions_ahead old) == 0) ≡ false → old.start ≡ first.start → IsLeft first left old.at
goes_further first old left more from =
    let some = some_steps (steps_of left (positions_ahead old)) more in
    omega (arith, some, ap (λ (s : List Replaying). steps_of left (end_of s - old.at)) from)

pub next_place : (first old new : GroupPlace) (event : Option GroupEvent) (left : Option ℕ) → IsLeft first left old.at → GroupMoves old new event → old.start ≡ first.start
    → (new ≡ place_at first.start (suc old.at)) × (old.at < end_of first.start)
next_place first old new event left some moves from =
    let before : old.at < end_of first.start = omega (arith, some, steps_within left (end_of first.start - old.at)) in
    let went = moves_on old new event (omega (arith, before, ap (λ (s : List Replaying). end_of s) from)) moves in
    (went ∙ ap (λ (s : List Replaying). place_at s (suc old.at)) from, before)

-- a walk that ended came there
arrives : (first : GroupPlace) (ps : List Point) (before after : List Variable) (most : Option ℕ) (at : ℕ) (text : List ℕ) (there : GroupPlace) → walk_from first ps before most ≡ walk_ended at after text
    → there ≡ place_at first.start at → PointsWalk first ps before most there after text
arrives first ps before after most at text there is here = record {
  place = here ∙ ap (λ (w : Walk). place_at first.start w.at) (sym is);
  variables = ap (λ (w : Walk). w.variables) (sym is);
  text_is = ap (λ (w : Walk). w.text) (sym is);
}

-- what is still to be walked, with what was made and said so far, is the whole walk
abbrev pub IsAhead : GroupPlace → List Point → List Variable → Option ℕ → ℕ → Option ℕ → List Variable → List ℕ → Type 0
IsAhead first ps before most at left variables text = walk_over first.start ps at (steps_of left (end_of first.start - at)) variables text ≡ walk_from first ps before most

pub ends_there : (first : GroupPlace) (ps : List Point) (before after : List Variable) (most left : Option ℕ) (old : GroupPlace) (text : List ℕ)
    → (steps_of left (positions_ahead old) == 0) ≡ true → old.start ≡ first.start → IsAhead first ps before most old.at left after text
    → PointsWalk first ps before most old after (text ++ last_word old.start old.at)
ends_there first ps before after most left old text over from ahead =
    let none : steps_of left (end_of first.start - old.at) ≡ 0 =
    ap (λ (s : List Replaying). steps_of left (end_of s - old.at)) (sym from) ∙ no_steps (steps_of left (positions_ahead old)) over in
    let word : last_word first.start old.at ≡ last_word old.start old.at = ap (λ (s : List Replaying). last_word s old.at) (sym from) in
    arrives first ps before after most old.at (text ++ last_word old.start old.at) old
    (sym ahead ∙ ap (λ (n : ℕ). walk_over first.start ps old.at n after text) none ∙ ap (λ (w : List ℕ). walk_ended old.at after (text ++ w)) word)
    (place_is old first.start old.at from refl)

module _ (first : GroupPlace) (ps : List Point) (before variables : List Variable) (most left : Option ℕ) (at : ℕ) (new : GroupPlace) (text : List ℕ) (r : ProgramState)
    (here : new ≡ place_at first.start (suc at)) (some : IsLeft first left at) (ahead : IsAhead first ps before most at left variables text)
    (did : r ≡ treat_points new.start new.at (quiet_program variables) ps) where
  abbrev rest : List Variable → List ℕ → Walk
  rest = walk_over first.start ps (suc at) (steps_of (less left) (end_of first.start - suc at))

  -- the walk is what follows where the points treated the next position
  follows : walk_from first ps before most ≡ walk_on rest (suc at) text r
  follows =
      sym ahead ∙ step first.start ps at left variables text some
      ∙ ap (walk_on rest (suc at) text) (sym (did ∙ ap (λ (p : GroupPlace). treat_points p.start p.at (quiet_program variables) ps) here))

  pub stops_there : r.stopped ≡ true → PointsWalk first ps before most new r.variables (text ++ r.text)
  stops_there stops = arrives first ps before r.variables most (suc at) (text ++ r.text) new (follows ∙ stops_here rest (suc at) text r stops) here

  pub pauses_there : r.stopped ≡ false → most_walk_lines ≤ lines_in text + lines_in r.text → PointsWalk first ps before most new r.variables ((text ++ r.text) ++ codes "paused\n")
  pauses_there goes many =
      arrives first ps before r.variables most (suc at) ((text ++ r.text) ++ codes "paused\n") new
      (follows ∙ pauses_here rest (suc at) text r goes (omega (arith, many, lines_append text r.text))) here

  -- the walk goes on from there
  pub goes_on : (now : Option ℕ) → now ≡ less left → r.stopped ≡ false → lines_in text + lines_in r.text < most_walk_lines → IsAhead first ps before most new.at now r.variables (text ++ r.text)
  goes_on now is goes few =
      ap (λ (o : Option ℕ). walk_over first.start ps new.at (steps_of o (end_of first.start - new.at)) r.variables (text ++ r.text)) is
      ∙ ap (λ (p : GroupPlace). walk_over first.start ps p.at (steps_of (less left) (end_of first.start - p.at)) r.variables (text ++ r.text)) here
      ∙ sym (follows ∙ rests_here rest (suc at) text r goes (omega (arith, few, lines_append text r.text)))
