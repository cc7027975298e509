-- What points read on a walk, and how often their expressions are evaluated.
use Rattle.std.proofs.Common.{◌≡◌, ℕ, ℤ, zero, suc, ◌+◌, ◌-◌, ◌<◌, ◌≤◌, ◌==◌, Bool, true, false, ◌||◌, ◌&&◌, not, cond, drop, List, [], ◌∷◌, ◌++◌, length, get_or, map, Option, Some, None, take, refl, subst, sym, ap, ◌∙◌, append_assoc, add-one, arith}
use Rattle.std.proofs.lemmas.Bool.Decides.{nat_tests}
use Rattle.std.proofs.lemmas.List.{drop_more, take_more}
use Rattle.std.proofs.lemmas.List.Elements.{recursion_from_All}
use Rattle.std.proofs.lemmas.List.Sums.{sum_by-cons}
use Rattle.std.specs.Prelude.{All, MatchOption, count_by, slice_get}
use Rattle.std.specs.List.{AllByRecursion, list_any}
use Rattle.proc_replay.specs.Replaying.{Replaying}
use Rattle.group_state.specs.Place.{GroupPlace}
use Rattle.group_state.specs.Nodes.{nodes_at}
use Rattle.group_state.specs.Touch.{is_met_by_event, mark_of_place, watch_ticks, is_touched_at}
use Rattle.watch_expr.specs.declared.reads.Place.{Place as Location}
use Rattle.expression_text.specs.declared.expr.Expr.{Expr}
use Rattle.expression_text.specs.Expression.{Expression, expression_of}
use Rattle.watch_expr.specs.Reads.{no_variables, reads_of_expression}
use Rattle.watch_expr.specs.Value.{value}
use Rattle.page_watch.specs.Touch.{meets}
use Rattle.page_watch.specs.Watched.{WatchStands, Watched}
use Rattle.point_programs.specs.Running.{ProgramState}
use Rattle.page_watch.specs.Firing.{is_same_value}
use Rattle.shell_points.specs.declared.point.Point.{Point as Held}
use Rattle.shell_points.specs.declared.point.Trigger.{Trigger as HeldTrigger}
use Rattle.shell_points.specs.declared.point.Trigger.TheVariants as held
use Rattle.shell_points.specs.declared.watching.Watching.{Watching}
use Rattle.shell_points.specs.Firing.{firing_line, has_due_point, is_due_at, is_due_point, meets_condition, place_at, reading, value_at_position}
use Rattle.shell_points.specs.Points.{Break, Point, Trigger, Watch}
use Rattle.shell_points.specs.inside.Reading.{point_readings}
use Rattle.shell_points.specs.inside.Meanings.{point}
use Rattle.shell_points.specs.Meanings.{trigger}
use Rattle.shell_points.specs.Walking.{fired_point, setting_at, treat_points}
use Rattle.shell_points.specs.inside.Watches.{IsWatching, dealt_values, is_break, is_break_by, values_by}
use Rattle.shell_points.specs.Watching.{expressions_by, expressions_of, watched_expressions}
use Rattle.shell_points.proofs.ExactFiring.{same_again}
use Rattle.shell_points.proofs.LastFiring.{or-false}

-- ---- what the watches tell

abbrev expressions : List Watched → List Expression
expressions ws = map (λ (w : Watched). w.expression) ws

module _ (start : List Replaying) (k : ℕ) where
  abbrev AreStanding : List Watched → Type 0
  AreStanding ws = AllByRecursion (λ (w : Watched). WatchStands w (nodes_at (place_at start k))) ws

  deals : (ps : List Point) → ((ws : List Watched) → expressions ws ≡ watched_expressions ps → AreStanding ws → values_by ps ws ≡ point_readings start k ps)
      → (t : Trigger) (ws : List Watched) → expressions ws ≡ expressions_by t ++ watched_expressions ps → AreStanding ws → dealt_values t (values_by ps) ws ≡ reading start k t ∷ point_readings start k ps
  deals ps rest (Watch x) [] e stand = absurd cc
  deals ps rest (Watch x) (w ∷ ws) e stand =
      let first : w.expression ≡ x = cc in
      let others : expressions ws ≡ watched_expressions ps = cc in
      ap (λ (v : Option ℤ). v ∷ values_by ps ws) (stand.0.value ∙ ap (value (nodes_at (place_at start k)) no_variables) first)
      ∙ ap (λ (vs : List (Option ℤ)). value_at_position start x k ∷ vs) (rest ws others stand.1)
  deals ps rest (Break of_node kind) ws e stand = ap (λ (vs : List (Option ℤ)). None ∷ vs) (rest ws e stand)

  reads_all : (ps : List Point) (ws : List Watched) → expressions ws ≡ watched_expressions ps → AreStanding ws → values_by ps ws ≡ point_readings start k ps
  reads_all [] ws e stand = refl
  reads_all (p ∷ ps) ws e stand = deals ps (reads_all ps) p.trigger ws e stand

  -- the values of the watches are what the points read
  pub reads_by : (ps : List Point) (ws : List Watched) → expressions ws ≡ watched_expressions ps → All (λ w. WatchStands w (nodes_at (place_at start k))) ws → values_by ps ws ≡ point_readings start k ps
  reads_by ps ws e stand = reads_all ps ws e (recursion_from_All (λ w. WatchStands w (nodes_at (place_at start k))) ws stand)

-- where the watches are as they were, the points read what they read just before
pub still : (start : List Replaying) (at : ℕ) (ps : List Point) (old new : List Watched) → expressions old ≡ watched_expressions ps → All (λ w. WatchStands w (nodes_at (place_at start (at - 1)))) old
    → new ≡ old → All (λ w. WatchStands w (nodes_at (place_at start at))) new → point_readings start at ps ≡ point_readings start (at - 1) ps
still start at ps old new e stood same stand =
    sym (reads_by start at ps new (ap expressions same ∙ e) stand) ∙ ap (values_by ps) same ∙ reads_by start (at - 1) ps old e stood

-- the watch at a place has the next value
dealt_at : (x : Expression) (ws : List Watched) (n : ℕ) (v : Option ℤ) → slice_get (map (λ (w : Watched). w.value) ws) n ≡ Some v → (rest : List Watched → List (Option ℤ))
    → dealt_values (Watch x) rest (drop n ws) ≡ v ∷ rest (drop (suc n) ws)
dealt_at x [] n v here rest = absurd cc
dealt_at x (w ∷ ws) zero v here rest = let same : w.value ≡ v = cc in ap (λ (u : Option ℤ). u ∷ rest ws) same
dealt_at x (w ∷ ws) (suc n) v here rest = dealt_at x ws n v here rest

pub dealt_next : (t : HeldTrigger) (x : Expr) → t ≡ held.Watch x → (ws : List Watched) (n : ℕ) (v : Option ℤ) → slice_get (map (λ (w : Watched). w.value) ws) n ≡ Some v
    → (rest : List Watched → List (Option ℤ)) → dealt_values (trigger t) rest (drop n ws) ≡ v ∷ rest (drop (n + 1) ws)
dealt_next t x is ws n v here rest =
    ap (λ (u : HeldTrigger). dealt_values (trigger u) rest (drop n ws)) is ∙ dealt_at (expression_of x) ws n v here rest
    ∙ ap (λ (k : ℕ). v ∷ rest (drop k ws)) (sym (add-one n))

-- ---- point after point

-- the values so far, with those that the points still to come have of the watches still to come, are all
pub record AreDealt (points : List Held) (ws : List Watched) (i n : ℕ) (values : List (Option ℤ)) : Type 0 where
  pub whole : values ++ values_by (map {A = Held} point (drop i points)) (drop n ws) ≡ values_by (map {A = Held} point points) ws
  pub left : n + length (watched_expressions (map {A = Held} point (drop i points))) ≡ length ws
  pub few : n ≤ i

module _ (points : List Held) (ws : List Watched) (i n : ℕ) (values : List (Option ℤ)) (so_far : AreDealt points ws i n values) (p : Held) (below : i < length points) (here : get_or points i p ≡ p) where
  behind : drop i points ≡ p ∷ drop (i + 1) points
  behind = drop_more points i p below ∙ ap (λ (q : Held). q ∷ drop (i + 1) points) here

  counts : (t : Trigger) (xs : List Expression) → length (expressions_by t ++ xs) ≡ length (expressions_by t) + length xs
  counts (Watch x) xs = omega arith
  counts (Break of_node kind) xs = omega arith

  split : n + (length (expressions_of (point p)) + length (watched_expressions (map {A = Held} point (drop (i + 1) points)))) ≡ length ws
  split =
      ap (λ (m : ℕ). n + m) (sym (counts (trigger p.trigger) (watched_expressions (map {A = Held} point (drop (i + 1) points)))))
      ∙ ap (λ (ps : List Held). n + length (watched_expressions (map {A = Held} point ps))) (sym behind) ∙ so_far.left

  pub has_room : n + length (expressions_of (point p)) ≤ length ws
  has_room = omega (arith, split)

  one_or_none : (t : Trigger) → length (expressions_by t) ≤ 1
  one_or_none (Watch x) = omega arith
  one_or_none (Break of_node kind) = omega arith

  pub deals_one : (v : Option ℤ) (next : ℕ) (more : List (Option ℤ)) → next ≡ n + length (expressions_of (point p))
      → ((rest : List Watched → List (Option ℤ)) → dealt_values (trigger p.trigger) rest (drop n ws) ≡ v ∷ rest (drop next ws)) → more ≡ values ++ v ∷ [] → AreDealt points ws (i + 1) next more
  deals_one v next more moved deals pushed =
      let rest = map {A = Held} point (drop (i + 1) points) in
      record {
        whole = ap (λ (vs : List (Option ℤ)). vs ++ values_by rest (drop next ws)) pushed ∙ append_assoc values (v ∷ []) (values_by rest (drop next ws))
            ∙ ap (λ (vs : List (Option ℤ)). values ++ vs) (sym (deals (values_by rest)))
            ∙ ap (λ (ps : List Held). values ++ values_by (map {A = Held} point ps) (drop n ws)) (sym behind) ∙ so_far.whole;
        left = omega (arith, split, moved);
        few = omega (arith, so_far.few, moved, one_or_none (trigger p.trigger));
      }

nothing_more : (xs : List Expression) → xs ++ [] ≡ xs
nothing_more [] = refl
nothing_more (x ∷ xs) = ap (λ (ys : List Expression). x ∷ ys) (nothing_more xs)

watched_push : (ps : List Held) (p : Held) → watched_expressions (map {A = Held} point (ps ++ p ∷ [])) ≡ watched_expressions (map {A = Held} point ps) ++ expressions_of (point p)
watched_push [] p = nothing_more (expressions_of (point p))
watched_push (q ∷ ps) p =
    ap (λ (xs : List Expression). expressions_of (point q) ++ xs) (watched_push ps p)
    ∙ sym (append_assoc (expressions_of (point q)) (watched_expressions (map {A = Held} point ps)) (expressions_of (point p)))

-- one point's expression more
pub watched_next : (points : List Held) (i : ℕ) (p : Held) → i < length points → get_or points i p ≡ p
    → watched_expressions (map {A = Held} point (take (i + 1) points)) ≡ watched_expressions (map {A = Held} point (take i points)) ++ expressions_of (point p)
watched_next points i p below here =
    ap (λ (ps : List Held). watched_expressions (map {A = Held} point ps)) (take_more points i p below ∙ ap (λ (q : Held). take i points ++ q ∷ []) here) ∙ watched_push (take i points) p

pub breaks_same : (ps : List Held) → list_any (λ (p : Held). is_break (point p)) ps ≡ list_any is_break (map {A = Held} point ps)
breaks_same [] = refl
breaks_same (p ∷ ps) = ap (λ (b : Bool). is_break (point p) || b) (breaks_same ps)

-- ---- where no point can fire

same_silent : (before now : Option ℤ) → now ≡ before → not (is_same_value before now) ≡ false
same_silent before now same = ap (λ (v : Option ℤ). not (is_same_value before v)) same ∙ ap not (same_again before)

none_by : (start : List Replaying) (k : ℕ) (t : Trigger) → is_break_by t ≡ false → reading start (suc k) t ≡ reading start k t → is_due_at start (suc k) t ≡ false
none_by start k (Watch x) bare same = same_silent (reading start k (Watch x)) (reading start (suc k) (Watch x)) same
none_by start k (Break of_node kind) bare same = absurd cc

neither : (a b : Bool) → a ≡ false → b ≡ false → (a || b) ≡ false
neither true b e f = absurd cc
neither false b e f = f

silent : (start : List Replaying) (k : ℕ) (ps : List Point) → list_any is_break ps ≡ false → point_readings start (suc k) ps ≡ point_readings start k ps → has_due_point start ps (suc k) ≡ false
silent start k [] bare same = refl
silent start k (p ∷ ps) bare same =
    let both = or-false (is_break p) (list_any is_break ps) bare in
    let first : reading start (suc k) p.trigger ≡ reading start k p.trigger = cc in
    let others : point_readings start (suc k) ps ≡ point_readings start k ps = cc in
    neither (is_due_point start (suc k) p) (has_due_point start ps (suc k)) (ap (λ (b : Bool). b && meets_condition (place_at start (suc k)) p.condition) (none_by start k p.trigger both.0 first)) (silent start k ps both.1 others)

-- over watchpoints that read what they read before
pub none_due : (start : List Replaying) (at : ℕ) (ps : List Point) → 0 < at → list_any is_break ps ≡ false → point_readings start at ps ≡ point_readings start (at - 1) ps → has_due_point start ps at ≡ false
none_due start zero ps moved bare same = absurd (omega (arith, moved))
none_due start (suc k) ps moved bare same =
    let one : suc k - 1 ≡ k = omega arith in
    silent start k ps bare (same ∙ ap (λ (n : ℕ). point_readings start n ps) one)

-- where none fires, nothing is done
pub nothing_done : (start : List Replaying) (k : ℕ) (ps : List Point) (r : ProgramState) → has_due_point start ps k ≡ false → treat_points start k r ps ≡ r
nothing_done start k [] r none = refl
nothing_done start k (p ∷ ps) r none =
    let both = or-false (is_due_point start k p) (has_due_point start ps k) none in
    ap (λ (b : Bool). treat_points start k (cond b (fired_point (setting_at (place_at start k)) r (firing_line start k p.number p.trigger) p.program) r) ps) both.0
    ∙ nothing_done start k ps r both.1

-- what is known of an option by which of both it is
pub where_none : {A : Type 0} (o : Option A) (P : Type 0) (Q : A → Type 0) → o ≡ None → MatchOption o P Q → P
where_none None P Q is holds = holds
where_none (Some a) P Q is holds = absurd cc

-- ---- how often expressions are evaluated

mark_within : (start : List Replaying) (k : ℕ) (l : Location) → mark_of_place start k l ≤ k
mark_within start zero l = omega arith
mark_within start (suc k) l = by (is_touched_at start (suc k) l) (mark_within start k l)
  where
    by : (b : Bool) → mark_of_place start k l ≤ k → cond b (suc k) (mark_of_place start k l) ≤ suc k
    by true before = omega arith
    by false before = omega (arith, before)

mark_told : (start : List Replaying) (k : ℕ) (l : Location) → (mark_of_place start (suc k) l == suc k) ≡ is_touched_at start (suc k) l
mark_told start k l = by (is_touched_at start (suc k) l)
  where
    by : (b : Bool) → (cond b (suc k) (mark_of_place start k l) == suc k) ≡ b
    by true = grind (arith, nat_tests)
    by false = let less = mark_within start k l in grind (arith, nat_tests)

meets_told : (start : List Replaying) (k : ℕ) (places : List Location) → meets (mark_of_place start (suc k)) (suc k) places ≡ list_any (is_touched_at start (suc k)) places
meets_told start k [] = refl
meets_told start k (l ∷ places) =
    ap (λ (b : Bool). b || meets (mark_of_place start (suc k)) (suc k) places) (mark_told start k l) ∙ ap (λ (b : Bool). is_touched_at start (suc k) l || b) (meets_told start k places)

counts_met : (start : List Replaying) (k : ℕ) (ws : List Watched)
    → count_by (λ (w : Watched). meets (mark_of_place start (suc k)) (suc k) (reads_of_expression (nodes_at (place_at start k)) w.expression)) ws ≡ count_by (is_met_by_event start (suc k)) (expressions ws)
counts_met start k [] = refl
counts_met start k (w ∷ ws) =
    sum_by-cons (λ (w : Watched). cond (meets (mark_of_place start (suc k)) (suc k) (reads_of_expression (nodes_at (place_at start k)) w.expression)) 1 0) w ws
    ∙ ap (λ (b : Bool). cond b 1 0 + count_by (λ (w : Watched). meets (mark_of_place start (suc k)) (suc k) (reads_of_expression (nodes_at (place_at start k)) w.expression)) ws) (meets_told start k (reads_of_expression (nodes_at (place_at start k)) w.expression))
    ∙ ap (λ (n : ℕ). cond (is_met_by_event start (suc k) w.expression) 1 0 + n) (counts_met start k ws)
    ∙ sym (sum_by-cons (λ (x : Expression). cond (is_met_by_event start (suc k) x) 1 0) w.expression (expressions ws))

pub evaluations : (start : List Replaying) (at : ℕ) (ws : List Watched) (xs : List Expression) → 0 < at → expressions ws ≡ xs
    → count_by (λ (w : Watched). meets (mark_of_place start at) at (reads_of_expression (nodes_at (place_at start (at - 1))) w.expression)) ws ≡ count_by (is_met_by_event start at) xs
evaluations start zero ws xs moved are = absurd (omega (arith, moved))
evaluations start (suc k) ws xs moved are =
    let one : suc k - 1 ≡ k = omega arith in
    ap (λ (n : ℕ). count_by (λ (w : Watched). meets (mark_of_place start (suc k)) (suc k) (reads_of_expression (nodes_at (place_at start n)) w.expression)) ws) one
    ∙ counts_met start k ws ∙ ap (count_by (is_met_by_event start (suc k))) are

-- one position more
pub ticks_more : (start : List Replaying) (xs : List Expression) (from at : ℕ) → from ≤ at → watch_ticks start xs from (suc at - from) ≡ watch_ticks start xs from (at - from) + count_by (is_met_by_event start (suc at)) xs
ticks_more start xs from at after =
    let more : suc at - from ≡ suc (at - from) = omega arith in
    let there : from + suc (at - from) ≡ suc at = omega arith in
    ap (watch_ticks start xs from) more ∙ ap (λ (k : ℕ). watch_ticks start xs from (at - from) + count_by (is_met_by_event start k) xs) there

pub ticks_none : (start : List Replaying) (xs : List Expression) (at : ℕ) → watch_ticks start xs at (at - at) ≡ 0
ticks_none start xs at =
    let none : at - at ≡ 0 = omega arith in
    ap (watch_ticks start xs at) none

pub ticked : (start : List Replaying) (xs : List Expression) (from at : ℕ) (new : GroupPlace) (before old now : ℕ) → from ≤ at → new ≡ place_at start (suc at)
    → old ≡ before + watch_ticks start xs from (at - from) → now ≡ old + count_by (is_met_by_event new.start new.at) xs → now ≡ before + watch_ticks start xs from (new.at - from)
ticked start xs from at new before old now after here so_far counts =
    let met : count_by (is_met_by_event new.start new.at) xs ≡ count_by (is_met_by_event start (suc at)) xs = ap (λ (p : GroupPlace). count_by (is_met_by_event p.start p.at) xs) here in
    let all : watch_ticks start xs from (new.at - from) ≡ watch_ticks start xs from (suc at - from) = ap (λ (p : GroupPlace). watch_ticks start xs from (p.at - from)) here in
    omega (arith, so_far, counts, met, all, ticks_more start xs from at after)

-- the same from position 0 on
pub ticked_from_start : (start : List Replaying) (xs : List Expression) (at : ℕ) (new : GroupPlace) (before old now : ℕ) → new ≡ place_at start (suc at)
    → old ≡ before + watch_ticks start xs 0 at → now ≡ old + count_by (is_met_by_event new.start new.at) xs → now ≡ before + watch_ticks start xs 0 new.at
ticked_from_start start xs at new before old now here so_far counts =
    let met : count_by (is_met_by_event new.start new.at) xs ≡ count_by (is_met_by_event start (suc at)) xs = ap (λ (p : GroupPlace). count_by (is_met_by_event p.start p.at) xs) here in
    let all : watch_ticks start xs 0 new.at ≡ watch_ticks start xs 0 (suc at) = ap (λ (p : GroupPlace). watch_ticks start xs 0 p.at) here in
    let there : 0 + suc at ≡ suc at = omega arith in
    let more : watch_ticks start xs 0 (suc at) ≡ watch_ticks start xs 0 at + count_by (is_met_by_event start (suc at)) xs = ap (λ (k : ℕ). watch_ticks start xs 0 at + count_by (is_met_by_event start k) xs) there in
    omega (arith, so_far, counts, met, all, more)

-- what was read is what was read just before where the group now is
pub read_before : (start : List Replaying) (at : ℕ) (ps : List Point) (w : Watching) (new : GroupPlace) → new ≡ place_at start (suc at) → IsWatching start at ps w → IsWatching new.start (new.at - 1) ps w
read_before start at ps w new here read =
    let one : at ≡ suc at - 1 = omega arith in
    subst (λ (p : GroupPlace). IsWatching p.start (p.at - 1) ps w) (sym here) (subst (λ (k : ℕ). IsWatching start k ps w) one read)

pub read_now : (start : List Replaying) (at : ℕ) (ps : List Point) (w : Watching) (new : GroupPlace) → new ≡ place_at start (suc at) → IsWatching new.start new.at ps w → IsWatching start new.at ps w
read_now start at ps w new here read = subst (λ (s : List Replaying). IsWatching s new.at ps w) (ap (λ (p : GroupPlace). p.start) here) read

pub moved_on : (start : List Replaying) (at : ℕ) (new : GroupPlace) → new ≡ place_at start (suc at) → 0 < new.at
moved_on start at new here =
    let one : new.at ≡ suc at = ap (λ (p : GroupPlace). p.at) here in
    omega (arith, one)
