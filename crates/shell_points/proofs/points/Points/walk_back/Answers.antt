use Rattle.std.proofs.Common.{◌≡◌, ◌∙◌, ◌-◌, ◌≤◌, ℕ, List, length, map, suc, refl, ap, subst, arith}
use Rattle.proc_replay.specs.Replaying.{Replaying}
use Rattle.group_state.specs.Place.{GroupPlace, events_of_replays}
use Rattle.shell_points.specs.declared.point.Point.{Point as Held}
use Rattle.shell_points.specs.Firing.{place_at}
use Rattle.shell_points.specs.Meanings.{PointsReturn}
use Rattle.shell_points.specs.Points.{Point}
use Rattle.shell_points.specs.Returning.{return_from}
use Rattle.shell_points.specs.inside.Meanings.{point, return_of}
use Rattle.shell_points.proofs.LastFiring.{gone_to, last_within, returns_there}
use Rattle.shell_points.proofs.points.Points.walk_back.Goals as goal

pub returns-clause-returns : goal.returns-clause-returns
returns-clause-returns g c =
    let first = c.args.group.now in
    let ps = map {A = Held} point c.deref.result.now in
    let held : ps ≡ c.args.self.now = ap (λ (l : List Held). map {A = Held} point l) c.deref.ensures.value ∙ c.self.view_is in
    let count = c.saturating_sub-count.result in
    let r = return_of c.in_ok-last.last in
    let begun = gone_to first c.goto.new.self 0 _ (omega arith) c.in_ok-goto.ensures.moves in
    let same : c.goto.new.self.start ≡ first.start = ap (λ (p : GroupPlace). p.start) begun in
    let walked : c.last_firing.new.group.start ≡ first.start = c.in_ok-last.ensures.start ∙ same in
    let front : count ≡ first.at - 1 = c.saturating_sub-count.ensures ∙ ap (λ (n : ℕ). n - 1) c.position.ensures.position in
    let within : count ≤ length (events_of_replays first.start) = omega (arith, front, c.position.ensures.within) in
    let last : r ≡ return_from (place_at first.start (suc count)) ps = c.in_ok-last.ensures.last ∙ ap (λ (s : List Replaying). return_from (place_at s (suc count)) ps) same in
    let below : r.at ≤ length (events_of_replays c.last_firing.new.group.start) =
    omega (arith, last_within first.start ps count (length (events_of_replays first.start)) r within last, ap (λ (s : List Replaying). length (events_of_replays s)) walked) in
    let came : c.goto-2.new.self ≡ place_at first.start r.at =
    gone_to c.last_firing.new.group c.goto-2.new.self r.at _ below c.in_ok-goto-2.ensures.moves ∙ ap (λ (s : List Replaying). place_at s r.at) walked in
    subst (λ (qs : List Point). PointsReturn first qs c.goto-2.new.self c.in_ok-last.last.text) held
    (returns_there first c.goto-2.new.self ps count r c.in_ok-last.last.text front last came refl)
