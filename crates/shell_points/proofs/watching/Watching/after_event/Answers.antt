use Rattle.std.proofs.Common.{rules, ◌≡◌, ◌+◌, ℕ, false, map, sym, ap, ◌∙◌}
use Rattle.std.specs.List.{list_any}
use Rattle.shell_points.specs.declared.point.Point.{Point as Held}
use Rattle.shell_points.specs.inside.Meanings.{point}
use Rattle.shell_points.specs.inside.Watches.{is_break}
use Rattle.shell_points.specs.Watching.{watched_expressions}
use Rattle.shell_points.proofs.PointReads.{evaluations, none_due, reads_by, still}
use Rattle.shell_points.proofs.watching.Watching.after_event.Goals as goal

pub returns-then-not-has_breaks-clause-now : goal.returns-then-not-has_breaks-clause-now
returns-then-not-has_breaks-clause-now g c =
    let start = c.args.group.now.start in
    let at = c.args.group.now.at in
    let ps = map {A = Held} point c.args.points.now in
    let e = c.in_ok-watches.ensures in
    let before = c.requires.before in
    let same : c.in_ok-watches.watches ≡ c.args.self.watches = search rules in
    record {
      expressions = e.expressions ∙ before.expressions;
      stand = e.stand;
      values = before.values ∙ sym (still start at ps c.args.self.watches c.in_ok-watches.watches before.expressions before.stand same e.stand);
      breaks = before.breaks;
    }

pub returns-then-not-has_breaks-clause-before : goal.returns-then-not-has_breaks-clause-before
returns-then-not-has_breaks-clause-before g c =
    let start = c.args.group.now.start in
    let at = c.args.group.now.at in
    let ps = map {A = Held} point c.args.points.now in
    let e = c.in_ok-watches.ensures in
    let before = c.requires.before in
    let same : c.in_ok-watches.watches ≡ c.args.self.watches = search rules in
    let none : c.args.self.has_breaks ≡ false = search rules in
    let bare : list_any is_break ps ≡ false = sym before.breaks ∙ none in
    none_due start at ps c.requires.moved bare (still start at ps c.args.self.watches c.in_ok-watches.watches before.expressions before.stand same e.stand)

pub returns-then-not-has_breaks-clause-ticks : goal.returns-then-not-has_breaks-clause-ticks
returns-then-not-has_breaks-clause-ticks g c =
    let start = c.args.group.now.start in
    let at = c.args.group.now.at in
    let ps = map {A = Held} point c.args.points.now in
    let e = c.in_ok-watches.ensures in
    let before = c.requires.before in
    e.steps ∙ ap (λ (n : ℕ). c.args.steps.now + n) (evaluations start at c.args.self.watches (watched_expressions ps) c.requires.moved before.expressions)

pub returns-clause-now : goal.returns-clause-now
returns-clause-now g c =
    let start = c.args.group.now.start in
    let at = c.args.group.now.at in
    let ps = map {A = Held} point c.args.points.now in
    let e = c.in_ok-watches.ensures in
    let before = c.requires.before in
    let expressions = e.expressions ∙ before.expressions in
    record {
      expressions = expressions;
      stand = e.stand;
      values = c.in_ok-values.ensures ∙ reads_by start at ps c.in_ok-watches.watches expressions e.stand;
      breaks = before.breaks;
    }

pub returns-clause-ticks : goal.returns-clause-ticks
returns-clause-ticks g c =
    let start = c.args.group.now.start in
    let at = c.args.group.now.at in
    let ps = map {A = Held} point c.args.points.now in
    let e = c.in_ok-watches.ensures in
    let before = c.requires.before in
    e.steps ∙ ap (λ (n : ℕ). c.args.steps.now + n) (evaluations start at c.args.self.watches (watched_expressions ps) c.requires.moved before.expressions)
