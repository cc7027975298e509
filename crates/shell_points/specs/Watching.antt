-- What points read on a walk, by the watches of those that are watchpoints.
use Rattle.std.specs.Prelude.{List, [], ◌∷◌}
use Rattle.std.specs.List.{flat_map}
use Rattle.expression_text.specs.Expression.{Expression}
use Rattle.shell_points.specs.Points.{Break, Point, Trigger, Watch}

-- the expression of a watchpoint
abbrev pub expressions_by : Trigger → List Expression
expressions_by (Watch x) = x ∷ []
expressions_by (Break of_node kind) = []

abbrev pub expressions_of : Point → List Expression
expressions_of p = expressions_by p.trigger

-- the expressions of the watchpoints
abbrev pub watched_expressions : List Point → List Expression
watched_expressions points = flat_map expressions_of points
