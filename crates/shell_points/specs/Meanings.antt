-- The trigger and the condition of a point of the code, and where the walks of the code end.
use Rattle.std.specs.Prelude.{◌≡◌, ℕ, List, Option, option_map}
use Rattle.expression_text.specs.declared.expr.Expr.{Expr}
use Rattle.expression_text.specs.Expression.{Expression, expression_of}
use Rattle.group_state.specs.Place.{GroupPlace}
use Rattle.point_programs.specs.Variables.{Variable}
use Rattle.shell_points.specs.declared.point.Trigger.{Trigger as HeldTrigger}
use Rattle.shell_points.specs.declared.point.Trigger.TheVariants as held
use Rattle.shell_points.specs.Firing.{place_at}
use Rattle.shell_points.specs.Points.{Break, Point, Trigger, Watch}
use Rattle.shell_points.specs.Returning.{return_from}
use Rattle.shell_points.specs.Walking.{walk_from}

abbrev pub trigger : HeldTrigger → Trigger
trigger (held.Watch x) = Watch (expression_of x)
trigger (held.Break of_node kind) = Break of_node kind

abbrev pub held_condition : Option Expr → Option Expression
held_condition x = option_map expression_of x

-- a walk from a place came there, made this of the variables and said this
pub record PointsWalk (old : GroupPlace) (points : List Point) (before : List Variable) (most : Option ℕ) (there : GroupPlace) (after : List Variable) (said : List ℕ) : Type 0 where
  pub place : there ≡ place_at old.start (walk_from old points before most).at
  pub variables : after ≡ (walk_from old points before most).variables
  pub text_is : said ≡ (walk_from old points before most).text

-- a walk back from a place ended where it ends
pub record PointsReturn (old : GroupPlace) (points : List Point) (new : GroupPlace) (text : List ℕ) : Type 0 where
  pub place : new ≡ place_at old.start (return_from old points).at
  pub text_is : text ≡ (return_from old points).text
