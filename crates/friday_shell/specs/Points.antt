-- What a session keeps.
use Rattle.std.specs.Prelude.{ℕ, ◌+◌, List, [], ◌∷◌, ◌++◌, Option}
use Rattle.group_state.specs.Place.{GroupPlace}
use Rattle.expression_text.specs.Expression.{Expression}
use Rattle.point_programs.specs.Variables.{Variable}
use Rattle.shell_points.specs.Points.{Point, Trigger, new_point}

-- where its group is, the points that it holds, in order of their numbers, how many were ever made, and the variables
-- in the order in which they were first mentioned
pub record SessionState : Type 0 where
  pub place : GroupPlace
  pub points : List Point
  pub made : ℕ
  pub variables : List Variable

-- one point more, with a number that none had before
abbrev pub with_point : SessionState → List ℕ → Trigger → Option Expression → SessionState
with_point state text trigger condition = record state {
  points = state.points ++ new_point (state.made + 1) text trigger condition ∷ [];
  made = state.made + 1;
}
