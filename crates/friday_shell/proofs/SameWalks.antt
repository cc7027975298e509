-- Over groups that a session cannot tell apart walks end at the same position, with the same variables, and say the same.
use Rattle.std.proofs.Common.{◌≡◌, ℕ, zero, suc, ◌-◌, ◌&&◌, cond, nat_le, List, [], ◌∷◌, ◌++◌, length, codes, Option, Some, None, refl, ◌∙◌}
use Rattle.std.specs.Prelude.{slice_get, unwrap_or}
use Rattle.std.specs.List.{list_any}
use Rattle.proc_replay.specs.Replaying.{Replaying}
use Rattle.point_programs.specs.Running.{ProgramState, program_setting}
use Rattle.point_programs.specs.Variables.{Variable}
use Rattle.shell_points.specs.Firing.{place_at}
use Rattle.shell_points.specs.Points.{Point}
use Rattle.shell_points.specs.Returning.{has_stopping_point, last_due, may_stop, return_from, return_to}
use Rattle.shell_points.specs.Walking.{fired_point, last_word, name_of_event, quiet_program, setting_at, steps_of, treat_point, treat_points, walk_ended, walk_from, walk_on, walk_over}
use Rattle.friday_shell.specs.SameGroup.{SameGroup}
use Rattle.friday_shell.proofs.SameFirings.{same_due_point, same_firing_line, same_firing_lines, same_node_of_event, same_nodes}

module _ (a b : List Replaying) (same : SameGroup a b) where
  -- ---- at one position

  same_name : (node : Option ℕ) → name_of_event a node ≡ name_of_event b node
  same_name None = refl
  same_name (Some node) = λ i. unwrap_or (slice_get (same.names i) node) []

  same_setting : (k : ℕ) → setting_at (place_at a k) ≡ setting_at (place_at b k)
  same_setting k = λ i. program_setting (same_nodes a b same k i) (same_node_of_event a b same k i) (same_name (same_node_of_event a b same k i) i)

  same_treated : (k : ℕ) (r : ProgramState) (p : Point) → treat_point a k r p ≡ treat_point b k r p
  same_treated k r p = λ i.
      cond (same_due_point a b same k p i) (fired_point (same_setting k i) r (same_firing_line a b same k p.number p.trigger i) p.program) r

  same_treating : (k : ℕ) (r : ProgramState) (points : List Point) → treat_points a k r points ≡ treat_points b k r points
  same_treating k r [] = refl
  same_treating k r (p ∷ points) = (λ i. treat_points a k (same_treated k r p i) points) ∙ same_treating k (treat_point b k r p) points

  -- ---- onwards

  same_last_word : (at : ℕ) → last_word a at ≡ last_word b at
  same_last_word at = λ i. cond (nat_le (length (same.events i)) at) (codes "end\n") (codes "paused\n")

  same_over : (points : List Point) (at left : ℕ) (variables : List Variable) (said : List ℕ) → walk_over a points at left variables said ≡ walk_over b points at left variables said
  same_over points at zero variables said = λ i. walk_ended at variables (said ++ same_last_word at i)
  same_over points at (suc left) variables said = λ i.
      walk_on (λ later more. same_over points (suc at) left later more i) (suc at) said (same_treating (suc at) (quiet_program variables) points i)

  pub same_walk : (k : ℕ) (points : List Point) (variables : List Variable) (most : Option ℕ) → walk_from (place_at a k) points variables most ≡ walk_from (place_at b k) points variables most
  same_walk k points variables most = λ i. same_over points k (steps_of most (length (same.events i) - k)) variables [] i

  -- ---- and back

  same_stopping : (points : List Point) (k : ℕ) → has_stopping_point a points k ≡ has_stopping_point b points k
  same_stopping points k = λ i. list_any (λ p. same_due_point a b same k p i && may_stop p.program) points

  same_last_due : (points : List Point) (k : ℕ) → last_due a points k ≡ last_due b points k
  same_last_due points zero = refl
  same_last_due points (suc k) = λ i. cond (same_stopping points k i) (Some k) (same_last_due points k i)

  same_return_to : (points : List Point) (k : Option ℕ) → return_to a points k ≡ return_to b points k
  same_return_to points None = refl
  same_return_to points (Some k) = λ i. record { at = k; text = same_firing_lines a b same k points i }

  pub same_return : (k : ℕ) (points : List Point) → return_from (place_at a k) points ≡ return_from (place_at b k) points
  same_return k points = λ i. same_return_to points (same_last_due points k i) i
