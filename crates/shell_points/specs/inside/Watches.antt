-- The watches of the points that are held, and what they read.
use Rattle.std.specs.Prelude.{Bool, true, false, List, [], ◌∷◌, Option, None, ℤ, ◌≡◌, ℕ, All, map}
use Rattle.std.specs.List.{list_any}
use Rattle.page_watch.specs.Watched.{Watched, WatchStands}
use Rattle.proc_replay.specs.Replaying.{Replaying}
use Rattle.group_state.specs.Nodes.{nodes_at}
use Rattle.shell_points.specs.declared.watching.Watching.{Watching}
use Rattle.shell_points.specs.Points.{Break, Trigger, Watch, Point}
use Rattle.shell_points.specs.Firing.{place_at}
use Rattle.shell_points.specs.inside.Reading.{point_readings}
use Rattle.shell_points.specs.Watching.{watched_expressions}

abbrev pub is_break_by : Trigger → Bool
is_break_by (Watch x) = false
is_break_by (Break of_node kind) = true

abbrev pub is_break : Point → Bool
is_break p = is_break_by p.trigger

-- a watchpoint has the next of the values, and the points after it have the rest
abbrev pub dealt_values : Trigger → (List Watched → List (Option ℤ)) → List Watched → List (Option ℤ)
dealt_values (Watch x) rest [] = None ∷ rest []
dealt_values (Watch x) rest (w ∷ watches) = w.value ∷ rest watches
dealt_values (Break of_node kind) rest watches = None ∷ rest watches

-- what each point reads, where these are the watches of the watchpoints
abbrev pub values_by : List Point → List Watched → List (Option ℤ)
values_by [] watches = []
values_by (p ∷ points) watches = dealt_values p.trigger (values_by points) watches

-- the watches are those of the points and stand for position k, and the values are read there
pub record IsWatching (start : List Replaying) (k : ℕ) (points : List Point) (watching : Watching) : Type 0 where
  pub expressions : map (λ (w : Watched). w.expression) watching.watches ≡ watched_expressions points
  pub stand : All (λ (w : Watched). WatchStands w (nodes_at (place_at start k))) watching.watches
  pub values : watching.values.items ≡ point_readings start k points
  pub breaks : watching.has_breaks ≡ list_any is_break points
