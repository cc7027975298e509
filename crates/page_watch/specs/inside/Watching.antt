-- What one event does to a watch.
use Rattle.std.specs.Prelude.{◌≡◌, ℕ, List, if◌then◌else◌}
use Rattle.watch_expr.specs.declared.reads.Place.{Place}
use Rattle.expression_text.specs.Expression.{Expression}
use Rattle.watch_expr.specs.Parts.{parts_of, places_of_parts}
use Rattle.watch_expr.specs.Reads.{no_variables}
use Rattle.watch_expr.specs.Value.{value}
use Rattle.watch_expr.specs.View.{Node}
use Rattle.page_watch.specs.Touch.{node_of, meets}
use Rattle.page_watch.specs.Watched.{Watched}

-- only places of this node have this mark
abbrev pub IsOnlyNode : (Place → ℕ) → ℕ → ℕ → Type 0
IsOnlyNode marks at node = (l : Place) → marks l ≡ at → node_of l ≡ node

-- an expression that was evaluated in this state
abbrev pub evaluated_watch : List Node → Expression → Watched
evaluated_watch nodes x = record { expression = x; value = value nodes no_variables x; parts = parts_of nodes x }

-- what a watch is after an event: evaluated again where that touched something that it was read from, and otherwise as it was
abbrev pub watch_after_event : (Place → ℕ) → ℕ → List Node → Watched → Watched
watch_after_event marks at nodes watch = if meets marks at (places_of_parts watch.parts) then evaluated_watch nodes watch.expression else watch
