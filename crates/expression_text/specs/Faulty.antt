-- What may be wrong with an expression that is of the grammar.
use Rattle.std.specs.Prelude.{Bool, true, false, not, ◌||◌, Some, None}
use Rattle.expression_text.specs.declared.expr.NodeName.{NodeName}
use Rattle.expression_text.specs.declared.expr.NodeName.TheVariants.{Named, Each, OfEvent}
use Rattle.expression_text.specs.Expression.{Expression, Number, Var, One, Two, Over, Load, Global, Clock, Events, Size, LastThread, HasEnded}

-- an aggregate is in it
abbrev pub has_aggregate : Expression → Bool
has_aggregate (Number n) = false
has_aggregate (Var name) = false
has_aggregate (One op x) = has_aggregate x
has_aggregate (Two op x y) = has_aggregate x || has_aggregate y
has_aggregate (Over agg x) = true
has_aggregate (Load node width x) = has_aggregate x
has_aggregate (Global node n) = false
has_aggregate (Clock node) = false
has_aggregate (Events node) = false
has_aggregate (Size node) = false
has_aggregate (LastThread node) = false
has_aggregate (HasEnded node) = false

-- an aggregate is in an aggregate
abbrev pub is_nested : Expression → Bool
is_nested (Number n) = false
is_nested (Var name) = false
is_nested (One op x) = is_nested x
is_nested (Two op x y) = is_nested x || is_nested y
is_nested (Over agg x) = has_aggregate x || is_nested x
is_nested (Load node width x) = is_nested x
is_nested (Global node n) = false
is_nested (Clock node) = false
is_nested (Events node) = false
is_nested (Size node) = false
is_nested (LastThread node) = false
is_nested (HasEnded node) = false

-- in an aggregate, or outside, this stands for no node
abbrev pub is_unnamed : Bool → NodeName → Bool
is_unnamed inside (Named None) = true
is_unnamed inside (Named (Some n)) = false
is_unnamed inside Each = not inside
is_unnamed inside OfEvent = false

-- in an aggregate, or outside, a name of it is that of no node
abbrev pub lacks_node : Bool → Expression → Bool
lacks_node inside (Number n) = false
lacks_node inside (Var name) = false
lacks_node inside (One op x) = lacks_node inside x
lacks_node inside (Two op x y) = lacks_node inside x || lacks_node inside y
lacks_node inside (Over agg x) = lacks_node true x
lacks_node inside (Load node width x) = is_unnamed inside node || lacks_node inside x
lacks_node inside (Global node n) = is_unnamed inside node
lacks_node inside (Clock node) = is_unnamed inside node
lacks_node inside (Events node) = is_unnamed inside node
lacks_node inside (Size node) = is_unnamed inside node
lacks_node inside (LastThread node) = is_unnamed inside node
lacks_node inside (HasEnded node) = is_unnamed inside node

-- a variable is named
abbrev pub names_variable : Expression → Bool
names_variable (Number n) = false
names_variable (Var name) = true
names_variable (One op x) = names_variable x
names_variable (Two op x y) = names_variable x || names_variable y
names_variable (Over agg x) = names_variable x
names_variable (Load node width x) = names_variable x
names_variable (Global node n) = false
names_variable (Clock node) = false
names_variable (Events node) = false
names_variable (Size node) = false
names_variable (LastThread node) = false
names_variable (HasEnded node) = false

abbrev pub is_of_event : NodeName → Bool
is_of_event (Named _) = false
is_of_event Each = false
is_of_event OfEvent = true

-- the node of the event that led to the position is named, which there is only where a point or its program asks
abbrev pub names_event : Expression → Bool
names_event (Number n) = false
names_event (Var name) = false
names_event (One op x) = names_event x
names_event (Two op x y) = names_event x || names_event y
names_event (Over agg x) = names_event x
names_event (Load node width x) = is_of_event node || names_event x
names_event (Global node n) = is_of_event node
names_event (Clock node) = is_of_event node
names_event (Events node) = is_of_event node
names_event (Size node) = is_of_event node
names_event (LastThread node) = is_of_event node
names_event (HasEnded node) = is_of_event node

-- a name of it is that of no node, where no point has led to the position that it is asked at
abbrev pub lacks_some_node : Expression → Bool
lacks_some_node x = lacks_node false x || names_event x
