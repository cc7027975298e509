-- What may be wrong with a program that is of the grammar, and which variables it sets.
use Rattle.std.specs.Prelude.{ℕ, List, [], ◌∷◌, ◌++◌, Bool, false, ◌||◌}
use Rattle.std.specs.List.{list_any}
use Rattle.expression_text.specs.Faulty.{is_nested, lacks_node}
use Rattle.point_programs.specs.Tree.{SaidItem, Words, Value, NodeOfEvent, Statement, Set, Say, Stop, If, Statements, End, Then}

abbrev pub nests_item : SaidItem → Bool
nests_item (Words bytes) = false
nests_item (Value x) = is_nested x
nests_item NodeOfEvent = false

abbrev pub lacks_item : SaidItem → Bool
lacks_item (Words bytes) = false
lacks_item (Value x) = lacks_node false x
lacks_item NodeOfEvent = false

abbrev mutual
  pub nests_one : Statement → Bool
  nests_one (Set name x) = is_nested x
  nests_one (Say items) = list_any nests_item items
  nests_one Stop = false
  nests_one (If x on_true on_false) = is_nested x || (nests_aggregates on_true || nests_aggregates on_false)

  -- an aggregate is in an aggregate
  pub nests_aggregates : Statements → Bool
  nests_aggregates End = false
  nests_aggregates (Then first rest) = nests_one first || nests_aggregates rest

abbrev mutual
  pub lacks_one : Statement → Bool
  lacks_one (Set name x) = lacks_node false x
  lacks_one (Say items) = list_any lacks_item items
  lacks_one Stop = false
  lacks_one (If x on_true on_false) = lacks_node false x || (lacks_names on_true || lacks_names on_false)

  -- a name is that of no node, or `@_` is outside an aggregate
  pub lacks_names : Statements → Bool
  lacks_names End = false
  lacks_names (Then first rest) = lacks_one first || lacks_names rest

abbrev mutual
  pub set_by_statement : Statement → List (List ℕ)
  set_by_statement (Set name x) = name ∷ []
  set_by_statement (Say items) = []
  set_by_statement Stop = []
  set_by_statement (If x on_true on_false) = set_names on_true ++ set_names on_false

  -- the names of the variables that are set, in the order of the text
  pub set_names : Statements → List (List ℕ)
  set_names End = []
  set_names (Then first rest) = set_by_statement first ++ set_names rest
