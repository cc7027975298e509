-- An expression as it is read part by part: an aggregate at one node after the other, and any other expression as a whole.
use Rattle.std.specs.Prelude.{◌≡◌, ℕ, List, [], ◌∷◌, length, map, Option, Some, None, ℤ}
use Rattle.std.specs.List.{flat_map, range_with_len}
use Rattle.watch_expr.specs.declared.reads.Place.{Place}
use Rattle.expression_text.specs.Expression.{Expression, Over}
use Rattle.watch_expr.specs.Reads.{no_variables, reads_at, reads_of_expression}
use Rattle.watch_expr.specs.Value.{aggregate_over, all_numbers, expression_setting, value, value_at}
use Rattle.watch_expr.specs.View.{Node, ◌>>=◌}

-- the value of a part, and what it is read from
pub record Part : Type 0 where
  pub value : Option ℤ
  pub places : List Place

-- how many parts there are over so many nodes
abbrev pub part_count : ℕ → Expression → ℕ
part_count nodes (Over agg x) = nodes
part_count nodes x = 1

-- what is evaluated in each part
abbrev pub body_of_parts : Expression → Expression
body_of_parts (Over agg x) = x
body_of_parts x = x

-- the node of the aggregate around it in this part
abbrev pub node_of_part : Expression → ℕ → Option ℕ
node_of_part (Over agg x) n = Some n
node_of_part x n = None

abbrev pub nth_part : List Node → Expression → ℕ → Part
nth_part nodes x n = record {
  value = value_at (expression_setting nodes no_variables) (node_of_part x n) (body_of_parts x);
  places = reads_at (expression_setting nodes no_variables) (node_of_part x n) (body_of_parts x);
}

abbrev pub parts_of : List Node → Expression → List Part
parts_of nodes x = map (nth_part nodes x) (range_with_len 0 (part_count (length nodes) x))

abbrev pub first_value : List Part → Option ℤ
first_value [] = None
first_value (p ∷ parts) = p.value

-- the value of an expression that has these parts
abbrev pub value_of_parts : Expression → List Part → Option ℤ
value_of_parts (Over agg x) parts = all_numbers (map (λ p. p.value) parts) >>= aggregate_over agg
value_of_parts x parts = first_value parts

abbrev pub places_of_parts : List Part → List Place
places_of_parts parts = flat_map (λ p. p.places) parts

-- the parts of an expression have its value, and all that it reads
abbrev pub PartsMakeUp : Type 0
PartsMakeUp = (nodes : List Node) (x : Expression)
    → (value nodes no_variables x ≡ value_of_parts x (parts_of nodes x)) × (reads_of_expression nodes x ≡ places_of_parts (parts_of nodes x))
