-- Where a watch does not fire.
use Rattle.std.specs.Prelude.{Bool, true, false, Option, Some, None, ℤ}
use Rattle.watch_expr.specs.Value.{equal}

-- `undef` is equal to itself alone
abbrev pub is_same_value : Option ℤ → Option ℤ → Bool
is_same_value None None = true
is_same_value None (Some b) = false
is_same_value (Some a) None = false
is_same_value (Some a) (Some b) = equal a b
