-- What an aggregate has made of the values so far.
use Rattle.std.specs.Prelude.{ℕ, ◌+◌, ◌-◌, ◌*◌, ◌^◌, ◌≤◌, Option, Some, None, not, if◌then◌else◌, ℤ, pos, neg_ℤ, ◌+ℤ◌, ◌≤ℤ◌}
use Rattle.std.specs.Int.{int_max, int_min}
use Rattle.expression_text.specs.declared.expr.Agg.{Agg}
use Rattle.expression_text.specs.declared.expr.Agg.TheVariants as agg
use Rattle.watch_expr.specs.declared.value.tally.Tally.{Tally}
use Rattle.watch_expr.specs.declared.value.tally.Tally.TheVariants.{Sum, Min, Max, Count}
use Rattle.watch_expr.specs.Value.{fit_value, is_zero}

abbrev pub empty_tally : Agg → Tally
empty_tally agg.Sum = Sum (pos 0)
empty_tally agg.Min = Min None
empty_tally agg.Max = Max None
empty_tally agg.Count = Count 0

-- the better of a value and those before it
abbrev pub best_value : (ℤ → ℤ → ℤ) → Option ℤ → ℤ → ℤ
best_value choose None z = z
best_value choose (Some before) z = choose before z

-- with one more value
abbrev pub added_value : Tally → ℤ → Tally
added_value (Sum sum) z = Sum (sum +ℤ z)
added_value (Min least) z = Min (Some (best_value int_min least z))
added_value (Max greatest) z = Max (Some (best_value int_max greatest z))
added_value (Count count) z = Count (count + (if not (is_zero z) then 1 else 0))

-- with one more value, and none where a value is undef
abbrev pub added_value_if : Option Tally → Option ℤ → Option Tally
added_value_if None o = None
added_value_if (Some tally) None = None
added_value_if (Some tally) (Some z) = Some (added_value tally z)

abbrev pub total : Tally → Option ℤ
total (Sum sum) = fit_value sum
total (Min least) = least
total (Max greatest) = greatest
total (Count count) = Some (pos count)

-- it can be that of so many values
abbrev pub IsTallyWithin : Tally → ℕ → Type 0
IsTallyWithin (Sum sum) n = (neg_ℤ (pos (2 ^ 63 * n)) ≤ℤ sum) × (sum ≤ℤ pos (2 ^ 63 * n))
IsTallyWithin (Min least) n = Unit {0}
IsTallyWithin (Max greatest) n = Unit {0}
IsTallyWithin (Count count) n = count ≤ n

-- the sum and the count stay in range with one more value
abbrev pub HasTallyRoomForValue : Tally → Type 0
HasTallyRoomForValue tally = IsTallyWithin tally (2 ^ 32 - 2)
