-- How many rounds a word asks for.
use Rattle.std.specs.Prelude.{ℕ, ◌==◌, if◌then◌else◌, List, Option, Some, None, option_and_then}
use Rattle.std.specs.Result.{result_ok}
use Rattle.fri_text.specs.Decimal.{decimal_of, up_to}
use Rattle.schedule_text.specs.Limits.{most_rounds}

abbrev pub rounds_unless_zero : ℕ → Option ℕ
rounds_unless_zero n = if n == 0 then None else Some n

-- a decimal number from 1 to the most rounds, with any zeros in front
abbrev pub rounds_of : List ℕ → Option ℕ
rounds_of word = option_and_then rounds_unless_zero (result_ok (up_to most_rounds (decimal_of word)))
