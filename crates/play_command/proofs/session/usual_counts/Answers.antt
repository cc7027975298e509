use Rattle.std.proofs.Common.{◌≡◌, ◌<◌, ◌+◌, ◌++◌, ◌∷◌, ℕ, [], arith, refl, sym}
use Rattle.std.specs.Prelude.{codes}
use Rattle.std.proofs.lemmas.Fmt.{decimal_digit}
use Rattle.play_command.specs.Play.{counts_line}
use Rattle.play_command.proofs.session.usual_counts.Goals as goal

by_digits : (acted idle : ℕ) → acted < 10 → idle < 10 → counts_line acted idle ≡ ((48 + acted) ∷ []) ++ (codes " acted, " ++ (((48 + idle) ∷ []) ++ codes " idle\n"))
by_digits acted idle few_acted few_idle = rw (decimal_digit acted few_acted, decimal_digit idle few_idle) refl

pub returns-in-0-eq1 : goal.returns-in-0-eq1
returns-in-0-eq1 c = rw (c.in-0-eq1.is-0, c.in-0-eq1.is-1) (sym (by_digits 0 1 (omega arith) (omega arith)))

pub returns-in-1-eq0 : goal.returns-in-1-eq0
returns-in-1-eq0 c = rw (c.in-1-eq0.is-0, c.in-1-eq0.is-1) (sym (by_digits 1 0 (omega arith) (omega arith)))
