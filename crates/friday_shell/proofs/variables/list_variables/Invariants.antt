use Rattle.std.proofs.Common.{◌≡◌, take}
use Rattle.std.specs.List.{flat_map}
use Rattle.friday_shell.specs.Answer.{variable_text}
use Rattle.friday_shell.proofs.variables.list_variables.Given as goal

abbrev pub invariant-loop-n : goal.invariant-loop-n
invariant-loop-n l = l.text ≡ flat_map variable_text (take l.n l.variables)
