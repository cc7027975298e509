use Rattle.std.proofs.Common.{◌≡◌, take}
use Rattle.std.specs.List.{flat_map}
use Rattle.cut_command.specs.inside.Meanings.{front_line}
use Rattle.cut_command.proofs.fronts.print.Given as goal

abbrev pub invariant-loop-front : goal.invariant-loop-front
invariant-loop-front l = l.text ≡ flat_map front_line (take l.front-index l.fronts)
