use Rattle.std.proofs.Common.{◌≡◌, map, string_bytes, take}
use Rattle.cut_command.specs.inside.Meanings.{front_file}
use Rattle.cut_command.proofs.fronts.cut_names.Given as goal

abbrev pub invariant-loop-front : goal.invariant-loop-front
invariant-loop-front l = map string_bytes l.names.items ≡ map (λ file. file.0) (map front_file (take l.front-index l.fronts))
