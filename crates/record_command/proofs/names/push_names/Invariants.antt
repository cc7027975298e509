use Rattle.std.proofs.Common.{◌≡◌, ◌++◌, map, string_bytes, take}
use Rattle.record_command.proofs.names.push_names.Given as goal

abbrev pub invariant-loop-line : goal.invariant-loop-line
invariant-loop-line l = map string_bytes l.names.items ≡ map string_bytes l.initial.names.items ++ map (λ line. line.name ++ l.ending) (take l.line-index l.lines)
