use Rattle.std.proofs.Common.{◌≡◌, map, string_bytes, take}
use Rattle.friday_app.specs.Command.{names_in}
use Rattle.friday_app.proofs.command.names_in.Given as goal

abbrev pub invariant-loop-word : goal.invariant-loop-word
invariant-loop-word l = map (λ name. name.now) l.names.items ≡ names_in (map string_bytes (take l.word-index l.words))
