use Rattle.std.proofs.Common.{◌≡◌, map, string_bytes, take}
use Rattle.replay_command.specs.Report.{images_in}
use Rattle.replay_command.proofs.names.image_names.Given as goal

abbrev pub invariant-loop-replayer : goal.invariant-loop-replayer
invariant-loop-replayer l = map string_bytes l.names.items ≡ map (λ file. file.0) (images_in (take l.replayer-index l.replayers))
