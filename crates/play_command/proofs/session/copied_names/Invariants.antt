use Rattle.std.proofs.Common.{◌≡◌, map, take}
use Rattle.schedule_text.specs.declared.process.ProcessLine.{ProcessLine}
use Rattle.play_command.proofs.session.copied_names.Given as goal

abbrev pub invariant-loop-line : goal.invariant-loop-line
invariant-loop-line l = l.names.items ≡ map (λ (line : ProcessLine). line.name) (take l.line-index l.line-items)
