use Rattle.std.proofs.Common.{◌≡◌, flat_map, take}
use Rattle.streams_command.specs.Streams.{stream_line_text}
use Rattle.streams_command.proofs.printing.print.Given as goal

abbrev pub invariant-loop-line : goal.invariant-loop-line
invariant-loop-line l = l.text ≡ flat_map stream_line_text (take l.line-index l.line-items)
