use Rattle.std.proofs.Common.{◌≡◌, ◌+◌, ◌≤◌, length}
use Rattle.fri_text.specs.Line.{lines_of}
use Rattle.schedule_text.specs.Reading.{outcome_of, schedule_of}
use Rattle.schedule_text.proofs.read.read_lines.Given as goal

abbrev pub invariant-loop-line : goal.invariant-loop-line
invariant-loop-line l = record {
  so_far : outcome_of l.number l.draft (lines_of l.lines.left) ≡ schedule_of l.bytes;
  counted : l.number + length l.lines.left ≤ length l.bytes + 1;
}

abbrev pub decreases-loop-line : goal.decreases-loop-line
decreases-loop-line l = length l.lines.left
