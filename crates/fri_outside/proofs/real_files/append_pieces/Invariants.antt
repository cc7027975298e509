use Rattle.fri_outside.specs.inside.Reading.{MovesFrontOfBytes}
use Rattle.fri_outside.proofs.real_files.append_pieces.Given as goal

abbrev pub invariant-loop : goal.invariant-loop
invariant-loop g l = MovesFrontOfBytes (g.F.Read.remaining l.initial.file) (g.F.Read.remaining l.file) l.initial.bytes.items l.bytes.items
