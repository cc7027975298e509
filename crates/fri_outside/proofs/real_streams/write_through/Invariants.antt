use Rattle.std.specs.Io.KnownBytes.{Keeps}
use Rattle.fri_outside.proofs.real_streams.write_through.Given as goal

abbrev pub invariant-turns : goal.invariant-turns
invariant-turns g l = Keeps (g.W.Write.contents l.initial.writer) (g.W.Write.contents l.writer)
