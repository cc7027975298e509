use Rattle.std.specs.Io.KnownBytes.{Keeps}
use Rattle.fri_outside.proofs.real_streams.read_through.Given as goal

abbrev pub invariant-turns : goal.invariant-turns
invariant-turns g l = Keeps (g.R.Read.remaining l.initial.reader) (g.R.Read.remaining l.reader)
