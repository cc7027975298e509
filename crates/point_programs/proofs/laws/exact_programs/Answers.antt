use Rattle.point_programs.proofs.ProgramLemmas.{programs, stops}
use Rattle.point_programs.proofs.laws.exact_programs.Goals as goal

pub returns : goal.returns
returns c = record { programs = programs c.exact_reading.ensures c.none_apart.ensures; stops = stops c.exact_reading.ensures c.none_apart.ensures }
