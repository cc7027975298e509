use Rattle.byte_streams.proofs.CoveredBytes.{covered_was_written}
use Rattle.byte_streams.proofs.ReadBytes.{read_covered}
use Rattle.byte_streams.proofs.laws.covered_was_written.Goals as goal

pub returns-clause-written : goal.returns-clause-written
returns-clause-written c = covered_was_written

pub returns-clause-read : goal.returns-clause-read
returns-clause-read c = read_covered
