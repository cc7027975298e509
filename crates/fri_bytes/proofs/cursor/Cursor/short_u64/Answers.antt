use Rattle.std.proofs.Common.{sym}
use Rattle.fri_bytes.specs.Short.{IsShort, short_at}
use Rattle.fri_bytes.proofs.Readers.{none_begins, only_begins}
use Rattle.fri_bytes.proofs.ShortNumbers.{short_reads}
use Rattle.fri_bytes.proofs.cursor.Cursor.short_u64.Goals as goal

pub returns-in_err-number-clause-none : goal.returns-in_err-number-clause-none
returns-in_err-number-clause-none c =
    rw (c.from_residual.ensures, ← c.self.view_is) (none_begins IsShort short_at short_reads c.self.inside.rest.now (sym c.in_err-number.ensures.value))

pub returns-clause-spelled : goal.returns-clause-spelled
returns-clause-spelled c =
    rw (← c.self.view_is) (short_reads.takes c.self.inside.rest.now c.in_ok-number.number c.in_ok-number.rest.now (sym c.in_ok-number.ensures.value))

pub returns-clause-only : goal.returns-clause-only
returns-clause-only c =
    rw (← c.self.view_is) (only_begins IsShort short_at short_reads c.self.inside.rest.now c.in_ok-number.number c.in_ok-number.rest.now (sym c.in_ok-number.ensures.value))
