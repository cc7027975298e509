use Rattle.byte_streams.proofs.CountedFronts.{front_counts, plain_fronts, short_plain, strange_by_send}
use Rattle.byte_streams.proofs.laws.fronts_count.Goals as goal

pub returns-clause-counted : goal.returns-clause-counted
returns-clause-counted c = front_counts

pub returns-clause-short : goal.returns-clause-short
returns-clause-short c = short_plain

pub returns-clause-plain : goal.returns-clause-plain
returns-clause-plain c = plain_fronts

pub returns-clause-strange : goal.returns-clause-strange
returns-clause-strange c = strange_by_send
