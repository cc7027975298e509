use Rattle.schedule_text.proofs.OutcomeLemmas as laws
use Rattle.schedule_text.proofs.laws.exact_outcome.Goals as goal

pub returns-clause-schedules : goal.returns-clause-schedules
returns-clause-schedules c = λ bytes s. (
  λ e. let found = laws.schedule_found bytes s e in (found.0, found.1.runs),
  λ h. laws.schedule_again bytes s h.0 h.1,
)

pub returns-clause-more : goal.returns-clause-more
returns-clause-more c = λ bytes. (laws.schedule_over bytes, λ h. laws.over_again bytes h.0 h.1 h.2)

pub returns-clause-bad_line : goal.returns-clause-bad_line
returns-clause-bad_line c = λ bytes n. (laws.schedule_bad bytes n, laws.bad_again bytes n)
