use Rattle.schedule_text.proofs.OutcomeLemmas as laws
use Rattle.schedule_text.proofs.laws.spelled_or_bad.Goals as goal

pub returns-clause-either : goal.returns-clause-either
returns-clause-either c = laws.spelled_or_bad

pub returns-clause-never_both : goal.returns-clause-never_both
returns-clause-never_both c = λ bytes s n spelled bad. bad.unspelled s spelled

pub returns-clause-one_line : goal.returns-clause-one_line
returns-clause-one_line c = laws.one_bad_line
