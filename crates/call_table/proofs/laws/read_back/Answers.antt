use Rattle.call_table.proofs.TableReadBack.{by_number, by_name}
use Rattle.call_table.proofs.laws.read_back.Goals as goal

pub returns-clause-numbers : goal.returns-clause-numbers
returns-clause-numbers c = λ kind number. by_number number kind

pub returns-clause-names : goal.returns-clause-names
returns-clause-names c = λ kind name. by_name name kind
