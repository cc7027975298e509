use Rattle.std.proofs.lemmas.List.Elements.{All-push}
use Rattle.std.proofs.lemmas.List.Sums.{sum_by_push}
use Rattle.schedule_text.specs.Fields.{fields_of}
use Rattle.schedule_text.specs.Schedule.{IsInRange, tries}
use Rattle.schedule_text.proofs.ItemLemmas.{fields_begin, fields_give}
use Rattle.std.proofs.Common.{length}
use Rattle.schedule_text.proofs.laws.exact_item_lines.Goals as goal

pub returns-clause-exact : goal.returns-clause-exact
returns-clause-exact c = λ processes line item. fields_give processes (fields_of line) item

pub returns-clause-word : goal.returns-clause-word
returns-clause-word c = λ processes line item e. fields_begin processes (fields_of line) item e

pub returns-clause-follows : goal.returns-clause-follows
returns-clause-follows c = λ s item formed fits. record {
  some = formed.some;
  most = formed.most;
  lines = formed.lines;
  names = formed.names;
  items = All-push (IsInRange (length s.processes)) s.items item formed.items fits;
}

pub returns-clause-counts : goal.returns-clause-counts
returns-clause-counts c = λ s item. sum_by_push tries s.items item
