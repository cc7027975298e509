use Rattle.std.proofs.Common.{◌∙◌, ap, sym}
use Rattle.group_record.specs.inside.Recorded.{with_print}
use Rattle.group_record.proofs.KeptPrints.{nothing_printed}
use Rattle.group_record.proofs.prints.Prints.add.Goals as goal

pub returns-then-is_empty : goal.returns-then-is_empty
returns-then-is_empty c =
    nothing_printed c.args.self.now c.args.p c.printed-piece.result.now (sym c.is_empty.ensures ∙ c.if-is_empty.true) ∙ ap (with_print c.args.self.now c.args.p) c.printed-piece.ensures
