use Rattle.std.proofs.Common.{refl, sym, ap, ◌∙◌}
use Rattle.schedule_text.specs.Fields.{field_at}
use Rattle.schedule_text.proofs.FieldLemmas.{no_field, next_is}
use Rattle.schedule_text.proofs.fields.Fields.next_field.Goals as goal

pub returns-in_err-start : goal.returns-in_err-start
returns-in_err-start c =
    let none = no_field c.self.inside.rest.now (sym c.field_start.ensures ∙ c.in_err-start.was) in
    rw c.from_residual.ensures (ap field_at (sym c.self.view_is ∙ none), refl)

pub returns : goal.returns
returns c =
    let is = next_is c.self.inside.rest.now _ c.split_at.result.0.now c.split_at.result.1.now c.in_ok-start.start c.unwrap_or-end.result c.field_start.result c.blank_at.result c.field_start.ensures c.in_ok-start.was refl c.blank_at.ensures c.unwrap_or-end.ensures c.split_at.ensures.front c.split_at.ensures.back in
    ap field_at (sym c.self.view_is ∙ is)
