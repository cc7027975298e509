use Rattle.std.proofs.Common.{ℕ, length, take, Option, ℤ, sym, ap, ◌∙◌}
use Rattle.std.proofs.lemmas.List.{take-map}
use Rattle.std.specs.Global.{Vec}
use Rattle.point_programs.proofs.MentionOrder.{where_err}
use Rattle.point_programs.specs.inside.Kept.{variable, variables_of}
use Rattle.point_programs.proofs.variables.Vars.mention_program.Goals as goal

pub returns-then-is_err-clause-err : goal.returns-then-is_err-clause-err
returns-then-is_err-clause-err c =
    where_err _ c.mention_statements-mentioned.result (
    ap variables_of c.truncate.ensures.entries
    ∙ sym (take-map {X = Vec ℕ × Option ℤ} variable c.names-before.result c.self.inside.values.entries)
    ∙ ap (λ (n : ℕ). take n (variables_of c.self.inside.values.entries)) c.names-before.ensures
    ∙ ap (take (length c.args.self.now)) c.self.view_is
    ∙ c.mention_statements-mentioned.ensures.front
    )
