use Rattle.std.proofs.Common.{◌≡◌, ℕ, Bool, false, List, length, take, nat_le, Option, ℤ, sym, ap, ◌∙◌, if◌then◌else◌, rules}
use Rattle.std.proofs.lemmas.List.{take-map}
use Rattle.std.specs.Global.{Vec}
use Rattle.point_programs.proofs.MentionOrder.{front_stays}
use Rattle.point_programs.specs.Faulty.{set_names}
use Rattle.point_programs.specs.inside.Kept.{variable, variables_of}
use Rattle.point_programs.specs.Tree.{program_body}
use Rattle.point_programs.specs.Variables.{Variable, mention_all}
use Rattle.point_programs.proofs.variables.Vars.mention_all.Goals as goal

pub returns-then-not-done-clause-ok : goal.returns-then-not-done-clause-ok
returns-then-not-done-clause-ok c =
    let all : List Variable = mention_all c.args.self.now (set_names (program_body c.args.p.now)) in
    let done : c.mention_program.new.self ≡ all = c.in_ok-mention_program.ensures.ok in
    let over : nat_le c.names.result c.args.most ≡ false = search rules in (
      ap (λ (n : ℕ). nat_le n c.args.most) (c.names.ensures ∙ ap length done),
      ap variables_of c.truncate.ensures.entries
          ∙ sym (take-map {X = Vec ℕ × Option ℤ} variable c.names-before.result c.self.inside.values.entries)
          ∙ ap (λ (n : ℕ). take n (variables_of c.self.inside.values.entries)) c.names-before.ensures
          ∙ ap (take (length c.args.self.now)) (c.self.view_is ∙ done)
          ∙ front_stays c.args.self.now (set_names (program_body c.args.p.now))
          ∙ sym (ap (λ (b : Bool). if b then all else c.args.self.now) over),
    )
