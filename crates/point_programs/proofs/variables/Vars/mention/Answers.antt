use Rattle.std.proofs.Common.{◌≡◌, List, None, OnOk, length, take, ap, sym, subst, ◌∙◌}
use Rattle.point_programs.proofs.MentionOrder.{front_kept, mention_front, set_mentions}
use Rattle.point_programs.specs.Variables.{Variable, with_value}
use Rattle.point_programs.proofs.variables.Vars.mention.Goals as goal

pub returns-clause-ok : goal.returns-clause-ok
returns-clause-ok c =
    subst (λ (vs : List Variable). OnOk c.set.result (c.set.new.self ≡ vs))
    (set_mentions c.args.self.now c.args.name.now (sym c.is_mentioned.ensures ∙ c.if-is_mentioned.false))
    c.set.ensures.ok

pub returns-clause-front : goal.returns-clause-front
returns-clause-front c =
    front_kept c.set.result c.args.self.now c.set.new.self (with_value c.args.self.now c.args.name.now None) c.set.ensures.ok c.set.ensures.err
    (ap (take (length c.args.self.now)) (set_mentions c.args.self.now c.args.name.now (sym c.is_mentioned.ensures ∙ c.if-is_mentioned.false)) ∙ mention_front c.args.self.now c.args.name.now)
