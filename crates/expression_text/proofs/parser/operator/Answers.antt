use Rattle.std.proofs.Common.{◌≡◌, ℕ, [], sym, ap, ◌∙◌, refl}
use Rattle.expression_text.specs.Grammar.{left_level}
use Rattle.expression_text.specs.Expression.{expression_of}
use Rattle.expression_text.specs.Machine.{settle_operators}
use Rattle.expression_text.specs.inside.Frames.{pile_operators}
use Rattle.expression_text.specs.declared.stack.Frame.TheVariants as frame
use Rattle.expression_text.proofs.StackPiles.{chains_refused, operator_taken, popped}
use Rattle.expression_text.proofs.parser.operator.Goals as goal

pub returns-then-chains : goal.returns-then-chains
returns-then-chains c =
    let e : settle_operators (left_level c.args.op) (pile_operators [] c.args.frames.now.items) (expression_of c.args.x) ≡ (pile_operators [] c.settled.new.frames.items, expression_of c.in_ok-left.left) =
    ap (λ (k : ℕ). settle_operators k (pile_operators [] c.args.frames.now.items) (expression_of c.args.x)) (sym c.left_of.ensures) ∙ c.in_ok-left.ensures in
    chains_refused c.args.op (pile_operators [] c.args.frames.now.items) _ (expression_of c.args.x) _ e (sym c.chains.ensures ∙ c.if-chains.true)

pub returns : goal.returns
returns c =
    let e : settle_operators (left_level c.args.op) (pile_operators [] c.args.frames.now.items) (expression_of c.args.x) ≡ (pile_operators [] c.settled.new.frames.items, expression_of c.in_ok-left.left) =
    ap (λ (k : ℕ). settle_operators k (pile_operators [] c.args.frames.now.items) (expression_of c.args.x)) (sym c.left_of.ensures) ∙ c.in_ok-left.ensures in
    let f = frame.Left c.args.op c.in_ok-left.left in
    operator_taken c.args.op (pile_operators [] c.args.frames.now.items) _ (pile_operators [] c.push.new.self.items) (expression_of c.args.x) _ e (sym c.chains.ensures ∙ c.if-chains.false) (popped c.push.new.self.items c.settled.new.frames.items f f c.in_ok-push.ensures.items refl)
