use Rattle.std.proofs.Common.{Ok, drop, sym, ap, ◌∙◌}
use Rattle.expression_text.specs.Lexing.{token_texts}
use Rattle.point_programs.specs.Reading.{LeftTokens}
use Rattle.point_programs.proofs.ReadTokens.{column_here, drop_one, goes, stays}
use Rattle.point_programs.proofs.token.expect.Goals as goal

pub returns-then-stands-clause-goes : goal.returns-then-stands-clause-goes
returns-then-stands-clause-goes c =
    let left = drop c.args.at (token_texts c.args.tokens.now) in
    goes c.args.text.now left (sym c.stands.ensures.text ∙ c.if-stands.true) ∙ ap (λ (ts : LeftTokens). Ok ts) (drop_one (token_texts c.args.tokens.now) c.args.at)

pub returns-else-stands-clause-goes : goal.returns-else-stands-clause-goes
returns-else-stands-clause-goes c =
    let left = drop c.args.at (token_texts c.args.tokens.now) in
    (left, stays c.args.text.now left (sym c.stands.ensures.text ∙ c.if-stands.false), c.column.ensures ∙ sym (column_here c.args.tokens.now c.args.at))
