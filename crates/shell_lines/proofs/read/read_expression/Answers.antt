use Rattle.std.proofs.Common.{◌<◌, ◌≤◌, length, arith, inr}
use Rattle.std.proofs.lemmas.List.{length-map}
use Rattle.std.proofs.lemmas.Result.{err_from_is_err_and}
use Rattle.expression_text.specs.Lexing.{token_texts}
use Rattle.expression_text.specs.Expression.{expression_of}
use Rattle.shell_lines.proofs.ViableTokens.{refused_as, stops_at, whole_is}
use Rattle.shell_lines.proofs.read.read_expression.Goals as goal

pub returns-in_err-expression : goal.returns-in_err-expression
returns-in_err-expression c =
    let p = err_from_is_err_and c.from_residual.result c.from_residual.ensures.1 in
    rw (p.1, p.2) (refused_as c.exact_reading.ensures c.args.names.now c.args.tokens.now c.args.from c.in_err-expression.field-0.0 c.in_err-expression.ensures)

pub returns-then-next-count : goal.returns-then-next-count
returns-then-next-count c =
    let h = c.in_ok-expression.ensures in
    let there : c.in_ok-expression.next < length (token_texts c.args.tokens.now) = omega (arith, length-map c.args.tokens.now.tokens (λ t. t.text)) in
    (c.in_ok-expression.next, stops_at c.exact_reading.ensures c.args.names.now (token_texts c.args.tokens.now) c.args.from c.in_ok-expression.next h.0 h.1 (inr there), c.column.ensures)

pub returns : goal.returns
returns c =
    let h = c.in_ok-expression.ensures in
    let all : length (token_texts c.args.tokens.now) ≤ c.in_ok-expression.next = omega (arith, length-map c.args.tokens.now.tokens (λ t. t.text)) in
    whole_is c.exact_reading.ensures c.args.names.now (token_texts c.args.tokens.now) c.args.from c.in_ok-expression.next (expression_of c.in_ok-expression.expression) all h.0 h.1 h.2
