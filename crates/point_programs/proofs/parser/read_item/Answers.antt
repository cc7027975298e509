use Rattle.std.proofs.Common.{List, ℕ, Some, drop, sym, ap, ◌∙◌}
use Rattle.std.proofs.lemmas.Result.{err_from_is_err_and}
use Rattle.expression_text.specs.Lexing.{token_texts}
use Rattle.expression_text.specs.Expression.{expression_of}
use Rattle.point_programs.specs.Reading.{ReadOfTokens, expression, then_reads}
use Rattle.point_programs.specs.Tree.{item_of}
use Rattle.point_programs.proofs.ReadSteps.{as_value, item_node, item_value, item_words, refused_first}
use Rattle.point_programs.proofs.parser.read_item.Goals as goal

pub returns-in-Some-clause-read : goal.returns-in-Some-clause-read
returns-in-Some-clause-read c =
    item_words c.args.names.now (token_texts c.args.tokens.now) c.args.at c.in_ok-words.words (sym c.in-Some.ensures.string ∙ ap (λ (w : List ℕ). Some w) (sym c.in_ok-words.ensures))

pub returns-then-names_event_node-clause-read : goal.returns-then-names_event_node-clause-read
returns-then-names_event_node-clause-read c =
    item_node c.args.names.now (token_texts c.args.tokens.now) c.args.at (sym c.in_default.ensures.string) (sym c.names_event_node.ensures.named ∙ c.if-names_event_node.true)

pub returns-in_err-value-clause-read : goal.returns-in_err-value-clause-read
returns-in_err-value-clause-read c =
    let ts = token_texts c.args.tokens.now in
    let p = err_from_is_err_and c.from_residual-in_err-value.result c.from_residual-in_err-value.ensures.1 in
    let is = item_value c.args.names.now ts c.args.at (sym c.in_default.ensures.string) (sym c.names_event_node.ensures.named ∙ c.if-names_event_node.false) in
    rw (p.1, p.2) (refused_first expression_of item_of c.args.tokens.now (expression c.args.names.now (drop c.args.at ts)) as_value _ c.in_err-value.field-0.0 is c.in_err-value.ensures.read)

pub returns-clause-read : goal.returns-clause-read
returns-clause-read c =
    let ts = token_texts c.args.tokens.now in
    item_value c.args.names.now ts c.args.at (sym c.in_default.ensures.string) (sym c.names_event_node.ensures.named ∙ c.if-names_event_node.false) ∙ ap (λ (r : ReadOfTokens _). then_reads r as_value) c.in_ok-value.ensures.read
