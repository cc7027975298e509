use Rattle.std.proofs.Common.{◌∙◌, ◌+◌, ◌&&◌, Bool, ap, codes, drop, not, refl, sym}
use Rattle.std.specs.Result.{is_ok}
use Rattle.expression_text.specs.Lexing.{token_texts}
use Rattle.point_programs.specs.Reading.{after_token}
use Rattle.point_programs.proofs.ReadTokens.{node_from}
use Rattle.point_programs.proofs.token.names_event_node.Goals as goal

pub returns-then-stands-clause-named : goal.returns-then-stands-clause-named
returns-then-stands-clause-named c =
    let ts = token_texts c.args.tokens.now in
    ap (λ (b : Bool). b && c.is_event.result) (sym c.if-stands.true)
    ∙ node_from ts c.args.at c.stands.result c.is_event.result c.stands.ensures.text c.is_event.ensures

pub returns-else-stands-clause-named : goal.returns-else-stands-clause-named
returns-else-stands-clause-named c =
    let ts = token_texts c.args.tokens.now in
    let event = is_ok (after_token (codes "!") (drop (c.args.at + 1) ts)) && not (is_ok (after_token (codes ".") (drop (c.args.at + 1 + 1) ts))) in
    c.if-stands.false ∙ ap (λ (b : Bool). b && event) (sym c.if-stands.false)
    ∙ node_from ts c.args.at c.stands.result event c.stands.ensures.text refl
