use Rattle.point_programs.proofs.ReadTokens.{no_quote_last, quote_last}
use Rattle.point_programs.proofs.token.before_quote.Goals as goal

pub returns-then-last-eq34 : goal.returns-then-last-eq34
returns-then-last-eq34 c =
    quote_last c.args.bytes.now c.in_ok-last.front.now c.in_ok-last.last.now c.in_ok-last.ensures.cases.0 c.if-last-eq34.true

pub returns-else-last-eq34 : goal.returns-else-last-eq34
returns-else-last-eq34 c =
    no_quote_last c.args.bytes.now c.in_ok-last.front.now c.in_ok-last.last.now c.in_ok-last.ensures.cases.0 c.if-last-eq34.false
