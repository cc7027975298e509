use Rattle.std.proofs.Common.{sym}
use Rattle.expression_text.specs.Lexing.{token_texts}
use Rattle.point_programs.specs.Reading.{keyword_of}
use Rattle.point_programs.proofs.ReadTokens.{not_taken, taken}
use Rattle.point_programs.proofs.token.read_keyword.Goals as goal

pub returns-in_default-clause-read : goal.returns-in_default-clause-read
returns-in_default-clause-read c =
    not_taken keyword_of c.args.tokens.now c.args.at c.column.result (sym c.in_default.ensures.keyword) c.column.ensures

pub returns-clause-read : goal.returns-clause-read
returns-clause-read c =
    taken keyword_of (token_texts c.args.tokens.now) c.args.at c.in-Some.keyword (sym c.in-Some.ensures.keyword)
