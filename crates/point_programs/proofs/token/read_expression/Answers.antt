use Rattle.point_programs.proofs.ReadExpressions.{parsed_as, parsed_onward}
use Rattle.point_programs.proofs.token.read_expression.Goals as goal

pub returns-clause-read : goal.returns-clause-read
returns-clause-read c =
    parsed_as c.exact_reading.ensures c.args.names.now c.args.tokens.now c.args.at c.parse.result c.parse.ensures

pub returns-clause-onward : goal.returns-clause-onward
returns-clause-onward c =
    parsed_onward c.args.names.now c.args.tokens.now c.args.at c.parse.result c.parse.ensures
