use Rattle.std.proofs.Common.{codes, drop, map, refl, sym, subst, ◌∙◌, ◌-◌, arith}
use Rattle.std.specs.Global.{Vec}
use Rattle.std.proofs.lemmas.Result.{err_from_is_err_and}
use Rattle.expression_text.specs.Lexing.{token_texts}
use Rattle.point_programs.specs.declared.program.Stmt.{Stmt}
use Rattle.point_programs.specs.inside.Parsed.{ReadAsTokens}
use Rattle.point_programs.specs.Reading.{ReadOfTokens, program_in, separated_items, statement}
use Rattle.point_programs.specs.Tree.{Statements, statement_of, statements}
use Rattle.point_programs.proofs.ReadSeparated.{ended, refused_among, went_on}
use Rattle.point_programs.proofs.ReadSteps.{choice_read, else_is, no_levels, program_at, sequence_as}
use Rattle.point_programs.proofs.ReadTokens.{column_here}
use Rattle.point_programs.proofs.parser.+program.Goals as goal

pub read_else-returns-then-stands-clause-read : goal.read_else-returns-then-stands-clause-read
read_else-returns-then-stands-clause-read t c =
    let is = else_is (program_in c.args.levels c.args.names.now) (token_texts c.args.tokens.now) c.args.at (sym c.stands.ensures.text ∙ c.if-stands.true) in
    subst (λ (r : ReadOfTokens Statements). ReadAsTokens (λ (v : Vec Stmt). statements v.items) c.args.tokens.now r c.read_part.result) (sym is) c.read_part.ensures.read

pub read_if-returns-clause-read : goal.read_if-returns-clause-read
read_if-returns-clause-read t c =
    let ts = token_texts c.args.tokens.now in
    choice_read (program_in c.args.levels c.args.names.now) c.args.names.now (drop c.args.at ts) (drop c.in_ok-test.true_at ts) (drop c.in_ok-on_true.else_at ts) (drop c.in_ok-on_false.next ts) c.in_ok-test.test c.in_ok-on_true.on_true c.in_ok-on_false.on_false
    c.in_ok-test.ensures.read c.in_ok-on_true.ensures.read c.in_ok-on_false.ensures.read

pub read_program-returns-then-levels-eq0-clause-read : goal.read_program-returns-then-levels-eq0-clause-read
read_program-returns-then-levels-eq0-clause-read t c =
    let left = drop c.args.at (token_texts c.args.tokens.now) in
    (left, no_levels c.args.levels c.args.names.now left c.if-levels-eq0.true, c.column.ensures ∙ sym (column_here c.args.tokens.now c.args.at))

pub read_program-returns-clause-read : goal.read_program-returns-clause-read
read_program-returns-clause-read t c =
    let left = drop c.args.at (token_texts c.args.tokens.now) in
    let names = c.args.names.now in
    sequence_as c.args.tokens.now (separated_items (codes ";") (statement (program_in (c.args.levels - 1) names) names) left) _ c.read_statements.result (program_at c.args.levels names left c.if-levels-eq0.false) c.read_statements.ensures.read

pub read_statements-returns-in_err-stmt-clause-read : goal.read_statements-returns-in_err-stmt-clause-read
read_statements-returns-in_err-stmt-clause-read t c =
    let ts = token_texts c.args.tokens.now in
    let one = statement (program_in c.args.levels c.args.names.now) c.args.names.now in
    let p = err_from_is_err_and c.from_residual.result c.from_residual.ensures.1 in
    rw (p.1, p.2)
    (refused_among statement_of (λ (v : Vec Stmt). map statement_of v.items) c.args.tokens.now (codes ";") one (drop c.args.from ts) (map statement_of c.loop-stmts.stmts.items) (drop c.loop-stmts.at ts) c.in_err-stmt.field-0.0
    c.loop-stmts.invariant.reached refl c.in_err-stmt.ensures.read)

pub read_statements-returns-then-not-stands-clause-read : goal.read_statements-returns-then-not-stands-clause-read
read_statements-returns-then-not-stands-clause-read t c =
    let ts = token_texts c.args.tokens.now in
    let one = statement (program_in c.args.levels c.args.names.now) c.args.names.now in
    ended statement_of (codes ";") one ts (drop c.args.from ts) c.loop-stmts.stmts.items c.push.new.self.items c.in_ok-stmt.stmt c.loop-stmts.at c.in_ok-stmt.next
    c.loop-stmts.invariant.reached refl c.in_ok-stmt.ensures.read c.in_ok-push.ensures.items (sym c.stands.ensures.text ∙ c.if-not-stands.true)

pub read_statements-loop-stmts-preserved : goal.read_statements-loop-stmts-preserved
read_statements-loop-stmts-preserved t c =
    let ts = token_texts c.args.tokens.now in
    let one = statement (program_in c.args.levels c.args.names.now) c.args.names.now in
    record {
      reached = went_on statement_of (codes ";") one ts (drop c.args.from ts) c.loop-stmts.stmts.items c.push.new.self.items c.in_ok-stmt.stmt c.loop-stmts.at c.in_ok-stmt.next
          c.loop-stmts.invariant.reached refl c.in_ok-stmt.ensures.read c.in_ok-push.ensures.items (sym c.stands.ensures.text ∙ c.if-not-stands.false) c.in_ok-stmt.ensures.onward;
      onward = omega (arith, c.loop-stmts.invariant.onward, c.in_ok-stmt.ensures.onward);
    }
