use Rattle.std.proofs.Common.{sym, ◌∙◌, arith, drop}
use Rattle.std.proofs.lemmas.Result.{err_from_is_err_and}
use Rattle.expression_text.specs.Lexing.{token_texts}
use Rattle.point_programs.specs.Tree.{statements}
use Rattle.point_programs.proofs.ReadPrograms.{read_all, read_less, stopped}
use Rattle.point_programs.proofs.ReadTokens.{column_here}
use Rattle.point_programs.proofs.parser.parse_program.Goals as goal

pub returns-in_err-stmts : goal.returns-in_err-stmts
returns-in_err-stmts c =
    let line = c.args.tokens.now in
    let p = err_from_is_err_and c.from_residual.result c.from_residual.ensures.1 in
    rw (p.1, p.2) (stopped c.args.names.now line c.args.from c.count.result c.saturating_sub-levels.result c.in_err-stmts.field-0.0 c.count.ensures c.saturating_sub-levels.ensures c.in_err-stmts.ensures.read)

pub returns-then-next-count : goal.returns-then-next-count
returns-then-next-count c =
    let line = c.args.tokens.now in
    let next = c.in_ok-stmts.next in
    (drop next (token_texts line), read_less c.args.names.now line c.args.from c.count.result c.saturating_sub-levels.result next (statements c.in_ok-stmts.stmts.items) c.count.ensures c.saturating_sub-levels.ensures c.in_ok-stmts.ensures.read (omega arith), c.column.ensures ∙ sym (column_here line next))

pub returns-then-faults : goal.returns-then-faults
returns-then-faults c =
    let line = c.args.tokens.now in
    let all = read_all c.args.names.now line c.args.from c.count.result c.saturating_sub-levels.result c.in_ok-stmts.next (statements c.in_ok-stmts.stmts.items) c.count.ensures c.saturating_sub-levels.ensures c.in_ok-stmts.ensures.read (omega arith) in
    (statements c.in_ok-stmts.stmts.items, all, sym c.program_faults-faults.ensures.nested ∙ c.if-faults.true)

pub returns-then-faults-2 : goal.returns-then-faults-2
returns-then-faults-2 c =
    let line = c.args.tokens.now in
    let all = read_all c.args.names.now line c.args.from c.count.result c.saturating_sub-levels.result c.in_ok-stmts.next (statements c.in_ok-stmts.stmts.items) c.count.ensures c.saturating_sub-levels.ensures c.in_ok-stmts.ensures.read (omega arith) in
    (statements c.in_ok-stmts.stmts.items, all, sym c.program_faults-faults.ensures.nested ∙ c.if-faults.false, sym c.program_faults-faults.ensures.no_node ∙ c.if-faults-2.true)

pub returns : goal.returns
returns c =
    let line = c.args.tokens.now in
    let all = read_all c.args.names.now line c.args.from c.count.result c.saturating_sub-levels.result c.in_ok-stmts.next (statements c.in_ok-stmts.stmts.items) c.count.ensures c.saturating_sub-levels.ensures c.in_ok-stmts.ensures.read (omega arith) in
    (all, sym c.program_faults-faults.ensures.nested ∙ c.if-faults.false, sym c.program_faults-faults.ensures.no_node ∙ c.if-faults-2.false)
