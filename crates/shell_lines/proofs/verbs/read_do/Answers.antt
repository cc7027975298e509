use Rattle.std.proofs.lemmas.Result.{err_from_is_err_and}
use Rattle.shell_lines.proofs.ProgramFaults.{program_refused}
use Rattle.shell_lines.proofs.verbs.read_do.Goals as goal

pub returns-in_err-program : goal.returns-in_err-program
returns-in_err-program c =
    let p = err_from_is_err_and c.from_residual-in_err-program.result c.from_residual-in_err-program.ensures.1 in
    rw (p.1, p.2) (program_refused c.args.names.now c.args.tokens.now _ c.in_ok-number.number c.in_err-program.field-0.0 c.in_ok-number.ensures c.in_err-program.ensures)
