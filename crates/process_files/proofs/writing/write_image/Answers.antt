use Rattle.std.proofs.lemmas.Result.{err_from_is_err_and}
use Rattle.process_files.specs.Images.{mem_name, out_name}
use Rattle.process_files.proofs.TwoFiles.{first_fails, second_fails}
use Rattle.process_files.proofs.writing.write_image.Goals as goal

pub returns-in_err-write_file-clause-err : goal.returns-in_err-write_file-clause-err
returns-in_err-write_file-clause-err g c =
    let p = err_from_is_err_and c.from_residual.result c.from_residual.ensures.1 in
    rw p.1 (first_fails (mem_name c.args.name.now, c.args.memory.now) (out_name c.args.name.now, c.args.printed.now) (g.F.Files.told c.args.files.now) (g.F.Files.told c.write_file.new.files) c.in_err-write_file.ensures.err)

pub returns-clause-err : goal.returns-clause-err
returns-clause-err g c =
    second_fails (mem_name c.args.name.now, c.args.memory.now) (out_name c.args.name.now, c.args.printed.now) (g.F.Files.told c.args.files.now) (g.F.Files.told c.write_file.new.files) (g.F.Files.told c.write_file-2.new.files) c.write_file-2.result
    c.in_ok-write_file.ensures.ok c.write_file-2.ensures.err
