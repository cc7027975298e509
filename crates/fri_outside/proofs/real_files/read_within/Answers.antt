use Rattle.std.proofs.Common.{◌<◌, ◌≤◌, length, arith}
use Rattle.fri_outside.proofs.FilePieces.{found_held, found_over}
use Rattle.fri_outside.proofs.real_files.read_within.Goals as goal

pub returns-in-Ok-clause-answer : goal.returns-in-Ok-clause-answer
returns-in-Ok-clause-answer g c = λ all known.
    let over : c.args.limit < length c.in-Ok.bytes.items = omega (arith, c.len.ensures, c.if-len-limit.true, c.in-Ok.bytes.ok.0) in
    found_over c.args.limit all c.in-Ok.bytes.items (c.in-Ok.ensures all known) over

pub returns-in-Ok-2-clause-answer : goal.returns-in-Ok-2-clause-answer
returns-in-Ok-2-clause-answer g c = λ all known.
    let within : length c.in-Ok.bytes.items ≤ c.args.limit = omega (arith, c.len.ensures, c.if-len-limit.false, c.in-Ok.bytes.ok.0) in
    found_held c.args.limit all c.in-Ok.bytes.items (c.in-Ok.ensures all known) within

pub returns-in-Err-clause-answer : goal.returns-in-Err-clause-answer
returns-in-Err-clause-answer g c = λ all known. c.bytes_error.ensures _
