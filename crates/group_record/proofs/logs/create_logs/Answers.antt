use Rattle.std.proofs.Common.{◌≡◌, ◌∙◌, ◌<◌, arith}
use Rattle.std.proofs.lemmas.Result.{err_from_is_err_and}
use Rattle.group_record.specs.Logs.{log_name}
use Rattle.group_record.specs.Run.{name_of_process, processes_in_group}
use Rattle.group_record.proofs.LogHeads.{all_made, create_goes_on, create_stops}
use Rattle.group_record.proofs.SharedLemmas.{at_place, failed_write}
use Rattle.group_record.proofs.logs.create_logs.Goals as goal

pub returns-in_err-create-clause-files : goal.returns-in_err-create-clause-files
returns-in_err-create-clause-files g c = λ group have.
    let p = err_from_is_err_and c.from_residual.result c.from_residual.ensures.1 in
    let k = c.loop-member.member-index in
    let within : k < processes_in_group group = omega (arith, c.loop-member-test.true, have.count) in
    let at = at_place c.args.members.now k c.member-item.result c.loop-member-test.true c.member-item.is in
    let named : c.deref.result.now ≡ log_name (name_of_process group k) = c.deref.ensures ∙ have.logs k c.member-item.result at in
    rw (p.1, p.2) (create_stops c.keeps_files.ensures group k c.deref.result.now (g.F.Files.told c.args.files.now) (g.F.Files.told c.loop-member.files) (g.F.Files.told c.create.new.self) c.in_err-create.field-0.0 within named (c.loop-member.invariant.made group have) c.in_err-create.ensures.err)

pub loop-member-preserved : goal.loop-member-preserved
loop-member-preserved g c = record {
  made = λ group have.
      let k = c.loop-member.member-index in
      let within : k < processes_in_group group = omega (arith, c.loop-member-test.true, have.count) in
      let at = at_place c.args.members.now k c.member-item.result c.loop-member-test.true c.member-item.is in
      let named : c.deref.result.now ≡ log_name (name_of_process group k) = c.deref.ensures ∙ have.logs k c.member-item.result at in
      create_goes_on c.keeps_files.ensures group k c.deref.result.now (g.F.Files.told c.args.files.now) (g.F.Files.told c.loop-member.files) (g.F.Files.told c.create.new.self) within named (c.loop-member.invariant.made group have) c.in_ok-create.ensures.ok;
  quiet = c.in_ok-create.ensures.counted ∙ c.loop-member.invariant.quiet;
}

pub returns-clause-files : goal.returns-clause-files
returns-clause-files g c = λ group have.
    all_made group c.loop-member.member-index (g.F.Files.told c.args.files.now) (g.F.Files.told c.loop-member.files) (omega (arith, c.loop-member-test.false, have.count)) (c.loop-member.invariant.made group have)

pub returns-in_err-create-clause-counted : goal.returns-in_err-create-clause-counted
returns-in_err-create-clause-counted g c =
    let p = err_from_is_err_and c.from_residual.result c.from_residual.ensures.1 in
    rw (p.1, p.2) (failed_write (g.F.Files.counts c.args.files.now) (g.F.Files.counts c.loop-member.files) (g.F.Files.counts c.create.new.self) c.in_err-create.field-0.0 c.loop-member.invariant.quiet c.in_err-create.ensures.counted)
