use Rattle.std.proofs.Common.{◌≡◌, ◌∙◌, ◌<◌, arith}
use Rattle.std.proofs.lemmas.Result.{err_from_is_err_and}
use Rattle.group_record.specs.inside.Begun.{heads_of_logs}
use Rattle.group_record.specs.Logs.{log_name}
use Rattle.group_record.specs.Run.{name_of_process, processes_in_group}
use Rattle.group_record.proofs.LogHeads.{all_heads, head_stops, heads_go_on}
use Rattle.group_record.proofs.SharedLemmas.{at_place, failed_write}
use Rattle.group_record.proofs.logs.write_heads.Goals as goal

pub returns-in_err-append-clause-heads : goal.returns-in_err-append-clause-heads
returns-in_err-append-clause-heads g c = λ group before have made.
    let p = err_from_is_err_and c.from_residual.result c.from_residual.ensures.1 in
    let k = c.loop-member.member-index in
    let within : k < processes_in_group group = omega (arith, c.loop-member-test.true, have.count) in
    let at = at_place c.args.members.now k c.member-item.result c.loop-member-test.true c.member-item.is in
    let named : c.deref.result.now ≡ log_name (name_of_process group k) = c.deref.ensures ∙ have.logs k c.member-item.result at in
    let spelled : c.deref-in-loop-member.result.now ≡ heads_of_logs group k = c.deref-in-loop-member.ensures.value ∙ have.heads k c.member-item.result at in
    rw (p.1, p.2) (head_stops c.keeps_files.ensures group c.args.members.now k c.deref.result.now c.deref-in-loop-member.result.now before (g.F.Files.told c.loop-member.files) (g.F.Files.told c.append.new.self) c.in_err-append.field-0.0 have within named spelled (c.loop-member.invariant.written group before have made) c.in_err-append.ensures.err)

pub loop-member-preserved : goal.loop-member-preserved
loop-member-preserved g c = record {
  written = λ group before have made.
      let k = c.loop-member.member-index in
      let within : k < processes_in_group group = omega (arith, c.loop-member-test.true, have.count) in
      let at = at_place c.args.members.now k c.member-item.result c.loop-member-test.true c.member-item.is in
      let named : c.deref.result.now ≡ log_name (name_of_process group k) = c.deref.ensures ∙ have.logs k c.member-item.result at in
      let spelled : c.deref-in-loop-member.result.now ≡ heads_of_logs group k = c.deref-in-loop-member.ensures.value ∙ have.heads k c.member-item.result at in
      heads_go_on c.keeps_files.ensures group c.args.members.now k c.deref.result.now c.deref-in-loop-member.result.now before (g.F.Files.told c.loop-member.files) (g.F.Files.told c.append.new.self) have within named spelled (c.loop-member.invariant.written group before have made) c.in_ok-append.ensures.ok;
  quiet = c.in_ok-append.ensures.counted ∙ c.loop-member.invariant.quiet;
}

pub returns-clause-heads : goal.returns-clause-heads
returns-clause-heads g c = λ group before have made.
    all_heads group c.loop-member.member-index before (g.F.Files.told c.loop-member.files) (omega (arith, c.loop-member-test.false, have.count)) (c.loop-member.invariant.written group before have made)

pub returns-in_err-append-clause-counted : goal.returns-in_err-append-clause-counted
returns-in_err-append-clause-counted g c =
    let p = err_from_is_err_and c.from_residual.result c.from_residual.ensures.1 in
    rw (p.1, p.2) (failed_write (g.F.Files.counts c.args.files.now) (g.F.Files.counts c.loop-member.files) (g.F.Files.counts c.append.new.self) c.in_err-append.field-0.0 c.loop-member.invariant.quiet c.in_err-append.ensures.counted)
