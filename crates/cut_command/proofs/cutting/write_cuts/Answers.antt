use Rattle.std.proofs.Common.{◌∙◌, ap, map}
use Rattle.std.proofs.lemmas.Result.{err_from_is_err_and}
use Rattle.call_log.specs.Head.{Head}
use Rattle.fri_outside.specs.Outside.{Counts}
use Rattle.command_run.specs.CountLaws.{counts_same}
use Rattle.command_run.specs.FileLaws.{failed_makes}
use Rattle.cut_command.specs.inside.Meanings.{front_file}
use Rattle.cut_command.proofs.MadeFiles.{file_here, head_here, one_made}
use Rattle.cut_command.proofs.cutting.write_cuts.Goals as goal

pub returns-in_err-bytes-clause-made : goal.returns-in_err-bytes-clause-made
returns-in_err-bytes-clause-made g c =
    let p = err_from_is_err_and c.from_residual.result c.from_residual.ensures.1 in
    rw (p.1, p.2) (c.loop-front.front-index, c.loop-front.invariant.0)

pub write_file-requires : goal.write_file-requires
write_file-requires g c =
    head_here c.args.fronts.now c.loop-front.front-index c.front-item.result _ c.head.result.name.now c.requires c.loop-front-test.true c.front-item.is (ap (λ (h : Head). h.name) c.head.ensures)

pub returns-in_err-write_file-clause-made : goal.returns-in_err-write_file-clause-made
returns-in_err-write_file-clause-made g c =
    let p = err_from_is_err_and c.from_residual-in_err-write_file.result c.from_residual-in_err-write_file.ensures.1 in
    rw (p.1, p.2) (failed_makes c.in_err-write_file.field-0.0 _ _ _ (c.loop-front.front-index, c.in_err-write_file.ensures.err ∙ c.loop-front.invariant.0))

pub loop-front-preserved : goal.loop-front-preserved
loop-front-preserved g c =
    let here = file_here c.args.fronts.now c.loop-front.front-index c.front-item.result _ c.head.result.name.now c.deref.result.now c.loop-front-test.true c.front-item.is
    (ap (λ (h : Head). h.name) c.head.ensures) (c.deref.ensures.value ∙ c.in_ok-bytes.ensures) in (
      one_made (map front_file c.args.fronts.now) c.loop-front.front-index _ _ _ _ here c.loop-front.invariant.0 c.in_ok-write_file.ensures.ok,
      counts_same _ _ _ _ c.loop-front.invariant.1 c.in_ok-write_file.ensures.counted,
      ap (λ (n : Counts). n.asked) c.in_ok-write_file.ensures.counted ∙ c.loop-front.invariant.2,
    )
