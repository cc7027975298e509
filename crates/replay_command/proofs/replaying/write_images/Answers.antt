use Rattle.std.proofs.Common.{◌∙◌, ap, arith, length, refl}
use Rattle.std.proofs.lemmas.Result.{err_from_is_err_and}
use Rattle.call_log.specs.Head.{head_of}
use Rattle.fri_outside.specs.Outside.{Counts}
use Rattle.group_state.specs.Report.{Reporting}
use Rattle.command_run.specs.CountLaws.{counts_same}
use Rattle.command_run.specs.FileLaws.{failed_makes}
use Rattle.replay_command.proofs.ReplayImages.{all_made, all_same, first_made, named, none_made, one_made, own_files, part_made}
use Rattle.replay_command.proofs.replaying.write_images.Goals as goal

pub images-init : goal.images-init
images-init g c = (none_made c.args.reporter (g.F.Files.told c.args.files.now) c.requires, record { reads = refl; writes = refl; misses = refl }, refl)

pub returns-in_err-next-clause-part : goal.returns-in_err-next-clause-part
returns-in_err-next-clause-part g c =
    let p = err_from_is_err_and c.from_residual.result c.from_residual.ensures.1 in
    rw (p.1, p.2) (first_made _ _ _ _ c.images.invariant.0)

pub returns-in_default-clause-made : goal.returns-in_default-clause-made
returns-in_default-clause-made g c =
    let last = rw c.in_default.is at c.in_ok-next.ensures in
    all_made _ _ _ _ c.images.invariant.0 last.0

pub returns-in_default-clause-same : goal.returns-in_default-clause-same
returns-in_default-clause-same g c =
    let last = rw c.in_default.is at c.in_ok-next.ensures in
    all_same _ _ _ _ _ c.images.invariant.0 last.1

pub write_image-requires : goal.write_image-requires
write_image-requires g c =
    let given = rw c.in-Some.is at c.in_ok-next.ensures in
    named _ _ _ _ _ given.0 c.images.invariant.0 given.1 (head_of c.in-Some.head) given.2.0

pub returns-in_err-write_image-clause-part : goal.returns-in_err-write_image-clause-part
returns-in_err-write_image-clause-part g c =
    let p = err_from_is_err_and c.from_residual-in_err-write_image.result c.from_residual-in_err-write_image.ensures.1 in
    let given = rw c.in-Some.is at c.in_ok-next.ensures in
    let own = own_files given.0 (head_of c.in-Some.head) c.as_slice.result.now c.as_slice-in-images.result.now c.in-Some.image given.2.0 given.2.1 c.as_slice.ensures c.as_slice-in-images.ensures in
    rw (p.1, p.2)
    (failed_makes c.in_err-write_image.field-0.0 _ _ _
    (part_made _ _ _ _ _ given.0 c.images.invariant.0 given.1 _ _ own c.in_err-write_image.ensures.err))

pub images-smaller : goal.images-smaller
images-smaller g c =
    let given = rw c.in-Some.is at c.in_ok-next.ensures in
    omega (arith, ap (λ (r : Reporting). length r.left) given.1)

pub images-preserved : goal.images-preserved
images-preserved g c =
    let given = rw c.in-Some.is at c.in_ok-next.ensures in
    let own = own_files given.0 (head_of c.in-Some.head) c.as_slice.result.now c.as_slice-in-images.result.now c.in-Some.image given.2.0 given.2.1 c.as_slice.ensures c.as_slice-in-images.ensures in (
      one_made _ _ _ _ _ given.0 c.images.invariant.0 given.1 _ _ own c.in_ok-write_image.ensures.ok,
      counts_same _ _ _ _ c.images.invariant.1 c.in_ok-write_image.ensures.counted,
      ap (λ (n : Counts). n.asked) c.in_ok-write_image.ensures.counted ∙ c.images.invariant.2,
    )
