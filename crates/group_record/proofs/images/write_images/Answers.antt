use Rattle.std.proofs.Common.{◌≡◌, ◌<◌, ◌∙◌, true, length, refl, ap, subst, arith}
use Rattle.std.proofs.lemmas.Result.{err_from_is_err_and}
use Rattle.fri_outside.specs.Several.{AreFirstMade, with_files}
use Rattle.fri_outside.specs.declared.files.WriteError.TheVariants as writing
use Rattle.group_record.specs.Run.{processes_in_group}
use Rattle.group_record.proofs.ImageFiles.{asked_fails, image_fails, image_is, image_made, name_here, named_all, within_kept}
use Rattle.group_record.proofs.SharedLemmas.{at_place, failed_write}
use Rattle.group_record.proofs.images.write_images.Goals as goal

pub returns-in_err-memory-clause-images : goal.returns-in_err-memory-clause-images
returns-in_err-memory-clause-images g c = λ group done keeps named.
    let p = err_from_is_err_and c.from_residual.result c.from_residual.ensures.1 in
    let k = c.loop-p.p in
    let before = g.F.Files.told c.args.files.now in
    let now = g.F.Files.told c.loop-p.files in
    let within : k < processes_in_group group = omega (arith, c.loop-p-test.true, named_all c.args.processes.now group.names named) in
    let name = name_here c.args.processes.now k c.index-processes-p.result c.as_slice-name.result.now group.names c.loop-p-test.true c.index-processes-p.is c.as_slice-name.ensures named in
    rw (p.1, p.2) (asked_fails c.args.asked group done writing.NoMemory before now c.if-not-asked.false keeps.room
    (image_fails group done.steps k c.as_slice-name.result.now before now now within name (c.loop-p.invariant.made group done keeps named) (0, refl)))

pub returns-in_err-write_image-clause-images : goal.returns-in_err-write_image-clause-images
returns-in_err-write_image-clause-images g c = λ group done keeps named.
    let p = err_from_is_err_and c.from_residual-in_err-write_image.result c.from_residual-in_err-write_image.ensures.1 in
    let k = c.loop-p.p in
    let before = g.F.Files.told c.args.files.now in
    let now = g.F.Files.told c.loop-p.files in
    let after = g.F.Files.told c.write_image.new.files in
    let asked : c.args.asked ≡ true = c.if-not-asked.false in
    let within : k < processes_in_group group = omega (arith, c.loop-p-test.true, named_all c.args.processes.now group.names named) in
    let at = at_place c.args.recorder.now.members.items k c.index.result.now (omega (arith, c.loop-p-test.true, c.requires.members)) c.index.ensures in
    let name = name_here c.args.processes.now k c.index-processes-p.result c.as_slice-name.result.now group.names c.loop-p-test.true c.index-processes-p.is c.as_slice-name.ensures named in
    let image = image_is group done c.args.recorder.now k c.index.result.now c.in-Some.process c.as_slice-name.result.now c.as_slice.result.now c.of.result.now keeps at c.in-Some.is
    (c.as_slice.ensures ∙ c.in_ok-memory.ensures ∙ ap (λ m. m.bytes) c.memory.ensures)
    (within_kept c.args.asked asked (length c.args.processes.now) (length c.args.recorder.now.prints) k c.requires.kept c.loop-p-test.true) c.of.ensures in
    rw (p.1, p.2) (asked_fails c.args.asked group done c.in_err-write_image.field-0.0 before after asked keeps.room
    (image_fails group done.steps k c.as_slice-name.result.now before now after within name (c.loop-p.invariant.made group done keeps named)
    (subst (λ fs. AreFirstMade fs now after) image c.in_err-write_image.ensures.err)))

pub loop-p-preserved : goal.loop-p-preserved
loop-p-preserved g c = record {
  made = λ group done keeps named.
      let k = c.loop-p.p in
      let before = g.F.Files.told c.args.files.now in
      let now = g.F.Files.told c.loop-p.files in
      let after = g.F.Files.told c.write_image.new.files in
      let asked : c.args.asked ≡ true = c.if-not-asked.false in
      let within : k < processes_in_group group = omega (arith, c.loop-p-test.true, named_all c.args.processes.now group.names named) in
      let at = at_place c.args.recorder.now.members.items k c.index.result.now (omega (arith, c.loop-p-test.true, c.requires.members)) c.index.ensures in
      let name = name_here c.args.processes.now k c.index-processes-p.result c.as_slice-name.result.now group.names c.loop-p-test.true c.index-processes-p.is c.as_slice-name.ensures named in
      let image = image_is group done c.args.recorder.now k c.index.result.now c.in-Some.process c.as_slice-name.result.now c.as_slice.result.now c.of.result.now keeps at c.in-Some.is
      (c.as_slice.ensures ∙ c.in_ok-memory.ensures ∙ ap (λ m. m.bytes) c.memory.ensures)
      (within_kept c.args.asked asked (length c.args.processes.now) (length c.args.recorder.now.prints) k c.requires.kept c.loop-p-test.true) c.of.ensures in
      image_made group done.steps k c.as_slice-name.result.now before now after within name (c.loop-p.invariant.made group done keeps named)
      (c.in_ok-write_image.ensures.ok ∙ ap (λ fs. with_files fs now) image);
  quiet = c.in_ok-write_image.ensures.counted ∙ c.loop-p.invariant.quiet;
}

pub returns-in_err-write_image-clause-counted : goal.returns-in_err-write_image-clause-counted
returns-in_err-write_image-clause-counted g c =
    let p = err_from_is_err_and c.from_residual-in_err-write_image.result c.from_residual-in_err-write_image.ensures.1 in
    rw (p.1, p.2) (failed_write (g.F.Files.counts c.args.files.now) (g.F.Files.counts c.loop-p.files) (g.F.Files.counts c.write_image.new.files) c.in_err-write_image.field-0.0 c.loop-p.invariant.quiet c.in_err-write_image.ensures.counted)
