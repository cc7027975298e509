use Rattle.std.proofs.Common.{Ok, Err, map, subst, sym}
use Rattle.std.proofs.lemmas.Result.{err_from_is_err_and}
use Rattle.command_run.specs.declared.refusal.WorkText.TheVariants as answered
use Rattle.command_run.specs.AskedLaws.{asks_first_only, asks_no_more}
use Rattle.command_run.specs.CountLaws.{counts_still}
use Rattle.command_run.specs.FileLaws.{some_files_made}
use Rattle.command_run.specs.OutcomeLaws.{refused_makes_whole, refused_tells}
use Rattle.log_pairs.specs.Meanings.{LoadsFiles, pair_of}
use Rattle.cut_command.specs.Cut.{cut_outcome}
use Rattle.cut_command.proofs.CutOutcome.{files_made, found_past, opening_stops, work_cuts, work_makes, work_tells}
use Rattle.cut_command.proofs.cutting.cut.Goals as goal

pub returns-in_err-all-clause-makes : goal.returns-in_err-all-clause-makes
returns-in_err-all-clause-makes g c =
    let p = err_from_is_err_and c.from_residual.result c.from_residual.ensures.1 in
    let pairs = map pair_of c.args.pairs.now in
    let told = g.F.Files.told c.args.files.now in
    let stops = opening_stops c.args.process c.args.event pairs told c.in_err-all.field-0.0 c.in_err-all.ensures.answer in
    rw (p.1, p.2) (refused_makes_whole (cut_outcome c.args.process c.args.event pairs) told (g.F.Files.told c.load_all.new.files) c.in_err-all.field-0.0 stops c.load_all.ensures.same)

pub returns-in_err-replayers-clause-tells : goal.returns-in_err-replayers-clause-tells
returns-in_err-replayers-clause-tells g c =
    let p = err_from_is_err_and c.from_residual-in_err-replayers.result c.from_residual-in_err-replayers.ensures.1 in
    let pairs = map pair_of c.args.pairs.now in
    let told = g.F.Files.told c.args.files.now in
    let stops = opening_stops c.args.process c.args.event pairs told c.in_err-replayers.field-0.0
    (c.in_err-replayers.ensures.answer pairs told (subst (LoadsFiles pairs told) (sym c.deref.ensures.value) c.in_ok-all.ensures.answer)) in
    rw (p.1, p.2) (refused_tells (cut_outcome c.args.process c.args.event pairs) told c.in_err-replayers.field-0.0 stops)

pub returns-in_err-replayers-clause-makes : goal.returns-in_err-replayers-clause-makes
returns-in_err-replayers-clause-makes g c =
    let p = err_from_is_err_and c.from_residual-in_err-replayers.result c.from_residual-in_err-replayers.ensures.1 in
    let pairs = map pair_of c.args.pairs.now in
    let told = g.F.Files.told c.args.files.now in
    let stops = opening_stops c.args.process c.args.event pairs told c.in_err-replayers.field-0.0
    (c.in_err-replayers.ensures.answer pairs told (subst (LoadsFiles pairs told) (sym c.deref.ensures.value) c.in_ok-all.ensures.answer)) in
    rw (p.1, p.2) (refused_makes_whole (cut_outcome c.args.process c.args.event pairs) told (g.F.Files.told c.load_all.new.files) c.in_err-replayers.field-0.0 stops c.load_all.ensures.same)

pub returns-in_err-replayers-clause-counts : goal.returns-in_err-replayers-clause-counts
returns-in_err-replayers-clause-counts g c =
    let p = err_from_is_err_and c.from_residual-in_err-replayers.result c.from_residual-in_err-replayers.ensures.1 in
    rw (p.1, p.2) (counts_still _ _ _ (Err c.in_err-replayers.field-0.0) c.in_err-replayers.ensures.still c.in_ok-all.ensures.counts)

pub returns-in_err-replayers-clause-cause : goal.returns-in_err-replayers-clause-cause
returns-in_err-replayers-clause-cause g c =
    let p = err_from_is_err_and c.from_residual-in_err-replayers.result c.from_residual-in_err-replayers.ensures.1 in
    rw (p.1, p.2) (c.in_err-replayers.ensures.cause (g.F.Files.counts c.args.files.now) (g.F.Files.counts c.load_all.new.files))

pub returns-in_err-past-clause-tells : goal.returns-in_err-past-clause-tells
returns-in_err-past-clause-tells g c =
    let p = err_from_is_err_and c.from_residual-in_err-past.result c.from_residual-in_err-past.ensures.1 in
    let pairs = map pair_of c.args.pairs.now in
    let told = g.F.Files.told c.args.files.now in
    let loaded = subst (LoadsFiles pairs told) (sym c.deref-2.ensures.value) c.in_ok-all.ensures.answer in
    let begun = c.in_ok-replayers.ensures.answer pairs told (subst (LoadsFiles pairs told) (sym c.deref.ensures.value) c.in_ok-all.ensures.answer) in
    let stops = found_past c.args.process c.args.event pairs told c.deref-2.result.now c.in_ok-replayers.replayers.items (Err c.in_err-past.field-0.0) loaded begun c.in_err-past.ensures.answer in
    rw (p.1, p.2) (refused_tells (cut_outcome c.args.process c.args.event pairs) told c.in_err-past.field-0.0 stops)

pub returns-in_err-past-clause-makes : goal.returns-in_err-past-clause-makes
returns-in_err-past-clause-makes g c =
    let p = err_from_is_err_and c.from_residual-in_err-past.result c.from_residual-in_err-past.ensures.1 in
    let pairs = map pair_of c.args.pairs.now in
    let told = g.F.Files.told c.args.files.now in
    let loaded = subst (LoadsFiles pairs told) (sym c.deref-2.ensures.value) c.in_ok-all.ensures.answer in
    let begun = c.in_ok-replayers.ensures.answer pairs told (subst (LoadsFiles pairs told) (sym c.deref.ensures.value) c.in_ok-all.ensures.answer) in
    let stops = found_past c.args.process c.args.event pairs told c.deref-2.result.now c.in_ok-replayers.replayers.items (Err c.in_err-past.field-0.0) loaded begun c.in_err-past.ensures.answer in
    rw (p.1, p.2) (refused_makes_whole (cut_outcome c.args.process c.args.event pairs) told (g.F.Files.told c.load_all.new.files) c.in_err-past.field-0.0 stops c.load_all.ensures.same)

pub returns-in_err-past-clause-counts : goal.returns-in_err-past-clause-counts
returns-in_err-past-clause-counts g c =
    let p = err_from_is_err_and c.from_residual-in_err-past.result c.from_residual-in_err-past.ensures.1 in
    rw (p.1, p.2) (counts_still _ _ _ (Err c.in_err-past.field-0.0) c.in_err-past.ensures.still c.in_ok-all.ensures.counts)

pub returns-in_err-past-clause-cause : goal.returns-in_err-past-clause-cause
returns-in_err-past-clause-cause g c =
    let p = err_from_is_err_and c.from_residual-in_err-past.result c.from_residual-in_err-past.ensures.1 in
    rw (p.1, p.2) (c.in_err-past.ensures.cause (g.F.Files.counts c.args.files.now) (g.F.Files.counts c.load_all.new.files))

pub returns-in_err-write_cuts-clause-makes : goal.returns-in_err-write_cuts-clause-makes
returns-in_err-write_cuts-clause-makes g c =
    let p = err_from_is_err_and c.from_residual-in_err-write_cuts.result c.from_residual-in_err-write_cuts.ensures.1 in
    let pairs = map pair_of c.args.pairs.now in
    let told = g.F.Files.told c.args.files.now in
    let loaded = subst (LoadsFiles pairs told) (sym c.deref-2.ensures.value) c.in_ok-all.ensures.answer in
    let begun = c.in_ok-replayers.ensures.answer pairs told (subst (LoadsFiles pairs told) (sym c.deref.ensures.value) c.in_ok-all.ensures.answer) in
    let works = found_past c.args.process c.args.event pairs told c.deref-2.result.now c.in_ok-replayers.replayers.items (Ok c.in_ok-past.past) loaded begun c.in_ok-past.ensures.answer in
    let e = c.in_err-write_cuts.field-0.0 in
    rw (p.1, p.2)
    (work_makes c.args.process c.args.event pairs told c.in_ok-past.past works (g.F.Files.told c.write_cuts.new.files) (Err e)
    (some_files_made e _ _ _ (files_made (Err e) c.deref-3.result.now c.in_ok-past.past.fronts.items (g.F.Files.told c.load_all.new.files) told (g.F.Files.told c.write_cuts.new.files) c.deref-3.ensures.value c.load_all.ensures.same c.in_err-write_cuts.ensures.made)))

pub returns-clause-tells : goal.returns-clause-tells
returns-clause-tells g c =
    let pairs = map pair_of c.args.pairs.now in
    let told = g.F.Files.told c.args.files.now in
    let loaded = subst (LoadsFiles pairs told) (sym c.deref-2.ensures.value) c.in_ok-all.ensures.answer in
    let begun = c.in_ok-replayers.ensures.answer pairs told (subst (LoadsFiles pairs told) (sym c.deref.ensures.value) c.in_ok-all.ensures.answer) in
    let works = found_past c.args.process c.args.event pairs told c.deref-2.result.now c.in_ok-replayers.replayers.items (Ok c.in_ok-past.past) loaded begun c.in_ok-past.ensures.answer in
    work_tells c.args.process c.args.event pairs told c.in_ok-past.past works

pub returns-clause-makes : goal.returns-clause-makes
returns-clause-makes g c =
    let pairs = map pair_of c.args.pairs.now in
    let told = g.F.Files.told c.args.files.now in
    let loaded = subst (LoadsFiles pairs told) (sym c.deref-2.ensures.value) c.in_ok-all.ensures.answer in
    let begun = c.in_ok-replayers.ensures.answer pairs told (subst (LoadsFiles pairs told) (sym c.deref.ensures.value) c.in_ok-all.ensures.answer) in
    let works = found_past c.args.process c.args.event pairs told c.deref-2.result.now c.in_ok-replayers.replayers.items (Ok c.in_ok-past.past) loaded begun c.in_ok-past.ensures.answer in
    work_makes c.args.process c.args.event pairs told c.in_ok-past.past works (g.F.Files.told c.write_cuts.new.files) (Ok (answered.Done c.in_ok-past.past.text))
    (files_made (Ok tt) c.deref-3.result.now c.in_ok-past.past.fronts.items (g.F.Files.told c.load_all.new.files) told (g.F.Files.told c.write_cuts.new.files) c.deref-3.ensures.value c.load_all.ensures.same c.in_ok-write_cuts.ensures.made)

pub returns-clause-least : goal.returns-clause-least
returns-clause-least g c =
    let pairs = map pair_of c.args.pairs.now in
    let told = g.F.Files.told c.args.files.now in
    let loaded = subst (LoadsFiles pairs told) (sym c.deref-2.ensures.value) c.in_ok-all.ensures.answer in
    let begun = c.in_ok-replayers.ensures.answer pairs told (subst (LoadsFiles pairs told) (sym c.deref.ensures.value) c.in_ok-all.ensures.answer) in
    let works = found_past c.args.process c.args.event pairs told c.deref-2.result.now c.in_ok-replayers.replayers.items (Ok c.in_ok-past.past) loaded begun c.in_ok-past.ensures.answer in
    work_cuts c.args.process c.args.event pairs told c.in_ok-past.past works c.in_ok-replayers.replayers.items begun c.in_ok-past.ensures.least

pub returns-clause-asks : goal.returns-clause-asks
returns-clause-asks g c = asks_first_only _ _ _ _ c.load_all.ensures.asks c.write_cuts.ensures.asked

pub returns-clause-asks_all : goal.returns-clause-asks_all
returns-clause-asks_all g c = asks_no_more _ (g.F.Files.counts c.args.files.now) (g.F.Files.counts c.load_all.new.files) (g.F.Files.counts c.write_cuts.new.files) c.in_ok-all.ensures.asks_all c.write_cuts.ensures.asked

pub returns-in_err-write_cuts-clause-asks : goal.returns-in_err-write_cuts-clause-asks
returns-in_err-write_cuts-clause-asks g c = asks_first_only _ _ _ _ c.load_all.ensures.asks c.write_cuts.ensures.asked
