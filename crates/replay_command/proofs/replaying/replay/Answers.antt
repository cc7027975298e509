use Rattle.std.proofs.Common.{List, Ok, Err, ap, map, subst, sym}
use Rattle.std.proofs.lemmas.Result.{err_from_is_err_and}
use Rattle.command_run.specs.declared.refusal.StopCause.TheVariants as refusal
use Rattle.command_run.specs.AskedLaws.{asks_first_only, asks_no_more}
use Rattle.command_run.specs.CountLaws.{counts_still}
use Rattle.command_run.specs.FileLaws.{all_first_made, some_files_made}
use Rattle.command_run.specs.OutcomeLaws.{refused_makes_whole, refused_tells}
use Rattle.log_pairs.specs.declared.pairs.Loaded.{Loaded}
use Rattle.log_pairs.specs.Meanings.{LoadsFiles, pair_of}
use Rattle.replay_command.specs.Report.{replay_outcome}
use Rattle.replay_command.proofs.ReplayOutcome.{can_work, clash_refused, images_begun, images_made, opening_stops, replay_makes, report_tells}
use Rattle.group_state.specs.Report.{Reporting}
use Rattle.call_log.specs.Head.{IsHead}
use Rattle.std.specs.Prelude.{All}
use Rattle.proc_replay.specs.Replaying.{Replaying}
use Rattle.replay_command.proofs.ReplayImages.{report_is}
use Rattle.replay_command.proofs.replaying.replay.Goals as goal

pub returns-in_err-all-clause-tells : goal.returns-in_err-all-clause-tells
returns-in_err-all-clause-tells g c =
    let p = err_from_is_err_and c.from_residual.result c.from_residual.ensures.1 in
    rw (p.1, p.2) (refused_tells (replay_outcome c.args.images (map pair_of c.args.pairs.now)) (g.F.Files.told c.args.files.now) c.in_err-all.field-0.0 (opening_stops c.args.images (map pair_of c.args.pairs.now) (g.F.Files.told c.args.files.now) c.in_err-all.field-0.0 c.in_err-all.ensures.answer))

pub returns-in_err-all-clause-makes : goal.returns-in_err-all-clause-makes
returns-in_err-all-clause-makes g c =
    let p = err_from_is_err_and c.from_residual.result c.from_residual.ensures.1 in
    rw (p.1, p.2)
    (refused_makes_whole (replay_outcome c.args.images (map pair_of c.args.pairs.now)) (g.F.Files.told c.args.files.now) (g.F.Files.told c.load_all.new.files) c.in_err-all.field-0.0 (opening_stops c.args.images (map pair_of c.args.pairs.now) (g.F.Files.told c.args.files.now) c.in_err-all.field-0.0 c.in_err-all.ensures.answer) c.load_all.ensures.same)

pub returns-in_err-replayers-clause-tells : goal.returns-in_err-replayers-clause-tells
returns-in_err-replayers-clause-tells g c =
    let p = err_from_is_err_and c.from_residual-in_err-replayers.result c.from_residual-in_err-replayers.ensures.1 in
    rw (p.1, p.2) (refused_tells (replay_outcome c.args.images (map pair_of c.args.pairs.now)) (g.F.Files.told c.args.files.now) c.in_err-replayers.field-0.0 (opening_stops c.args.images (map pair_of c.args.pairs.now) (g.F.Files.told c.args.files.now) c.in_err-replayers.field-0.0 (c.in_err-replayers.ensures.answer (map pair_of c.args.pairs.now) (g.F.Files.told c.args.files.now) (subst (λ (all : List Loaded). LoadsFiles (map pair_of c.args.pairs.now) (g.F.Files.told c.args.files.now) all) (sym c.deref.ensures.value) c.in_ok-all.ensures.answer))))

pub returns-in_err-replayers-clause-makes : goal.returns-in_err-replayers-clause-makes
returns-in_err-replayers-clause-makes g c =
    let p = err_from_is_err_and c.from_residual-in_err-replayers.result c.from_residual-in_err-replayers.ensures.1 in
    rw (p.1, p.2)
    (refused_makes_whole (replay_outcome c.args.images (map pair_of c.args.pairs.now)) (g.F.Files.told c.args.files.now) (g.F.Files.told c.load_all.new.files) c.in_err-replayers.field-0.0 (opening_stops c.args.images (map pair_of c.args.pairs.now) (g.F.Files.told c.args.files.now) c.in_err-replayers.field-0.0 (c.in_err-replayers.ensures.answer (map pair_of c.args.pairs.now) (g.F.Files.told c.args.files.now) (subst (λ (all : List Loaded). LoadsFiles (map pair_of c.args.pairs.now) (g.F.Files.told c.args.files.now) all) (sym c.deref.ensures.value) c.in_ok-all.ensures.answer))) c.load_all.ensures.same)

pub returns-in_err-replayers-clause-cause : goal.returns-in_err-replayers-clause-cause
returns-in_err-replayers-clause-cause g c =
    let p = err_from_is_err_and c.from_residual-in_err-replayers.result c.from_residual-in_err-replayers.ensures.1 in
    rw (p.1, p.2) (c.in_err-replayers.ensures.cause (g.F.Files.counts c.args.files.now) (g.F.Files.counts c.load_all.new.files))

pub returns-in_err-replayers-clause-counts : goal.returns-in_err-replayers-clause-counts
returns-in_err-replayers-clause-counts g c =
    let p = err_from_is_err_and c.from_residual-in_err-replayers.result c.from_residual-in_err-replayers.ensures.1 in
    rw (p.1, p.2) (counts_still _ _ _ (Err c.in_err-replayers.field-0.0) c.in_err-replayers.ensures.still c.in_ok-all.ensures.counts)

pub returns-in_err-keep_pairs-clause-tells : goal.returns-in_err-keep_pairs-clause-tells
returns-in_err-keep_pairs-clause-tells g c =
    let p = err_from_is_err_and c.from_residual-in_err-keep_pairs.result c.from_residual-in_err-keep_pairs.ensures.1 in
    rw (p.1, p.2) (refused_tells (replay_outcome c.args.images (map pair_of c.args.pairs.now)) (g.F.Files.told c.args.files.now) c.in_err-keep_pairs.field-0.0
    (clash_refused c.args.images (map pair_of c.args.pairs.now) (g.F.Files.told c.args.files.now) c.in_ok-replayers.replayers.items
    (c.in_ok-replayers.ensures.answer (map pair_of c.args.pairs.now) (g.F.Files.told c.args.files.now) (subst (λ (all : List Loaded). LoadsFiles (map pair_of c.args.pairs.now) (g.F.Files.told c.args.files.now) all) (sym c.deref.ensures.value) c.in_ok-all.ensures.answer)) c.deref-2.result.now c.in_err-keep_pairs.field-0.0 c.deref-2.ensures.value c.in_err-keep_pairs.ensures.answer))

pub returns-in_err-keep_pairs-clause-makes : goal.returns-in_err-keep_pairs-clause-makes
returns-in_err-keep_pairs-clause-makes g c =
    let p = err_from_is_err_and c.from_residual-in_err-keep_pairs.result c.from_residual-in_err-keep_pairs.ensures.1 in
    rw (p.1, p.2) (refused_makes_whole (replay_outcome c.args.images (map pair_of c.args.pairs.now)) (g.F.Files.told c.args.files.now) (g.F.Files.told c.load_all.new.files) c.in_err-keep_pairs.field-0.0
    (clash_refused c.args.images (map pair_of c.args.pairs.now) (g.F.Files.told c.args.files.now) c.in_ok-replayers.replayers.items
    (c.in_ok-replayers.ensures.answer (map pair_of c.args.pairs.now) (g.F.Files.told c.args.files.now) (subst (λ (all : List Loaded). LoadsFiles (map pair_of c.args.pairs.now) (g.F.Files.told c.args.files.now) all) (sym c.deref.ensures.value) c.in_ok-all.ensures.answer)) c.deref-2.result.now c.in_err-keep_pairs.field-0.0 c.deref-2.ensures.value c.in_err-keep_pairs.ensures.answer) c.load_all.ensures.same)

pub returns-in_err-keep_pairs-clause-cause : goal.returns-in_err-keep_pairs-clause-cause
returns-in_err-keep_pairs-clause-cause g c =
    let p = err_from_is_err_and c.from_residual-in_err-keep_pairs.result c.from_residual-in_err-keep_pairs.ensures.1 in
    rw (p.1, p.2) (c.in_err-keep_pairs.ensures.cause (g.F.Files.counts c.args.files.now) (g.F.Files.counts c.load_all.new.files))

pub returns-in_err-keep_pairs-clause-counts : goal.returns-in_err-keep_pairs-clause-counts
returns-in_err-keep_pairs-clause-counts g c =
    let p = err_from_is_err_and c.from_residual-in_err-keep_pairs.result c.from_residual-in_err-keep_pairs.ensures.1 in
    rw (p.1, p.2) (counts_still _ _ _ (Err c.in_err-keep_pairs.field-0.0) c.in_err-keep_pairs.ensures.still c.in_ok-all.ensures.counts)

pub write_asked-requires : goal.write_asked-requires
write_asked-requires g c = subst (λ (r : Reporting). All (λ (r : Replaying). IsHead r.head) r.left) (sym c.begin-begun.ensures) c.in_ok-replayers.ensures.heads

pub returns-in_err-reporter-clause-makes : goal.returns-in_err-reporter-clause-makes
returns-in_err-reporter-clause-makes g c =
    let p = err_from_is_err_and c.from_residual-in_err-reporter.result c.from_residual-in_err-reporter.ensures.1 in
    rw (p.1, p.2)
    (replay_makes c.args.images (map pair_of c.args.pairs.now) (g.F.Files.told c.args.files.now) (g.F.Files.told c.write_asked.new.files) c.in_ok-replayers.replayers.items (Err c.in_err-reporter.field-0.0)
    (can_work c.args.images (map pair_of c.args.pairs.now) (g.F.Files.told c.args.files.now) c.deref-2.result.now c.in_ok-replayers.replayers.items c.deref-2.ensures.value
    (c.in_ok-replayers.ensures.answer (map pair_of c.args.pairs.now) (g.F.Files.told c.args.files.now) (subst (λ (all : List Loaded). LoadsFiles (map pair_of c.args.pairs.now) (g.F.Files.told c.args.files.now) all) (sym c.deref.ensures.value) c.in_ok-all.ensures.answer)) c.in_ok-keep_pairs.ensures.answer)
    (some_files_made c.in_err-reporter.field-0.0 _ _ _ (images_begun c.args.images _ _ _ _ _ c.in_err-reporter.field-0.0 (ap (λ (r : Reporting). r.left) c.begin-begun.ensures) c.load_all.ensures.same c.in_err-reporter.ensures.part)))

pub returns-in_err-report-clause-makes : goal.returns-in_err-report-clause-makes
returns-in_err-report-clause-makes g c =
    let p = err_from_is_err_and c.from_residual-in_err-report.result c.from_residual-in_err-report.ensures.1 in
    rw (p.1, p.2)
    (replay_makes c.args.images (map pair_of c.args.pairs.now) (g.F.Files.told c.args.files.now) (g.F.Files.told c.write_asked.new.files) c.in_ok-replayers.replayers.items (Err refusal.NoMemory)
    (can_work c.args.images (map pair_of c.args.pairs.now) (g.F.Files.told c.args.files.now) c.deref-2.result.now c.in_ok-replayers.replayers.items c.deref-2.ensures.value
    (c.in_ok-replayers.ensures.answer (map pair_of c.args.pairs.now) (g.F.Files.told c.args.files.now) (subst (λ (all : List Loaded). LoadsFiles (map pair_of c.args.pairs.now) (g.F.Files.told c.args.files.now) all) (sym c.deref.ensures.value) c.in_ok-all.ensures.answer)) c.in_ok-keep_pairs.ensures.answer)
    (all_first_made _ _ _ (images_made c.args.images _ _ _ _ _ (ap (λ (r : Reporting). r.left) c.begin-begun.ensures) c.load_all.ensures.same c.in_ok-reporter.ensures.made)))

pub returns-in_err-print_report-clause-makes : goal.returns-in_err-print_report-clause-makes
returns-in_err-print_report-clause-makes g c =
    let p = err_from_is_err_and c.from_residual-in_err-print_report.result c.from_residual-in_err-print_report.ensures.1 in
    rw (p.1, p.2)
    (replay_makes c.args.images (map pair_of c.args.pairs.now) (g.F.Files.told c.args.files.now) (g.F.Files.told c.write_asked.new.files) c.in_ok-replayers.replayers.items (Err refusal.NoMemory)
    (can_work c.args.images (map pair_of c.args.pairs.now) (g.F.Files.told c.args.files.now) c.deref-2.result.now c.in_ok-replayers.replayers.items c.deref-2.ensures.value
    (c.in_ok-replayers.ensures.answer (map pair_of c.args.pairs.now) (g.F.Files.told c.args.files.now) (subst (λ (all : List Loaded). LoadsFiles (map pair_of c.args.pairs.now) (g.F.Files.told c.args.files.now) all) (sym c.deref.ensures.value) c.in_ok-all.ensures.answer)) c.in_ok-keep_pairs.ensures.answer)
    (all_first_made _ _ _ (images_made c.args.images _ _ _ _ _ (ap (λ (r : Reporting). r.left) c.begin-begun.ensures) c.load_all.ensures.same c.in_ok-reporter.ensures.made)))

pub returns-clause-tells : goal.returns-clause-tells
returns-clause-tells g c =
    report_tells c.args.images (map pair_of c.args.pairs.now) (g.F.Files.told c.args.files.now) c.in_ok-replayers.replayers.items c.in_ok-report.report c.in_ok-print_report.field-0
    (can_work c.args.images (map pair_of c.args.pairs.now) (g.F.Files.told c.args.files.now) c.deref-2.result.now c.in_ok-replayers.replayers.items c.deref-2.ensures.value
    (c.in_ok-replayers.ensures.answer (map pair_of c.args.pairs.now) (g.F.Files.told c.args.files.now) (subst (λ (all : List Loaded). LoadsFiles (map pair_of c.args.pairs.now) (g.F.Files.told c.args.files.now) all) (sym c.deref.ensures.value) c.in_ok-all.ensures.answer)) c.in_ok-keep_pairs.ensures.answer)
    (report_is c.in_ok-replayers.replayers.items c.begin-begun.result c.in_ok-reporter.reporter c.in_ok-report.report c.begin-begun.ensures c.in_ok-reporter.ensures.same c.in_ok-report.ensures) c.in_ok-print_report.ensures

pub returns-clause-makes : goal.returns-clause-makes
returns-clause-makes g c =
    replay_makes c.args.images (map pair_of c.args.pairs.now) (g.F.Files.told c.args.files.now) (g.F.Files.told c.write_asked.new.files) c.in_ok-replayers.replayers.items (Ok c.in_ok-print_report.field-0)
    (can_work c.args.images (map pair_of c.args.pairs.now) (g.F.Files.told c.args.files.now) c.deref-2.result.now c.in_ok-replayers.replayers.items c.deref-2.ensures.value
    (c.in_ok-replayers.ensures.answer (map pair_of c.args.pairs.now) (g.F.Files.told c.args.files.now) (subst (λ (all : List Loaded). LoadsFiles (map pair_of c.args.pairs.now) (g.F.Files.told c.args.files.now) all) (sym c.deref.ensures.value) c.in_ok-all.ensures.answer)) c.in_ok-keep_pairs.ensures.answer)
    (images_made c.args.images _ _ _ _ _ (ap (λ (r : Reporting). r.left) c.begin-begun.ensures) c.load_all.ensures.same c.in_ok-reporter.ensures.made)

pub returns-clause-asks : goal.returns-clause-asks
returns-clause-asks g c = asks_first_only _ _ _ _ c.load_all.ensures.asks c.write_asked.ensures.asked

pub returns-clause-asks_all : goal.returns-clause-asks_all
returns-clause-asks_all g c = asks_no_more _ (g.F.Files.counts c.args.files.now) (g.F.Files.counts c.load_all.new.files) (g.F.Files.counts c.write_asked.new.files) c.in_ok-all.ensures.asks_all c.write_asked.ensures.asked

pub returns-in_err-reporter-clause-asks : goal.returns-in_err-reporter-clause-asks
returns-in_err-reporter-clause-asks g c = asks_first_only _ _ _ _ c.load_all.ensures.asks c.write_asked.ensures.asked

pub returns-in_err-report-clause-asks : goal.returns-in_err-report-clause-asks
returns-in_err-report-clause-asks g c = asks_first_only _ _ _ _ c.load_all.ensures.asks c.write_asked.ensures.asked

pub returns-in_err-print_report-clause-asks : goal.returns-in_err-print_report-clause-asks
returns-in_err-print_report-clause-asks g c = asks_first_only _ _ _ _ c.load_all.ensures.asks c.write_asked.ensures.asked
