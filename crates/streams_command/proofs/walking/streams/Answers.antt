use Rattle.std.proofs.Common.{List, Err, Ok, map, refl, subst, sym}
use Rattle.std.proofs.lemmas.Result.{err_from_is_err_and}
use Rattle.command_run.specs.declared.refusal.WorkText.TheVariants as answered
use Rattle.command_run.specs.declared.refusal.StopCause.TheVariants as refusal
use Rattle.command_run.specs.CountLaws.{counts_of_part, counts_still}
use Rattle.log_pairs.specs.declared.pairs.Loaded.{Loaded}
use Rattle.log_pairs.specs.Meanings.{LoadsFiles, pair_of}
use Rattle.streams_command.proofs.NoFileMade.{finished, stopped, stops_too}
use Rattle.streams_command.proofs.walking.streams.Goals as goal

pub returns-in_err-all-clause-performed : goal.returns-in_err-all-clause-performed
returns-in_err-all-clause-performed g c =
    let p = err_from_is_err_and c.from_residual.result c.from_residual.ensures.1 in
    let pairs = map pair_of c.args.pairs.now in
    let told = g.F.Files.told c.args.files.now in
    rw (p.1, p.2)
    (stopped pairs told (g.F.Files.told c.load_all.new.files) (g.F.Files.counts c.args.files.now) (g.F.Files.counts c.load_all.new.files) c.in_err-all.field-0.0
    (stops_too pairs told c.in_err-all.field-0.0 c.in_err-all.ensures.answer) c.load_all.ensures.same (counts_of_part _ _ c.in_err-all.field-0.0 c.in_err-all.ensures.counts) c.load_all.ensures.asks c.in_err-all.ensures.cause)

pub returns-in_err-replayers-clause-performed : goal.returns-in_err-replayers-clause-performed
returns-in_err-replayers-clause-performed g c =
    let p = err_from_is_err_and c.from_residual-in_err-replayers.result c.from_residual-in_err-replayers.ensures.1 in
    let pairs = map pair_of c.args.pairs.now in
    let told = g.F.Files.told c.args.files.now in
    let loaded = subst (λ (all : List Loaded). LoadsFiles pairs told all) (sym c.deref.ensures.value) c.in_ok-all.ensures.answer in
    rw (p.1, p.2)
    (stopped pairs told (g.F.Files.told c.load_all.new.files) (g.F.Files.counts c.args.files.now) (g.F.Files.counts c.load_all.new.files) c.in_err-replayers.field-0.0
    (stops_too pairs told c.in_err-replayers.field-0.0 (c.in_err-replayers.ensures.answer pairs told loaded)) c.load_all.ensures.same
    (counts_still _ _ _ (Err c.in_err-replayers.field-0.0) c.in_err-replayers.ensures.still c.in_ok-all.ensures.counts) c.load_all.ensures.asks
    (c.in_err-replayers.ensures.cause (g.F.Files.counts c.args.files.now) (g.F.Files.counts c.load_all.new.files)))

pub returns-in_err-text-clause-performed : goal.returns-in_err-text-clause-performed
returns-in_err-text-clause-performed g c =
    let p = err_from_is_err_and c.from_residual-in_err-text.result c.from_residual-in_err-text.ensures.1 in
    rw (p.1, p.2)
    (stopped (map pair_of c.args.pairs.now) (g.F.Files.told c.args.files.now) (g.F.Files.told c.load_all.new.files) (g.F.Files.counts c.args.files.now) (g.F.Files.counts c.load_all.new.files) refusal.NoMemory
    (λ folder is. tt) c.load_all.ensures.same (counts_still _ _ _ (Err refusal.NoMemory) (λ n. (refl, (refl, refl))) c.in_ok-all.ensures.counts) c.load_all.ensures.asks tt)

pub returns-clause-performed : goal.returns-clause-performed
returns-clause-performed g c =
    let pairs = map pair_of c.args.pairs.now in
    let told = g.F.Files.told c.args.files.now in
    let loaded = subst (λ (all : List Loaded). LoadsFiles pairs told all) (sym c.deref.ensures.value) c.in_ok-all.ensures.answer in
    finished pairs told (g.F.Files.told c.load_all.new.files) (g.F.Files.counts c.args.files.now) (g.F.Files.counts c.load_all.new.files) c.in_ok-replayers.replayers.items c.in_ok-text.text
    (c.in_ok-replayers.ensures.answer pairs told loaded) c.in_ok-text.ensures c.load_all.ensures.same (counts_still _ _ _ (Ok (answered.Done c.in_ok-text.text)) (λ n. (refl, (refl, refl))) c.in_ok-all.ensures.counts) c.in_ok-all.ensures.asks_all
