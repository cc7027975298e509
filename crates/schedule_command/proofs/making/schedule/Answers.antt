use Rattle.std.proofs.Common.{◌≡◌, ◌∙◌, List, Err, map, subst, sym}
use Rattle.std.proofs.lemmas.Result.{err_from_is_err_and}
use Rattle.command_run.specs.AskedLaws.{on_any}
use Rattle.command_run.specs.CountLaws.{counts_of_part, counts_still}
use Rattle.log_pairs.specs.declared.pairs.Loaded.{Loaded}
use Rattle.log_pairs.specs.Meanings.{AreLoadedPairs, LoadsFiles, pair_of}
use Rattle.schedule_command.proofs.MadeSchedule.{made_back}
use Rattle.schedule_command.proofs.NoFileMade.{not_diverged, not_read, performed, was_made}
use Rattle.schedule_command.proofs.making.schedule.Goals as goal

pub returns-in_err-all-clause-performed : goal.returns-in_err-all-clause-performed
returns-in_err-all-clause-performed g c =
    let p = err_from_is_err_and c.from_residual.result c.from_residual.ensures.1 in
    let pairs = map pair_of c.args.pairs.now in
    let told = g.F.Files.told c.args.files.now in
    rw (p.1, p.2)
    (performed pairs told (g.F.Files.told c.load_all.new.files) (g.F.Files.counts c.args.files.now) (g.F.Files.counts c.load_all.new.files) (Err c.in_err-all.field-0.0)
    (not_read pairs told c.in_err-all.field-0.0 c.in_err-all.ensures.answer) c.load_all.ensures.same tt (counts_of_part _ _ c.in_err-all.field-0.0 c.in_err-all.ensures.counts) c.load_all.ensures.asks tt c.in_err-all.ensures.cause)

pub returns-in_err-replayers-clause-performed : goal.returns-in_err-replayers-clause-performed
returns-in_err-replayers-clause-performed g c =
    let p = err_from_is_err_and c.from_residual-in_err-replayers.result c.from_residual-in_err-replayers.ensures.1 in
    let pairs = map pair_of c.args.pairs.now in
    let told = g.F.Files.told c.args.files.now in
    let loaded = subst (λ (all : List Loaded). LoadsFiles pairs told all) (sym c.deref.ensures.value) c.in_ok-all.ensures.answer in
    rw (p.1, p.2)
    (performed pairs told (g.F.Files.told c.load_all.new.files) (g.F.Files.counts c.args.files.now) (g.F.Files.counts c.load_all.new.files) (Err c.in_err-replayers.field-0.0)
    (not_read pairs told c.in_err-replayers.field-0.0 (c.in_err-replayers.ensures.answer pairs told loaded)) c.load_all.ensures.same tt
    (counts_still _ _ _ (Err c.in_err-replayers.field-0.0) c.in_err-replayers.ensures.still c.in_ok-all.ensures.counts) c.load_all.ensures.asks tt
    (c.in_err-replayers.ensures.cause (g.F.Files.counts c.args.files.now) (g.F.Files.counts c.load_all.new.files)))

pub returns-clause-performed : goal.returns-clause-performed
returns-clause-performed g c =
    let pairs = map pair_of c.args.pairs.now in
    let told = g.F.Files.told c.args.files.now in
    let loaded = subst (λ (all : List Loaded). LoadsFiles pairs told all) (sym c.deref.ensures.value) c.in_ok-all.ensures.answer in
    let some = c.in_ok-all.ensures.loaded in
    let are = subst (λ (all : List Loaded). AreLoadedPairs all some.0) (sym c.deref-2.ensures.value) some.1 in
    let same : c.deref-2.result.now ≡ c.deref.result.now = c.deref-2.ensures.value ∙ sym c.deref.ensures.value in
    performed pairs told (g.F.Files.told c.load_all.new.files) (g.F.Files.counts c.args.files.now) (g.F.Files.counts c.load_all.new.files) c.make.result
    (was_made pairs told c.deref-2.result.now c.in_ok-replayers.replayers.items c.make.result (subst (LoadsFiles pairs told) (sym same) loaded) (c.in_ok-replayers.ensures.answer pairs told loaded) c.make.ensures.answer)
    c.load_all.ensures.same
    (not_diverged pairs c.deref-2.result.now c.in_ok-replayers.replayers.items c.make.result some.0 are (c.make.ensures.answer some.0 are))
    (counts_still _ _ _ c.make.result c.make.ensures.still c.in_ok-all.ensures.counts) c.load_all.ensures.asks (on_any c.make.result c.in_ok-all.ensures.asks_all)
    (c.make.ensures.cause (g.F.Files.counts c.args.files.now) (g.F.Files.counts c.load_all.new.files))

pub returns-clause-converse : goal.returns-clause-converse
returns-clause-converse g c = λ folder is.
    let pairs = map pair_of c.args.pairs.now in
    let told = g.F.Files.told c.args.files.now in
    let loaded = subst (λ (all : List Loaded). LoadsFiles pairs told all) (sym c.deref.ensures.value) c.in_ok-all.ensures.answer in
    let same : c.deref-2.result.now ≡ c.deref.result.now = c.deref-2.ensures.value ∙ sym c.deref.ensures.value in
    let read = loaded folder is in
    made_back c.exact_logs.ensures c.rewritten_is_read.ensures c.reads_modules.ensures c.written_is_read.ensures.read c.states_fit.ensures.started c.records_back.ensures folder pairs read.0 c.in_ok-replayers.replayers.items c.make.result
    read.1.0 (c.in_ok-replayers.ensures.answer pairs told loaded folder is) c.in_ok-replayers.ensures.replayers c.in_ok-replayers.ensures.at_heads c.make.ensures.bytes
    (c.make.ensures.answer read.0 (subst (λ (all : List Loaded). AreLoadedPairs all read.0) (sym same) read.1.1))
