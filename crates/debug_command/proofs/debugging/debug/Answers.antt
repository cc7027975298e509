use Rattle.std.proofs.Common.{List, map, subst, sym}
use Rattle.command_run.specs.CountLaws.{counts_none, counts_of_part, counts_still}
use Rattle.command_run.specs.Run.{Outside, outside}
use Rattle.log_pairs.specs.declared.pairs.Loaded.{Loaded}
use Rattle.log_pairs.specs.Meanings.{LoadsFiles, pair_of}
use Rattle.conversation.specs.OpeningLaws.{opening_performed, run_conversed, run_unopened}
use Rattle.debug_command.specs.Session.{debug_opener}
use Rattle.debug_command.proofs.debugging.debug.Goals as goal

pub returns-in-Err : goal.returns-in-Err
returns-in-Err g c =
    let pairs = map pair_of c.args.pairs.now in
    let old : Outside = outside (g.F.Files.told c.args.files.now) (g.F.Files.counts c.args.files.now) (g.T.Sink.hearing c.args.io.now) (g.T.Sink.taken c.args.io.now) (g.T.Sink.faults c.args.io.now) in
    let new : Outside = outside (g.F.Files.told c.load_all.new.files) (g.F.Files.counts c.load_all.new.files) (g.T.Sink.hearing c.finish.new.out) (g.T.Sink.taken c.finish.new.out) (g.T.Sink.faults c.finish.new.out) in
    run_unopened (debug_opener pairs) c.in-Err.refusal c.finish.result old new
    (c.finish.ensures _ _ _
    (opening_performed (debug_opener pairs) c.in-Err.refusal old new c.in-Err.ensures.answer c.in-Err.ensures.cause (counts_of_part _ _ _ c.in-Err.ensures.counts) (λ folder told. c.load_all.ensures.asks) c.load_all.ensures.same))

pub returns-in-Ok-begin_all : goal.returns-in-Ok-begin_all
returns-in-Ok-begin_all g c =
    let pairs = map pair_of c.args.pairs.now in
    let told = g.F.Files.told c.args.files.now in
    run_conversed (debug_opener pairs) c.in-Ok-begin_all.replayers.items c.debug_lines.result _ _
    (c.in-Ok-begin_all.ensures.answer pairs told (subst (λ (all : List Loaded). LoadsFiles pairs told all) (sym c.deref.ensures.value) c.in-Ok.ensures.answer))
    c.debug_lines.ensures c.load_all.ensures.same (counts_none _ _ _ c.in-Ok.ensures.counts) (λ folder told. c.in-Ok.ensures.asks_all)

pub returns : goal.returns
returns g c =
    let pairs = map pair_of c.args.pairs.now in
    let told = g.F.Files.told c.args.files.now in
    let old : Outside = outside told (g.F.Files.counts c.args.files.now) (g.T.Sink.hearing c.args.io.now) (g.T.Sink.taken c.args.io.now) (g.T.Sink.faults c.args.io.now) in
    let new : Outside = outside (g.F.Files.told c.load_all.new.files) (g.F.Files.counts c.load_all.new.files) (g.T.Sink.hearing c.finish-in-Err-begin_all.new.out) (g.T.Sink.taken c.finish-in-Err-begin_all.new.out) (g.T.Sink.faults c.finish-in-Err-begin_all.new.out) in
    run_unopened (debug_opener pairs) c.in-Err-begin_all.refusal c.finish-in-Err-begin_all.result old new
    (c.finish-in-Err-begin_all.ensures _ _ _
    (opening_performed (debug_opener pairs) c.in-Err-begin_all.refusal old new
    (c.in-Err-begin_all.ensures.answer pairs told (subst (λ (all : List Loaded). LoadsFiles pairs told all) (sym c.deref.ensures.value) c.in-Ok.ensures.answer))
    (c.in-Err-begin_all.ensures.cause (g.F.Files.counts c.args.files.now) (g.F.Files.counts c.load_all.new.files))
    (counts_still _ _ _ _ c.in-Err-begin_all.ensures.still c.in-Ok.ensures.counts)
    (λ folder told. c.load_all.ensures.asks)
    c.load_all.ensures.same))
