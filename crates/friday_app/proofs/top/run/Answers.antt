use Rattle.std.proofs.Common.{◌∙◌, ◌∷◌, List, [], Some, ap, false, map, option_map, refl, sym, true}
use Rattle.command_run.specs.Run.{Outside, outside}
use Rattle.log_pairs.specs.Meanings.{pair_of}
use Rattle.log_pairs.specs.Pairs.{pair_inputs}
use Rattle.log_pairs.specs.declared.pairs.Pair.{Pair}
use Rattle.record_command.specs.Expected.{record_inputs, record_outcome}
use Rattle.replay_command.specs.Report.{replay_outcome}
use Rattle.cut_command.specs.Cut.{cut_outcome}
use Rattle.migrate_command.specs.Migrate.{migrate_outcome}
use Rattle.friday_app.specs.Command.{Cut, Debug, Drill, Migrate, Record, Replay, Schedule, Streams}
use Rattle.friday_app.specs.inside.Meanings.{command_meaning}
use Rattle.friday_app.proofs.CommandRuns.{cut_promises, may_diverge, performed, performed_whole, record_promises, run_debugged, run_finished, run_none, run_played, run_same, run_stopped, schedule_promises, whole_files}
use Rattle.friday_app.proofs.top.run.Goals as goal

pub returns-in-Ok-None : goal.returns-in-Ok-None
returns-in-Ok-None g c =
    let e = c.refuse_words.ensures in
    let told = g.F.Files.told c.args.files.now in
    let counts = g.F.Files.counts c.args.files.now in
    let old : Outside = outside told counts (g.T.Sink.hearing c.args.io.now) (g.T.Sink.taken c.args.io.now) (g.T.Sink.faults c.args.io.now) in
    let new : Outside = outside told counts (g.T.Sink.hearing c.refuse_words.new.out) (g.T.Sink.taken c.refuse_words.new.out) (g.T.Sink.faults c.refuse_words.new.out) in
    run_same (sym (ap (option_map command_meaning) c.in-Ok-None.field-0-is) ∙ c.in-Ok-None.ensures.names)
    (run_none c.refuse_words.result old new (e.ends told counts) e.status e.read_fault e.heard refl)

pub returns-in-Ok-Some-Record : goal.returns-in-Ok-Some-Record
returns-in-Ok-Some-Record g c =
    let e = c.record-ended.ensures in
    let arm = c.in-Ok-Some-Record in
    let old : Outside = outside (g.F.Files.told c.args.files.now) (g.F.Files.counts c.args.files.now) (g.T.Sink.hearing c.args.io.now) (g.T.Sink.taken c.args.io.now) (g.T.Sink.faults c.args.io.now) in
    let new : Outside = outside (g.F.Files.told c.record-ended.new.files) (g.F.Files.counts c.record-ended.new.files) (g.T.Sink.hearing c.finish.new.out) (g.T.Sink.taken c.finish.new.out) (g.T.Sink.faults c.finish.new.out) in
    let finished = c.finish.ensures _ _ _ (performed (record_outcome arm.images arm.schedule_file.now) (record_inputs arm.schedule_file.now) false old.told new.told old.counts new.counts c.record-ended.result e.tells e.makes e.keeps e.done e.counts e.asks e.asks_all e.cause) in
    run_same (sym (ap (option_map command_meaning) (arm.field-0-is ∙ ap Some arm.field-0-0-is)) ∙ arm.ensures.names)
    (run_finished (Record arm.images arm.schedule_file.now) c.record-ended.result c.finish.result old new finished
    (record_promises c.recordings_agree.ensures c.left_is_shown.ensures arm.images arm.schedule_file.now c.record-ended.result c.finish.result old new finished e.moment))

pub returns-in-Ok-Some-Replay : goal.returns-in-Ok-Some-Replay
returns-in-Ok-Some-Replay g c =
    let e = c.replay-ended.ensures in
    let arm = c.in-Ok-Some-Replay in
    let pairs = map pair_of c.deref.result.now in
    let old : Outside = outside (g.F.Files.told c.args.files.now) (g.F.Files.counts c.args.files.now) (g.T.Sink.hearing c.args.io.now) (g.T.Sink.taken c.args.io.now) (g.T.Sink.faults c.args.io.now) in
    let new : Outside = outside (g.F.Files.told c.replay-ended.new.files) (g.F.Files.counts c.replay-ended.new.files) (g.T.Sink.hearing c.finish-in-Ok-Some-Replay.new.out) (g.T.Sink.taken c.finish-in-Ok-Some-Replay.new.out) (g.T.Sink.faults c.finish-in-Ok-Some-Replay.new.out) in
    let finished = c.finish-in-Ok-Some-Replay.ensures _ _ _ (performed_whole c.keeps_files.ensures (replay_outcome arm.images pairs) (λ folder. pair_inputs pairs) true old.told new.told old.counts new.counts c.replay-ended.result e.tells e.makes e.keeps (may_diverge c.replay-ended.result) e.counts (λ folder told. e.asks) (λ folder told. e.asks_all) e.cause) in
    run_same (ap (λ (ps : List Pair). Some (Replay arm.images (map pair_of ps))) c.deref.ensures.value ∙ sym (ap (option_map command_meaning) (arm.field-0-is ∙ ap Some arm.field-0-0-is)) ∙ arm.ensures.names)
    (run_finished (Replay arm.images pairs) c.replay-ended.result c.finish-in-Ok-Some-Replay.result old new finished
    (whole_files (replay_outcome arm.images pairs) c.replay-ended.result c.finish-in-Ok-Some-Replay.result old new finished.input e.makes))

pub returns-in-Ok-Some-Debug : goal.returns-in-Ok-Some-Debug
returns-in-Ok-Some-Debug g c =
    let arm = c.in-Ok-Some-Debug in
    let deref = c.deref-in-Ok-Some-Debug in
    run_same (ap (λ (ps : List Pair). Some (Debug (map pair_of ps))) deref.ensures.value ∙ sym (ap (option_map command_meaning) (arm.field-0-is ∙ ap Some arm.field-0-0-is)) ∙ arm.ensures.names)
    (run_debugged (map pair_of deref.result.now) c.debug.result _ _ c.debug.ensures)

pub returns-in-Ok-Some-Drill : goal.returns-in-Ok-Some-Drill
returns-in-Ok-Some-Drill g c =
    let arm = c.in-Ok-Some-Drill in
    let finish = c.finish-in-Ok-Some-Drill in
    let told = g.F.Files.told c.args.files.now in
    let counts = g.F.Files.counts c.args.files.now in
    let finished = finish.ensures _ _ _ (c.drill_rounds-ended.ensures told counts) in
    run_same (sym (ap (option_map command_meaning) (arm.field-0-is ∙ ap Some arm.field-0-0-is)) ∙ arm.ensures.names)
    (run_finished (Drill arm.rounds) c.drill_rounds-ended.result finish.result _ _ finished finished.input)

pub returns-in-Ok-Some-Migrate : goal.returns-in-Ok-Some-Migrate
returns-in-Ok-Some-Migrate g c =
    let e = c.migrate-ended.ensures in
    let arm = c.in-Ok-Some-Migrate in
    let finish = c.finish-in-Ok-Some-Migrate in
    let old : Outside = outside (g.F.Files.told c.args.files.now) (g.F.Files.counts c.args.files.now) (g.T.Sink.hearing c.args.io.now) (g.T.Sink.taken c.args.io.now) (g.T.Sink.faults c.args.io.now) in
    let new : Outside = outside (g.F.Files.told c.migrate-ended.new.files) (g.F.Files.counts c.migrate-ended.new.files) (g.T.Sink.hearing finish.new.out) (g.T.Sink.taken finish.new.out) (g.T.Sink.faults finish.new.out) in
    let finished = finish.ensures _ _ _ (performed_whole c.keeps_files.ensures (migrate_outcome arm.log_file.now arm.new_file.now) (λ folder. arm.log_file.now ∷ []) false old.told new.told old.counts new.counts c.migrate-ended.result e.tells e.makes e.keeps e.done e.counts (λ folder told. e.asks) (λ folder told. e.asks_all) e.cause) in
    run_same (sym (ap (option_map command_meaning) (arm.field-0-is ∙ ap Some arm.field-0-0-is)) ∙ arm.ensures.names)
    (run_finished (Migrate arm.log_file.now arm.new_file.now) c.migrate-ended.result finish.result old new finished
    (whole_files (migrate_outcome arm.log_file.now arm.new_file.now) c.migrate-ended.result finish.result old new finished.input e.makes))

pub returns-in-Ok-Some-Schedule : goal.returns-in-Ok-Some-Schedule
returns-in-Ok-Some-Schedule g c =
    let e = c.schedule-ended.ensures in
    let arm = c.in-Ok-Some-Schedule in
    let deref = c.deref-in-Ok-Some-Schedule in
    let pairs = map pair_of deref.result.now in
    let finish = c.finish-in-Ok-Some-Schedule in
    let old : Outside = outside (g.F.Files.told c.args.files.now) (g.F.Files.counts c.args.files.now) (g.T.Sink.hearing c.args.io.now) (g.T.Sink.taken c.args.io.now) (g.T.Sink.faults c.args.io.now) in
    let new : Outside = outside (g.F.Files.told c.schedule-ended.new.files) (g.F.Files.counts c.schedule-ended.new.files) (g.T.Sink.hearing finish.new.out) (g.T.Sink.taken finish.new.out) (g.T.Sink.faults finish.new.out) in
    let finished = finish.ensures _ _ _ e.performed in
    run_same (ap (λ (ps : List Pair). Some (Schedule (map pair_of ps))) deref.ensures.value ∙ sym (ap (option_map command_meaning) (arm.field-0-is ∙ ap Some arm.field-0-0-is)) ∙ arm.ensures.names)
    (run_finished (Schedule pairs) c.schedule-ended.result finish.result old new finished
    (schedule_promises pairs c.schedule-ended.result finish.result old new finished e.performed.tells e.converse))

pub returns-in-Ok-Some-Cut : goal.returns-in-Ok-Some-Cut
returns-in-Ok-Some-Cut g c =
    let e = c.cut-ended.ensures in
    let arm = c.in-Ok-Some-Cut in
    let deref = c.deref-in-Ok-Some-Cut in
    let pairs = map pair_of deref.result.now in
    let finish = c.finish-in-Ok-Some-Cut in
    let old : Outside = outside (g.F.Files.told c.args.files.now) (g.F.Files.counts c.args.files.now) (g.T.Sink.hearing c.args.io.now) (g.T.Sink.taken c.args.io.now) (g.T.Sink.faults c.args.io.now) in
    let new : Outside = outside (g.F.Files.told c.cut-ended.new.files) (g.F.Files.counts c.cut-ended.new.files) (g.T.Sink.hearing finish.new.out) (g.T.Sink.taken finish.new.out) (g.T.Sink.faults finish.new.out) in
    let finished = finish.ensures _ _ _ (performed_whole c.keeps_files.ensures (cut_outcome arm.process arm.event pairs) (λ folder. pair_inputs pairs) false old.told new.told old.counts new.counts c.cut-ended.result e.tells e.makes e.keeps e.done e.counts (λ folder told. e.asks) (λ folder told. e.asks_all) e.cause) in
    run_same (ap (λ (ps : List Pair). Some (Cut arm.process arm.event (map pair_of ps))) deref.ensures.value ∙ sym (ap (option_map command_meaning) (arm.field-0-is ∙ ap Some arm.field-0-0-is)) ∙ arm.ensures.names)
    (run_finished (Cut arm.process arm.event pairs) c.cut-ended.result finish.result old new finished
    (cut_promises arm.process arm.event pairs c.cut-ended.result finish.result old new finished e.makes e.least))

pub returns-in-Ok-Some-Streams : goal.returns-in-Ok-Some-Streams
returns-in-Ok-Some-Streams g c =
    let e = c.streams-ended.ensures in
    let arm = c.in-Ok-Some-Streams in
    let deref = c.deref-in-Ok-Some-Streams in
    let pairs = map pair_of deref.result.now in
    let finish = c.finish-in-Ok-Some-Streams in
    let old : Outside = outside (g.F.Files.told c.args.files.now) (g.F.Files.counts c.args.files.now) (g.T.Sink.hearing c.args.io.now) (g.T.Sink.taken c.args.io.now) (g.T.Sink.faults c.args.io.now) in
    let new : Outside = outside (g.F.Files.told c.streams-ended.new.files) (g.F.Files.counts c.streams-ended.new.files) (g.T.Sink.hearing finish.new.out) (g.T.Sink.taken finish.new.out) (g.T.Sink.faults finish.new.out) in
    let finished = finish.ensures _ _ _ e.performed in
    run_same (ap (λ (ps : List Pair). Some (Streams (map pair_of ps))) deref.ensures.value ∙ sym (ap (option_map command_meaning) (arm.field-0-is ∙ ap Some arm.field-0-0-is)) ∙ arm.ensures.names)
    (run_finished (Streams pairs) c.streams-ended.result finish.result old new finished finished.input)

pub returns-in-Ok-Some-Play : goal.returns-in-Ok-Some-Play
returns-in-Ok-Some-Play g c =
    let arm = c.in-Ok-Some-Play in
    run_same (sym (ap (option_map command_meaning) (arm.field-0-is ∙ ap Some arm.field-0-0-is)) ∙ arm.ensures.names)
    (run_played c.played_is_recorded.ensures arm.schedule_file.now c.play.result _ _ c.play.ensures)

pub returns-in-Err : goal.returns-in-Err
returns-in-Err g c =
    let old : Outside = outside (g.F.Files.told c.args.files.now) (g.F.Files.counts c.args.files.now) (g.T.Sink.hearing c.args.io.now) (g.T.Sink.taken c.args.io.now) (g.T.Sink.faults c.args.io.now) in
    run_stopped c.recordings_agree.ensures c.recordings_rest.ensures c.left_is_shown.ensures c.played_is_recorded.ensures _ old c.give_up.result c.give_up.ensures.status (c.give_up.ensures.ends _ _ old)
