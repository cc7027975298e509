use Rattle.friday_app.proofs.WorkIsDone.{run_completes}
use Rattle.friday_app.proofs.top.friday.Goals as goal

pub returns-clause-complete : goal.returns-clause-complete
returns-clause-complete g c = λ folder told valid quiet.
    run_completes c.recordings_work.ensures c.replays_work.ensures c.sessions_work.ensures c.migrations_work.ensures c.schedules_work.ensures c.cuts_work.ensures c.streams_work.ensures c.plays_work.ensures _ _ _ _ folder c.run.ensures told valid quiet
