-- A session at its begin.
use Rattle.std.specs.Prelude.{List, []}
use Rattle.proc_replay.specs.Replaying.{Replaying}
use Rattle.friday_shell.specs.Points.{SessionState}

-- a session that begins over these replays
abbrev pub opening_session : List Replaying → SessionState
opening_session start = record { place = record { start = start; at = 0 }; points = []; made = 0; variables = [] }
