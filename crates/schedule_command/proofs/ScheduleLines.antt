-- The lines of the schedule, one after the other.
use Rattle.std.proofs.Common.{◌≡◌, List}
use Rattle.proc_replay.specs.Replaying.{Replaying}
use Rattle.schedule_text.specs.declared.process.ProcessLine.{ProcessLine}
use Rattle.log_pairs.specs.declared.pairs.Loaded.{Loaded as LoadedFiles}
use Rattle.log_pairs.specs.Pairs.{Loaded, Pair}
use Rattle.log_pairs.specs.Meanings.{AreLoadedPairs}
use Rattle.schedule_command.specs.Schedule.{lines_of_replays}

-- the lines of these replays
abbrev pub AreLines : List Pair → List LoadedFiles → List Replaying → List ProcessLine → Type 0
AreLines pairs all rs lines = (ls : List Loaded) → AreLoadedPairs all ls → lines ≡ lines_of_replays pairs ls rs
