-- Files at which `schedule` does its work.
use Rattle.std.specs.Prelude.{◌≡◌, ◌≤◌, List, [], length, All, IsTrue, Ok}
use Rattle.fri_outside.specs.Outside.{Folder}
use Rattle.log_pairs.specs.Pairs.{Loaded, Pair, loaded_pairs, replays_of_pairs}
use Rattle.log_pairs.specs.Valid.{IsGroup}
use Rattle.proc_replay.specs.Replaying.{Replaying}
use Rattle.schedule_text.specs.Limits.{most_runs, most_schedule}
use Rattle.schedule_text.specs.Schedule.{is_module_name}
use Rattle.schedule_text.specs.Text.{text_of}
use Rattle.guest_process.specs.declared.verdict.Verdict.TheVariants.{Whole}
use Rattle.group_state.specs.Place.{events_of_replays}
use Rattle.group_state.specs.Report.{verdict_on}
use Rattle.schedule_back.specs.Back.{back}
use Rattle.schedule_command.specs.Schedule.{is_complete, lines_of_replays}

-- all logs of a group, each of which is whole, and no more events and no longer a text than a schedule may have
pub record AreWholeLogs (pairs : List Pair) (ls : List Loaded) (start : List Replaying) : Type 0 where
  pub complete : IsTrue (is_complete start)
  pub whole : All (λ r. verdict_on r ≡ Whole) start
  pub few : length (events_of_replays start) ≤ most_runs
  pub short : length (text_of (back (lines_of_replays pairs ls start) start)) ≤ most_schedule

-- the pairs are modules and logs of a group; each module has a name that a schedule may have; and the logs are all of the
-- group's
pub record CanBeScheduled (folder : Folder) (pairs : List Pair) : Type 0 where
  pub group : IsGroup folder pairs
  pub names : All (λ pair. IsTrue (is_module_name pair.module_name)) pairs
  pub whole : (ls : List Loaded) (start : List Replaying) → loaded_pairs folder [] pairs ≡ Ok ls → replays_of_pairs folder pairs ≡ Ok start
      → AreWholeLogs pairs ls start
