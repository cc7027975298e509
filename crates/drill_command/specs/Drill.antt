-- What `drill_rounds` comes to.
use Rattle.std.specs.Prelude.{ℕ, suc, false, List, [], ◌∷◌, ◌++◌, length, drop, map, decimal, codes, count_by, unwrap_or, Ok}
use Rattle.std.specs.List.{range_with_len}
use Rattle.std.specs.Result.{result_ok}
use Rattle.wasm_types.specs.Modules.{Module}
use Rattle.schedule_text.specs.Drill.{drill_processes, drill_schedule}
use Rattle.call_log.specs.Head.{head_bytes}
use Rattle.call_log.specs.Log.{Unread, unread_after_head}
use Rattle.guest_process.specs.State.{State}
use Rattle.proc_replay.specs.Replaying.{Replaying}
use Rattle.group_state.specs.Place.{events_of_replays}
use Rattle.group_record.specs.Answer.{first_states_from}
use Rattle.group_record.specs.Run.{GroupStart, RunProgress, RunStep, head_of_log, log_of, run}
use Rattle.expression_text.specs.declared.expr.Agg.TheVariants.{Sum}
use Rattle.expression_text.specs.declared.expr.NodeName.TheVariants.{Each}
use Rattle.expression_text.specs.declared.expr.Width.TheVariants.{I64}
use Rattle.expression_text.specs.Expression.{Expression, Number, Over, Load}
use Rattle.point_programs.specs.Running.{value_word}
use Rattle.shell_points.specs.Firing.{watchpoint_fires, value_at_position}
use Rattle.command_run.specs.Outcome.{CommandOutcome, CommandWork}
use Rattle.drill_command.specs.Ring.{ring_module}

-- ---- the recording

-- four processes of the module `ring`
abbrev pub drill_modules : List Module
drill_modules = ring_module ∷ ring_module ∷ ring_module ∷ ring_module ∷ []

-- all of them begin
unfoldable pub drill_states : List State
drill_states = unwrap_or (result_ok (first_states_from 4 0 drill_modules)) []

abbrev pub drill_group : GroupStart
drill_group = record { names = map (λ line. line.name) drill_processes; first = drill_states }

unfoldable pub drill_run : ℕ → RunProgress
drill_run rounds = run drill_group (drill_schedule rounds).items

-- ---- the replays of its logs

-- what a log has after its head
abbrev pub left_of_log : GroupStart → List RunStep → ℕ → Unread
left_of_log group steps p = unread_after_head (head_of_log group p) (drop (length (head_bytes (head_of_log group p))) (log_of group steps p))

abbrev pub replay_of_process : GroupStart → List RunStep → ℕ → State → Replaying
replay_of_process group steps p S = record { head = head_of_log group p; state = S; left = left_of_log group steps p }

-- of the processes from p on, which begin so
abbrev pub replays_from : GroupStart → List RunStep → ℕ → List State → List Replaying
replays_from group steps p [] = []
replays_from group steps p (S ∷ states) = replay_of_process group steps p S ∷ replays_from group steps (suc p) states

-- of all logs that a group has after some steps
abbrev pub replays_of_logs : GroupStart → List RunStep → List Replaying
replays_of_logs group steps = replays_from group steps 0 group.first

-- ---- what is watched

-- sum(@_.i64[1024])
abbrev pub drill_watch : Expression
drill_watch = Over Sum (Load Each I64 (Number 1024))

-- at how many positions the watchpoint fires
abbrev pub firing_count : List Replaying → ℕ
firing_count start = count_by (watchpoint_fires start drill_watch) (range_with_len 1 (length (events_of_replays start)))

-- ---- what is printed

abbrev pub number_line : List ℕ → ℕ → List ℕ
number_line word number = word ++ (decimal number ++ codes "\n")

-- the rounds, the accepted events, the idle items, the firings, and the last value
abbrev pub drill_text : ℕ → ℕ → List Replaying → List ℕ
drill_text rounds idle start =
    number_line (codes "drill ") rounds ++ (number_line (codes "events ") (length (events_of_replays start))
    ++ (number_line (codes "idle ") idle ++ (number_line (codes "firings ") (firing_count start)
    ++ (codes "last " ++ (value_word (value_at_position start drill_watch (length (events_of_replays start))) ++ codes "\n")))))

abbrev pub drill_work : ℕ → RunProgress → CommandWork
drill_work rounds done = record { text = drill_text rounds done.idle (replays_of_logs drill_group done.steps); writes = []; diverged = false }

-- the group is recorded, its logs are replayed, and all positions are watched
abbrev pub drill_outcome : ℕ → CommandOutcome
drill_outcome rounds = Ok (drill_work rounds (drill_run rounds))
