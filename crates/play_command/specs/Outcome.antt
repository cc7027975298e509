-- The outcome of `play`.
use Rattle.std.specs.Prelude.{ℕ, List, [], Option, Some, None, Result, Ok, Err}
use Rattle.fri_outside.specs.Outside.{Folder}
use Rattle.schedule_text.specs.Schedule.{Schedule}
use Rattle.guest_process.specs.State.{State}
use Rattle.group_record.specs.Answer.{first_states, group_of}
use Rattle.group_record.specs.Run.{run}
use Rattle.command_run.specs.declared.refusal.Reason.TheVariants as reason
use Rattle.command_run.specs.Outcome.{CommandOutcome, CommandStop, and_then, refuses_at_once}
use Rattle.record_command.specs.Expected.{inputs_in, record_inputs, states_or_bad_segment}
use Rattle.conversation.specs.Opening.{Opener, opened_outcome}
use Rattle.conversation.specs.Talker.{Talker, talker_of}
use Rattle.play_command.specs.Play.{PlayState, opening_line, play_answer}

-- a play of this group in which the file's items were done
abbrev pub opening_play : Schedule → List State → PlayState
opening_play schedule first = record { group = group_of schedule first; own = schedule.items; more = [] }

-- a play as it begins, unless a log had no room for an event of the file's items
abbrev pub unless_full_log : List ℕ → Schedule → List State → Option ℕ → Result PlayState CommandStop
unless_full_log name schedule first None = Ok (opening_play schedule first)
unless_full_log name schedule first (Some item) = Err (refuses_at_once name (reason.LogFull item))

abbrev pub play_of_states : List ℕ → Schedule → List State → Result PlayState CommandStop
play_of_states name schedule first = unless_full_log name schedule first (run (group_of schedule first) schedule.items).full

abbrev pub play_of_modules : List ℕ → Schedule → Result (List State) ℕ → Result PlayState CommandStop
play_of_modules name schedule states = and_then (states_or_bad_segment schedule states) (play_of_states name schedule)

-- the play of a schedule file
abbrev pub play_in : List ℕ → Folder → Result PlayState CommandStop
play_in name folder = and_then (inputs_in folder name) (λ inputs. play_of_modules name inputs.0 (first_states inputs.0 inputs.1))

-- what it says: first of the file's items, and then of each line
abbrev pub play_talker : PlayState → Talker PlayState
play_talker state = talker_of (opening_line state) state play_answer

-- the play of a schedule file, and its session
abbrev pub play_opener : List ℕ → Opener PlayState PlayState
play_opener name = record { opens = play_in name; talker = play_talker; inputs = record_inputs name }

abbrev pub play_outcome : List ℕ → Option (List ℕ) → Folder → Option CommandOutcome
play_outcome name left folder = opened_outcome (play_opener name) (play_in name folder) left
