-- The session of `debug`: what the shell answers over the replays of pairs.
use Rattle.std.specs.Prelude.{ℕ, List, codes}
use Rattle.proc_replay.specs.Replaying.{Replaying}
use Rattle.friday_shell.specs.Answer.{answer}
use Rattle.friday_shell.specs.Points.{SessionState}
use Rattle.friday_shell.specs.Session.{opening_session}
use Rattle.command_run.specs.Outcome.{CommandOutcome}
use Rattle.conversation.specs.Opening.{Opener}
use Rattle.conversation.specs.Outcome.{conversation_outcome}
use Rattle.conversation.specs.Talker.{Answered, Talker, talker_of}
use Rattle.log_pairs.specs.Pairs.{Pair, pair_inputs, replays_of_pairs}

-- what the shell answers to a line
abbrev pub shell_answer : SessionState → List ℕ → Answered SessionState
shell_answer state line = record { text = (answer state line).text; state = (answer state line).state; quits = (answer state line).quits }

-- the session that begins over these replays
abbrev pub shell_talker : List Replaying → Talker SessionState
shell_talker start = talker_of (codes "at 0\n") (opening_session start) shell_answer

-- the outcome of a session over these replays, where this is typed
abbrev pub session_outcome : List Replaying → List ℕ → CommandOutcome
session_outcome start input = conversation_outcome (shell_talker start) input

-- the replays of these pairs, and the session over them
abbrev pub debug_opener : List Pair → Opener (List Replaying) SessionState
debug_opener pairs = record { opens = λ folder. replays_of_pairs folder pairs; talker = shell_talker; inputs = λ folder. pair_inputs pairs }
