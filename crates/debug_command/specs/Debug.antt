-- The outcome of `debug`.
use Rattle.std.specs.Prelude.{ℕ, List, Option}
use Rattle.fri_outside.specs.Outside.{Folder}
use Rattle.command_run.specs.Outcome.{CommandOutcome}
use Rattle.conversation.specs.Opening.{opened_outcome}
use Rattle.log_pairs.specs.Pairs.{Pair, replays_of_pairs}
use Rattle.debug_command.specs.Session.{debug_opener}

abbrev pub debug_outcome : List Pair → Option (List ℕ) → Folder → Option CommandOutcome
debug_outcome pairs left folder = opened_outcome (debug_opener pairs) (replays_of_pairs folder pairs) left
