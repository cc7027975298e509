-- What a run of `debug` says, from one state of the outside to another.
use Rattle.std.specs.Prelude.{List}
use Rattle.command_run.specs.declared.status.Status.{Status}
use Rattle.command_run.specs.Run.{Outside}
use Rattle.conversation.specs.Opening.{OpenedPromises, OpenedRun}
use Rattle.log_pairs.specs.Pairs.{Pair}
use Rattle.debug_command.specs.Session.{debug_opener}

-- what it promises over these pairs beyond what holds of all commands: its input is read by turns, and no further than it must be
abbrev pub DebugPromises : List Pair → Outside → Outside → Status → Type 0
DebugPromises pairs old new answer = OpenedPromises (debug_opener pairs) old new answer

-- it ran over these pairs. It makes no file
abbrev pub DebugRun : List Pair → Outside → Outside → Status → Type 0
DebugRun pairs old new answer = OpenedRun (debug_opener pairs) old new answer
