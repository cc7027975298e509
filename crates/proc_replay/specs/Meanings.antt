-- The move of a replay that a turn of the code stands for, and why an entry was refused.
use Rattle.std.specs.Prelude.{⊤, Option, Some, None, Result, Ok, Err}
use Rattle.lib_calls.specs.Entry.{entry_of}
use Rattle.guest_process.specs.declared.divergence.Divergence.{Divergence}
use Rattle.proc_replay.specs.declared.turn.Turn.{Turn}
use Rattle.proc_replay.specs.declared.turn.Turn.TheVariants as code
use Rattle.proc_replay.specs.Replaying.{ReplayMove, Makes, Ends, Diverges}

abbrev pub move_of : Turn → ReplayMove
move_of (code.Event entry) = Makes (entry_of entry)
move_of code.LogEnd = Ends
move_of (code.Diverged at why) = Diverges at why

-- why an entry was refused, or nothing if it was not
abbrev pub refused_for : Result ⊤ Divergence → Option Divergence
refused_for (Ok _) = None
refused_for (Err why) = Some why
