-- What is so of all log files.
use Rattle.std.specs.Prelude.{◌≡◌, ℕ, List, Ok}
use Rattle.fri_outside.specs.Outside.{Folder}
use Rattle.call_log.specs.Log.{unread_after_head}
use Rattle.command_run.specs.Logs.{log_in}
use Rattle.command_run.specs.LogValid.{IsLogFile}

-- a file that is a log is read as that log
abbrev pub FindsLogs : Type 0
FindsLogs = (folder : Folder) (name : List ℕ) (h : IsLogFile folder name) → log_in folder name ≡ Ok (h.head, unread_after_head h.head h.left)
