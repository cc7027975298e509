-- The outcome of `schedule`, given the files.
use Rattle.std.specs.Prelude.{ℕ, Bool, false, ◌==◌, if◌then◌else◌, List, [], ◌∷◌, length, map, Result, Ok, Err}
use Rattle.fri_outside.specs.Outside.{Folder}
use Rattle.command_run.specs.declared.refusal.Reason.TheVariants as reason
use Rattle.command_run.specs.Outcome.{CommandOutcome, CommandStop, CommandWork, and_then, refuses_at_once}
use Rattle.log_pairs.specs.Finding.{first_log, log_file, module_file}
use Rattle.log_pairs.specs.Pairs.{Loaded, Pair, loaded_pairs, replays_of, sort_replays}
use Rattle.proc_replay.specs.Replaying.{Replaying}
use Rattle.schedule_text.specs.declared.process.ProcessLine.{ProcessLine}
use Rattle.schedule_back.specs.Outcome.{BackRefusal, NotWhole, BadModuleName, TooManyEvents, TooLong, text_or_refusal}

-- the line of a process: the name that its log says, and the file of its module
abbrev pub line_of_replay : List Pair → List Loaded → Replaying → ProcessLine
line_of_replay pairs ls r = record { name = r.head.name; «module» = module_file pairs ls r.head.process }

abbrev pub lines_of_replays : List Pair → List Loaded → List Replaying → List ProcessLine
lines_of_replays pairs ls start = map (line_of_replay pairs ls) start

-- the logs are those of all processes of a group
abbrev pub is_complete : List Replaying → Bool
is_complete [] = false
is_complete (r ∷ rs) = length (r ∷ rs) == r.head.count

-- what is refused is the log or the module of a process, or, of all together, the first log
abbrev pub stop_of : List Pair → List Loaded → BackRefusal → CommandStop
stop_of pairs ls (NotWhole p) = refuses_at_once (log_file pairs ls p) reason.NotWhole
stop_of pairs ls (BadModuleName p) = refuses_at_once (module_file pairs ls p) reason.BadModuleName
stop_of pairs ls TooManyEvents = refuses_at_once (first_log pairs) reason.TooManyEvents
stop_of pairs ls TooLong = refuses_at_once (first_log pairs) reason.TooLong

-- the work prints the text, and makes no file
abbrev pub prints_text : List ℕ → CommandWork
prints_text text = record { text = text; writes = []; diverged = false }

abbrev pub outcome_of_text : List Pair → List Loaded → Result (List ℕ) BackRefusal → CommandOutcome
outcome_of_text pairs ls (Ok text) = Ok (prints_text text)
outcome_of_text pairs ls (Err why) = Err (stop_of pairs ls why)

abbrev pub unless_incomplete : List Pair → List Loaded → List Replaying → CommandOutcome
unless_incomplete pairs ls start =
    if is_complete start then outcome_of_text pairs ls (text_or_refusal (lines_of_replays pairs ls start) start)
    else Err (refuses_at_once (first_log pairs) reason.Incomplete)

abbrev pub schedule_outcome : List Pair → Folder → CommandOutcome
schedule_outcome pairs folder =
    and_then (loaded_pairs folder [] pairs) (λ ls. and_then (replays_of ls) (λ rs. unless_incomplete pairs ls (sort_replays [] rs)))
