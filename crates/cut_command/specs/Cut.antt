-- The outcome of `cut`, given the files.
use Rattle.std.specs.Prelude.{ℕ, false, ◌==◌, List, [], ◌∷◌, ◌++◌, take, decimal, codes, position, Option, Some, None, Ok, Err}
use Rattle.fri_outside.specs.Outside.{Folder}
use Rattle.call_log.specs.Log.{entries_of, rewritten_log}
use Rattle.proc_replay.specs.Replaying.{Replaying}
use Rattle.command_run.specs.declared.refusal.Reason.TheVariants as reason
use Rattle.command_run.specs.Apart.{apart_work}
use Rattle.command_run.specs.Outcome.{CommandOutcome, CommandWork, and_then, refuses_at_once}
use Rattle.log_pairs.specs.Finding.{first_log, log_file}
use Rattle.log_pairs.specs.Pairs.{Loaded, Pair, loaded_pairs, names_of_pairs, replays_of, sort_replays}
use Rattle.causal_cut.specs.Past.{Lengths, lengths_or_none}

-- ---- the work

-- the file of a process's cut log
abbrev pub cut_name : List ℕ → List ℕ
cut_name name = name ++ codes ".cut"

-- a log of version 2 with the head and the first n entries of a log
abbrev pub log_front_of : Replaying → ℕ → List ℕ
log_front_of r n = rewritten_log r.head (take n (entries_of r.left))

-- the process's name, how many of its events are kept, and how many are accepted
abbrev pub cut_line : List ℕ → ℕ → ℕ → List ℕ
cut_line name kept accepted = name ++ (codes ": " ++ (decimal kept ++ (codes " of " ++ (decimal accepted ++ codes " events\n"))))

-- of these lengths, one a log
abbrev pub cut_text : List Replaying → List ℕ → List ℕ → List ℕ
cut_text [] kept accepted = []
cut_text (r ∷ rs) [] accepted = []
cut_text (r ∷ rs) (n ∷ kept) [] = []
cut_text (r ∷ rs) (n ∷ kept) (m ∷ accepted) = cut_line r.head.name n m ++ cut_text rs kept accepted

abbrev pub cut_files : List Replaying → List ℕ → List (List ℕ × List ℕ)
cut_files [] kept = []
cut_files (r ∷ rs) [] = []
cut_files (r ∷ rs) (n ∷ kept) = (cut_name r.head.name, log_front_of r n) ∷ cut_files rs kept

abbrev pub cut_work : List Replaying → Lengths → CommandWork
cut_work start lengths = record { text = cut_text start lengths.kept lengths.accepted; writes = cut_files start lengths.kept; diverged = false }

-- ---- the outcome

-- the node of a process, where its log is given
abbrev pub node_of_process : ℕ → List Replaying → Option ℕ
node_of_process process start = position (λ r. r.head.process == process) start

-- the log of the process is refused where it has fewer events
abbrev pub unless_few_events : List ℕ → List Replaying → Option Lengths → CommandOutcome
unless_few_events file start None = Err (refuses_at_once file reason.NoEvent)
unless_few_events file start (Some lengths) = Ok (cut_work start lengths)

-- and the first log where none is of the process
abbrev pub unless_other_process : List Pair → List Loaded → ℕ → ℕ → List Replaying → Option ℕ → CommandOutcome
unless_other_process pairs ls process event start None = Err (refuses_at_once (first_log pairs) reason.NoProcess)
unless_other_process pairs ls process event start (Some node) = unless_few_events (log_file pairs ls process) start (lengths_or_none start node event)

abbrev pub cut_of_replays : List Pair → List Loaded → ℕ → ℕ → List Replaying → CommandOutcome
cut_of_replays pairs ls process event start = unless_other_process pairs ls process event start (node_of_process process start)

-- and a file of the pairs that would be made
abbrev pub cut_of_pairs : List Pair → List Loaded → ℕ → ℕ → List Replaying → CommandOutcome
cut_of_pairs pairs ls process event start = and_then (cut_of_replays pairs ls process event start) (apart_work (names_of_pairs pairs))

abbrev pub cut_outcome : ℕ → ℕ → List Pair → Folder → CommandOutcome
cut_outcome process event pairs folder =
    and_then (loaded_pairs folder [] pairs) (λ ls. and_then (replays_of ls) (λ rs. cut_of_pairs pairs ls process event (sort_replays [] rs)))
