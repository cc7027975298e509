-- The commands, and the words that name them.
use Rattle.std.specs.Prelude.{ℕ, List, [], ◌∷◌, ◌==◌, ◌&&◌, Bool, false, not, nat_le, length, filter, Option, Some, None, option_map, codes, bytes_eq, if◌then◌else◌}
use Rattle.std.specs.List.{list_all}
use Rattle.log_pairs.specs.Pairs.{Pair}
use Rattle.cut_command.specs.Words.{event_number_of, process_of}
use Rattle.drill_command.specs.Rounds.{rounds_of}

pub data Command : Type 0 where
  Record : (images : Bool) → (schedule_name : List ℕ) → Command
  Replay : (images : Bool) → (pairs : List Pair) → Command
  Debug : (pairs : List Pair) → Command
  Drill : (rounds : ℕ) → Command
  Migrate : (log_name : List ℕ) → (new_name : List ℕ) → Command
  Schedule : (pairs : List Pair) → Command
  Cut : (process : ℕ) → (event : ℕ) → (pairs : List Pair) → Command
  Streams : (pairs : List Pair) → Command
  Play : (schedule_name : List ℕ) → Command

-- a word that may name a file: it is not empty, and does not begin with `-`
abbrev pub is_file_word : List ℕ → Bool
is_file_word [] = false
is_file_word (first ∷ rest) = not (first == 45)

-- the option that asks for images
abbrev pub is_images : List ℕ → Bool
is_images word = bytes_eq word (codes "--images")

abbrev pub options_in : List (List ℕ) → List (List ℕ)
options_in words = filter is_images words

-- the words other than it
abbrev pub names_in : List (List ℕ) → List (List ℕ)
names_in words = filter (λ word. not (is_images word)) words

-- a module and a log, two by two
abbrev pub pairs_of : List (List ℕ) → Option (List Pair)
pairs_of [] = Some []
pairs_of (module_name ∷ []) = None
pairs_of (module_name ∷ log_name ∷ names) = option_map (λ pairs. record { module_name = module_name; log_name = log_name } ∷ pairs) (pairs_of names)

-- of one pair at least
abbrev pub some_pairs_of : List (List ℕ) → Option (List Pair)
some_pairs_of [] = None
some_pairs_of names = pairs_of names

-- and of words without the option for images
abbrev pub pairs_without_images : Bool → List (List ℕ) → Option (List Pair)
pairs_without_images images names = if images then None else some_pairs_of names

abbrev pub recording_command : Bool → List (List ℕ) → Option Command
recording_command images (schedule_name ∷ []) = Some (Record images schedule_name)
recording_command images names = None

abbrev pub drilling_command : Bool → List (List ℕ) → Option Command
drilling_command images (word ∷ []) = if images then None else option_map Drill (rounds_of word)
drilling_command images words = None

abbrev pub migrating_command : Bool → List (List ℕ) → Option Command
migrating_command images (log_name ∷ new_name ∷ []) = if images then None else Some (Migrate log_name new_name)
migrating_command images names = None

-- an event, and then the pairs
abbrev pub cutting_by : Option ℕ → Option ℕ → Option (List Pair) → Option Command
cutting_by None event pairs = None
cutting_by (Some process) None pairs = None
cutting_by (Some process) (Some event) pairs = option_map (Cut process event) pairs

abbrev pub cutting_command : Bool → List (List ℕ) → Option Command
cutting_command images (process ∷ event ∷ names) = cutting_by (process_of process) (event_number_of event) (pairs_without_images images names)
cutting_command images names = None

abbrev pub playing_command : Bool → List (List ℕ) → Option Command
playing_command images (schedule_name ∷ []) = if images then None else Some (Play schedule_name)
playing_command images names = None

-- the command of this verb, of these words other than the option
abbrev pub command_by_verb : List ℕ → Bool → List (List ℕ) → Option Command
command_by_verb verb images names =
    if bytes_eq verb (codes "record") then recording_command images names
    else if bytes_eq verb (codes "replay") then option_map (Replay images) (some_pairs_of names)
    else if bytes_eq verb (codes "debug") then option_map Debug (pairs_without_images images names)
    else if bytes_eq verb (codes "drill") then drilling_command images names
    else if bytes_eq verb (codes "migrate") then migrating_command images names
    else if bytes_eq verb (codes "schedule") then option_map Schedule (pairs_without_images images names)
    else if bytes_eq verb (codes "cut") then cutting_command images names
    else if bytes_eq verb (codes "streams") then option_map Streams (pairs_without_images images names)
    else if bytes_eq verb (codes "play") then playing_command images names
    else None

-- the command that the words name: a verb, and after it names of files, and once at most the option for images
abbrev pub command_of : List (List ℕ) → Option Command
command_of [] = None
command_of (verb ∷ words) =
    if nat_le (length (options_in words)) 1 && list_all is_file_word (names_in words)
    then command_by_verb verb (length (options_in words) == 1) (names_in words) else None
