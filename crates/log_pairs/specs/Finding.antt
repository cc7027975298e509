-- The files of a process among the pairs.
use Rattle.std.specs.Prelude.{ℕ, ◌==◌, List, [], ◌∷◌, position, slice_get, Option, option_and_then}
use Rattle.std.specs.Option.{option_map_or}
use Rattle.log_pairs.specs.Pairs.{Loaded, Pair}

-- the pair whose log is of process p
abbrev pub pair_of_process : List Pair → List Loaded → ℕ → Option Pair
pair_of_process pairs ls p = option_and_then (slice_get pairs) (position (λ l. l.head.process == p) ls)

abbrev pub module_file : List Pair → List Loaded → ℕ → List ℕ
module_file pairs ls p = option_map_or (λ pair. pair.module_name) (pair_of_process pairs ls p) []

abbrev pub log_file : List Pair → List Loaded → ℕ → List ℕ
log_file pairs ls p = option_map_or (λ pair. pair.log_name) (pair_of_process pairs ls p) []

-- the log of the first pair
abbrev pub first_log : List Pair → List ℕ
first_log [] = []
first_log (pair ∷ pairs) = pair.log_name
