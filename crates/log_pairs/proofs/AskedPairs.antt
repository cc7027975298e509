-- The files that are asked for, pair after pair.
use Rattle.std.proofs.Common.{◌≡◌, ◌∙◌, ◌∷◌, ◌++◌, ◌+◌, ℕ, List, ap, drop, map, sym}
use Rattle.command_run.specs.declared.kept.ModuleFiles.{ModuleFiles}
use Rattle.command_run.specs.Asked.{kept_names, unless_named}
use Rattle.log_pairs.specs.declared.pairs.Pair.{Pair as PairFiles}
use Rattle.log_pairs.specs.Meanings.{pair_of}
use Rattle.log_pairs.specs.Pairs.{files_of_pair, files_of_pairs}

-- the files of a pair come before those of the pairs behind it
pub stopping_pair : (kept : List (List ℕ)) (pairs : List PairFiles) (i : ℕ) (pair : PairFiles) → drop i pairs ≡ pair ∷ drop (i + 1) pairs
    → files_of_pairs kept (map pair_of (drop i pairs)) ≡ files_of_pair kept (pair_of pair) ++ files_of_pairs (kept ++ unless_named kept (pair_of pair).module_name) (map pair_of (drop (i + 1) pairs))
stopping_pair kept pairs i pair next = ap (λ (rest : List PairFiles). files_of_pairs kept (map pair_of rest)) next

-- and they are asked for
pub asking_pair : (old new : ModuleFiles) (pairs : List PairFiles) (i : ℕ) (pair : PairFiles) → drop i pairs ≡ pair ∷ drop (i + 1) pairs → kept_names new ≡ kept_names old ++ unless_named (kept_names old) (pair_of pair).module_name
    → files_of_pairs (kept_names old) (map pair_of (drop i pairs)) ≡ files_of_pair (kept_names old) (pair_of pair) ++ files_of_pairs (kept_names new) (map pair_of (drop (i + 1) pairs))
asking_pair old new pairs i pair next named =
    stopping_pair (kept_names old) pairs i pair next
    ∙ ap (λ (kept : List (List ℕ)). files_of_pair (kept_names old) (pair_of pair) ++ files_of_pairs kept (map pair_of (drop (i + 1) pairs))) (sym named)
