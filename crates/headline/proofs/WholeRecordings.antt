-- Whole recordings are shown, since all processes at the last moment are some at some moment.
use Rattle.std.proofs.Common.{◌≢◌, ◌∙◌, ◌≤◌, ◌<◌, ◌+◌, ℕ, zero, suc, List, [], ◌∷◌, Some, ap, append-nil, arith, refl, sym, length}
use Rattle.std.specs.List.{AllByRecursion, range_with_len, AllZip}
use Rattle.std.specs.Prelude.{AllPairs}
use Rattle.std.proofs.lemmas.List.FromFn.{length-range_with_len, get_or-range_with_len}
use Rattle.fri_outside.specs.Outside.{Folder}
use Rattle.group_record.specs.Run.{log_of, processes_in_group}
use Rattle.log_pairs.specs.Pairs.{Pair}
use Rattle.record_command.specs.Agreement.{IsRecordable, IsPartialEntry, Nothing, group_in, steps_in}
use Rattle.headline.specs.Headline.{AreProcesses, Headline, WholeRecordings, processes_of, run_to, whole_logs, HoldsPair}
use Rattle.headline.specs.Shown.{no_cut}
use Rattle.headline.proofs.RecordedGroup.{logs_of_run}

-- ---- all numbers

below_end : (a n limit : ℕ) → a + n ≤ limit → AllByRecursion (λ p. p < limit) (range_with_len a n)
below_end a zero limit within = tt
below_end a (suc n) limit within = (omega (arith, within), below_end (a + 1) n limit (omega (arith, within)))

are_apart : (a n : ℕ) → AllPairs (λ p q. p ≢ q) (range_with_len a n)
are_apart a n i j d before within same =
    let inside : j < n = omega (arith, within, length-range_with_len a n) in
    omega (arith, before, inside, same, get_or-range_with_len a n i d (omega (arith, before, inside)), get_or-range_with_len a n j d inside)

all_processes : (count : ℕ) → AreProcesses count (range_with_len 0 count)
all_processes count = record { within = below_end 0 count count (omega arith); apart = are_apart 0 count }

-- ---- whole logs

module _ {before : Folder} {name : List ℕ} (r : IsRecordable before name) (folder : Folder) where
  -- nothing comes after them
  whole : (ps : List ℕ) (pairs : List Pair) → AllZip (HoldsPair r (whole_logs r) folder) ps pairs → AllZip (HoldsPair r (logs_of_run (run_to r (steps_in r)) no_cut) folder) ps pairs
  whole [] [] held = tt
  whole (p ∷ ps) (pair ∷ pairs) held =
      (record { «module» = held.0.«module»; log = held.0.log ∙ ap (λ (bytes : List ℕ). Some bytes) (sym (append-nil (log_of (group_in r) (steps_in r) p))) }, whole ps pairs held.1)
  whole [] (pair ∷ pairs) held = absurd held
  whole (p ∷ ps) [] held = absurd held

  none_follow : (ps : List ℕ) → AllByRecursion (λ p. IsPartialEntry (group_in r) (steps_in r) (steps_in r) p (no_cut p)) ps
  none_follow [] = tt
  none_follow (p ∷ ps) = (Nothing refl, none_follow ps)

pub whole_recordings : Headline → WholeRecordings
whole_recordings law before name r folder pairs held =
    law before name r (steps_in r) ([], refl) no_cut (processes_of r) (all_processes (processes_in_group (group_in r))) (none_follow r folder (processes_of r))
    folder pairs (whole r folder (processes_of r) pairs held)
