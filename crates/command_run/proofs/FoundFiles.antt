-- What a file is to a command, by what a reader finds.
use Rattle.std.proofs.Common.{◌≡◌, ◌∙◌, ℕ, Bool, true, false, cond, List, length, Option, Some, None, Result, Ok, Err, ap, refl, sym}
use Rattle.std.specs.Prelude.{nat_le}
use Rattle.std.specs.FinMap.{get}
use Rattle.fri_outside.specs.Outside.{Folder, FoundFile, Missing, Over, Held, found_file, found_within}
use Rattle.command_run.specs.declared.refusal.Reason.TheVariants as reason
use Rattle.command_run.specs.Outcome.{CommandStop, Lacks, file_of, file_within, refuses_at_once}

abbrev bytes_or_stop : List ℕ → FoundFile → Result (List ℕ) CommandStop
bytes_or_stop name Missing = Err (Lacks name)
bytes_or_stop name Over = Err (refuses_at_once name reason.TooLarge)
bytes_or_stop name (Held bytes) = Ok bytes

by_test : (name bytes : List ℕ) (fits : Bool) → bytes_or_stop name (cond fits (Held bytes) Over) ≡ cond fits (Ok bytes) (Err (refuses_at_once name reason.TooLarge))
by_test name bytes true = refl
by_test name bytes false = refl

by_found : (name : List ℕ) (limit : ℕ) (o : Option (List ℕ)) → bytes_or_stop name (found_within limit o) ≡ file_within name limit o
by_found name limit None = refl
by_found name limit (Some bytes) = by_test name bytes (nat_le (length bytes) limit)

found : (folder : Folder) (name : List ℕ) (limit : ℕ) (file : FoundFile) → found_file folder name limit ≡ file → file_of folder name limit ≡ bytes_or_stop name file
found folder name limit file is = sym (by_found name limit (get folder name)) ∙ ap (bytes_or_stop name) is

pub held_file : (folder : Folder) (name : List ℕ) (limit : ℕ) (bytes : List ℕ) → found_file folder name limit ≡ Held bytes → file_of folder name limit ≡ Ok bytes
held_file folder name limit bytes is = found folder name limit (Held bytes) is

pub missing_file : (folder : Folder) (name : List ℕ) (limit : ℕ) → found_file folder name limit ≡ Missing → file_of folder name limit ≡ Err (Lacks name)
missing_file folder name limit is = found folder name limit Missing is

pub large_file : (folder : Folder) (name : List ℕ) (limit : ℕ) → found_file folder name limit ≡ Over → file_of folder name limit ≡ Err (refuses_at_once name reason.TooLarge)
large_file folder name limit is = found folder name limit Over is
