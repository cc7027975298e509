-- The pairs of files, and what the files hold, that the values of the code stand for.
use Rattle.std.specs.List.{AllByRecursion}
use Rattle.std.specs.Prelude.{◌≡◌, ◌≢◌, ◌≤◌, ◌+◌, List, [], ◌∷◌, length, Option, Ok}
use Rattle.fri_outside.specs.Outside.{Folder, WhenTold}
use Rattle.wasm_types.specs.Modules.{module_of}
use Rattle.call_log.specs.Head.{IsHead, head_bytes}
use Rattle.call_log.specs.Limits.{most_log}
use Rattle.call_log.specs.Log.{unread_after_head}
use Rattle.log_pairs.specs.declared.pairs.Loaded.{Loaded as LoadedFiles}
use Rattle.log_pairs.specs.declared.pairs.Pair.{Pair as PairOfWords}
use Rattle.log_pairs.specs.Pairs.{Loaded, Pair, loaded_pairs}

abbrev pub pair_of : PairOfWords → Pair
pair_of pair = record { module_name = pair.module_file.now; log_name = pair.log_file.now }

-- the files of a pair hold this
pub record IsLoadedPair (l : LoadedFiles) (is : Loaded) : Type 0 where
  pub name : l.module_file.now ≡ is.module_name
  pub «module» : module_of l.«module» ≡ is.«module»
  pub log : l.log ≡ record { head = is.head; left = is.left }
  pub head : IsHead is.head
  pub left : is.left ≡ unread_after_head is.head is.left.bytes
  pub whole : length (head_bytes is.head) + length is.left.bytes ≤ most_log

-- so many pairs hold so many of these
abbrev pub AreLoadedPairs : List LoadedFiles → List Loaded → Type 0
AreLoadedPairs [] [] = Unit {0}
AreLoadedPairs (l ∷ ls) (is ∷ all) = IsLoadedPair l is × AreLoadedPairs ls all
AreLoadedPairs [] (is ∷ all) = ⊥
AreLoadedPairs (l ∷ ls) [] = ⊥

-- they are of one group, and each of another process with another name
pub record IsApartPair (l other : LoadedFiles) : Type 0 where
  pub count : l.log.head.count ≡ other.log.head.count
  pub process : l.log.head.process ≢ other.log.head.process
  pub name : l.log.head.name ≢ other.log.head.name

abbrev pub AreOneGroup : List LoadedFiles → Type 0
AreOneGroup [] = Unit {0}
AreOneGroup (l ∷ ls) = AllByRecursion (IsApartPair l) ls × AreOneGroup ls

-- the files of these pairs were read, as far as the folder tells them
abbrev pub LoadsFiles : List Pair → Option Folder → List LoadedFiles → Type 0
LoadsFiles pairs told all = WhenTold told (λ folder. (ls : List Loaded) × ((loaded_pairs folder [] pairs ≡ Ok ls) × AreLoadedPairs all ls))
