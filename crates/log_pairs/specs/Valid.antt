-- Modules and logs that are those of one group.
use Rattle.std.specs.Prelude.{◌≡◌, ◌≢◌, AllPairs, List, [], ◌∷◌}
use Rattle.fri_outside.specs.Outside.{Folder}
use Rattle.call_log.specs.Head.{Head}
use Rattle.command_run.specs.Valid.{IsModuleFile, ProcessBegins}
use Rattle.command_run.specs.LogValid.{IsLogFile}
use Rattle.log_pairs.specs.Pairs.{Pair}

-- a module and a log of a process that begins
pub record IsPairOfFiles (folder : Folder) (pair : Pair) : Type 0 where
  pub «module» : IsModuleFile folder pair.module_name
  pub log : IsLogFile folder pair.log_name
  pub begins : ProcessBegins «module».«module» log.head.process log.head.count

abbrev pub ArePairs : Folder → List Pair → Type 0
ArePairs folder [] = Unit {0}
ArePairs folder (pair ∷ pairs) = IsPairOfFiles folder pair × ArePairs folder pairs

-- the heads of their logs
abbrev pub heads_in : (folder : Folder) (pairs : List Pair) → ArePairs folder pairs → List Head
heads_in folder [] files = []
heads_in folder (pair ∷ pairs) files = files.0.log.head ∷ heads_in folder pairs files.1

-- of one group, and of two processes with two names
pub record AreOfOneGroup (h other : Head) : Type 0 where
  pub count : h.count ≡ other.count
  pub process : h.process ≢ other.process
  pub name : h.name ≢ other.name

-- the pairs are modules and logs of one group's processes, each of another
pub record IsGroup (folder : Folder) (pairs : List Pair) : Type 0 where
  pub files : ArePairs folder pairs
  pub together : AllPairs AreOfOneGroup (heads_in folder pairs files)
