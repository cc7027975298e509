-- Files that are what they are to be.
use Rattle.std.specs.Prelude.{◌≡◌, ℕ, ◌≤◌, List, length, Some}
use Rattle.std.specs.FinMap.{get}
use Rattle.fri_outside.specs.Outside.{Folder}
use Rattle.wasm_types.specs.Modules.{Module}
use Rattle.guest_module.specs.Valid.{IsValid as IsValidModule}
use Rattle.wasm_decode.specs.Grammar.{SpellsModule}
use Rattle.guest_process.specs.Start.{start}
use Rattle.guest_process.specs.State.{State}
use Rattle.command_run.specs.Limits.{most_module}

-- a file is there and is within its limit
pub record IsFileWithin (folder : Folder) (name : List ℕ) (limit : ℕ) (bytes : List ℕ) : Type 0 where
  pub held : get folder name ≡ Some bytes
  pub within : length bytes ≤ limit

-- a file is a valid module
pub record IsModuleFile (folder : Folder) (name : List ℕ) : Type 0 where
  pub bytes : List ℕ
  pub stands : IsFileWithin folder name most_module bytes
  pub «module» : Module
  pub spelled : SpellsModule bytes «module»
  pub valid : IsValidModule «module»

-- the segments of a module lie inside its table and its memory, so that process `who` of a group of `count` begins
abbrev pub ProcessBegins : Module → ℕ → ℕ → Type 0
ProcessBegins m who count = (begun : State) × (start m who count ≡ Some begun)
