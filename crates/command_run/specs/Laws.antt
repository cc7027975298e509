-- What is so of all files and modules, whatever a command does with them.
use Rattle.std.specs.Prelude.{◌≡◌, ℕ, List, Ok}
use Rattle.fri_outside.specs.Outside.{Folder}
use Rattle.wasm_types.specs.Modules.{Module}
use Rattle.guest_module.specs.Valid.{IsValid}
use Rattle.command_run.specs.Inputs.{module_in}
use Rattle.command_run.specs.Outcome.{file_of}
use Rattle.command_run.specs.Valid.{IsFileWithin, IsModuleFile}

-- a file within its limit is read whole; a file that is a valid module is read as that module, and what is read as a
-- module is valid
pub record ReadsModules : Type 0 where
  pub files : (folder : Folder) (name : List ℕ) (limit : ℕ) (bytes : List ℕ) → IsFileWithin folder name limit bytes → file_of folder name limit ≡ Ok bytes
  pub modules : (folder : Folder) (name : List ℕ) (file : IsModuleFile folder name) → module_in folder name ≡ Ok file.«module»
  pub valid : (folder : Folder) (name : List ℕ) (m : Module) → module_in folder name ≡ Ok m → IsValid m
