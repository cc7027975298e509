-- The modules that a call keeps of the files that it read.
use Rattle.std.specs.Prelude.{◌≡◌, ℕ, List, Bool, Ok, Option, bytes_eq, string_bytes}
use Rattle.std.specs.List.{AllByRecursion, list_any}
use Rattle.fri_outside.specs.Outside.{Folder, WhenTold}
use Rattle.wasm_types.specs.Modules.{module_of}
use Rattle.command_run.specs.declared.kept.ModuleFile.{ModuleFile}
use Rattle.command_run.specs.declared.kept.ModuleFiles.{ModuleFiles}
use Rattle.command_run.specs.Inputs.{module_in}

-- the file of this name holds this module
abbrev pub IsOfFile : Folder → ModuleFile → Type 0
IsOfFile folder file = module_in folder (string_bytes file.name) ≡ Ok (module_of file.«module»)

-- this holds of each, as far as the folder tells its files
abbrev pub AreOfFiles : Option Folder → ModuleFiles → Type 0
AreOfFiles told files = WhenTold told (λ folder. AllByRecursion (IsOfFile folder) files.kept.items)

-- the file of this name was read
abbrev pub has_file : ModuleFiles → List ℕ → Bool
has_file files name = list_any (λ file. bytes_eq (string_bytes file.name) name) files.kept.items
