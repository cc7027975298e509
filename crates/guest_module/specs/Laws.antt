-- What is so of all modules that import functions of the library only.
use Rattle.std.specs.Prelude.{◌≡◌, ℕ, All}
use Rattle.wasm_types.specs.Context.{func_type_of}
use Rattle.wasm_types.specs.Functions.{type_of}
use Rattle.wasm_types.specs.Modules.{Module}
use Rattle.guest_module.specs.Library.{IsOfLibrary}

-- If each import is a function of the library, the indices that typing has of the functions' types count all imports.
abbrev pub TypesAgree : Type 0
TypesAgree = (m : Module) (f : ℕ) → All (IsOfLibrary m.types) m.imports → func_type_of m f ≡ type_of m f
