use Rattle.std.proofs.Common.{sym, ◌∙◌, subst, map}
use Rattle.wasm_types.specs.Modules.{func_type, import_of}
use Rattle.wasm_validate.specs.inside.Signatures.{HasTypeUnder}
use Rattle.wasm_validate.proofs.LibraryLemmas.{of_library, imported_func, library-type}
use Rattle.wasm_validate.proofs.imports.is_of_library.Goals as goal

pub returns-in_default : goal.returns-in_default
returns-in_default c = (λ no. cc, λ of. let f = imported_func _ of.type_index of.is_func in absurd (c.in_default.not-Func _ f))

pub returns-then-is_library : goal.returns-then-is_library
returns-then-is_library c =
    let index = c.in-Func.index in
    let types = map func_type c.args.types.now in
    let name = c.deref-then-is_library.ensures.value in (
      λ yes. of_library types (import_of c.args.import.now) index c.in-Func.is
          (sym c.deref.ensures.value ∙ c.is_library.ensures.0 c.if-is_library.true) (subst (HasTypeUnder types index) name (c.has_type_under.ensures.0 yes)),
      λ of. c.has_type_under.ensures.1 (subst (HasTypeUnder types index) (sym name) (library-type types (import_of c.args.import.now) index c.in-Func.is of)),
    )
