-- Files that are valid modules, and modules that are read.
use Rattle.std.proofs.Common.{◌≡◌, ◌↔◌, ℕ, List, Bool, true, false, cond, Option, Some, None, Result, Ok, refl, ap, subst, ◌∙◌}
use Rattle.std.specs.Prelude.{option_and_then}
use Rattle.fri_outside.specs.Laws.{KeepsFiles}
use Rattle.fri_outside.specs.Outside.{Folder, found_within}
use Rattle.wasm_types.specs.Floats.{is_with_floats}
use Rattle.wasm_types.specs.Modules.{Module}
use Rattle.guest_module.specs.Valid.{IsValid, has_no_start, is_over_limit}
use Rattle.wasm_decode.specs.Grammar.{SpellsModule}
use Rattle.wasm_decode.specs.Sections.{module_of_bytes}
use Rattle.wasm_validate.specs.Fault.{ExactFault, fault}
use Rattle.wasm_validate.specs.declared.invalid.Invalid.{Invalid}
use Rattle.wasm_validate.specs.declared.invalid.Invalid.TheVariants.{HasFloat, BadImport, Untyped, OverLimit, NoStart}
use Rattle.command_run.specs.declared.refusal.Reason.{Reason}
use Rattle.command_run.specs.declared.refusal.Reason.TheVariants as reason
use Rattle.command_run.specs.Fault.{fault_of, reason_of}
use Rattle.command_run.specs.Inputs.{module_in, valid_module}
use Rattle.command_run.specs.Laws.{ReadsModules}
use Rattle.command_run.specs.Limits.{most_module}
use Rattle.command_run.specs.Outcome.{CommandStop, and_then, file_of, some_or_refused, unless_refused}
use Rattle.command_run.specs.OutcomeLaws.{result_follows, same_Ok_value}
use Rattle.command_run.specs.Valid.{IsFileWithin}
use Rattle.command_run.proofs.FoundFiles.{held_file}
use Rattle.command_run.proofs.ModuleFaults.{no_fault}

-- ---- a module of a file is valid

abbrev first_fault : Bool → Bool → Bool → Bool → Bool → Option Invalid
first_fault a b c d e = cond a (Some HasFloat) (cond b (Some BadImport) (cond c (Some Untyped) (cond d (Some OverLimit) (cond e (Some NoStart) None))))

no_reason : (a b c d e : Bool) → option_and_then reason_of (first_fault a b c d e) ≡ None → first_fault a b c d e ≡ None
no_reason true b c d e none = cc
no_reason false true c d e none = cc
no_reason false false true d e none = cc
no_reason false false false true e none = cc
no_reason false false false false true none = cc
no_reason false false false false false none = refl

no_fault_found : (m : Module) → fault_of m ≡ None → fault m ≡ None
unfolding fault_of fault
no_fault_found m none = no_reason (is_with_floats m) _ _ (is_over_limit m) (has_no_start m) none

passed : (name : List ℕ) (m given : Module) (why : Option Reason) → unless_refused name m why ≡ Ok given → (why ≡ None) × (m ≡ given)
passed name m given None is = (refl, same_Ok_value (unless_refused name m None) m given refl is)
passed name m given (Some why) is = cc

module_valid : ExactFault → (folder : Folder) (name : List ℕ) (m : Module) → module_in folder name ≡ Ok m → IsValid m
module_valid exact folder name m is =
    let bytes = result_follows (file_of folder name most_module) _ m is in
    let spelled = result_follows (some_or_refused name reason.Malformed (module_of_bytes bytes.given)) (valid_module name) m bytes.comes in
    let p = passed name spelled.given m (fault_of spelled.given) spelled.comes in
    subst IsValid p.1 ((exact.none spelled.given).0 (no_fault_found spelled.given p.0))

-- ---- a file that is a valid module is read as that

within_limit : KeepsFiles → (folder : Folder) (name : List ℕ) (limit : ℕ) (bytes : List ℕ) → IsFileWithin folder name limit bytes → file_of folder name limit ≡ Ok bytes
within_limit keeps folder name limit bytes h = held_file folder name limit bytes (ap (found_within limit) h.held ∙ keeps.within limit bytes h.within)

pub modules_read : KeepsFiles → ((bytes : List ℕ) (m : Module) → (module_of_bytes bytes ≡ Some m) ↔ SpellsModule bytes m) → ExactFault → ReadsModules
modules_read keeps spelled exact = record {
  files = within_limit keeps;
  modules = λ folder name file.
      ap (λ (r : Result (List ℕ) CommandStop). and_then r (λ bytes. and_then (some_or_refused name reason.Malformed (module_of_bytes bytes)) (valid_module name))) (within_limit keeps folder name most_module file.bytes file.stands)
      ∙ ap (λ (m : Option Module). and_then (some_or_refused name reason.Malformed m) (valid_module name)) ((spelled file.bytes file.«module»).1 file.spelled)
      ∙ ap (unless_refused name file.«module») (no_fault exact file.«module» file.valid);
  valid = module_valid exact;
}
