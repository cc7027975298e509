use Rattle.std.proofs.Common.{◌≡◌, ◌∙◌, Bool, Bor, List, Ok, ap, rules, subst, sym, tests, ℕ}
use Rattle.std.specs.Prelude.{bytes_eq, find, option_map, string_bytes}
use Rattle.std.proofs.lemmas.Iterator.{YieldsList-from_slice}
use Rattle.std.proofs.lemmas.Iterator.Search.{find_from_yields_List}
use Rattle.std.proofs.lemmas.Slice.Eq.{bytes_eq-Decides}
use Rattle.wasm_types.specs.Modules.{module_of as shown}
use Rattle.command_run.specs.declared.kept.ModuleFile.{ModuleFile}
use Rattle.command_run.specs.Inputs.{module_in}
use Rattle.command_run.specs.Kept.{IsOfFile}
use Rattle.command_run.proofs.KeptModules.{found_so, none_passes, one_passes, said_of_none}
use Rattle.command_run.proofs.kept.ModuleFiles.get.Goals as goal

pub returns-in_err-file-clause-none : goal.returns-in_err-file-clause-none
returns-in_err-file-clause-none c =
    let named : ModuleFile → Bool = λ file. bytes_eq (string_bytes file.name) c.args.name.now in
    let found : option_map (λ (x : Bor ModuleFile). x.now) c.find.result ≡ find named c.args.self.now.kept.items =
    find_from_yields_List named _ _ c.find.result c.find.ensures.ran (YieldsList-from_slice c.args.self.now.kept.items cc) (λ x b q k. search (rules, tests)) in
    said_of_none c.from_residual.result _ (none_passes named c.args.self.now.kept.items (sym found ∙ ap (option_map (λ (x : Bor ModuleFile). x.now)) c.in_err-file.was))

pub returns-clause-some : goal.returns-clause-some
returns-clause-some c =
    let named : ModuleFile → Bool = λ file. bytes_eq (string_bytes file.name) c.args.name.now in
    let found : option_map (λ (x : Bor ModuleFile). x.now) c.find.result ≡ find named c.args.self.now.kept.items =
    find_from_yields_List named _ _ c.find.result c.find.ensures.ran (YieldsList-from_slice c.args.self.now.kept.items cc) (λ x b q k. search (rules, tests)) in
    one_passes named c.args.self.now.kept.items c.in_ok-file.file.now (sym found ∙ ap (option_map (λ (x : Bor ModuleFile). x.now)) c.in_ok-file.was)

pub returns-clause-found : goal.returns-clause-found
returns-clause-found c told of_files folder is =
    let named : ModuleFile → Bool = λ file. bytes_eq (string_bytes file.name) c.args.name.now in
    let found : option_map (λ (x : Bor ModuleFile). x.now) c.find.result ≡ find named c.args.self.now.kept.items =
    find_from_yields_List named _ _ c.find.result c.find.ensures.ran (YieldsList-from_slice c.args.self.now.kept.items cc) (λ x b q k. search (rules, tests)) in
    let file : ModuleFile = c.in_ok-file.file.now in
    let so = found_so (IsOfFile folder) named c.args.self.now.kept.items file (of_files folder is) (sym found ∙ ap (option_map (λ (x : Bor ModuleFile). x.now)) c.in_ok-file.was) in
    subst (λ (name : List ℕ). module_in folder name ≡ Ok (shown file.«module»)) ((bytes_eq-Decides (string_bytes file.name) c.args.name.now).0 so.1) so.0
