use Rattle.std.proofs.Common.{Bool, List, ap, append-nil, refl, subst, sym, ◌++◌, ◌∙◌, ℕ}
use Rattle.std.specs.Prelude.{IsTrue, bytes_eq, string_bytes}
use Rattle.std.specs.List.{list_any}
use Rattle.std.proofs.lemmas.Slice.Eq.{bytes_eq-Decides}
use Rattle.command_run.specs.declared.kept.ModuleFile.{ModuleFile}
use Rattle.command_run.specs.Asked.{AsksAll, AsksFirst, kept_names}
use Rattle.command_run.specs.AskedLaws.{asks_none}
use Rattle.command_run.proofs.KeptModules.{last_passes, named_already, named_anew, names_with_file}
use Rattle.command_run.proofs.kept.ModuleFiles.take.Goals as goal

pub returns-clause-read : goal.returns-clause-read
returns-clause-read g c =
    let adds = c.in_ok-keep.ensures.added in
    let named : ModuleFile → Bool = λ file. bytes_eq (string_bytes file.name) c.args.name.now in
    subst (λ (items : List ModuleFile). IsTrue (list_any named items)) (sym adds.added) (last_passes named c.args.self.now.kept.items adds.file ((bytes_eq-Decides _ _).1 adds.named))

-- ---- the module of a file that was read before

pub returns-in-Some-clause-asks_all : goal.returns-in-Some-clause-asks_all
returns-in-Some-clause-asks_all g c =
    let counts = g.F.Files.counts c.args.files.now in
    subst (λ (names : List (List ℕ)). AsksAll names counts counts) (sym (named_already c.args.self.now c.args.name.now c.in-Some.ensures.some)) (asks_none counts counts refl)

pub returns-in-Some-clause-named : goal.returns-in-Some-clause-named
returns-in-Some-clause-named g c =
    let kept = kept_names c.args.self.now in
    sym (append-nil kept) ∙ ap (λ (names : List (List ℕ)). kept ++ names) (sym (named_already c.args.self.now c.args.name.now c.in-Some.ensures.some))

-- ---- and of one that was not

pub returns-in_err-take_module-clause-asks : goal.returns-in_err-take_module-clause-asks
returns-in_err-take_module-clause-asks g c =
    subst (λ (names : List (List ℕ)). AsksFirst names (g.F.Files.counts c.args.files.now) (g.F.Files.counts c.take_module.new.files))
    (sym (named_anew c.args.self.now c.args.name.now c.in_default.ensures.none)) c.take_module.ensures.asks

pub returns-in_err-module-clause-asks : goal.returns-in_err-module-clause-asks
returns-in_err-module-clause-asks g c =
    subst (λ (names : List (List ℕ)). AsksFirst names (g.F.Files.counts c.args.files.now) (g.F.Files.counts c.take_module.new.files))
    (sym (named_anew c.args.self.now c.args.name.now c.in_default.ensures.none)) c.take_module.ensures.asks

pub returns-in_err-keep-clause-asks : goal.returns-in_err-keep-clause-asks
returns-in_err-keep-clause-asks g c =
    subst (λ (names : List (List ℕ)). AsksFirst names (g.F.Files.counts c.args.files.now) (g.F.Files.counts c.take_module.new.files))
    (sym (named_anew c.args.self.now c.args.name.now c.in_default.ensures.none)) c.take_module.ensures.asks

pub returns-clause-asks : goal.returns-clause-asks
returns-clause-asks g c =
    subst (λ (names : List (List ℕ)). AsksFirst names (g.F.Files.counts c.args.files.now) (g.F.Files.counts c.take_module.new.files))
    (sym (named_anew c.args.self.now c.args.name.now c.in_default.ensures.none)) c.take_module.ensures.asks

pub returns-clause-asks_all : goal.returns-clause-asks_all
returns-clause-asks_all g c =
    subst (λ (names : List (List ℕ)). AsksAll names (g.F.Files.counts c.args.files.now) (g.F.Files.counts c.take_module.new.files))
    (sym (named_anew c.args.self.now c.args.name.now c.in_default.ensures.none)) c.in_ok-take_module.ensures.asks_all

pub returns-clause-named : goal.returns-clause-named
returns-clause-named g c =
    names_with_file _ _ _ _ c.in_ok-keep.ensures.added
    ∙ ap (λ (names : List (List ℕ)). kept_names c.args.self.now ++ names) (sym (named_anew c.args.self.now c.args.name.now c.in_default.ensures.none))
