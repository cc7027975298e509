use Rattle.std.proofs.Common.{◌≡◌, ◌∙◌, ◌++◌, List, ℕ, MatchResult, Ok, OnOk, subst, sym}
use Rattle.std.specs.Prelude.{IsUtf8}
use Rattle.wasm_types.specs.Modules.{module_of as shown}
use Rattle.command_run.specs.Asked.{AsksAll, AsksFirst, kept_names, unless_named}
use Rattle.command_run.specs.Call.{StopsAsCause}
use Rattle.command_run.specs.Inputs.{module_in}
use Rattle.record_command.proofs.ModuleNames.{module_utf8}
use Rattle.record_command.proofs.inputs.take_module_of.Goals as goal

pub returns-clause-answer : goal.returns-clause-answer
returns-clause-answer g c = λ folder told.
    let text : IsUtf8 c.as_slice.result.now = subst (λ (b : List ℕ). IsUtf8 b) (sym c.as_slice.ensures) (module_utf8 c.args.line.now.«module» c.requires.line.file) in
    let file : c.deref.result.now ≡ c.args.line.now.«module» = c.deref.ensures ∙ c.in_ok-file.ensures.ok text ∙ c.as_slice.ensures in
    subst (λ (n : List ℕ). MatchResult c.take.result (λ m. module_in folder n ≡ Ok (shown m)) (StopsAsCause (module_in folder n))) file (c.take.ensures.answer folder told)

pub returns-clause-asks : goal.returns-clause-asks
returns-clause-asks g c =
    let text : IsUtf8 c.as_slice.result.now = subst (λ (b : List ℕ). IsUtf8 b) (sym c.as_slice.ensures) (module_utf8 c.args.line.now.«module» c.requires.line.file) in
    let file : c.deref.result.now ≡ c.args.line.now.«module» = c.deref.ensures ∙ c.in_ok-file.ensures.ok text ∙ c.as_slice.ensures in
    subst (λ (n : List ℕ). AsksFirst (unless_named (kept_names c.args.modules.now) n) (g.F.Files.counts c.args.files.now) (g.F.Files.counts c.take.new.files)) file c.take.ensures.asks

pub returns-clause-asks_all : goal.returns-clause-asks_all
returns-clause-asks_all g c =
    let text : IsUtf8 c.as_slice.result.now = subst (λ (b : List ℕ). IsUtf8 b) (sym c.as_slice.ensures) (module_utf8 c.args.line.now.«module» c.requires.line.file) in
    let file : c.deref.result.now ≡ c.args.line.now.«module» = c.deref.ensures ∙ c.in_ok-file.ensures.ok text ∙ c.as_slice.ensures in
    subst (λ (n : List ℕ). OnOk c.take.result (AsksAll (unless_named (kept_names c.args.modules.now) n) (g.F.Files.counts c.args.files.now) (g.F.Files.counts c.take.new.files))) file c.take.ensures.asks_all

pub returns-clause-named : goal.returns-clause-named
returns-clause-named g c =
    let text : IsUtf8 c.as_slice.result.now = subst (λ (b : List ℕ). IsUtf8 b) (sym c.as_slice.ensures) (module_utf8 c.args.line.now.«module» c.requires.line.file) in
    let file : c.deref.result.now ≡ c.args.line.now.«module» = c.deref.ensures ∙ c.in_ok-file.ensures.ok text ∙ c.as_slice.ensures in
    subst (λ (n : List ℕ). OnOk c.take.result (kept_names c.take.new.self ≡ kept_names c.args.modules.now ++ unless_named (kept_names c.args.modules.now) n)) file c.take.ensures.named
