use Rattle.std.proofs.Common.{◌≡◌, ◌∙◌, ◌∷◌, ◌++◌, ◌+◌, List, [], Option, ap, drop, map, refl, subst, sym, ℕ}
use Rattle.std.proofs.lemmas.List.{drop_all, drop_more, map-append}
use Rattle.wasm_types.specs.Modules.{Module, module_of as shown}
use Rattle.schedule_text.specs.declared.process.ProcessLine.{ProcessLine}
use Rattle.fri_outside.specs.Outside.{Folder}
use Rattle.command_run.specs.CountLaws.{counts_later, counts_none}
use Rattle.command_run.specs.Asked.{first_named, kept_names, unless_named}
use Rattle.command_run.specs.AskedLaws.{AsksUpTo, all_are_first, up_to_all, up_to_here, up_to_more, up_to_none, up_to_stopped}
use Rattle.command_run.specs.Kept.{AreOfFiles}
use Rattle.record_command.specs.Expected.{module_files}
use Rattle.record_command.proofs.GroupModules.{AreTaken, asking_module, none_taken, one_taken}
use Rattle.record_command.proofs.inputs.take_modules.Goals as goal

pub loop-line-init : goal.loop-line-init
loop-line-init g c = (
  subst (λ (ms : List Module). AreTaken (g.F.Files.told c.args.files.now) c.args.lines.now 0 ms) (sym (ap (map shown) c.new-modules.ensures.items)) (none_taken (g.F.Files.told c.args.files.now) c.args.lines.now),
  refl,
  record { reads = refl; writes = refl; misses = refl },
  c.new-read.ensures.none (g.F.Files.told c.args.files.now),
  subst (λ (kept : List (List ℕ)). AsksUpTo (module_files c.args.lines.now) (first_named kept (map (λ (line : ProcessLine). line.«module») c.args.lines.now)) (g.F.Files.counts c.args.files.now) (g.F.Files.counts c.args.files.now))
      (sym c.new-read.ensures.unnamed) (up_to_none (module_files c.args.lines.now) (g.F.Files.counts c.args.files.now)),
)

pub take_module_of-requires-clause-kept : goal.take_module_of-requires-clause-kept
take_module_of-requires-clause-kept g c = subst (λ (told : Option Folder). AreOfFiles told c.loop-line.read) (sym c.loop-line.invariant.1) c.loop-line.invariant.3

pub loop-line-preserved : goal.loop-line-preserved
loop-line-preserved g c =
    let taken = c.loop-line.invariant in
    let told = g.F.Files.told c.args.files.now in
    let lines = c.args.lines.now in
    let i = c.loop-line.line-index in
    let items = c.loop-line.modules.items in
    let m = c.in_ok-take_module_of.field-0 in
    let pushed : map shown c.push.new.self.items ≡ map shown items ++ shown m ∷ [] = ap (map shown) c.in_ok-push.ensures.items ∙ map-append shown items (m ∷ []) in
    let next : drop i lines ≡ c.line-item.result ∷ drop (i + 1) lines = drop_more lines i _ c.loop-line-test.true ∙ ap (λ (line : ProcessLine). line ∷ drop (i + 1) lines) (sym c.line-item.is) in (
      subst (λ (ms : List Module). AreTaken told lines (i + 1) ms) (sym pushed)
          (one_taken told lines i (map shown items) c.line-item.result (shown m) taken.0 next (λ folder is. c.in_ok-take_module_of.ensures.answer folder (taken.1 ∙ is))),
      c.take_module_of.ensures.same ∙ taken.1,
      counts_later _ _ _ _ taken.2 (counts_none _ _ _ c.in_ok-take_module_of.ensures.counts),
      subst (λ (told : Option Folder). AreOfFiles told c.take_module_of.new.modules) taken.1 c.take_module_of.ensures.kept,
      up_to_more (module_files lines) (unless_named (kept_names c.loop-line.read) c.line-item.result.«module») (first_named (kept_names c.take_module_of.new.modules) (map (λ (line : ProcessLine). line.«module») (drop (i + 1) lines)))
          _ _ _ _ taken.4 (asking_module c.loop-line.read c.take_module_of.new.modules lines i c.line-item.result next c.in_ok-take_module_of.ensures.named) c.in_ok-take_module_of.ensures.asks_all,
    )

pub returns-in_err-take_module_of-clause-asks : goal.returns-in_err-take_module_of-clause-asks
returns-in_err-take_module_of-clause-asks g c =
    let lines = c.args.lines.now in
    let i = c.loop-line.line-index in
    let next : drop i lines ≡ c.line-item.result ∷ drop (i + 1) lines = drop_more lines i _ c.loop-line-test.true ∙ ap (λ (line : ProcessLine). line ∷ drop (i + 1) lines) (sym c.line-item.is) in
    let kept = kept_names c.loop-line.read in
    up_to_stopped (module_files lines) (unless_named kept c.line-item.result.«module») (first_named (kept ++ unless_named kept c.line-item.result.«module») (map (λ (line : ProcessLine). line.«module») (drop (i + 1) lines)))
    _ _ _ _ c.loop-line.invariant.4 (ap (λ (rest : List ProcessLine). first_named kept (map (λ (line : ProcessLine). line.«module») rest)) next) c.take_module_of.ensures.asks

pub returns-in_err-push-clause-asks : goal.returns-in_err-push-clause-asks
returns-in_err-push-clause-asks g c =
    let lines = c.args.lines.now in
    let i = c.loop-line.line-index in
    let next : drop i lines ≡ c.line-item.result ∷ drop (i + 1) lines = drop_more lines i _ c.loop-line-test.true ∙ ap (λ (line : ProcessLine). line ∷ drop (i + 1) lines) (sym c.line-item.is) in
    let kept = kept_names c.loop-line.read in
    up_to_stopped (module_files lines) (unless_named kept c.line-item.result.«module») (first_named (kept ++ unless_named kept c.line-item.result.«module») (map (λ (line : ProcessLine). line.«module») (drop (i + 1) lines)))
    _ _ _ _ c.loop-line.invariant.4 (ap (λ (rest : List ProcessLine). first_named kept (map (λ (line : ProcessLine). line.«module») rest)) next) (all_are_first _ _ _ c.in_ok-take_module_of.ensures.asks_all)

pub returns-clause-asks_all : goal.returns-clause-asks_all
returns-clause-asks_all g c =
    let lines = c.args.lines.now in
    up_to_all (module_files lines) _ _
    (subst (λ (rest : List ProcessLine). AsksUpTo (module_files lines) (first_named (kept_names c.loop-line.read) (map (λ (line : ProcessLine). line.«module») rest)) (g.F.Files.counts c.args.files.now) (g.F.Files.counts c.loop-line.files))
    (drop_all c.loop-line.line-index lines c.loop-line-test.false) c.loop-line.invariant.4)

pub returns-clause-asks : goal.returns-clause-asks
returns-clause-asks g c = up_to_here (module_files c.args.lines.now) _ _ _ c.loop-line.invariant.4
