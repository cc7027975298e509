use Rattle.std.proofs.Common.{◌∙◌, ◌∷◌, ◌++◌, ℕ, List, [], ap, map, sym, take}
use Rattle.std.proofs.lemmas.List.{map-append, take_all, take_more}
use Rattle.schedule_text.specs.declared.process.ProcessLine.{ProcessLine}
use Rattle.play_command.proofs.session.copied_names.Goals as goal

pub loop-line-init : goal.loop-line-init
loop-line-init c = c.new-names.ensures.items

pub loop-line-preserved : goal.loop-line-preserved
loop-line-preserved c =
    let lines = c.processes-line-items.result.now in
    let i = c.loop-line.line-index in
    let name_of : ProcessLine → List ℕ = λ line. line.name in
    c.in_ok-push.ensures.items
    ∙ ap (λ (names : List (List ℕ)). names ++ c.in_ok-from_slice.field-0 ∷ []) c.loop-line.invariant
    ∙ ap (λ (name : List ℕ). map name_of (take i lines) ++ name ∷ []) (c.in_ok-from_slice.ensures ∙ c.as_slice.ensures)
    ∙ ap (λ (line : ProcessLine). map name_of (take i lines) ++ name_of line ∷ []) c.line-item.is
    ∙ sym (ap (map name_of) (take_more lines i c.line-item.result c.loop-line-test.true) ∙ map-append name_of (take i lines) _)

pub returns : goal.returns
returns c =
    let name_of : ProcessLine → List ℕ = λ line. line.name in
    c.loop-line.invariant ∙ ap (map name_of) (take_all c.loop-line.line-index c.processes-line-items.result.now c.loop-line-test.false ∙ c.processes-line-items.ensures.value)
