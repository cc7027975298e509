use Rattle.std.proofs.Common.{◌≡◌, ◌≢◌, Bool, true, false, not, map, refl, sym, ap, ◌∙◌, subst, arith, IsTrue, MatchBool, ◌↔◌, AllPairs}
use Rattle.std.proofs.lemmas.List.{take_all}
use Rattle.wasm_types.specs.declared.modules.Export.{Export}
use Rattle.wasm_validate.specs.inside.Neighbors.{HasEqualNeighbors, HasNoEqualNeighbors}
use Rattle.wasm_validate.proofs.NameLemmas.{names_differ, names_repeat}
use Rattle.wasm_validate.proofs.exports.have_own_names.Goals as goal

judged : (r : Bool) (Repeat Differ Own : Type 0) → MatchBool r Repeat Differ → (Repeat → Own → ⊥) → (Differ → Own) → IsTrue (not r) ↔ Own
judged true Repeat Differ Own found repeat differ = (λ no. cc, λ own. absurd (repeat found own))
judged false Repeat Differ Own found repeat differ = (λ _. differ found, λ _. refl)

pub returns : goal.returns
returns c =
    let shown : map (λ n. n.now) c.loop-e.names.items ≡ map (λ (e : Export). e.name.items) c.args.exports.now =
    c.loop-e.invariant ∙ ap (λ l. map (λ (e : Export). e.name.items) l) (take_all c.loop-e.e-index c.args.exports.now (omega arith)) in
    judged c.has_equal_neighbors.result _ _ _ c.has_equal_neighbors.ensures
    (λ repeat own. names_repeat (λ n. n.now) _ _ c.sort_unstable.ensures.permutation (subst (HasEqualNeighbors (λ n. n.now)) c.deref.ensures.value repeat) (subst (AllPairs ◌≢◌) (sym shown) own))
    (λ differ. subst (AllPairs ◌≢◌) shown (names_differ (λ n. n.now) _ _ c.sort_unstable.ensures.permutation c.sort_unstable.ensures.sorted (subst (HasNoEqualNeighbors (λ n. n.now)) c.deref.ensures.value differ)))
