use Rattle.std.proofs.Common.{◌≡◌, ◌∙◌, ◌<◌, ℕ, List, [], ◌∷◌, ◌++◌, length, map, Some, sym, ap, arith, refl}
use Rattle.std.specs.Prelude.{option_map, slice_get}
use Rattle.std.proofs.lemmas.Option.{slice_get-map, slice_get_read}
use Rattle.causal_cut.proofs.ListPlaces.{map_more}
use Rattle.causal_cut.proofs.clocks.Clocks.counts.Goals as goal

pub loop-own-preserved : goal.loop-own-preserved
loop-own-preserved c =
    let lists = c.deref-own-items.result.now in
    let at = c.loop-own.own-index in
    let own = c.own-item.result in
    let within : at < length lists = omega arith in
    let view : map (λ own. own.items) lists ≡ c.args.self.now = ap (map (λ own. own.items)) c.deref-own-items.ensures.value ∙ c.self.view_is in
    let there : slice_get c.args.self.now at ≡ Some own.items =
    ap (λ (l : List (List ℕ)). slice_get l at) (sym view) ∙ slice_get-map (λ own. own.items) lists at ∙ ap (option_map (λ own. own.items)) (slice_get_read lists (length lists) at own refl within c.own-item.is) in
    let count : c.len.result ≡ length own.items = c.len.ensures ∙ own.ok.0 in
    c.in_ok-push.ensures.items ∙ ap (λ n. c.loop-own.counts.items ++ n ∷ []) count ∙ ap (λ l. l ++ length own.items ∷ []) c.loop-own.invariant ∙ map_more length c.args.self.now at own.items there
