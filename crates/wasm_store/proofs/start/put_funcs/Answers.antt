use Rattle.std.proofs.Common.{◌≡◌, ℕ, suc, ◌+◌, ◌-◌, ◌<◌, List, [], ◌∷◌, ◌++◌, Option, Some, None, length, take, drop, get_or, sym, ap, ◌∙◌, arith, append_assoc, drop-cons, length-append}
use Rattle.std.specs.Prelude.{map}
use Rattle.std.proofs.Math.ListN.{set}
use Rattle.std.proofs.lemmas.List.{set-append_right, map-append, length-map, length-take-le, take_more}
use Rattle.wasm_store.specs.Start.{put_funcs}
use Rattle.wasm_store.proofs.start.put_funcs.Goals as goal

put_more : (t : List (Option ℕ)) (at n : ℕ) (fs : List ℕ) (f : ℕ) → length fs ≡ n → at + n < length t → set (put_funcs t at fs) (at + n) (Some f) ≡ put_funcs t at (fs ++ f ∷ [])
put_more t at n fs f e lt =
    let rest = drop (at + length fs) t in
    let low = length-take-le at t (omega arith) in
    let mapped = length-map fs Some ∙ e in
    let inner : set (map Some fs ++ rest) n (Some f) ≡ map Some fs ++ set rest (n - n) (Some f) = set-append_right (map Some fs) rest n n (Some f) mapped (omega arith) in
    let none : n - n ≡ 0 = omega arith in
    let there : at + n - at ≡ n = omega arith in
    let opened : rest ≡ get_or t (at + length fs) None ∷ drop (suc (at + length fs)) t = drop-cons t (at + length fs) None (omega (arith, e)) in
    let next : suc (at + length fs) ≡ at + length (fs ++ f ∷ []) = omega (arith, length-append fs (f ∷ [])) in
    set-append_right (take at t) (map Some fs ++ rest) at (at + n) (Some f) low (omega arith)
    ∙ ap (λ k. take at t ++ set (map Some fs ++ rest) k (Some f)) there
    ∙ ap (λ o. take at t ++ o) (inner ∙ ap (λ k. map Some fs ++ set rest k (Some f)) none ∙ ap (λ o. map Some fs ++ set o 0 (Some f)) opened ∙ ap (λ k. map Some fs ++ Some f ∷ drop k t) next)
    ∙ ap (λ o. take at t ++ o) (sym (append_assoc (map Some fs) (Some f ∷ []) (drop (at + length (fs ++ f ∷ [])) t)) ∙ ap (λ o. o ++ drop (at + length (fs ++ f ∷ [])) t) (sym (map-append Some fs (f ∷ []))))

pub loop-i-preserved : goal.loop-i-preserved
loop-i-preserved c =
    let funcs = c.args.funcs.now in
    let t = c.args.table.now in
    let i = c.loop-i.i in
    ap (λ o. set o (c.args.at + i) (Some (get_or funcs i 0))) c.loop-i.invariant
    ∙ put_more t c.args.at i (take i funcs) (get_or funcs i 0) (length-take-le i funcs (omega arith)) (omega (arith, c.requires))
    ∙ ap (λ o. put_funcs t c.args.at o) (sym (take_more funcs i 0 c.loop-i-test.true))
