use Rattle.std.proofs.Common.{◌≡◌, ℕ, ◌+◌, ◌<◌, List, [], ◌∷◌, ◌++◌, length, take, get_or, map, sym, ap, ◌∙◌, append_assoc, Bor}
use Rattle.std.specs.List.{concat}
use Rattle.std.proofs.lemmas.List.{append-nil, map_more}
use Rattle.call_log.proofs.put.put_pieces.Goals as goal

-- one more list at the end
concat-push : (parts : List (List ℕ)) (part : List ℕ) → concat (parts ++ part ∷ []) ≡ concat parts ++ part
concat-push [] part = append-nil part
concat-push (first ∷ parts) part = ap (λ (t : List ℕ). first ++ t) (concat-push parts part) ∙ sym (append_assoc first (concat parts) part)

abbrev bytes_of : Bor (List ℕ) → List ℕ
bytes_of piece = piece.now

put_more : (pieces : List (Bor (List ℕ))) (i : ℕ) (d : Bor (List ℕ)) (old out new : List ℕ) → i < length pieces → out ≡ old ++ concat (map bytes_of (take i pieces)) → new ≡ out ++ bytes_of (get_or pieces i d) → new ≡ old ++ concat (map bytes_of (take (i + 1) pieces))
put_more pieces i d old out new within so_far put =
    let last : List ℕ = bytes_of (get_or pieces i d) in
    let before : List (List ℕ) = map bytes_of (take i pieces) in
    put ∙ ap (λ (t : List ℕ). t ++ last) so_far ∙ append_assoc old (concat before) last
    ∙ ap (λ (t : List ℕ). old ++ t) (sym (concat-push before last) ∙ ap concat (sym (map_more bytes_of pieces i d within)))

pub loop-piece-preserved : goal.loop-piece-preserved
loop-piece-preserved c = put_more c.args.pieces.now c.loop-piece.piece-index _ c.args.out.now.items c.loop-piece.out.items _ c.loop-piece-test.true c.loop-piece.invariant c.in_default.ensures.ok
