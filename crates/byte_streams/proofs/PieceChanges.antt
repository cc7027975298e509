-- What a piece changes in the streams that are kept.
use Rattle.std.proofs.Common.{◌≡◌, Bool, true, false, Option, Some, None, Result, Ok, Err, IfOk, OnOk, refl, sym, ap, subst, ◌∙◌}
use Rattle.std.specs.Prelude.{◌||◌, if◌then◌else◌}
use Rattle.std.specs.FinMap as map
use Rattle.byte_streams.specs.Chunk.{StreamPiece}
use Rattle.byte_streams.specs.Keys.{StreamContents, StreamKey, ContentsByStream}
use Rattle.byte_streams.specs.inside.Keeping.{empty_contents, is_written_to, contents_or_empty, with_cover, with_sent_piece, with_stream_sent, with_taken}
use Rattle.byte_streams.specs.Traffic.{continues_or_repeats, piece_stands_in}
use Rattle.byte_streams.proofs.TreeMaps.{by_stream_exact, insert_held}

not_at_end : (a b : Bool) (x y : StreamContents) → (a || b) ≡ false → (if a then x else y) ≡ y
not_at_end true b x y e = absurd cc
not_at_end false b x y e = refl

-- a piece that does not count adds nothing
pub adds_nothing : (piece : StreamPiece) (c : StreamContents) → continues_or_repeats piece c.written ≡ false → with_sent_piece piece c ≡ c
adds_nothing piece c e = not_at_end _ (piece_stands_in piece c.written) _ c e

-- whether it counts, by what the streams have
pub counts_there : {E : Type 0} (key : StreamKey) (piece : StreamPiece) (old : ContentsByStream) (r : Result Bool E) (has : Option StreamContents) → map.get old key ≡ has
    → IfOk r (λ counts. counts ≡ continues_or_repeats piece (contents_or_empty has).written) → IfOk r (λ counts. counts ≡ is_written_to key piece old)
counts_there key piece old r has is counts = subst (λ (o : Option StreamContents). IfOk r (λ counts. counts ≡ continues_or_repeats piece (contents_or_empty o).written)) (sym is) counts

-- ---- what stands of a stream, written back

module _ (key : StreamKey) (piece : StreamPiece) (old new : ContentsByStream) where
  sent_to : (c w : StreamContents) (counts : Bool) → map.get old key ≡ Some c → counts ≡ continues_or_repeats piece c.written → w ≡ with_sent_piece piece c → new ≡ map.insert old key w
      → new ≡ (if counts then with_stream_sent key piece old else old)
  sent_to c w true has is contents changed = changed ∙ ap (map.insert old key) (contents ∙ ap (with_sent_piece piece) (sym (ap contents_or_empty has)))
  sent_to c w false has is contents changed =
      changed ∙ ap (map.insert old key) (contents ∙ adds_nothing piece c (sym is)) ∙ insert_held by_stream_exact old key c has

  pub sent_there : {E : Type 0} (r : Result Bool E) (c w : StreamContents) → map.get old key ≡ Some c → IfOk r (λ counts. counts ≡ continues_or_repeats piece c.written)
      → OnOk r (w ≡ with_sent_piece piece c) → new ≡ map.insert old key w → IfOk r (λ counts. new ≡ (if counts then with_stream_sent key piece old else old))
  sent_there (Ok counts) c w has is contents changed = sent_to c w counts has is contents changed
  sent_there (Err e) c w has is contents changed = tt

  pub taken_there : (c w : StreamContents) (covers : Bool) → map.get old key ≡ Some c → w ≡ (if covers then with_cover piece c else c) → new ≡ map.insert old key w
      → new ≡ (if covers then with_taken key piece old else old)
  taken_there c w true has contents changed = changed ∙ ap (map.insert old key) (contents ∙ ap (with_cover piece) (sym (ap contents_or_empty has)))
  taken_there c w false has contents changed = changed ∙ ap (map.insert old key) contents ∙ insert_held by_stream_exact old key c has

  pub begun : {E : Type 0} (before : ContentsByStream) (r : Result Bool E) → before ≡ old → map.get old key ≡ None
      → IfOk r (λ counts. new ≡ (if counts then map.insert before key (with_sent_piece piece empty_contents) else before))
      → IfOk r (λ counts. new ≡ (if counts then with_stream_sent key piece old else old))
  begun before r same none changed =
      subst (λ (o : Option StreamContents). IfOk r (λ counts. new ≡ (if counts then map.insert old key (with_sent_piece piece (contents_or_empty o)) else old))) (sym none)
      (subst (λ (s : ContentsByStream). IfOk r (λ counts. new ≡ (if counts then map.insert s key (with_sent_piece piece empty_contents) else s))) same changed)
