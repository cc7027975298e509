-- What a terminal in memory tells of the times at which bytes were given stays, whatever is said and given later.
use Rattle.std.proofs.Common.{◌≡◌, ◌+◌, ◌≤◌, ◌∷◌, ◌++◌, ℕ, List, [], Some, length, take, drop, refl, sym, ap, ◌∙◌, arith, append_assoc, append-nil, length-append, length-take}
use Rattle.std.specs.Prelude.{All, map, Result, Ok, Err, IfOk, MatchResult}
use Rattle.std.proofs.Math.Seq.{take-length, drop-append_seam}
use Rattle.std.proofs.lemmas.List.{take-append-le, drop-append-le, take_all, length-drop}
use Rattle.std.proofs.lemmas.List.Elements.{All-cons, All-head, All-nil, All-tail}
use Rattle.std.proofs.lemmas.Grind.{common_steps}
use Rattle.fri_outside.specs.inside.Kept.{HearsInMemory, IsAskingMark, SaysInMemory, asking_at}
use Rattle.fri_outside.specs.Memory.{SinkInMemory, SourceInMemory}
use Rattle.fri_outside.specs.Outside.{after_sink_write}
use Rattle.fri_outside.specs.Terminal.{Asking}
use Rattle.fri_outside.specs.declared.files.WriteError.{WriteError}
use Rattle.fri_outside.specs.declared.mem_terminal.Mark.{Mark}

abbrev pub told : List ℕ → List ℕ → List Mark → List Asking
told said given marks = map (λ m. asking_at said given m.said m.heard m.count) marks

abbrev pub Are : List ℕ → List ℕ → List Mark → Type 0
Are said given marks = All (λ m. IsAskingMark said given m.said m.heard m.count) marks

module _ (said given : List ℕ) where
  -- more was said
  said_more : (more : List ℕ) (m : Mark) → IsAskingMark said given m.said m.heard m.count → asking_at (said ++ more) given m.said m.heard m.count ≡ asking_at said given m.said m.heard m.count
  said_more more m is = ap (λ (s : List ℕ). record { said = Some s; given = take m.count (drop m.heard given) }) (take-append-le m.said said more is.is_said)

  pub told_said : (more : List ℕ) (marks : List Mark) → Are said given marks → told (said ++ more) given marks ≡ told said given marks
  told_said more [] are = refl
  told_said more (m ∷ ms) are =
      ap (λ (a : Asking). a ∷ told (said ++ more) given ms) (said_more more m (All-head (λ n. IsAskingMark said given n.said n.heard n.count) m ms are))
      ∙ ap (λ (found : List Asking). asking_at said given m.said m.heard m.count ∷ found) (told_said more ms (All-tail (λ n. IsAskingMark said given n.said n.heard n.count) m ms are))

  -- more was given
  given_more : (more : List ℕ) (m : Mark) → IsAskingMark said given m.said m.heard m.count → asking_at said (given ++ more) m.said m.heard m.count ≡ asking_at said given m.said m.heard m.count
  given_more more m is =
      let high = is.is_given in
      ap (λ (g : List ℕ). record { said = Some (take m.said said); given = take m.count g }) (drop-append-le m.heard given more (omega (arith, high)))
      ∙ ap (λ (g : List ℕ). record { said = Some (take m.said said); given = g }) (take-append-le m.count (drop m.heard given) more (omega (arith, high, length-drop m.heard given)))

  pub told_given : (more : List ℕ) (marks : List Mark) → Are said given marks → told said (given ++ more) marks ≡ told said given marks
  told_given more [] are = refl
  told_given more (m ∷ ms) are =
      ap (λ (a : Asking). a ∷ told said (given ++ more) ms) (given_more more m (All-head (λ n. IsAskingMark said given n.said n.heard n.count) m ms are))
      ∙ ap (λ (found : List Asking). asking_at said given m.said m.heard m.count ∷ found) (told_given more ms (All-tail (λ n. IsAskingMark said given n.said n.heard n.count) m ms are))

  told_last : (marks : List Mark) (m : Mark) → told said given (marks ++ m ∷ []) ≡ told said given marks ++ asking_at said given m.said m.heard m.count ∷ []
  told_last [] m = refl
  told_last (n ∷ marks) m = ap (λ (found : List Asking). asking_at said given n.said n.heard n.count ∷ found) (told_last marks m)

-- the time that is noted tells what was said and what came
told_now : (said given more : List ℕ) (n : ℕ) → n ≡ length more → asking_at said (given ++ more) (length said) (length given) n ≡ record { said = Some said; given = more }
told_now said given more n is =
    ap (λ (s : List ℕ). record { said = Some s; given = take n (drop (length given) (given ++ more)) }) (take-length said)
    ∙ ap (λ (g : List ℕ). record { said = Some said; given = take n g }) (drop-append_seam given more)
    ∙ ap (λ (g : List ℕ). record { said = Some said; given = g }) (take_all n more (omega (arith, is)))

pub hears_noted : (out : SinkInMemory) (faults : ℕ) (old new : SourceInMemory) (marks : List Mark) (n : ℕ) (buf : List ℕ) → Are out.bytes old.given marks
    → old.rest ≡ take n buf ++ new.rest → (n ≡ 0 → old.rest ≡ []) → n ≤ length buf → new.given ≡ old.given ++ take n buf
    → HearsInMemory (record { input = old; out = out; asked = told out.bytes old.given marks; faults = faults })
    (record { input = new; out = out; asked = told out.bytes new.given (marks ++ record { said = length out.bytes; heard = length old.given; count = n } ∷ []); faults = faults }) (Ok n) buf
hears_noted out faults old new marks n buf are bytes end low given =
    let m : Mark = record { said = length out.bytes; heard = length old.given; count = n } in
    let size : n ≡ length (take n buf) = omega (arith, low, length-take n buf) in
    record {
      gives = record {
        bytes = bytes;
        end = λ none. end (size ∙ ap length none);
        asked = ap (λ (g : List ℕ). told out.bytes g (marks ++ m ∷ [])) given
            ∙ told_last out.bytes (old.given ++ take n buf) marks m
            ∙ ap (λ (found : List Asking). found ++ asking_at out.bytes (old.given ++ take n buf) m.said m.heard m.count ∷ []) (told_given out.bytes old.given (take n buf) marks are)
            ∙ ap (λ (a : Asking). told out.bytes old.given marks ++ a ∷ []) (told_now out.bytes old.given (take n buf) n size);
      };
      out = refl;
      faults = refl;
    }

pub says_kept : (old new : SinkInMemory) (faults : ℕ) (input : SourceInMemory) (marks : List Mark) (piece : List ℕ) (result : Result ℕ WriteError) → Are old.bytes input.given marks
    → IfOk result (λ count. count ≡ length piece) → MatchResult result (λ _. new.bytes ≡ old.bytes ++ piece) (λ _. new.bytes ≡ old.bytes) → new.faults ≡ after_sink_write old.faults result
    → SaysInMemory (record { input = input; out = old; asked = told old.bytes input.given marks; faults = faults })
    (record { input = input; out = new; asked = told new.bytes input.given marks; faults = faults }) piece result
says_kept old new faults input marks piece (Ok count) are whole bytes counted = record {
  whole = whole;
  bytes = bytes;
  counted = counted;
  input = refl;
  asked = ap (λ (s : List ℕ). told s input.given marks) bytes ∙ told_said old.bytes input.given piece marks are;
  faults = refl;
}
says_kept old new faults input marks piece (Err error) are whole bytes counted = record {
  whole = whole;
  bytes = bytes;
  counted = counted;
  input = refl;
  asked = ap (λ (s : List ℕ). told s input.given marks) bytes;
  faults = refl;
}
