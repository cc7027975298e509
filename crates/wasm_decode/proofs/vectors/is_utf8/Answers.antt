use Rattle.std.proofs.Common.{◌≡◌, ℕ, List, sym, ◌∙◌, inl, inr}
use Rattle.std.proofs.lemmas.Bool.{cases_Bool}
use Rattle.std.proofs.lemmas.Str.{is_utf8-from_IsUtf8, IsUtf8-from_is_utf8}
use Rattle.std.specs.Prelude.{Result, Ok, Err, MatchResult, is_ok}
use Rattle.std.specs.Str.{is_utf8, IsUtf8}
use Rattle.wasm_decode.proofs.vectors.is_utf8.Goals as goal

-- what a check of UTF-8 answers, which has two outcomes
answer_is : {S E : Type 0} (bytes : List ℕ) (r : Result S E) (P : S → Type 0) (Q : E → Type 0) → MatchResult r (λ s. P s × IsUtf8 bytes) (λ e. (IsUtf8 bytes → ⊥) × Q e) → is_ok r ≡ is_utf8 bytes
answer_is bytes (Ok s) P Q h = sym (is_utf8-from_IsUtf8 bytes h.1)
answer_is bytes (Err e) P Q h =
    elim (cases_Bool (is_utf8 bytes)) [
      | inl text ↦ absurd (h.0 (IsUtf8-from_is_utf8 bytes text))
      | inr other ↦ sym other
    ]

pub returns : goal.returns
returns c = c.is_ok.ensures.value ∙ answer_is c.args.bytes.now c.from_utf8.result _ _ c.from_utf8.ensures.cases
