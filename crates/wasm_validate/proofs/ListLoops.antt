-- A loop over a list that keeps a fact of what contracts see of each element so far.
use Rattle.std.proofs.Common.{◌≡◌, ℕ, ◌+◌, ◌<◌, ◌≤◌, List, length, get_or, map, take, All, ap, sym, ◌∙◌, subst, arith}
use Rattle.std.proofs.lemmas.List.{take_all, length-map}
use Rattle.std.proofs.lemmas.List.Elements.{All-more, All-map}
use Rattle.std.proofs.Math.ListN.{get_or-map}
use Rattle.std.specs.Prelude.{Err}
use Rattle.wasm_typing.specs.declared.refusal.TypingError.{TypingError}
use Rattle.wasm_typing.specs.declared.refusal.TypingError.TheVariants.{Invalid, OutOfMemory}
use Rattle.wasm_typing.specs.Steps.{JudgesCode}

module _ {X Y : Type 0} (P : Y → Type 0) (f : X → Y) where
  abbrev pub IsSeen : X → Type 0
  IsSeen x = P (f x)

  -- one element on: the loop reads it from a copy of the list
  pub All-step : (xs ys : List X) (i : ℕ) (x : X) →
      ys ≡ xs → x ≡ get_or ys i x → i < length ys → All IsSeen (take i xs) → P (f x) → All IsSeen (take (i + 1) xs)
  All-step xs ys i x same read lt before here =
      let at : x ≡ get_or xs i x = subst (λ l. x ≡ get_or l i x) same read in
      let lt_xs : i < length xs = omega (arith, ap length same) in
      All-more IsSeen xs i x lt_xs before (subst IsSeen at here)

  -- at the end
  pub All-done : (xs ys : List X) (i : ℕ) → ys ≡ xs → length ys ≤ i → All IsSeen (take i xs) → All P (map f xs)
  All-done xs ys i same le all =
      let le_xs : length xs ≤ i = omega (arith, ap length same) in
      All-map P f xs (subst (All IsSeen) (take_all i xs le_xs) all)

  -- an element for which it does not hold
  pub not_all : (xs ys : List X) (i : ℕ) (x : X) →
      ys ≡ xs → x ≡ get_or ys i x → i < length ys → ¬ P (f x) → ¬ All P (map f xs)
  not_all xs ys i x same read lt fails all =
      let at : x ≡ get_or xs i x = subst (λ l. x ≡ get_or l i x) same read in
      fails (subst P (get_or-map f xs i x ∙ ap f (sym at)) (all i (f x) (omega (arith, lt, ap length same, length-map xs f))))

-- a refusal of one thing as that of another
pub judges_refused : (P Q : Type 0) (e : TypingError) → (¬ P → ¬ Q) → JudgesCode P (Err e) → JudgesCode Q (Err e)
judges_refused P Q Invalid step fails = step fails
judges_refused P Q OutOfMemory step fails = tt
