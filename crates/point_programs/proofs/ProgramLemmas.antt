-- What is computed of tokens is the program that they spell, or the place where they stop to begin one.
use Rattle.std.proofs.Common.{◌≡◌, ◌↔◌, ◌⊎◌, ℕ, ◌+◌, ◌≤◌, List, [], ◌∷◌, ◌++◌, length, Option, Some, None, Result, Ok, Err, inl, inr, refl, sym, ap, ◌∙◌, subst, append_assoc, append-nil, arith}
use Rattle.expression_text.specs.Laws.{ExactReading, NoSeparatorInExpr}
use Rattle.point_programs.specs.Grammar.{IsProgram, BeginsProgram, NoProgramGoesOn, StopsAtTokens}
use Rattle.point_programs.specs.Reading.{LeftTokens, ReadOfTokens, program_in, whole_program, program_of}
use Rattle.point_programs.specs.Tree.{Statements}
use Rattle.point_programs.proofs.TokenSplits.{outcome, Spelled, same_outcome, split_at, local_of}
use Rattle.point_programs.proofs.StatementLemmas.{program_split}
use Rattle.point_programs.proofs.LevelLemmas.{same_levels}
use Rattle.point_programs.proofs.Completeness.{nothing, program_reads}

-- ---- what a whole program is

whole_read : (r : ReadOfTokens Statements) (p : Statements) → whole_program r ≡ Ok p → r ≡ outcome (Some p) []
whole_read (Ok (body, [])) p e = let same : body ≡ p = cc in ap (λ (q : Statements). Ok (q, [])) same
whole_read (Ok (body, t ∷ left)) p e = absurd cc
whole_read (Err left) p e = absurd cc

stopped : (r : ReadOfTokens Statements) (left : LeftTokens) → whole_program r ≡ Err left → (got : Option Statements) × (r ≡ outcome got left)
stopped (Ok (body, [])) left e = absurd cc
stopped (Ok (body, t ∷ more)) left e = let same : t ∷ more ≡ left = cc in (Some body, ap (λ (us : LeftTokens). Ok (body, us)) same)
stopped (Err more) left e = (None, cc)

-- ---- places where tokens stop

-- two ways to part a list
abbrev Overlap : LeftTokens → LeftTokens → LeftTokens → LeftTokens → Type 0
Overlap a b c d = (middle : LeftTokens) × (c ≡ a ++ middle) × (b ≡ middle ++ d)

overlap : (a b c d : LeftTokens) → a ++ b ≡ c ++ d → Overlap a b c d ⊎ Overlap c d a b
overlap [] b c d e = inl (c, refl, e)
overlap (t ∷ a) b [] d e = inr (t ∷ a, refl, sym e)
overlap (t ∷ a) b (u ∷ c) d e =
    let head : t ≡ u = cc in
    let tail : a ++ b ≡ c ++ d = cc in
    elim (overlap a b c d tail) [
      | inl o ↦ inl (o.0, ap (λ (v : List ℕ). v ∷ c) (sym head) ∙ ap (λ (us : LeftTokens). t ∷ us) o.1, o.2)
      | inr o ↦ inr (o.0, ap (λ (v : List ℕ). v ∷ a) head ∙ ap (λ (us : LeftTokens). u ∷ us) o.1, o.2)
    ]

module _ (names : List (List ℕ)) where
  begins_front : (front back : LeftTokens) → BeginsProgram names (front ++ back) → BeginsProgram names front
  begins_front front back b = record { rest = back ++ b.rest; whole = b.whole; spelled = subst (λ (us : LeftTokens). IsProgram names us b.whole) (append_assoc front back b.rest) b.spelled }

  begins_whole : (ts : LeftTokens) (p : Statements) → IsProgram names ts p → BeginsProgram names ts
  begins_whole ts p h = record { rest = []; whole = p; spelled = subst (λ (us : LeftTokens). IsProgram names us p) (sym (append-nil ts)) h }

  begins_spelled : (front : LeftTokens) (got : Option Statements) → Spelled (IsProgram names) got front → BeginsProgram names front
  begins_spelled front None h = record { rest = h.0; whole = h.1; spelled = h.2 }
  begins_spelled front (Some p) h = begins_whole front p h

  -- where no more goes on, nothing stands between
  none_between : (front left other rest middle : LeftTokens) → NoProgramGoesOn names front left → BeginsProgram names other → other ≡ front ++ middle → left ≡ middle ++ rest → left ≡ rest
  none_between front left other rest [] stops b e f = f
  none_between front [] other rest (t ∷ middle) stops b e f = absurd cc
  none_between front (u ∷ left) other rest (t ∷ middle) stops b e f =
      let head : u ≡ t = cc in
      let longer : BeginsProgram names ((front ++ t ∷ []) ++ middle) = subst (BeginsProgram names) (e ∙ sym (append_assoc front (t ∷ []) middle)) b in
      absurd (stops (subst (λ (v : List ℕ). BeginsProgram names (front ++ v ∷ [])) (sym head) (begins_front (front ++ t ∷ []) middle longer)))

  -- tokens stop at one place
  same_place : (ts left rest : LeftTokens) → StopsAtTokens names ts left → StopsAtTokens names ts rest → left ≡ rest
  same_place ts left rest h k = elim (overlap h.front left k.front rest (sym h.parts ∙ k.parts)) [
    | inl o ↦ none_between h.front left k.front rest o.0 h.stops k.begins o.1 o.2
    | inr o ↦ sym (none_between k.front rest h.front left o.0 k.stops h.begins o.1 o.2)
  ]

  no_program : (front left : LeftTokens) (p : Statements) → NoProgramGoesOn names front left → IsProgram names (front ++ left) p → ⊥
  no_program front [] p stops h = stops p (subst (λ (us : LeftTokens). IsProgram names us p) (append-nil front) h)
  no_program front (t ∷ left) p stops h =
      stops (begins_front (front ++ t ∷ []) left (begins_whole ((front ++ t ∷ []) ++ left) p (subst (λ (us : LeftTokens). IsProgram names us p) (sym (append_assoc front (t ∷ []) left)) h)))

-- ---- the laws

module _ (exact : ExactReading) (apart : NoSeparatorInExpr) (names : List (List ℕ)) where
  -- a program alone, with any bound that is high enough
  reads_alone : (n : ℕ) (ts : LeftTokens) (p : Statements) → IsProgram names ts p → length ts ≤ n → program_in n names ts ≡ Ok (p, [])
  reads_alone n ts p h le = ap (program_in n names) (sym (append-nil ts)) ∙ program_reads exact apart names n ts [] p h le nothing

  spells : (ts : LeftTokens) (p : Statements) → program_of names ts ≡ Ok p → IsProgram names ts p
  unfolding program_of
  spells ts p e =
      let s = split_at (program_in (length ts) names) (IsProgram names) (program_split names exact (length ts)) ts [] (Some p) (whole_read (program_in (length ts) names ts) p e) in
      subst (λ (us : LeftTokens). IsProgram names us p) (sym (s.1 ∙ append-nil s.0)) s.2

  spelled : (ts : LeftTokens) (p : Statements) → IsProgram names ts p → program_of names ts ≡ Ok p
  unfolding program_of
  spelled ts p h = ap whole_program (reads_alone (length ts) ts p h (omega arith))

  -- what goes on at the token at which reading stopped would be read as a whole
  goes_on_with_none : (ts front left : LeftTokens) (got : Option Statements) → ts ≡ front ++ left → program_in (length ts) names ts ≡ outcome got left → program_of names ts ≡ Err left → NoProgramGoesOn names front left
  goes_on_with_none ts front [] got parts e f = λ p h.
      let again : program_of names ts ≡ Ok p = spelled ts p (subst (λ (us : LeftTokens). IsProgram names us p) (sym (parts ∙ append-nil front)) h) in
      let never : ◌≡◌ {A = Result Statements LeftTokens} (Ok p) (Err []) = sym again ∙ f in
      cc
  goes_on_with_none ts front (t ∷ left) got parts e f = λ b.
      let other = front ++ t ∷ b.rest in
      let n = length ts + length other in
      let reads : program_in n names other ≡ Ok (b.whole, []) = reads_alone n other b.whole (subst (λ (us : LeftTokens). IsProgram names us b.whole) (append_assoc front (t ∷ []) b.rest) b.spelled) (omega arith) in
      let here : program_in n names (front ++ t ∷ left) ≡ outcome got (t ∷ left) = ap (program_in n names) (sym parts) ∙ same_levels exact names n (length ts) ts (omega arith) (omega arith) ∙ e in
      let there = local_of (program_in n names) (IsProgram names) (program_split names exact n) front (t ∷ left) (t ∷ b.rest) got here refl in
      let same = same_outcome (Some b.whole) got [] (t ∷ b.rest) (sym reads ∙ there) in
      let never : ◌≡◌ {A = LeftTokens} [] (t ∷ b.rest) = same.1 in
      cc

  stops_there : (ts left : LeftTokens) → program_of names ts ≡ Err left → StopsAtTokens names ts left
  unfolding program_of
  stops_there ts left e =
      let r = stopped (program_in (length ts) names ts) left e in
      let s = split_at (program_in (length ts) names) (IsProgram names) (program_split names exact (length ts)) ts left r.0 r.1 in
      record { front = s.0; parts = s.1; begins = begins_spelled names s.0 r.0 s.2; stops = goes_on_with_none ts s.0 left r.0 s.1 r.1 e }

  stops_only : (ts left : LeftTokens) (r : Result Statements LeftTokens) → program_of names ts ≡ r → StopsAtTokens names ts left → r ≡ Err left
  stops_only ts left (Ok p) e h = absurd (no_program names h.front left p h.stops (subst (λ (us : LeftTokens). IsProgram names us p) h.parts (spells ts p e)))
  stops_only ts left (Err other) e h = ap (λ (us : LeftTokens). Err us) (same_place names ts other left (stops_there ts other e) h)

pub programs : ExactReading → NoSeparatorInExpr → (names ts : List (List ℕ)) (p : Statements) → (program_of names ts ≡ Ok p) ↔ IsProgram names ts p
programs exact apart names ts p = (spells exact apart names ts p, spelled exact apart names ts p)

pub stops : ExactReading → NoSeparatorInExpr → (names ts left : List (List ℕ)) → (program_of names ts ≡ Err left) ↔ StopsAtTokens names ts left
stops exact apart names ts left = (stops_there exact apart names ts left, stops_only exact apart names ts left (program_of names ts) refl)
