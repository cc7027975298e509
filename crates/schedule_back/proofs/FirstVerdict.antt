-- The first log that is not whole, by a walk over the logs.
use Rattle.std.proofs.Common.{◌≡◌, ◌∙◌, ◌<◌, ◌≤◌, ◌+◌, ℕ, zero, suc, true, false, not, cond, List, [], ◌∷◌, length, map, Some, None, ap, arith, refl}
use Rattle.std.specs.Prelude.{slice_get}
use Rattle.std.specs.List.{position_from}
use Rattle.std.proofs.lemmas.Iterator.Adapters.{position_from-zero}
use Rattle.std.proofs.lemmas.Option.{same_Some}
use Rattle.proc_replay.specs.Replaying.{Replaying}
use Rattle.guest_process.specs.declared.verdict.Verdict.{Verdict}
use Rattle.group_state.specs.Report.{verdict_on}
use Rattle.schedule_back.specs.Outcome.{first_not_whole, is_whole}

-- the logs before this place are whole
abbrev pub WholeUpTo : List Replaying → ℕ → Type 0
WholeUpTo start n = (k : ℕ) (v : Verdict) → k < n → slice_get (map verdict_on start) k ≡ Some v → is_whole v ≡ true

fails_first : (i n : ℕ) (vs : List Verdict) (v : Verdict) → ((k : ℕ) (w : Verdict) → k < n → slice_get vs k ≡ Some w → is_whole w ≡ true) → slice_get vs n ≡ Some v → is_whole v ≡ false
    → position_from (λ (v : Verdict). not (is_whole v)) i vs ≡ Some (i + n)
fails_first i n [] v whole at other = cc
fails_first i zero (w ∷ vs) v whole at other =
    let here : i ≡ i + 0 = omega arith in
    ap (λ b. cond (not b) (Some i) (position_from (λ (v : Verdict). not (is_whole v)) (i + 1) vs)) (ap is_whole (same_Some w v at) ∙ other) ∙ ap Some here
fails_first i (suc n) (w ∷ vs) v whole at other =
    let first : 0 < suc n = omega arith in
    let here : i + 1 + n ≡ i + suc n = omega arith in
    ap (λ b. cond (not b) (Some i) (position_from (λ (v : Verdict). not (is_whole v)) (i + 1) vs)) (whole 0 w first refl)
    ∙ fails_first (i + 1) n vs v (λ k x below x_at. whole (suc k) x (omega (arith, below)) x_at) at other ∙ ap Some here

none_fails : (i : ℕ) (vs : List Verdict) → ((k : ℕ) (w : Verdict) → k < length vs → slice_get vs k ≡ Some w → is_whole w ≡ true) → position_from (λ (v : Verdict). not (is_whole v)) i vs ≡ None
none_fails i [] whole = refl
none_fails i (w ∷ vs) whole =
    let first : 0 < suc (length vs) = omega arith in
    ap (λ b. cond (not b) (Some i) (position_from (λ (v : Verdict). not (is_whole v)) (i + 1) vs)) (whole 0 w first refl)
    ∙ none_fails (i + 1) vs (λ k x below x_at. whole (suc k) x (omega (arith, below)) x_at)

-- the log at this place is the first that is not whole
pub first_other : (start : List Replaying) (n : ℕ) (v : Verdict) → WholeUpTo start n → slice_get (map verdict_on start) n ≡ Some v → is_whole v ≡ false → first_not_whole start ≡ Some n
first_other start n v whole at other =
    let here : 0 + n ≡ n = omega arith in
    position_from-zero (λ (v : Verdict). not (is_whole v)) (map verdict_on start) ∙ fails_first 0 n (map verdict_on start) v whole at other ∙ ap Some here

-- all of them are whole
pub all_whole : (start : List Replaying) (n : ℕ) → WholeUpTo start n → length (map verdict_on start) ≤ n → first_not_whole start ≡ None
all_whole start n whole all =
    position_from-zero (λ (v : Verdict). not (is_whole v)) (map verdict_on start) ∙ none_fails 0 (map verdict_on start) (λ k w below at. whole k w (omega (arith, below, all)) at)
