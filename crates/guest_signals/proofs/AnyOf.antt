-- Whether any flag is set, and what each flag is then.
use Rattle.std.proofs.Common.{◌≡◌, ◌↔◌, ℕ, zero, suc, ◌<◌, Bool, true, false, not, List, [], ◌∷◌, length, refl, sym, ◌∙◌, arith}
use Rattle.std.specs.Prelude.{IsTrue, slice_set}
use Rattle.std.specs.List.{slice_index_or}
use Rattle.guest_signals.specs.Signals.{any_pending}

each_clear : (flags : List Bool) → any_pending flags ≡ false → (s : ℕ) → slice_index_or flags s false ≡ false
each_clear [] none s = refl
each_clear (true ∷ flags) none s = cc
each_clear (false ∷ flags) none zero = refl
each_clear (false ∷ flags) none (suc s) = each_clear flags none s

none_set : (flags : List Bool) → ((s : ℕ) → slice_index_or flags s false ≡ false) → any_pending flags ≡ false
none_set [] clear = refl
none_set (true ∷ flags) clear = clear 0
none_set (false ∷ flags) clear = none_set flags (λ s. clear (suc s))

pub none_any : (flags : List Bool) (any : Bool) → any ≡ any_pending flags → IsTrue (not any) ↔ ((s : ℕ) → slice_index_or flags s false ≡ false)
none_any flags true kept = (λ none. cc, λ clear. sym (kept ∙ none_set flags clear))
none_any flags false kept = (λ none. each_clear flags (sym kept), λ clear. refl)

pub any_set : (flags : List Bool) (s : ℕ) → s < length flags → any_pending (slice_set flags s true) ≡ true
any_set [] s within = absurd (omega (arith, within))
any_set (flag ∷ flags) zero within = refl
any_set (true ∷ flags) (suc s) within = refl
any_set (false ∷ flags) (suc s) within = any_set flags s (omega (arith, within))
