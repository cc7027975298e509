-- What several proofs share.
use Rattle.std.proofs.Common.{◌≡◌, ◌≢◌, ℕ, zero, suc, ◌<◌, List, [], ◌∷◌, length, refl, subst, slice_get, slice_index_or, Some, ap, sym, ◌∙◌, arith}
use Rattle.std.specs.Prelude.{⊤, OnErr, Result, Ok, Err, slice_set}
use Rattle.std.proofs.lemmas.Option.{same_Some, slice_get-get_or}
use Rattle.fri_outside.specs.Outside.{Counts, after_write, raised_count}
use Rattle.fri_outside.specs.declared.files.WriteError.{WriteError}
use Rattle.fri_outside.specs.declared.files.WriteError.TheVariants as writing
use Rattle.group_record.specs.Answer.{after_writes, error_of}
use Rattle.group_record.specs.declared.error.RecordError.{RecordError}
use Rattle.group_record.specs.declared.error.RecordError.TheVariants as errors

-- a write that failed is counted once, where no call before it counted anything
pub failed_write : (old now new : Counts) (error : WriteError) → now ≡ old → new ≡ after_write {T = ⊤} now (Err error) → new ≡ after_writes {T = ⊤} old (Err (error_of error))
failed_write old now new writing.Failed same counted = counted ∙ ap (λ (c : Counts). record c { writes = raised_count c.writes }) same
failed_write old now new writing.NoMemory same counted = counted ∙ same

-- and so is one that was counted further in
pub failed_writes : (old now new : Counts) (error : RecordError) → now ≡ old → new ≡ after_writes {T = ⊤} now (Err error) → new ≡ after_writes {T = ⊤} old (Err error)
failed_writes old now new (errors.BadSegment p) same counted = counted ∙ same
failed_writes old now new (errors.LogFull item) same counted = counted ∙ same
failed_writes old now new errors.WriteFault same counted = counted ∙ ap (λ (c : Counts). record c { writes = raised_count c.writes }) same
failed_writes old now new errors.NoMemory same counted = counted ∙ same

-- the element at a place
pub at_place : {A : Type 0} (xs : List A) (i : ℕ) (x : A) → i < length xs → x ≡ slice_index_or xs i x → slice_get xs i ≡ Some x
at_place xs i x within is = slice_get-get_or xs i x within ∙ ap Some (sym is)

pub only_one : {A : Type 0} (xs : List A) (i : ℕ) (x y : A) → i < length xs → x ≡ slice_index_or xs i x → slice_get xs i ≡ Some y → x ≡ y
only_one xs i x y within is at = same_Some _ _ (sym (at_place xs i x within is) ∙ at)

-- what holds of each element when the one at a place was set
pub set_each : {A : Type 0} (xs : List A) (p : ℕ) (new : A) (P : ℕ → A → Type 0) → (p < length xs → P p new) → ((q : ℕ) (x : A) → p ≢ q → slice_get xs q ≡ Some x → P q x)
    → (q : ℕ) (x : A) → slice_get (slice_set xs p new) q ≡ Some x → P q x
set_each [] p new P own others q y at = cc
set_each (x ∷ xs) zero new P own others zero y at = subst (P 0) (same_Some _ _ at) (own (omega arith))
set_each (x ∷ xs) zero new P own others (suc q) y at = others (suc q) y (omega arith) at
set_each (x ∷ xs) (suc p) new P own others zero y at = others 0 y (omega arith) at
set_each (x ∷ xs) (suc p) new P own others (suc q) y at =
    set_each xs p new (λ q y. P (suc q) y) (λ within. own (omega (arith, within))) (λ q y apart at. others (suc q) y (omega (arith, apart)) at) q y at

pub length_set : {A : Type 0} (xs : List A) (p : ℕ) (new : A) → length (slice_set xs p new) ≡ length xs
length_set [] p new = refl
length_set (x ∷ xs) zero new = refl
length_set (x ∷ xs) (suc p) new = ap suc (length_set xs p new)

-- what follows from what is said of an error
pub on_err : {T E : Type 0} (P Q : Type 0) (result : Result T E) → (P → Q) → OnErr result P → OnErr result Q
on_err P Q (Ok value) then h = h
on_err P Q (Err error) then h = then h
