-- Numbers of 32 and 64 bits at the front of bytes, the lowest byte first.
use Rattle.std.proofs.Common.{◌≡◌, ℕ, ◌<◌, ◌≤◌, List, [], ◌∷◌, ◌++◌, length, get_or, take, drop, refl, sym, ap, subst, ⊎_elim, arith}
use Rattle.std.specs.Int.{w32, w64, to_le_bytes, from_le_bytes}
use Rattle.byteorder.specs.Endian.{little_number}
use Rattle.std.proofs.lemmas.Nat.{le_bytes_4, le_bytes_8}
use Rattle.std.proofs.lemmas.Bool.{cases_lt}
use Rattle.std.proofs.lemmas.List.{get_or-take, get_or-drop, get_or_past, length-take}

-- each item of the list is a byte
abbrev pub AreBytes : List ℕ → Type 0
AreBytes list = (i : ℕ) → get_or list i 0 < 256

pub AreBytes-take : (n : ℕ) (list : List ℕ) → AreBytes list → AreBytes (take n list)
AreBytes-take n list bytes i = ⊎_elim
    (λ below. subst (λ v. v < 256) (sym (get_or-take n list i 0 below)) (bytes i))
    (λ past. subst (λ v. v < 256) (sym (get_or_past (take n list) i 0 (omega (arith, length-take n list)))) (omega arith))
    (cases_lt i n)

pub AreBytes-drop : (n : ℕ) (list : List ℕ) → AreBytes list → AreBytes (drop n list)
AreBytes-drop n list bytes i = subst (λ v. v < 256) (sym (get_or-drop n list i 0)) (bytes _)

-- four bytes are those of the number that they spell
pub le_front_4 : (list : List ℕ) → AreBytes list → 4 ≤ length list → list ≡ to_le_bytes w32 (from_le_bytes w32 list) ++ drop 4 list
le_front_4 (a ∷ b ∷ c ∷ d ∷ rest) bytes long =
    ap (λ front. front ++ rest) (sym (le_bytes_4 (a ∷ b ∷ c ∷ d ∷ []) _ refl (AreBytes-take 4 (a ∷ b ∷ c ∷ d ∷ rest) bytes) refl))
le_front_4 list bytes long = absurd (omega arith)

-- eight bytes are those of the number that they spell
pub le_front_8 : (list : List ℕ) → AreBytes list → 8 ≤ length list → list ≡ to_le_bytes w64 (from_le_bytes w64 list) ++ drop 8 list
le_front_8 (a ∷ b ∷ c ∷ d ∷ e ∷ f ∷ g ∷ h ∷ rest) bytes long =
    ap (λ front. front ++ rest) (sym (le_bytes_8 (a ∷ b ∷ c ∷ d ∷ e ∷ f ∷ g ∷ h ∷ []) _ refl (AreBytes-take 8 (a ∷ b ∷ c ∷ d ∷ e ∷ f ∷ g ∷ h ∷ rest) bytes) refl))
le_front_8 list bytes long = absurd (omega arith)

-- the numbers as `byteorder` reads them
pub le_number_4 : (list : List ℕ) → from_le_bytes w32 list ≡ little_number 4 list
le_number_4 list = omega arith

pub le_number_8 : (list : List ℕ) → from_le_bytes w64 list ≡ little_number 8 list
le_number_8 list = omega arith
