-- Steps of readers that gave something, and spellings in parts.
use Rattle.std.proofs.Common.{◌≡◌, ℕ, Bool, true, false, cond, ◌⊎◌, inl, inr, List, [], ◌∷◌, ◌++◌, Option, Some, None, refl, sym, ap, ◌∙◌, append_assoc}
use Rattle.fri_bytes.specs.Reading.{byte_at}
use Rattle.wasm_decode.specs.Values.{◌>>=◌}

-- the value of a step that gave something, and that of the next one
pub bind_some : {A B : Type 0} (o : Option A) (f : A → Option B) (y : B) → (o >>= f) ≡ Some y → (x : A) × (o ≡ Some x) × (f x ≡ Some y)
bind_some (Some x) f y e = (x, refl, e)
bind_some None f y e = absurd cc

pub some_is : {A : Type 0} (x y : A) → ◌≡◌ {A = Option A} (Some x) (Some y) → x ≡ y
some_is x y e = cc

-- a test without which nothing is given
pub kept : {A : Type 0} (b : Bool) (x : Option A) (y : A) → cond b x None ≡ Some y → (b ≡ true) × (x ≡ Some y)
kept true x y e = (refl, e)
kept false x y e = absurd cc

-- the same where the value is there already
pub guard_some : {A : Type 0} (b : Bool) (x y : A) → cond b (Some x) None ≡ Some y → (b ≡ true) × (x ≡ y)
guard_some true x y e = (refl, cc)
guard_some false x y e = absurd cc

-- which way a test went
pub chosen : {A : Type 0} (b : Bool) (x y z : A) → cond b x y ≡ z → ((b ≡ true) × (x ≡ z)) ⊎ ((b ≡ false) × (y ≡ z))
chosen true x y z e = inl (refl, e)
chosen false x y z e = inr (refl, e)

-- two parts, one after the other
pub joined : (bytes a between b rest : List ℕ) → bytes ≡ a ++ between → between ≡ b ++ rest → bytes ≡ (a ++ b) ++ rest
joined bytes a between b rest p q = p ∙ ap (λ (t : List ℕ). a ++ t) q ∙ sym (append_assoc a b rest)

-- a byte, and a part after it
pub joined_byte : (bytes : List ℕ) (b : ℕ) (behind a rest : List ℕ) → bytes ≡ b ∷ behind → behind ≡ a ++ rest → bytes ≡ (b ∷ a) ++ rest
joined_byte bytes b behind a rest p q = p ∙ ap (λ (r : List ℕ). b ∷ r) q

-- three parts
pub joined_three : (bytes a s b t c rest : List ℕ) → bytes ≡ a ++ s → s ≡ b ++ t → t ≡ c ++ rest → bytes ≡ ((a ++ b) ++ c) ++ rest
joined_three bytes a s b t c rest p q r = joined bytes (a ++ b) t c rest (joined bytes a s b t p q) r

-- the byte that was read is the first one
pub byte_takes : (bytes : List ℕ) (b : ℕ) (rest : List ℕ) → byte_at bytes ≡ Some (b, rest) → bytes ≡ b ∷ rest
byte_takes [] b rest e = absurd cc
byte_takes (c ∷ cs) b rest e = ap (λ (p : ℕ × List ℕ). p.0 ∷ p.1) (some_is (c, cs) (b, rest) e)
