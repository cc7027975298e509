-- The value that two words stand for.
use Rattle.std.specs.Prelude.{◌≡◌, ℕ, zero, suc, ◌<◌, ◌^◌}
use Rattle.std.proofs.Common.{refl, sym, ap}
use Rattle.wasm_types.specs.declared.code.Value.{Value}
use Rattle.wasm_types.specs.declared.code.Value.TheVariants.{I32, I64}
use Rattle.wasm_types.specs.declared.slot.Slot.TheInside.{Inside}

-- a value of 32 bits
abbrev pub IsNarrow : Value → Type 0
IsNarrow v = (x : ℕ) × (v ≡ I32 x)

-- a value of 64 bits
abbrev pub IsLong : Value → Type 0
IsLong v = (x : ℕ) × (v ≡ I64 x)

abbrev pub value_by : ℕ → ℕ → Value
value_by zero bits = I32 bits
value_by (suc n) bits = I64 bits

abbrev pub value_of_inside : Inside → Value
value_of_inside s = value_by s.wide s.bits

-- the first word is 0 with 32 bits, and 1 with 64
abbrev pub IsTypeWord : ℕ → ℕ → Type 0
IsTypeWord zero bits = bits < 2 ^ 32
IsTypeWord (suc n) bits = n ≡ zero

abbrev pub IsSlot : Inside → Type 0
IsSlot s = IsTypeWord s.wide s.bits

abbrev pub slot_of : Value → Inside
slot_of (I32 x) = record { wide = 0; bits = x }
slot_of (I64 x) = record { wide = 1; bits = x }

words_of : (wide bits : ℕ) → IsTypeWord wide bits → slot_of (value_by wide bits) ≡ record { wide = wide; bits = bits }
words_of zero bits h = refl
words_of (suc n) bits h = ap (λ (k : ℕ). record { wide = suc k; bits = bits }) (sym h)

-- two words are those of the value that they stand for
pub slot_of_value : (s : Inside) → IsSlot s → slot_of (value_of_inside s) ≡ s
slot_of_value s h = words_of s.wide s.bits h
