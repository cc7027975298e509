-- The integer operators of WebAssembly on bit patterns, with the names that its specification has for
-- them (version 1.0, section 4.3.2). The width is the N of that section: 32 or 64 bits.
use Rattle.std.specs.Prelude.{ℕ, ◌+◌, ◌-◌, ◌*◌, ◌/◌, ◌%◌, ◌^◌, Bool, not, if◌then◌else◌, nat_eq, nat_lt, nat_le, bit_and, bit_or, bit_xor, count_ones, ℤ, pos, int_div, int_rem, int_lt, int_le, Result, Ok, Err}
use Rattle.std.specs.Int.{Width, cast_signed, cast_unsigned, from_bool, int_shr, leading_zeros, rotate_left, rotate_right, trailing_zeros}
use mir.Val.{bits}
use Rattle.wasm_num.specs.declared.Trap.{Trap}
use Rattle.wasm_num.specs.declared.Trap.TheVariants.{ZeroDivisor, Overflow}

-- ---- what bit patterns stand for

-- the signed number of a bit pattern: the pattern below 2 ^ (N - 1), and 2 ^ N less from there on
abbrev pub signed : Width → ℕ → ℤ
signed w i = cast_signed w i

-- the bit pattern of a signed number of N bits
abbrev pub unsigned : Width → ℤ → ℕ
unsigned w z = cast_unsigned w z

-- 1 for true and 0 for false
abbrev pub truth : Bool → ℕ
truth holds = from_bool holds

-- ---- tests and comparisons

-- the number is 0
abbrev pub ieqz : ℕ → ℕ
ieqz i = truth (nat_eq i 0)

-- the numbers are equal
abbrev pub ieq : ℕ → ℕ → ℕ
ieq i j = truth (nat_eq i j)

-- the numbers differ
abbrev pub ine : ℕ → ℕ → ℕ
ine i j = truth (not (nat_eq i j))

-- the first is less than the second, as unsigned numbers
abbrev pub ilt_u : ℕ → ℕ → ℕ
ilt_u i j = truth (nat_lt i j)

-- the first is less than the second, as signed numbers
abbrev pub ilt_s : Width → ℕ → ℕ → ℕ
ilt_s w i j = truth (int_lt (signed w i) (signed w j))

-- the first is greater than the second, as unsigned numbers
abbrev pub igt_u : ℕ → ℕ → ℕ
igt_u i j = truth (nat_lt j i)

-- the first is greater than the second, as signed numbers
abbrev pub igt_s : Width → ℕ → ℕ → ℕ
igt_s w i j = truth (int_lt (signed w j) (signed w i))

-- the first is at most the second, as unsigned numbers
abbrev pub ile_u : ℕ → ℕ → ℕ
ile_u i j = truth (nat_le i j)

-- the first is at most the second, as signed numbers
abbrev pub ile_s : Width → ℕ → ℕ → ℕ
ile_s w i j = truth (int_le (signed w i) (signed w j))

-- the first is at least the second, as unsigned numbers
abbrev pub ige_u : ℕ → ℕ → ℕ
ige_u i j = truth (nat_le j i)

-- the first is at least the second, as signed numbers
abbrev pub ige_s : Width → ℕ → ℕ → ℕ
ige_s w i j = truth (int_le (signed w j) (signed w i))

-- ---- counts of bits

-- the zeros above the highest bit that is set: all N where none is
abbrev pub iclz : Width → ℕ → ℕ
iclz w i = leading_zeros w i

-- the zeros below the lowest bit that is set: all N where none is
abbrev pub ictz : Width → ℕ → ℕ
ictz w i = trailing_zeros w i

-- the bits that are set
abbrev pub ipopcnt : ℕ → ℕ
ipopcnt i = count_ones i

-- ---- arithmetic

-- the sum modulo 2 ^ N
abbrev pub iadd : Width → ℕ → ℕ → ℕ
iadd w i j = (i + j) % 2 ^ bits w

-- the difference modulo 2 ^ N
abbrev pub isub : Width → ℕ → ℕ → ℕ
isub w i j = (i + (2 ^ bits w - j)) % 2 ^ bits w

-- the product modulo 2 ^ N
abbrev pub imul : Width → ℕ → ℕ → ℕ
imul w i j = (i * j) % 2 ^ bits w

-- the quotient, rounded down
abbrev pub idiv_u : ℕ → ℕ → Result ℕ Trap
idiv_u i j = if nat_eq j 0 then Err ZeroDivisor else Ok (i / j)

-- the quotient, rounded toward zero, unless it is 2 ^ (N - 1), which no pattern of N bits stands for
abbrev pub idiv_s : Width → ℕ → ℕ → Result ℕ Trap
idiv_s w i j =
    let quotient = int_div (signed w i) (signed w j) in
    if nat_eq j 0 then Err ZeroDivisor else
    (if int_lt quotient (pos (2 ^ (bits w - 1))) then Ok (unsigned w quotient) else Err Overflow)

-- what the quotient leaves
abbrev pub irem_u : ℕ → ℕ → Result ℕ Trap
irem_u i j = if nat_eq j 0 then Err ZeroDivisor else Ok (i % j)

-- what the quotient leaves, with the sign of the dividend
abbrev pub irem_s : Width → ℕ → ℕ → Result ℕ Trap
irem_s w i j = if nat_eq j 0 then Err ZeroDivisor else Ok (unsigned w (int_rem (signed w i) (signed w j)))

-- ---- bits

-- the bits that are set in both
abbrev pub iand : ℕ → ℕ → ℕ
iand i j = bit_and i j

-- the bits that are set in one or both
abbrev pub ior : ℕ → ℕ → ℕ
ior i j = bit_or i j

-- the bits that are set in one alone
abbrev pub ixor : ℕ → ℕ → ℕ
ixor i j = bit_xor i j

-- the pattern shifted left by j modulo N bits
abbrev pub ishl : Width → ℕ → ℕ → ℕ
ishl w i j = (i * 2 ^ (j % bits w)) % 2 ^ bits w

-- the pattern shifted right by j modulo N bits, with zeros from above
abbrev pub ishr_u : Width → ℕ → ℕ → ℕ
ishr_u w i j = i / 2 ^ (j % bits w)

-- the same with copies of the sign's bit from above, which divides the signed number and rounds down
abbrev pub ishr_s : Width → ℕ → ℕ → ℕ
ishr_s w i j = unsigned w (int_shr (signed w i) (j % bits w))

-- the pattern rotated left by j modulo N bits
abbrev pub irotl : Width → ℕ → ℕ → ℕ
irotl w i j = rotate_left w i (j % bits w)

-- the pattern rotated right by j modulo N bits
abbrev pub irotr : Width → ℕ → ℕ → ℕ
irotr w i j = rotate_right w i (j % bits w)

-- ---- conversions

-- the lowest N bits of the pattern
abbrev pub wrap : Width → ℕ → ℕ
wrap w i = i % 2 ^ bits w

-- the pattern of the same unsigned number
abbrev pub extend_u : ℕ → ℕ
extend_u i = i

-- the pattern of N bits of the signed number that the pattern of M bits stands for
abbrev pub extend_s : Width → Width → ℕ → ℕ
extend_s m n i = unsigned n (signed m i)

-- the same of the lowest M bits of a pattern of N bits: an operator that came after version 1.0 (version 2.0, the
-- same section)
abbrev pub iextend_s : Width → Width → ℕ → ℕ
iextend_s m n i = extend_s m n (wrap m i)
