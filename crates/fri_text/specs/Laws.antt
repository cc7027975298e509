-- What holds of words, whatever they are.
use Rattle.std.specs.Prelude.{◌≡◌, ℕ, ◌^◌, ◌<◌, ℤ, FitsSigned, decimal, List, Some, None}
use Rattle.std.specs.Fmt.{signed_decimal}
use Rattle.std.specs.Int.{w64}
use Rattle.fri_bytes.specs.Laws.{AreBytes}
use Rattle.fri_text.specs.Decimal.{decimal_of, signed_of}
use Rattle.fri_text.specs.Hex.{IsHexWord, hex_of, hex_word}

-- What is written of a number or of bytes is a word of them.
pub record WordsReadBack : Type 0 where
  pub number : (n : ℕ) → n < 2 ^ 64 → decimal_of (decimal n) ≡ Some n
  pub signed : (z : ℤ) → FitsSigned w64 z → signed_of (signed_decimal z) ≡ Some z
  pub bytes : (bytes : List ℕ) → AreBytes bytes → hex_of (hex_word bytes) ≡ Some bytes

-- Exactly the words of digits write bytes, and each item of these is one.
pub record ExactHex : Type 0 where
  pub some : (word bytes : List ℕ) → hex_of word ≡ Some bytes → IsHexWord word × AreBytes bytes
  pub none : (word : List ℕ) → hex_of word ≡ None → IsHexWord word → ⊥
