use Rattle.std.proofs.Common.{◌≡◌, ◌^◌, ◌<◌, Some, arith, ℤ, pos, negsuc}
use Rattle.std.specs.Prelude.{FitsSigned}
use Rattle.std.specs.Int.{w64}
use Rattle.std.specs.Fmt.{signed_decimal}
use Rattle.fri_text.specs.Decimal.{signed_of}
use Rattle.fri_text.proofs.HexLemmas.{hex_again}
use Rattle.fri_text.proofs.DecimalNumbers.{decimal_of-decimal, signed_of-signed_decimal}
use Rattle.fri_text.proofs.laws.words_read_back.Goals as goal

signed_again : (z : ℤ) → FitsSigned w64 z → signed_of (signed_decimal z) ≡ Some z
signed_again (pos n) fits = signed_of-signed_decimal (pos n) (let small : n < 2 ^ 63 = fits.sfits in omega arith)
signed_again (negsuc n) fits = signed_of-signed_decimal (negsuc n) (let small : n < 2 ^ 63 = fits.sfits in omega arith)

pub returns : goal.returns
returns c = record { number = decimal_of-decimal; signed = signed_again; bytes = hex_again }
