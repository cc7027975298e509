-- Lines that are silent, by their first byte after blanks.
use Rattle.std.proofs.Common.{◌≡◌, ℕ, Bool, true, false, not, cond, nat_eq, List, [], ◌∷◌, Option, Some, None, refl, ap}
use Rattle.std.specs.List.{find}
use Rattle.expression_text.specs.Lexing.{is_blank}
use Rattle.shell_lines.specs.Meaning.{is_silent}

some_by : (t : Bool) (b first : ℕ) (found : Option ℕ) (silent : Bool) → Some first ≡ cond (not t) (Some b) found → (Some first ≡ found → nat_eq first 35 ≡ silent) → nat_eq first 35 ≡ cond t silent (nat_eq b 35)
some_by true b first found silent e behind = behind e
some_by false b first found silent e behind = let same : first ≡ b = cc in ap (λ (x : ℕ). nat_eq x 35) same

-- a line with such a byte
pub silent_where : (bytes : List ℕ) (first : ℕ) → Some first ≡ find (λ b. not (is_blank b)) bytes → nat_eq first 35 ≡ is_silent bytes
silent_where [] first e = absurd cc
silent_where (b ∷ bytes) first e = some_by (is_blank b) b first (find (λ b. not (is_blank b)) bytes) (is_silent bytes) e (silent_where bytes first)

none_by : (t : Bool) (b : ℕ) (found : Option ℕ) (silent : Bool) → None ≡ cond (not t) (Some b) found → (None ≡ found → true ≡ silent) → true ≡ cond t silent (nat_eq b 35)
none_by true b found silent e behind = behind e
none_by false b found silent e behind = absurd cc

-- a line of blanks
pub silent_blank : (bytes : List ℕ) → None ≡ find (λ b. not (is_blank b)) bytes → true ≡ is_silent bytes
silent_blank [] e = refl
silent_blank (b ∷ bytes) e = none_by (is_blank b) b (find (λ b. not (is_blank b)) bytes) (is_silent bytes) e (silent_blank bytes)
