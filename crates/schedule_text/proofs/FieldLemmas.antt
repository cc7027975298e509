-- The first field of a line, and the fields after it.
use Rattle.std.proofs.Common.{◌≡◌, ℕ, suc, ◌+◌, ◌-◌, ◌<◌, ◌≤◌, Bool, true, false, cond, not, position, filter, ltb, List, [], ◌∷◌, length, get_or, take, drop, Option, Some, None, refl, sym, ap, ◌∙◌, arith, inl, inr}
use Rattle.std.specs.Prelude.{unwrap_or}
use Rattle.std.specs.List.{position_or_len, slice_split}
use Rattle.std.proofs.Math.ListN.{drop_of_length-le}
use Rattle.std.proofs.Math.Seq.{take-length}
use Rattle.std.proofs.lemmas.Bool.{cases_Bool, cases_lt, lt-ltb}
use Rattle.std.proofs.lemmas.List.{get_or-drop, length-drop}
use Rattle.std.proofs.lemmas.List.Quantifiers.{position-Some}
use Rattle.std.proofs.lemmas.List.Sums.{prefix_len-le-length}
use Rattle.std.proofs.lemmas.Option.{cond_some}
use Rattle.schedule_text.specs.Fields.{is_separator, fields_of}

one_more : (k : ℕ) → 1 + k ≡ suc k
one_more k = omega arith

-- blanks in front change no field
skip : (line : List ℕ) (n : ℕ) → n ≡ position_or_len (λ b. not (is_separator b)) line → fields_of (drop n line) ≡ fields_of line
skip [] n e = rw e refl
skip (b ∷ line) n e =
    elim (cases_Bool (is_separator b)) [
      | inl blank ↦ let k : ℕ = position_or_len (λ b. not (is_separator b)) line in
          let more : n ≡ suc k = (e ∙ rw blank (one_more k)) in
          rw (more, blank) (skip line k refl)
      | inr other ↦ let none : n ≡ 0 = (e ∙ rw other refl) in rw none refl
    ]

-- the parts of a line: what comes before the first blank, and others
record IsCut (line : List ℕ) : Type 0 where
  parts : List (List ℕ)
  cut : slice_split is_separator line ≡ take (position_or_len is_separator line) line ∷ parts
  fields : filter (λ part. ltb 0 (length part)) parts ≡ fields_of (drop (position_or_len is_separator line) line)

-- every line is cut so
cut_of : (line : List ℕ) → IsCut line
cut_of [] = record { parts = []; cut = refl; fields = refl }
cut_of (b ∷ line) =
    elim (cases_Bool (is_separator b)) [
      | inl blank ↦ record { parts = slice_split is_separator line; cut = rw blank refl; fields = rw blank (rw blank refl) }
      | inr other ↦
          let r = cut_of line in
          let k : ℕ = position_or_len is_separator line in
          record { parts = r.parts; cut = rw (other, one_more k, r.cut) refl; fields = rw (other, one_more k) r.fields }
    ]

-- a part of one byte or more is no empty one
long : (b k : ℕ) (line : List ℕ) → ltb 0 (length (take (suc k) (b ∷ line))) ≡ true
long b k line = lt-ltb 0 (length (take (suc k) (b ∷ line))) (omega arith)

-- a line that begins with no blank begins with its first field
first : (b : ℕ) (line : List ℕ) → is_separator b ≡ false → fields_of (b ∷ line) ≡ take (position_or_len is_separator (b ∷ line)) (b ∷ line) ∷ fields_of (drop (position_or_len is_separator (b ∷ line)) (b ∷ line))
first b line other =
    let r = cut_of (b ∷ line) in
    let kept : ltb 0 (length (take (position_or_len is_separator (b ∷ line)) (b ∷ line))) ≡ true = rw (other, one_more (position_or_len is_separator line)) (long b (position_or_len is_separator line) line) in
    rw (r.cut, kept, r.fields) refl

-- the same of the rest of a line, where its first byte is no blank
first_of : (rest : List ℕ) → 0 < length rest → is_separator (get_or rest 0 0) ≡ false → fields_of rest ≡ take (position_or_len is_separator rest) rest ∷ fields_of (drop (position_or_len is_separator rest) rest)
first_of [] some other = absurd (omega arith)
first_of (b ∷ line) some other = first b line other

-- a place that is found only below `most`, or `most`, is the place or `most`
unwrap_or-cond : (n most : ℕ) → n ≤ most → unwrap_or (cond (ltb n most) (Some n) None) most ≡ n
unwrap_or-cond n most h = grind arith

-- the place of the first blank, or the length
end_is : (rest : List ℕ) (end : ℕ) (found : Option ℕ) → found ≡ position is_separator rest → end ≡ unwrap_or found (length rest) → end ≡ position_or_len is_separator rest
end_is rest end found e f = f ∙ ap (λ (o : Option ℕ). unwrap_or o (length rest)) e ∙ unwrap_or-cond (position_or_len is_separator rest) (length rest) (prefix_len-le-length _ rest)

-- the rest of a line from a place on has as many bytes as are left
whole : (line : List ℕ) (start : ℕ) → take (length line - start) (drop start line) ≡ drop start line
whole line start = ap (λ (n : ℕ). take n (drop start line)) (sym (length-drop start line)) ∙ take-length (drop start line)

-- no byte but blanks, no field
pub no_field : (line : List ℕ) → position (λ b. not (is_separator b)) line ≡ None → fields_of line ≡ []
no_field line none =
    let n : ℕ = position_or_len (λ b. not (is_separator b)) line in
    let far : length line ≤ n = elim (cases_lt n (length line)) [ inl lt ↦ absurd (let t = lt-ltb n (length line) lt in let e : Some n ≡ None = (sym (rw t refl) ∙ none) in cc) | inr ge ↦ ge ] in
    sym (skip line n refl) ∙ ap fields_of (drop_of_length-le line far)

-- a place that is found is that of the first byte that passes
position_is : (p : ℕ → Bool) (line : List ℕ) (n : ℕ) → position p line ≡ Some n → n ≡ position_or_len p line
position_is p line n e = sym (cond_some (ltb (position_or_len p line) (length line)) (position_or_len p line) n e).1

not_false : (b : Bool) → not b ≡ true → b ≡ false
not_false true e = cc
not_false false e = refl

-- The rest of the line from its first byte that is no blank, up to the next blank, is its first field.
pub next_is : (line rest field after : List ℕ) (start end : ℕ) (begins ends : Option ℕ)
    → begins ≡ position (λ b. not (is_separator b)) line → begins ≡ Some start → rest ≡ take (length line - start) (drop start line)
    → ends ≡ position is_separator rest → end ≡ unwrap_or ends (length rest) → field ≡ take end rest → after ≡ drop end rest
    → fields_of line ≡ field ∷ fields_of after
next_is line rest field after start end begins ends begins_is some rest_is ends_is end_is_ field_is after_is =
    let found = position-Some (λ b. not (is_separator b)) line start 0 (sym begins_is ∙ some) in
    let from : rest ≡ drop start line = rest_is ∙ whole line start in
    let place : start ≡ position_or_len (λ b. not (is_separator b)) line = position_is (λ b. not (is_separator b)) line start (sym begins_is ∙ some) in
    let begin : get_or rest 0 0 ≡ get_or line start 0 = ap (λ (l : List ℕ). get_or l 0 0) from ∙ get_or-drop start line 0 0 ∙ ap (λ (k : ℕ). get_or line k 0) (let e : start + 0 ≡ start = omega arith in e) in
    let cut = first_of rest (omega (arith, ap length from, length-drop start line, found.0)) (ap is_separator begin ∙ not_false (is_separator (get_or line start 0)) found.1) in
    let stop = end_is rest end ends ends_is end_is_ in
    sym (skip line start place) ∙ ap fields_of (sym from) ∙ cut ∙ rw (← stop, ← field_is, ← after_is) refl
