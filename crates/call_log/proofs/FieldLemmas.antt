-- Each field of an entry is read exactly as it is written.
use Rattle.std.proofs.Common.{OnOk, Result, Ok, Err, inl, inr, ◌⊎◌, ◌≡◌, ℕ, zero, suc, ◌^◌, ◌<◌, ◌≤◌, lit≤, Bool, true, false, cond, eqb, ltb, List, [], ◌∷◌, ◌++◌, length, slice_index, Option, Some, None, refl, sym, ap, ◌∙◌, subst, arith, append_assoc}
use Rattle.std.specs.Prelude.{map, nat_lt, option_and_then, option_map, slice_get}
use Rattle.std.specs.List.{concat}
use Rattle.std.specs.Int.{Width, w16, w32, w64, byte_len, to_le_bytes}
use Rattle.std.proofs.lemmas.Bool.{eqb-true, ltb-true, lt-ltb}
use Rattle.std.proofs.lemmas.List.FromFn.{get_or-range_with_len}
use Rattle.std.proofs.lemmas.Option.{get_or_from_slice_get, slice_get-map, some_pair_parts, same_Some}
use Rattle.lamport_tag.specs.declared.Tag.{Tag}
use Rattle.fri_bytes.specs.Laws.{AreBytes, ExactReaders}
use Rattle.fri_bytes.specs.Reading.{byte_at, piece_at, le_at}
use Rattle.fri_bytes.specs.Short.{short_at, short_bytes}
use Rattle.lib_calls.specs.declared.entry.Call.{Call}
use Rattle.call_table.specs.Numbers.{number_within, numbered}
use Rattle.call_table.specs.Table.{kind_numbered, kinds, row}
use Rattle.call_table.specs.declared.kind.Kind.{Kind}
use Rattle.lib_calls.specs.Entry.{IsNumberIf, IsStringIf, IsTagIf, HasArguments}
use Rattle.call_log.specs.declared.version.Version.{Version}
use Rattle.call_log.specs.declared.version.Version.TheVariants.{One, Two}
use Rattle.call_log.specs.Version.{if_below, clock_above, clock_at, clock_bytes, clock_gap, number_at, number_bytes}
use Rattle.call_log.specs.Entry.{number_if, string_if, flagged_tag, tag_if, argument_bytes}
use Rattle.call_log.specs.Reading.{number_if_at, kind_byte_at, call_at, string_at, string_if_at, tag_fields_at, flagged_tag_at, tag_if_at}

-- bytes in front of others are in range where all are
pub front_in_range : (front rest : List ℕ) → AreBytes (front ++ rest) → AreBytes front
front_in_range [] rest small i = omega arith
front_in_range (b ∷ front) rest small zero = small 0
front_in_range (b ∷ front) rest small (suc i) = front_in_range front rest (λ j. small (suc j)) i

-- so are the bytes after them
pub rest_in_range : (front rest : List ℕ) → AreBytes (front ++ rest) → AreBytes rest
rest_in_range [] rest small i = small i
rest_in_range (b ∷ front) rest small i = rest_in_range front rest (λ j. small (suc j)) i

-- which way a test went
pub chosen : {A : Type 0} (b : Bool) (x y z : A) → cond b x y ≡ z → ((b ≡ true) × (x ≡ z)) ⊎ ((b ≡ false) × (y ≡ z))
chosen true x y z e = inl (refl, e)
chosen false x y z e = inr (refl, e)

-- the value of a step that did not fail
pub bind_some : {A B : Type 0} (f : A → Option B) (o : Option A) (y : B) → option_and_then f o ≡ Some y → (x : A) × (o ≡ Some x) × (f x ≡ Some y)
bind_some f None y e = absurd cc
bind_some f (Some x) y e = (x, refl, e)

-- a value that fits is read from its spelling, whatever follows, and what is read is a value that fits
-- and stands there
pub record ReadsBack {A : Type 0} (Fits : A → Type 0) (spell : A → List ℕ) (read : List ℕ → Option (A × List ℕ)) : Type 0 where
  pub again : (x : A) (rest : List ℕ) → Fits x → read (spell x ++ rest) ≡ Some (x, rest)
  pub found : (bytes : List ℕ) (x : A) (rest : List ℕ) → AreBytes bytes → read bytes ≡ Some (x, rest) → Fits x × (bytes ≡ spell x ++ rest)

-- what follows it are bytes too
pub bytes_after : {A : Type 0} {Fits : A → Type 0} {spell : A → List ℕ} {read : List ℕ → Option (A × List ℕ)} → ReadsBack Fits spell read → (bytes : List ℕ) (x : A) (rest : List ℕ) → AreBytes bytes → read bytes ≡ Some (x, rest) → AreBytes rest
bytes_after {spell = spell} field bytes x rest are e =
    let found = field.found bytes x rest are e in
    rest_in_range (spell x) rest (λ i. subst (λ (list : List ℕ). slice_index list i < 256) found.1 (are i))

-- the same after the same bytes
pub onto : (front : List ℕ) {a b : List ℕ} → a ≡ b → front ++ a ≡ front ++ b
onto front e = ap (λ (t : List ℕ). front ++ t) e

-- parts, one after the other, and then the rest
abbrev pub parts_onto : List (List ℕ) → List ℕ → List ℕ
parts_onto [] rest = rest
parts_onto (part ∷ parts) rest = part ++ parts_onto parts rest

pub concat-append : (parts : List (List ℕ)) (rest : List ℕ) → concat parts ++ rest ≡ parts_onto parts rest
concat-append [] rest = refl
concat-append (part ∷ parts) rest = append_assoc part (concat parts) rest ∙ onto part (concat-append parts rest)

-- what follows of a success
pub on_ok : {T E : Type 0} (r : Result T E) {P Q : Type 0} → (P → Q) → OnOk r P → OnOk r Q
on_ok (Ok x) f p = f p
on_ok (Err e) f p = tt

-- a step that gave something, and the next one
pub next : {A B : Type 0} (o : Option A) (f : A → Option B) (x : A) (y : Option B) → o ≡ Some x → f x ≡ y → option_and_then f o ≡ y
next None f x y e then = absurd cc
next (Some z) f x y e then = ap f (same_Some z x e) ∙ then

-- a test that was met
pub when_true : {A : Type 0} (b : Bool) (x y z : A) → b ≡ true → x ≡ z → cond b x y ≡ z
when_true true x y z met e = e
when_true false x y z met e = absurd cc

-- a test without which nothing is read
pub kept : {A : Type 0} (b : Bool) (x : Option A) (y : A) → cond b x None ≡ Some y → (b ≡ true) × (x ≡ Some y)
kept true x y e = (refl, e)
kept false x y e = absurd cc

byte_found : (bytes : List ℕ) (b : ℕ) (rest : List ℕ) → AreBytes bytes → byte_at bytes ≡ Some (b, rest) → (b < 256) × (bytes ≡ b ∷ rest)
byte_found [] b rest are e = absurd cc
byte_found (c ∷ bytes) b rest are e =
    let parts = some_pair_parts c b bytes rest e in
    (subst (λ (d : ℕ). d < 256) parts.0 (are 0), ap (λ (d : ℕ). d ∷ bytes) parts.0 ∙ ap (λ (t : List ℕ). b ∷ t) parts.1)

pub byte_field : ReadsBack (λ b. b < 256) (λ b. b ∷ []) byte_at
byte_field = record {
  again = λ b rest fits. refl;
  found = byte_found;
}

-- a kind has the number that it was found by
number_of : (number : ℕ) (kind : Kind) → kind_numbered number ≡ Some kind → (row kind).number ≡ number
unfolding kind_numbered
number_of number kind e =
    let numbers : List ℕ = map (λ k. (row k).number) kinds in
    let at : slice_get numbers number ≡ Some (row kind).number = slice_get-map (λ k. (row k).number) kinds number ∙ ap (option_map (λ k. (row k).number)) e in
    omega (arith, get_or_from_slice_get numbers number (row kind).number 0 at, get_or-range_with_len 0 18 number 0 (number_within number kind e))

kind_again : (kind : Kind) (rest : List ℕ) → kind_byte_at ((row kind).number ∷ rest) ≡ Some (kind, rest)
unfolding kind_byte_at
kind_again kind rest = next _ _ kind _ (numbered kind) refl

kind_found : (bytes : List ℕ) (kind : Kind) (rest : List ℕ) → kind_byte_at bytes ≡ Some (kind, rest) → bytes ≡ (row kind).number ∷ rest
unfolding kind_byte_at
kind_found [] kind rest e = cc
kind_found (number ∷ bytes) kind rest e =
    let read = bind_some _ _ _ e in
    let parts = some_pair_parts read.0 kind bytes rest read.2 in
    ap (λ (t : List ℕ). number ∷ t) parts.1 ∙ ap (λ (n : ℕ). n ∷ rest) (sym (number_of number read.0 read.1) ∙ ap (λ k. (row k).number) parts.0)

pub kind_field : ReadsBack (λ _. Unit {0}) (λ kind. (row kind).number ∷ []) kind_byte_at
kind_field = record {
  again = λ kind rest _. kind_again kind rest;
  found = λ bytes kind rest are e. (tt, kind_found bytes kind rest e);
}

-- where the kind lacks a field, its one value is read from nothing
absent_field : {A : Type 0} (x : A) → ReadsBack (λ y. y ≡ x) (λ _. []) (λ bytes. Some (x, bytes))
absent_field x = record {
  again = λ y rest is. ap (λ z. Some (z, rest)) (sym is);
  found = λ bytes y rest are e.
      let parts = some_pair_parts x y bytes rest e in
      (sym parts.0, parts.1);
}

-- the value that was made of another one
map_some : {A B : Type 0} (f : A → B) (o : Option A) (y : B) → option_map f o ≡ Some y → (x : A) × (o ≡ Some x) × (f x ≡ y)
map_some f None y e = absurd cc
map_some f (Some x) y e = (x, refl, cc)

-- ---- clocks modulo 2 ^ 64

gap_lt : (last clock : ℕ) → clock_gap last clock < 2 ^ 64
gap_lt last clock = omega arith

above_lt : (last gap : ℕ) → clock_above last gap < 2 ^ 64
above_lt last gap = omega arith

clock_above-gap : (last clock : ℕ) → clock < 2 ^ 64 → clock_above last (clock_gap last clock) ≡ clock
clock_above-gap last clock small = omega arith

clock_gap-above : (last gap : ℕ) → gap < 2 ^ 64 → clock_gap last (clock_above last gap) ≡ gap
clock_gap-above last gap small = omega arith

-- ---- the fields

module _ (readers : ExactReaders) where
  -- a number of a fixed width, the lowest byte first
  pub le_field : (w : Width) → ReadsBack (λ n. n < 256 ^ byte_len w) (to_le_bytes w) (le_at w)
  le_field w = record { again = readers.reads_written w; found = readers.rewritten w }

  -- a short number below a limit
  short_field : (limit : ℕ) → limit ≤ 2 ^ 64 → ReadsBack (λ n. n < limit) short_bytes (λ bytes. if_below limit (short_at bytes))
  short_field limit fits = record {
    again = λ n rest small. next _ _ (n, rest) _ (readers.reads_short n rest (omega arith)) (when_true (ltb n limit) _ _ _ (lt-ltb n limit small) refl);
    found = λ bytes n rest are e.
        let read = bind_some _ _ _ e in
        let test = kept _ _ _ read.2 in
        let spelled = readers.short_rewritten bytes read.0.0 read.0.1 read.1 in
        subst (λ (x : ℕ × List ℕ). (x.0 < limit) × (bytes ≡ short_bytes x.0 ++ x.1)) (same_Some read.0 (n, rest) test.1) (ltb-true _ _ test.0, spelled.1);
  }

  number_field : (v : Version) (w : Width) → 256 ^ byte_len w ≤ 2 ^ 64 → ReadsBack (λ n. n < 256 ^ byte_len w) (number_bytes v w) (number_at v w)
  number_field One w fits = le_field w
  number_field Two w fits = short_field (256 ^ byte_len w) fits

  -- a number in either version
  pub u16_field : (v : Version) → ReadsBack (λ n. n < 2 ^ 16) (number_bytes v w16) (number_at v w16)
  u16_field v = number_field v w16 (lit≤ tt)

  pub u32_field : (v : Version) → ReadsBack (λ n. n < 2 ^ 32) (number_bytes v w32) (number_at v w32)
  u32_field v = number_field v w32 (lit≤ tt)

  pub u64_field : (v : Version) → ReadsBack (λ n. n < 2 ^ 64) (number_bytes v w64) (number_at v w64)
  u64_field v = number_field v w64 (lit≤ tt)

  -- the clock, of itself or above the one before
  pub clock_field : (v : Version) (last : ℕ) → ReadsBack (λ clock. clock < 2 ^ 64) (clock_bytes v last) (clock_at v last)
  clock_field One last = le_field w64
  clock_field Two last = record {
    again = λ clock rest small.
        ap (option_map (λ (x : ℕ × List ℕ). (clock_above last x.0, x.1))) (readers.reads_short (clock_gap last clock) rest (gap_lt last clock))
        ∙ ap (λ (c : ℕ). Some (c, rest)) (clock_above-gap last clock small);
    found = λ bytes clock rest are e.
        let read = map_some (λ (x : ℕ × List ℕ). (clock_above last x.0, x.1)) (short_at bytes) (clock, rest) e in
        let spelled = readers.short_rewritten bytes read.0.0 read.0.1 read.1 in
        subst (λ (x : ℕ × List ℕ). (x.0 < 2 ^ 64) × (bytes ≡ short_bytes (clock_gap last x.0) ++ x.1)) read.2
        (above_lt last read.0.0, spelled.1 ∙ ap (λ (gap : ℕ). short_bytes gap ++ read.0.1) (sym (clock_gap-above last read.0.0 spelled.0)));
  }

  pub number_if_field : (v : Version) (has : Bool) → ReadsBack (IsNumberIf has) (number_if v has) (number_if_at v has)
  number_if_field v true = u64_field v
  number_if_field v false = absent_field 0

  -- ---- byte strings

  string_at-from : (v : Version) (bytes after rest piece : List ℕ) (n : ℕ) → number_at v w32 bytes ≡ Some (n, after) → n < 2 ^ 31 → piece_at n after ≡ Some (piece, rest) → string_at v bytes ≡ Some (piece, rest)
  unfolding string_at
  string_at-from v bytes after rest piece n size few found =
      next _ _ (n, after) _ size (when_true (ltb n (2 ^ 31)) _ _ _ (lt-ltb n (2 ^ 31) few) found)

  string_found : (v : Version) (bytes piece rest : List ℕ) → AreBytes bytes → string_at v bytes ≡ Some (piece, rest) → (length piece < 2 ^ 31) × (bytes ≡ (number_bytes v w32 (length piece) ++ piece) ++ rest)
  unfolding string_at
  string_found v bytes piece rest are e =
      let size = bind_some _ _ _ e in
      let few = kept _ _ _ size.2 in
      let number = (u32_field v).found bytes size.0.0 size.0.1 are size.1 in
      let front = (readers.piece size.0.0).takes size.0.1 piece rest few.1 in
      let long : length piece ≡ size.0.0 = front.2.0 in
      let after : size.0.1 ≡ piece ++ rest = front.1 ∙ ap (λ (t : List ℕ). t ++ rest) front.2.1 in
      let spelled : bytes ≡ number_bytes v w32 (length piece) ++ (piece ++ rest) =
      number.1 ∙ ap (λ (t : List ℕ). number_bytes v w32 size.0.0 ++ t) after ∙ ap (λ (n : ℕ). number_bytes v w32 n ++ (piece ++ rest)) (sym long) in
      (subst (λ (n : ℕ). n < 2 ^ 31) (sym long) (ltb-true _ _ few.0), spelled ∙ sym (append_assoc (number_bytes v w32 (length piece)) piece rest))

  pub string_field : (v : Version) → ReadsBack (λ s. length s < 2 ^ 31) (λ s. number_bytes v w32 (length s) ++ s) (string_at v)
  string_field v = record {
    again = λ s rest few.
        let size = (u32_field v).again (length s) (s ++ rest) (omega arith) in
        ap (string_at v) (append_assoc (number_bytes v w32 (length s)) s rest)
        ∙ string_at-from v (number_bytes v w32 (length s) ++ (s ++ rest)) (s ++ rest) rest s (length s) size few ((readers.piece (length s)).again s s rest (refl, refl));
    found = string_found v;
  }

  pub string_if_field : (v : Version) (has : Bool) → ReadsBack (IsStringIf has) (string_if v has) (string_if_at v has)
  string_if_field v true = string_field v
  string_if_field v false = absent_field []

  -- ---- tags

  tag_at-from : (v : Version) (bytes after rest : List ℕ) (tag : Tag) → number_at v w32 bytes ≡ Some (tag.sender, after) → number_at v w64 after ≡ Some (tag.clock, rest) → tag_fields_at v bytes ≡ Some (tag, rest)
  unfolding tag_fields_at
  tag_at-from v bytes after rest tag sender clock = next _ _ (tag.sender, after) _ sender (next _ _ (tag.clock, rest) _ clock refl)

  abbrev pub tag_bytes : Version → Tag → List ℕ
  tag_bytes v tag = number_bytes v w32 tag.sender ++ number_bytes v w64 tag.clock

  abbrev pub TagFits : Tag → Type 0
  TagFits tag = (tag.sender < 2 ^ 32) × (tag.clock < 2 ^ 64)

  tag_found : (v : Version) (bytes : List ℕ) (tag : Tag) (rest : List ℕ) → AreBytes bytes → tag_fields_at v bytes ≡ Some (tag, rest) → TagFits tag × (bytes ≡ tag_bytes v tag ++ rest)
  unfolding tag_fields_at
  tag_found v bytes tag rest are e =
      let sender = bind_some _ _ _ e in
      let clock = bind_some _ _ _ sender.2 in
      let first = (u32_field v).found bytes sender.0.0 sender.0.1 are sender.1 in
      let second = (u64_field v).found sender.0.1 clock.0.0 clock.0.1 (bytes_after (u32_field v) bytes sender.0.0 sender.0.1 are sender.1) clock.1 in
      let made : Tag = record { sender = sender.0.0; clock = clock.0.0 } in
      subst (λ (x : Tag × List ℕ). TagFits x.0 × (bytes ≡ tag_bytes v x.0 ++ x.1)) (same_Some (made, clock.0.1) (tag, rest) clock.2)
      ((first.0, second.0), first.1 ∙ ap (λ (t : List ℕ). number_bytes v w32 sender.0.0 ++ t) second.1 ∙ sym (append_assoc (number_bytes v w32 sender.0.0) (number_bytes v w64 clock.0.0) clock.0.1))

  pub tag_field : (v : Version) → ReadsBack TagFits (tag_bytes v) (tag_fields_at v)
  tag_field v = record {
    again = λ tag rest fits.
        ap (tag_fields_at v) (append_assoc (number_bytes v w32 tag.sender) (number_bytes v w64 tag.clock) rest)
        ∙ tag_at-from v (number_bytes v w32 tag.sender ++ (number_bytes v w64 tag.clock ++ rest)) (number_bytes v w64 tag.clock ++ rest) rest tag ((u32_field v).again tag.sender _ fits.0) ((u64_field v).again tag.clock rest fits.1);
    found = tag_found v;
  }

  flagged_again : (v : Version) (tag : Option Tag) (rest : List ℕ) → IsTagIf true tag → flagged_tag_at v (flagged_tag v tag ++ rest) ≡ Some (tag, rest)
  unfolding flagged_tag_at
  flagged_again v None rest fits = refl
  flagged_again v (Some tag) rest fits = next _ _ (tag, rest) _ ((tag_field v).again tag rest fits) refl

  flagged_found : (v : Version) (bytes : List ℕ) (tag : Option Tag) (rest : List ℕ) → AreBytes bytes → flagged_tag_at v bytes ≡ Some (tag, rest) → IsTagIf true tag × (bytes ≡ flagged_tag v tag ++ rest)
  unfolding flagged_tag_at
  flagged_found v bytes tag rest are e =
      let flag = bind_some _ _ _ e in
      let front = byte_field.found bytes flag.0.0 flag.0.1 are flag.1 in
      elim (chosen (eqb flag.0.0 0) _ _ _ flag.2) [
        | inl none ↦
            let zero : flag.0.0 ≡ 0 = eqb-true _ _ none.0 in
            subst (λ (x : Option Tag × List ℕ). IsTagIf true x.0 × (bytes ≡ flagged_tag v x.0 ++ x.1)) (same_Some (None, flag.0.1) (tag, rest) none.1)
            (tt, front.1 ∙ ap (λ (b : ℕ). b ∷ flag.0.1) zero)
        | inr some ↦
            let one = kept _ _ _ some.1 in
            let there = bind_some _ _ _ one.1 in
            let read = (tag_field v).found flag.0.1 there.0.0 there.0.1 (bytes_after byte_field bytes flag.0.0 flag.0.1 are flag.1) there.1 in
            let is : flag.0.0 ≡ 1 = eqb-true _ _ one.0 in
            subst (λ (x : Option Tag × List ℕ). IsTagIf true x.0 × (bytes ≡ flagged_tag v x.0 ++ x.1)) (same_Some (Some there.0.0, there.0.1) (tag, rest) there.2)
            (read.0, front.1 ∙ ap (λ (b : ℕ). b ∷ flag.0.1) is ∙ ap (λ (t : List ℕ). 1 ∷ t) read.1)
      ]

  pub flagged_field : (v : Version) → ReadsBack (IsTagIf true) (flagged_tag v) (flagged_tag_at v)
  flagged_field v = record { again = flagged_again v; found = flagged_found v }

  pub tag_if_field : (v : Version) (has : Bool) → ReadsBack (IsTagIf has) (tag_if v has) (tag_if_at v has)
  tag_if_field v true = flagged_field v
  tag_if_field v false = absent_field None

-- ---- calls

-- the three arguments were read one after the other
record Arguments (v : Version) (kind : Kind) (bytes : List ℕ) (call : Call) (rest : List ℕ) : Type 0 where
  kind_is : call.kind ≡ kind
  after_first : List ℕ
  after_second : List ℕ
  first : number_if_at v (nat_lt 0 (row kind).signature.params) bytes ≡ Some (call.a0, after_first)
  second : number_if_at v (nat_lt 1 (row kind).signature.params) after_first ≡ Some (call.a1, after_second)
  third : number_if_at v (nat_lt 2 (row kind).signature.params) after_second ≡ Some (call.a2, rest)

call_at-from : (v : Version) (kind : Kind) (bytes : List ℕ) (call : Call) (rest : List ℕ) → Arguments v kind bytes call rest → call_at v kind bytes ≡ Some (call, rest)
unfolding call_at
call_at-from v kind bytes call rest h =
    let same : ◌≡◌ {A = Call} (record { kind = kind; a0 = call.a0; a1 = call.a1; a2 = call.a2 }) call = ap (λ (k : Kind). record { kind = k; a0 = call.a0; a1 = call.a1; a2 = call.a2 }) (sym h.kind_is) in
    next _ _ (call.a0, h.after_first) _ h.first (next _ _ (call.a1, h.after_second) _ h.second (next _ _ (call.a2, rest) _ h.third (ap (λ (c : Call). Some (c, rest)) same)))

arguments_from : (v : Version) (kind : Kind) (bytes : List ℕ) (call : Call) (rest : List ℕ) → call_at v kind bytes ≡ Some (call, rest) → Arguments v kind bytes call rest
unfolding call_at
arguments_from v kind bytes call rest e =
    let first = bind_some _ _ _ e in
    let second = bind_some _ _ _ first.2 in
    let third = bind_some _ _ _ second.2 in
    let made : Call = record { kind = kind; a0 = first.0.0; a1 = second.0.0; a2 = third.0.0 } in
    let read : Arguments v kind bytes made third.0.1 = record {
      kind_is = refl;
      after_first = first.0.1;
      after_second = second.0.1;
      first = first.1;
      second = second.1;
      third = third.1;
    } in
    subst (λ (x : Call × List ℕ). Arguments v kind bytes x.0 x.1) (same_Some (made, third.0.1) (call, rest) third.2) read

-- a call that was read is of the kind that it was read for
pub call_at-kind : (v : Version) (kind : Kind) (bytes : List ℕ) (call : Call) (rest : List ℕ) → call_at v kind bytes ≡ Some (call, rest) → call.kind ≡ kind
call_at-kind v kind bytes call rest e = (arguments_from v kind bytes call rest e).kind_is

abbrev pub CallFits : Kind → Call → Type 0
CallFits kind call = (call.kind ≡ kind) × HasArguments call

module _ (readers : ExactReaders) where
  call_again : (v : Version) (kind : Kind) (call : Call) (rest : List ℕ) → CallFits kind call → call_at v kind (argument_bytes v call ++ rest) ≡ Some (call, rest)
  unfolding argument_bytes
  call_again v kind call rest fits =
      let has : ℕ → Bool = λ k. nat_lt k (row call.kind).signature.params in
      let third : List ℕ = number_if v (has 2) call.a2 ++ rest in
      let second : List ℕ = number_if v (has 1) call.a1 ++ third in
      let read : Arguments v call.kind (number_if v (has 0) call.a0 ++ second) call rest = record {
        kind_is = refl;
        after_first = second;
        after_second = third;
        first = (number_if_field readers v (has 0)).again call.a0 second fits.1.first;
        second = (number_if_field readers v (has 1)).again call.a1 third fits.1.second;
        third = (number_if_field readers v (has 2)).again call.a2 rest fits.1.third;
      } in
      ap (call_at v kind) (concat-append (number_if v (has 0) call.a0 ∷ number_if v (has 1) call.a1 ∷ number_if v (has 2) call.a2 ∷ []) rest)
      ∙ call_at-from v kind _ call rest (subst (λ (k : Kind). Arguments v k (number_if v (has 0) call.a0 ++ second) call rest) fits.0 read)

  call_found : (v : Version) (kind : Kind) (bytes : List ℕ) (call : Call) (rest : List ℕ) → AreBytes bytes → call_at v kind bytes ≡ Some (call, rest) → CallFits kind call × (bytes ≡ argument_bytes v call ++ rest)
  unfolding argument_bytes
  call_found v kind bytes call rest are e =
      let has : ℕ → Bool = λ k. nat_lt k (row call.kind).signature.params in
      let at : Arguments v kind bytes call rest = arguments_from v kind bytes call rest e in
      let read : Arguments v call.kind bytes call rest = subst (λ (k : Kind). Arguments v k bytes call rest) (sym at.kind_is) at in
      let are_1 = bytes_after (number_if_field readers v (has 0)) bytes call.a0 read.after_first are read.first in
      let are_2 = bytes_after (number_if_field readers v (has 1)) read.after_first call.a1 read.after_second are_1 read.second in
      let first = (number_if_field readers v (has 0)).found bytes call.a0 read.after_first are read.first in
      let second = (number_if_field readers v (has 1)).found read.after_first call.a1 read.after_second are_1 read.second in
      let third = (number_if_field readers v (has 2)).found read.after_second call.a2 rest are_2 read.third in
      let spelled = first.1 ∙ onto (number_if v (has 0) call.a0) (second.1 ∙ onto (number_if v (has 1) call.a1) third.1) in (
        (at.kind_is, record { first = first.0; second = second.0; third = third.0 }),
        spelled ∙ sym (concat-append (number_if v (has 0) call.a0 ∷ number_if v (has 1) call.a1 ∷ number_if v (has 2) call.a2 ∷ []) rest),
      )

  pub call_field : (v : Version) (kind : Kind) → ReadsBack (CallFits kind) (argument_bytes v) (call_at v kind)
  call_field v kind = record { again = call_again v kind; found = call_found v kind }
