-- Readers that are made of readers: what is read is spelled so, and what is spelled so is read, where this
-- holds of the parts.
use Rattle.std.proofs.Common.{◌≡◌, ℕ, cond, eqb, inl, inr, List, [], ◌∷◌, ◌++◌, Option, Some, None, refl, sym, ap, ◌∙◌, subst, append_assoc}
use Rattle.std.proofs.lemmas.Bool.{eqb-true, eq-eqb}
use Rattle.fri_bytes.specs.Reading.{Reads, BeginsSpelling, byte_at}
use Rattle.wasm_decode.specs.Values.{Reader, ◌>>=◌, exact_byte_at}
use Rattle.wasm_decode.proofs.ReaderSteps.{chosen, bind_some, some_is, kept, joined, joined_byte, joined_three, byte_takes}

-- another way to say the same spellings
pub read_as : {A : Type 0} (P R : List ℕ → A → Type 0) (p : Reader A) → Reads P p → ((s : List ℕ) (x : A) → P s x → R s x) → ((s : List ℕ) (x : A) → R s x → P s x) → Reads R p
read_as P R p laws to from = record {
  takes = λ bytes x rest e. let b = laws.takes bytes x rest e in (b.0, b.1, to b.0 x b.2);
  again = λ s x rest h. laws.again s x rest (from s x h);
}

-- a value that is made of one part
pub one_read : {A B : Type 0} (P : List ℕ → A → Type 0) (R : List ℕ → B → Type 0) (p : Reader A) (make : A → B) → Reads P p
    → ((s : List ℕ) (x : A) → P s x → R s (make x)) → ((s : List ℕ) (z : B) → R s z → (x : A) × P s x × (z ≡ make x))
    → Reads R (λ bytes. p bytes >>= λ x. Some (make x.0, x.1))
one_read {A} {B} P R p make laws to from = record {
  takes = λ bytes z rest e.
      let a = bind_some _ _ _ e in
      let one = laws.takes bytes a.0.0 a.0.1 a.1 in
      subst (λ (y : B × List ℕ). BeginsSpelling R bytes y.0 y.1) (some_is (make a.0.0, a.0.1) (z, rest) a.2) (one.0, one.1, to one.0 a.0.0 one.2);
  again = λ s z rest h.
      let x = from s z h in
      rw (laws.again s x.0 rest x.1) (ap (λ (y : B). Some (y, rest)) (sym x.2));
}

-- a value that is made of two parts
pub two_read : {A B C : Type 0} (P : List ℕ → A → Type 0) (Q : List ℕ → B → Type 0) (R : List ℕ → C → Type 0) (p : Reader A) (q : Reader B) (make : A → B → C) → Reads P p → Reads Q q
    → ((a b : List ℕ) (x : A) (y : B) → P a x → Q b y → R (a ++ b) (make x y))
    → ((s : List ℕ) (z : C) → R s z → (a b : List ℕ) × (x : A) × (y : B) × (s ≡ a ++ b) × P a x × Q b y × (z ≡ make x y))
    → Reads R (λ bytes. p bytes >>= λ x. q x.1 >>= λ y. Some (make x.0 y.0, y.1))
two_read {A} {B} {C} P Q R p q make first second to from = record {
  takes = λ bytes z rest e.
      let a = bind_some _ _ _ e in
      let b = bind_some _ _ _ a.2 in
      let one = first.takes bytes a.0.0 a.0.1 a.1 in
      let two = second.takes a.0.1 b.0.0 b.0.1 b.1 in
      subst (λ (y : C × List ℕ). BeginsSpelling R bytes y.0 y.1) (some_is (make a.0.0 b.0.0, b.0.1) (z, rest) b.2)
      (one.0 ++ two.0, joined bytes one.0 a.0.1 two.0 b.0.1 one.1 two.1, to one.0 two.0 a.0.0 b.0.0 one.2 two.2);
  again = λ s z rest h.
      let x = from s z h in
      let parts : s ++ rest ≡ x.0 ++ (x.1 ++ rest) = ap (λ (t : List ℕ). t ++ rest) x.4 ∙ append_assoc x.0 x.1 rest in
      let one : p (s ++ rest) ≡ Some (x.2, x.1 ++ rest) = ap p parts ∙ first.again x.0 x.2 (x.1 ++ rest) x.5 in
      rw (one, second.again x.1 x.3 rest x.6) (ap (λ (y : C). Some (y, rest)) (sym x.7));
}

-- a value that is made of three parts
pub three_read : {A B C D : Type 0} (P : List ℕ → A → Type 0) (Q : List ℕ → B → Type 0) (S : List ℕ → C → Type 0) (R : List ℕ → D → Type 0) (p : Reader A) (q : Reader B) (r : Reader C) (make : A → B → C → D) → Reads P p → Reads Q q → Reads S r
    → ((a b c : List ℕ) (x : A) (y : B) (z : C) → P a x → Q b y → S c z → R ((a ++ b) ++ c) (make x y z))
    → ((s : List ℕ) (w : D) → R s w → (a b c : List ℕ) × (x : A) × (y : B) × (z : C) × (s ≡ (a ++ b) ++ c) × P a x × Q b y × S c z × (w ≡ make x y z))
    → Reads R (λ bytes. p bytes >>= λ x. q x.1 >>= λ y. r y.1 >>= λ z. Some (make x.0 y.0 z.0, z.1))
three_read {A} {B} {C} {D} P Q S R p q r make first second third to from = record {
  takes = λ bytes w rest e.
      let a = bind_some _ _ _ e in
      let b = bind_some _ _ _ a.2 in
      let c = bind_some _ _ _ b.2 in
      let one = first.takes bytes a.0.0 a.0.1 a.1 in
      let two = second.takes a.0.1 b.0.0 b.0.1 b.1 in
      let three = third.takes b.0.1 c.0.0 c.0.1 c.1 in
      subst (λ (y : D × List ℕ). BeginsSpelling R bytes y.0 y.1) (some_is (make a.0.0 b.0.0 c.0.0, c.0.1) (w, rest) c.2)
      ((one.0 ++ two.0) ++ three.0, joined_three bytes one.0 a.0.1 two.0 b.0.1 three.0 c.0.1 one.1 two.1 three.1, to one.0 two.0 three.0 a.0.0 b.0.0 c.0.0 one.2 two.2 three.2);
  again = λ s w rest h.
      let x = from s w h in
      let parts : s ++ rest ≡ x.0 ++ (x.1 ++ (x.2 ++ rest)) = ap (λ (t : List ℕ). t ++ rest) x.6 ∙ append_assoc (x.0 ++ x.1) x.2 rest ∙ append_assoc x.0 x.1 (x.2 ++ rest) in
      let one : p (s ++ rest) ≡ Some (x.3, x.1 ++ (x.2 ++ rest)) = ap p parts ∙ first.again x.0 x.3 (x.1 ++ (x.2 ++ rest)) x.7 in
      rw (one, second.again x.1 x.4 (x.2 ++ rest) x.8, third.again x.2 x.5 rest x.9) (ap (λ (y : D). Some (y, rest)) (sym x.10));
}

-- ---- the byte that says what follows

pub tag_takes : (tag : ℕ) (bytes rest : List ℕ) → exact_byte_at tag bytes ≡ Some rest → bytes ≡ tag ∷ rest
unfolding exact_byte_at
tag_takes tag bytes rest e =
    let b = bind_some _ _ _ e in
    let g = kept _ _ _ b.2 in
    byte_takes bytes b.0.0 b.0.1 b.1 ∙ ap (λ (k : ℕ). k ∷ b.0.1) (eqb-true b.0.0 tag g.0) ∙ ap (λ (r : List ℕ). tag ∷ r) (some_is b.0.1 rest g.1)

pub tag_again : (tag : ℕ) (rest : List ℕ) → exact_byte_at tag (tag ∷ rest) ≡ Some rest
unfolding exact_byte_at
tag_again tag rest = rw (eq-eqb tag tag refl) refl

-- a value after a byte that has to be there
pub tag_read : {A : Type 0} (tag : ℕ) (P : List ℕ → A → Type 0) (p : Reader A) → Reads P p → Reads (λ bytes x. (behind : List ℕ) × (bytes ≡ tag ∷ behind) × P behind x) (λ bytes. exact_byte_at tag bytes >>= λ behind. p behind)
tag_read {A} tag P p laws = record {
  takes = λ bytes x rest e.
      let a = bind_some _ _ _ e in
      let one = laws.takes a.0 x rest a.2 in
      (tag ∷ one.0, joined_byte bytes tag a.0 one.0 rest (tag_takes tag bytes a.0 a.1) one.1, (one.0, refl, one.2));
  again = λ s x rest h.
      let front : exact_byte_at tag (s ++ rest) ≡ Some (h.0 ++ rest) = ap (λ (t : List ℕ). exact_byte_at tag (t ++ rest)) h.1 ∙ tag_again tag (h.0 ++ rest) in
      rw front (laws.again h.0 x rest h.2);
}

-- what was read after a byte, where that byte is a part of the spelling
abbrev pub Behind : {A : Type 0} → (List ℕ → A → Type 0) → ℕ → List ℕ → A → List ℕ → Type 0
Behind R b bytes x rest = (s : List ℕ) × (bytes ≡ s ++ rest) × R (b ∷ s) x

-- the first byte of a spelling, and that the value is read after it
pub record AgainBehind {A : Type 0} (at : ℕ → Reader A) (s : List ℕ) (x : A) : Type 0 where
  pub first : ℕ
  pub behind : List ℕ
  pub parts : s ≡ first ∷ behind
  pub read : (rest : List ℕ) → at first (behind ++ rest) ≡ Some (x, rest)

-- a byte, and what it says
pub byte_read : {A : Type 0} (R : List ℕ → A → Type 0) (at : ℕ → Reader A)
    → ((b : ℕ) (bytes : List ℕ) (x : A) (rest : List ℕ) → at b bytes ≡ Some (x, rest) → Behind R b bytes x rest)
    → ((s : List ℕ) (x : A) → R s x → AgainBehind at s x)
    → Reads R (λ bytes. byte_at bytes >>= λ b. at b.0 b.1)
byte_read {A} R at to from = record {
  takes = λ bytes x rest e.
      let b = bind_some _ _ _ e in
      let one = to b.0.0 b.0.1 x rest b.2 in
      (b.0.0 ∷ one.0, joined_byte bytes b.0.0 b.0.1 one.0 rest (byte_takes bytes b.0.0 b.0.1 b.1) one.1, one.2);
  again = λ s x rest h.
      let a = from s x h in
      let front : byte_at (s ++ rest) ≡ Some (a.first, a.behind ++ rest) = ap (λ (t : List ℕ). byte_at (t ++ rest)) a.parts in
      rw front (a.read rest);
}

-- the byte was this one, or another
pub case_takes : {A : Type 0} (R : List ℕ → A → Type 0) (k b : ℕ) (bytes : List ℕ) (x : A) (rest : List ℕ) (same other : Option (A × List ℕ)) → cond (eqb b k) same other ≡ Some (x, rest)
    → (same ≡ Some (x, rest) → Behind R k bytes x rest) → (other ≡ Some (x, rest) → Behind R b bytes x rest) → Behind R b bytes x rest
case_takes {A} R k b bytes x rest same other e here there =
    elim (chosen (eqb b k) same other (Some (x, rest)) e) [
      | inl p ↦ subst (λ (j : ℕ). Behind R j bytes x rest) (sym (eqb-true b k p.0)) (here p.1)
      | inr p ↦ there p.1
    ]

-- the byte was this one, since nothing else is read
pub last_takes : {A : Type 0} (R : List ℕ → A → Type 0) (k b : ℕ) (bytes : List ℕ) (x : A) (rest : List ℕ) (same : Option (A × List ℕ)) → cond (eqb b k) same None ≡ Some (x, rest)
    → (same ≡ Some (x, rest) → Behind R k bytes x rest) → Behind R b bytes x rest
last_takes R k b bytes x rest same e here = case_takes R k b bytes x rest same None e here (λ none. absurd cc)

-- the byte stands for the value
pub alone_takes : {A : Type 0} (R : List ℕ → A → Type 0) (k : ℕ) (bytes : List ℕ) (x : A) (rest : List ℕ) (y : A) → ◌≡◌ {A = Option (A × List ℕ)} (Some (y, bytes)) (Some (x, rest)) → R (k ∷ []) y → Behind R k bytes x rest
alone_takes {A} R k bytes x rest y e spelled =
    subst (λ (z : A × List ℕ). Behind R k bytes z.0 z.1) (some_is (y, bytes) (x, rest) e) ([], refl, spelled)

-- a part follows the byte, of which the value is made
pub one_takes : {A B : Type 0} (R : List ℕ → A → Type 0) (k : ℕ) (bytes : List ℕ) (x : A) (rest : List ℕ) (P : List ℕ → B → Type 0) (p : Reader B) (make : B → A) → Reads P p
    → ◌≡◌ {A = Option (A × List ℕ)} (p bytes >>= λ y. Some (make y.0, y.1)) (Some (x, rest)) → ((s : List ℕ) (y : B) → P s y → R (k ∷ s) (make y)) → Behind R k bytes x rest
one_takes {A} R k bytes x rest P p make laws e to =
    let a = bind_some _ _ _ e in
    let one = laws.takes bytes a.0.0 a.0.1 a.1 in
    subst (λ (z : A × List ℕ). Behind R k bytes z.0 z.1) (some_is (make a.0.0, a.0.1) (x, rest) a.2) (one.0, one.1, to one.0 a.0.0 one.2)

-- the same where the part is the value
pub all_takes : {A : Type 0} (R : List ℕ → A → Type 0) (k : ℕ) (bytes : List ℕ) (x : A) (rest : List ℕ) (P : List ℕ → A → Type 0) (p : Reader A) → Reads P p
    → p bytes ≡ Some (x, rest) → ((s : List ℕ) → P s x → R (k ∷ s) x) → Behind R k bytes x rest
all_takes R k bytes x rest P p laws e to =
    let one = laws.takes bytes x rest e in
    (one.0, one.1, to one.0 one.2)

-- The byte stands for one of some values.
pub value_takes : {A : Type 0} (P : ℕ → A → Type 0) (k b : ℕ) (y x : A) (other : Option A) → cond (eqb b k) (Some y) other ≡ Some x → P k y → (other ≡ Some x → P b x) → P b x
value_takes P k b y x other e here there =
    elim (chosen (eqb b k) (Some y) other (Some x) e) [
      | inl p ↦ subst (P b) (some_is y x p.1) (subst (λ (j : ℕ). P j y) (sym (eqb-true b k p.0)) here)
      | inr p ↦ there p.1
    ]
