-- Things with a sign between them are read as each of them is, whatever the bound on how many tokens there are.
use Rattle.std.proofs.Common.{◌≡◌, ℕ, zero, suc, ◌+◌, ◌<◌, ◌≤◌, true, List, [], ◌∷◌, ◌++◌, length, Some, Ok, Err, bytes_eq, if◌then◌else◌, inl, inr, refl, sym, ap, ◌∙◌, subst, append-nil, arith}
use Rattle.std.proofs.lemmas.Bool.{cases_Bool}
use Rattle.std.proofs.lemmas.List.{length-append}
use Rattle.point_programs.specs.Reading.{LeftTokens, ReadOfTokens, then_reads, then_more_items, separated_in, separated_items}
use Rattle.point_programs.proofs.TokenSplits.{same_bytes, empty_too, headed_too, outcome, Split, SpellsSome, stuck, reads_so, split_at, local_of}
use Rattle.point_programs.proofs.JoinedReading.{Joined, then_split, as_split, behind_split}

-- ---- the same from some reading on

pub then_same : {A B : Type 0} (r : ReadOfTokens A) (next other : A → LeftTokens → ReadOfTokens B) → ((a : A) (left : LeftTokens) → r ≡ Ok (a, left) → next a left ≡ other a left) → then_reads r next ≡ then_reads r other
then_same (Ok r) next other h = h r.0 r.1 refl
then_same (Err left) next other h = refl

-- what is left is no longer than what there was
abbrev pub Shortens : {A : Type 0} → (LeftTokens → ReadOfTokens A) → Type 0
Shortens {A} read = (ts left : LeftTokens) (a : A) → read ts ≡ Ok (a, left) → length left ≤ length ts

pub shortens : {A : Type 0} (read : LeftTokens → ReadOfTokens A) (L : LeftTokens → A → Type 0) → ((ts : LeftTokens) → Split read L ts) → Shortens read
shortens read L splits ts left a e =
    let s = split_at read L splits ts left (Some a) e in
    omega (arith, ap length s.1, length-append s.0 left)

-- what these read of no more tokens than so many is the same
abbrev pub AgreeTo : {A : Type 0} → ℕ → (LeftTokens → ReadOfTokens A) → (LeftTokens → ReadOfTokens A) → Type 0
AgreeTo n read other = (ts : LeftTokens) → length ts ≤ n → read ts ≡ other ts

-- ---- the bound

module _ {A : Type 0} (sign : List ℕ) where
  more_same : (rest other : LeftTokens → ReadOfTokens (List A)) (a : A) (ts : LeftTokens) → ((us : LeftTokens) → length us < length ts → rest us ≡ other us) → then_more_items sign rest a ts ≡ then_more_items sign other a ts
  more_same rest other a [] h = refl
  more_same rest other a (t ∷ ts) h = ap (λ (r : ReadOfTokens (List A)). if bytes_eq t sign then then_reads r (λ more left. Ok (a ∷ more, left)) else Ok (a ∷ [], t ∷ ts)) (h ts (omega arith))

  same_in : (one other : LeftTokens → ReadOfTokens A) → Shortens one → one [] ≡ Err [] → (n : ℕ) → AgreeTo n one other → (m k : ℕ) (ts : LeftTokens) → length ts ≤ m → length ts ≤ k → length ts ≤ n → separated_in sign one m ts ≡ separated_in sign other k ts
  same_in one other short none n h zero zero [] lm lk ln = refl
  same_in one other short none n h zero (suc k) [] lm lk ln = rw (sym (h [] (omega arith)) ∙ none) refl
  same_in one other short none n h zero k (t ∷ ts) lm lk ln = absurd (omega arith)
  same_in one other short none n h (suc m) zero [] lm lk ln = rw none refl
  same_in one other short none n h (suc m) zero (t ∷ ts) lm lk ln = absurd (omega arith)
  same_in one other short none n h (suc m) (suc k) ts lm lk ln =
      then_same (one ts) (then_more_items sign (separated_in sign one m)) (then_more_items sign (separated_in sign other k))
      (λ a left e.
      let le = short ts left a e in
      more_same (separated_in sign one m) (separated_in sign other k) a left (λ us lt. same_in one other short none n h m k us (omega arith) (omega arith) (omega arith)))
      ∙ ap (λ (r : ReadOfTokens A). then_reads r (then_more_items sign (separated_in sign other k))) (h ts ln)

  pub same_separated : (one other : LeftTokens → ReadOfTokens A) → Shortens one → one [] ≡ Err [] → (ts : LeftTokens) → AgreeTo (length ts) one other → separated_items sign one ts ≡ separated_items sign other ts
  same_separated one other short none ts h = same_in one other short none (length ts) h (length ts) (length ts) ts (omega arith) (omega arith) (omega arith)

-- ---- how lists split tokens

module _ {A : Type 0} (sign : List ℕ) (G : LeftTokens → A → Type 0) (L : LeftTokens → List A → Type 0) where
  -- what makes lists of things
  pub record Listed : Type 0 where
    pub some : SpellsSome G
    pub last : (a : LeftTokens) (i : A) → G a i → L a (i ∷ [])
    pub more : (a b : LeftTokens) (i : A) (is : List A) → G a i → L b is → L (a ++ sign ∷ b) (i ∷ is)

  -- what follows the first thing of a list
  data Behind (i : A) : LeftTokens → List A → Type 0 where
    nothing : Behind i [] (i ∷ [])
    others : {b : LeftTokens} {is : List A} → L b is → Behind i (sign ∷ b) (i ∷ is)

  joined : (listed : Listed) (a back : LeftTokens) (i : A) (is : List A) → G a i → Behind i back is → L (a ++ back) is
  joined listed a back i is h nothing = subst (λ (ts : LeftTokens). L ts (i ∷ [])) (sym (append-nil a)) (listed.last a i h)
  joined listed a back i is h (others {b} {is = more} k) = listed.more a b i more h k

  joins : Listed → Joined G Behind L
  joins listed = record { ends = λ i. ([], i ∷ [], nothing); joins = joined listed }

  module _ (one : LeftTokens → ReadOfTokens A) (listed : Listed) (splits : (ts : LeftTokens) → Split one G ts) where
    more_split : (rest : LeftTokens → ReadOfTokens (List A)) → ((ts : LeftTokens) → Split rest L ts) → (i : A) (ts : LeftTokens) → Split (then_more_items sign rest i) (Behind i) ts
    more_split rest s i [] = record { front = []; left = []; got = Some (i ∷ []); parts = refl; spelled = nothing; local = empty_too (λ us. then_more_items sign rest i us ≡ Ok (i ∷ [], us)) refl }
    more_split rest s i (t ∷ ts) =
        elim (cases_Bool (bytes_eq t sign)) [
          | inl e ↦
              let is = same_bytes t sign e in
              subst (λ (u : List ℕ). Split (then_more_items sign rest i) (Behind i) (u ∷ ts)) (sym is)
              (behind_split sign (λ b is. Behind i (sign ∷ b) is) (Behind i) (λ b is h. h) (then_more_items sign rest i) (λ us. then_reads (rest us) (λ more left. Ok (i ∷ more, left)))
              (λ us. let e' : bytes_eq sign sign ≡ true = subst (λ (u : List ℕ). bytes_eq u sign ≡ true) is e in rw e' refl) ts
              (as_split L (λ b is. Behind i (sign ∷ b) is) (λ is. i ∷ is) rest (λ b is h. others h) ts (s ts)))
          | inr e ↦ record { front = []; left = t ∷ ts; got = Some (i ∷ []); parts = refl; spelled = nothing; local = headed_too (λ us. then_more_items sign rest i us ≡ Ok (i ∷ [], us)) t ts (λ us. rw e refl) }
        ]

    split_in : (n : ℕ) (ts : LeftTokens) → Split (separated_in sign one n) L ts
    split_in zero ts = stuck _ L ts (listed.some.0, listed.some.1 ∷ [], listed.last listed.some.0 listed.some.1 listed.some.2) (λ us same. refl)
    split_in (suc n) ts = then_split G Behind L one (then_more_items sign (separated_in sign one n)) (joins listed) ts (splits ts) (more_split (separated_in sign one n) (split_in n))

    pub separated_split : one [] ≡ Err [] → (ts : LeftTokens) → Split (separated_items sign one) L ts
    separated_split none ts =
        let s = split_in (length ts) ts in
        let same : (n : ℕ) (us : LeftTokens) → length us ≤ n → separated_items sign one us ≡ separated_in sign one n us = λ n us le. same_in sign one one (shortens one G splits) none n (λ vs l. refl) (length us) n us (omega arith) le le in
        record {
          front = s.front;
          left = s.left;
          got = s.got;
          parts = s.parts;
          spelled = s.spelled;
          local = λ other h.
              let n = length ts + length (s.front ++ other) in
              let here : separated_in sign one n (s.front ++ s.left) ≡ outcome s.got s.left = ap (separated_in sign one n) (sym s.parts) ∙ sym (same n ts (omega arith)) ∙ reads_so ts s in
              same n (s.front ++ other) (omega arith) ∙ local_of (separated_in sign one n) L (split_in n) s.front s.left other s.got here h;
        }
