-- How reading splits tokens: those that are read, or begin something, and those that are left. What is read does not
-- depend on tokens after the first one that is left.
use Rattle.std.proofs.Common.{◌≡◌, ℕ, true, List, [], ◌∷◌, ◌++◌, Option, Some, None, Ok, Err, bytes_eq, refl, sym, ap, ◌∙◌, subst}
use Rattle.std.proofs.lemmas.List.{append_cancel_right}
use Rattle.std.proofs.lemmas.Slice.Eq.{bytes_eq-Decides}
use Rattle.point_programs.specs.Reading.{LeftTokens, ReadOfTokens}

pub same_bytes : (a b : List ℕ) → bytes_eq a b ≡ true → a ≡ b
same_bytes a b e = (bytes_eq-Decides a b).0 e

-- both are empty, or they begin with the same token
abbrev pub SameHead : LeftTokens → LeftTokens → Type 0
SameHead [] [] = Unit {0}
SameHead [] (u ∷ us) = ⊥
SameHead (t ∷ ts) [] = ⊥
SameHead (t ∷ ts) (u ∷ us) = t ≡ u

same_head : (ts : LeftTokens) → SameHead ts ts
same_head [] = tt
same_head (t ∷ ts) = refl

pub same_head_behind : (front left other : LeftTokens) → SameHead left other → SameHead (front ++ left) (front ++ other)
same_head_behind [] left other h = h
same_head_behind (t ∷ front) left other h = refl

-- what holds of no tokens, or of all with this one in front, holds of what begins alike
pub empty_too : (P : LeftTokens → Type 0) → P [] → (other : LeftTokens) → SameHead [] other → P other
empty_too P p [] h = p
empty_too P p (u ∷ us) h = absurd h

pub headed_too : (P : LeftTokens → Type 0) (t : List ℕ) (ts : LeftTokens) → ((us : LeftTokens) → P (t ∷ us)) → (other : LeftTokens) → SameHead (t ∷ ts) other → P other
headed_too P t ts p [] h = absurd h
headed_too P t ts p (u ∷ us) h = subst (λ (v : List ℕ). P (v ∷ us)) h (p us)

-- the answer where this, or nothing, was read
abbrev pub outcome : {A : Type 0} → Option A → LeftTokens → ReadOfTokens A
outcome None left = Err left
outcome (Some a) left = Ok (a, left)

-- the tokens spell what was read, or begin something
abbrev pub Spelled : {A : Type 0} → (LeftTokens → A → Type 0) → Option A → LeftTokens → Type 0
Spelled {A} L None front = (more : LeftTokens) × (a : A) × L (front ++ more) a
Spelled L (Some a) front = L front a

-- how reading splits the tokens, where what it reads is spelled so
pub record Split {A : Type 0} (read : LeftTokens → ReadOfTokens A) (L : LeftTokens → A → Type 0) (ts : LeftTokens) : Type 0 where
  pub front : LeftTokens
  pub left : LeftTokens
  pub got : Option A
  pub parts : ts ≡ front ++ left
  pub spelled : Spelled L got front
  pub local : (other : LeftTokens) → SameHead left other → read (front ++ other) ≡ outcome got other

-- some tokens spell something
abbrev pub SpellsSome : {A : Type 0} → (LeftTokens → A → Type 0) → Type 0
SpellsSome {A} L = (more : LeftTokens) × (a : A) × L more a

-- nothing is read
pub stuck : {A : Type 0} (read : LeftTokens → ReadOfTokens A) (L : LeftTokens → A → Type 0) (ts : LeftTokens) → SpellsSome L → ((other : LeftTokens) → SameHead ts other → read other ≡ Err other) → Split read L ts
stuck read L ts some local = record { front = []; left = ts; got = None; parts = refl; spelled = some; local = local }

-- ---- a split is what is read

pub reads_so : {A : Type 0} {read : LeftTokens → ReadOfTokens A} {L : LeftTokens → A → Type 0} (ts : LeftTokens) (s : Split read L ts) → read ts ≡ outcome s.got s.left
reads_so {read} ts s = ap read s.parts ∙ s.local s.left (same_head s.left)

pub same_outcome : {A : Type 0} (got other : Option A) (left rest : LeftTokens) → outcome got left ≡ outcome other rest → (got ≡ other) × (left ≡ rest)
same_outcome None None left rest e = (refl, cc)
same_outcome None (Some b) left rest e = absurd cc
same_outcome (Some a) None left rest e = absurd cc
same_outcome {A} (Some a) (Some b) left rest e = let p : ◌≡◌ {A = A × LeftTokens} (a, left) (b, rest) = cc in (ap (λ q. Some q.0) p, ap (λ q. q.1) p)

module _ {A : Type 0} (read : LeftTokens → ReadOfTokens A) (L : LeftTokens → A → Type 0) where
  -- the split of these tokens where this is read of them
  pub split_at : ((ts : LeftTokens) → Split read L ts) → (ts left : LeftTokens) (got : Option A) → read ts ≡ outcome got left → (front : LeftTokens) × (ts ≡ front ++ left) × Spelled L got front
  split_at splits ts left got e =
      let s = splits ts in
      let same = same_outcome s.got got s.left left (sym (reads_so ts s) ∙ e) in
      (s.front, s.parts ∙ ap (λ (rest : LeftTokens). s.front ++ rest) same.1, subst (λ (o : Option A). Spelled L o s.front) same.0 s.spelled)

  pub local_of : ((ts : LeftTokens) → Split read L ts) → (front left other : LeftTokens) (got : Option A) → read (front ++ left) ≡ outcome got left → SameHead left other → read (front ++ other) ≡ outcome got other
  local_of splits front left other got e h =
      let s = splits (front ++ left) in
      let same = same_outcome s.got got s.left left (sym (reads_so (front ++ left) s) ∙ e) in
      let fronts : s.front ≡ front = append_cancel_right s.front front left (sym (s.parts ∙ ap (λ (rest : LeftTokens). s.front ++ rest) same.1)) in
      ap (λ (f : LeftTokens). read (f ++ other)) (sym fronts) ∙ s.local other (subst (λ (rest : LeftTokens). SameHead rest other) (sym same.1) h) ∙ ap (λ (o : Option A). outcome o other) same.0
