-- Reading one thing after another splits tokens as each of both does.
use Rattle.std.proofs.Common.{◌≡◌, ℕ, true, false, List, [], ◌∷◌, ◌++◌, Option, Some, None, option_map, Ok, Err, bytes_eq, inl, inr, refl, sym, ap, ◌∙◌, subst, append_assoc}
use Rattle.std.proofs.lemmas.Bool.{cases_Bool}
use Rattle.point_programs.specs.Reading.{LeftTokens, ReadOfTokens, then_reads, then_goes_past, after_token, token_read_as}
use Rattle.point_programs.proofs.TokenSplits.{same_bytes, SameHead, same_head_behind, empty_too, headed_too, outcome, Spelled, Split, SpellsSome, stuck}

-- ---- one after the other

module _ {A B : Type 0} (L : LeftTokens → A → Type 0) (M : A → LeftTokens → B → Type 0) (N : LeftTokens → B → Type 0) where
  -- what joins these: each first part goes on, and both parts together are whole
  pub record Joined : Type 0 where
    pub ends : (a : A) → SpellsSome (M a)
    pub joins : (front back : LeftTokens) (a : A) (b : B) → L front a → M a back b → N (front ++ back) b

  spelled_on : (j : Joined) (front back : LeftTokens) (a : A) (got : Option B) → L front a → Spelled (M a) got back → Spelled N got (front ++ back)
  spelled_on j front back a None h k = (k.0, k.1, subst (λ (ts : LeftTokens). N ts k.1) (sym (append_assoc front back k.0)) (j.joins front (back ++ k.0) a k.1 h k.2))
  spelled_on j front back a (Some b) h k = j.joins front back a b h k

  pub then_split : (read : LeftTokens → ReadOfTokens A) (next : A → LeftTokens → ReadOfTokens B) → Joined → (ts : LeftTokens) → Split read L ts → ((a : A) (rest : LeftTokens) → Split (next a) (M a) rest) → Split (λ us. then_reads (read us) next) N ts
  then_split read next j ts s more = go s.got s.spelled s.local
    where
      after : (a : A) → L s.front a → ((other : LeftTokens) → SameHead s.left other → read (s.front ++ other) ≡ Ok (a, other)) → Split (next a) (M a) s.left → Split (λ us. then_reads (read us) next) N ts
      after a h local k = record {
        front = s.front ++ k.front;
        left = k.left;
        got = k.got;
        parts = s.parts ∙ ap (λ (rest : LeftTokens). s.front ++ rest) k.parts ∙ sym (append_assoc s.front k.front k.left);
        spelled = spelled_on j s.front k.front a k.got h k.spelled;
        local = λ other same.
            ap (λ (us : LeftTokens). then_reads (read us) next) (append_assoc s.front k.front other)
            ∙ ap (λ (r : ReadOfTokens A). then_reads r next) (local (k.front ++ other) (subst (λ (rest : LeftTokens). SameHead rest (k.front ++ other)) (sym k.parts) (same_head_behind k.front k.left other same)))
            ∙ k.local other same;
      }

      go : (got : Option A) → Spelled L got s.front → ((other : LeftTokens) → SameHead s.left other → read (s.front ++ other) ≡ outcome got other) → Split (λ us. then_reads (read us) next) N ts
      go None h local =
          let e = j.ends h.1 in
          record {
            front = s.front;
            left = s.left;
            got = None;
            parts = s.parts;
            spelled = (h.0 ++ e.0, e.1, subst (λ (us : LeftTokens). N us e.1) (append_assoc s.front h.0 e.0) (j.joins (s.front ++ h.0) e.0 h.1 e.1 h.2 e.2));
            local = λ other same. ap (λ (r : ReadOfTokens A). then_reads r next) (local other same);
          }
      go (Some a) h local = after a h local (more a s.left)

-- ---- what was read, as something else

module _ {A B : Type 0} (L : LeftTokens → A → Type 0) (N : LeftTokens → B → Type 0) (f : A → B) where
  spelled_as : ((front : LeftTokens) (a : A) → L front a → N front (f a)) → (got : Option A) (front : LeftTokens) → Spelled L got front → Spelled N (option_map f got) front
  spelled_as as_it None front h = (h.0, f h.1, as_it (front ++ h.0) h.1 h.2)
  spelled_as as_it (Some a) front h = as_it front a h

  outcome_as : (got : Option A) (left : LeftTokens) → then_reads (outcome got left) (λ a rest. Ok (f a, rest)) ≡ outcome (option_map f got) left
  outcome_as None left = refl
  outcome_as (Some a) left = refl

  pub as_split : (read : LeftTokens → ReadOfTokens A) → ((front : LeftTokens) (a : A) → L front a → N front (f a)) → (ts : LeftTokens) → Split read L ts → Split (λ us. then_reads (read us) (λ a rest. Ok (f a, rest))) N ts
  as_split read as_it ts s = record {
    front = s.front;
    left = s.left;
    got = option_map f s.got;
    parts = s.parts;
    spelled = spelled_as as_it s.got s.front s.spelled;
    local = λ other same. ap (λ (r : ReadOfTokens A). then_reads r (λ a rest. Ok (f a, rest))) (s.local other same) ∙ outcome_as s.got other;
  }

  -- at the same place
  pub as_parted : (read : LeftTokens → ReadOfTokens A) (as_it : (front : LeftTokens) (a : A) → L front a → N front (f a)) (ts : LeftTokens) (s : Split read L ts)
      → ((as_split read as_it ts s).front ≡ s.front) × ((as_split read as_it ts s).left ≡ s.left)
  unfolding as_split
  as_parted read as_it ts s = (refl, refl)

-- ---- after a token

module _ {B : Type 0} (text : List ℕ) (M : LeftTokens → B → Type 0) (N : LeftTokens → B → Type 0) (more : (back : LeftTokens) (b : B) → M back b → N (text ∷ back) b) where
  spelled_behind : (got : Option B) (front : LeftTokens) → Spelled M got front → Spelled N got (text ∷ front)
  spelled_behind None front h = (h.0, h.1, more (front ++ h.0) h.1 h.2)
  spelled_behind (Some b) front h = more front b h

  -- where the token is taken, whatever reads after it
  pub behind_split : (read next : LeftTokens → ReadOfTokens B) → ((us : LeftTokens) → read (text ∷ us) ≡ next us) → (ts : LeftTokens) → Split next M ts → Split read N (text ∷ ts)
  behind_split read next takes ts s = record {
    front = text ∷ s.front;
    left = s.left;
    got = s.got;
    parts = ap (λ (us : LeftTokens). text ∷ us) s.parts;
    spelled = spelled_behind s.got s.front s.spelled;
    local = λ other same. takes (s.front ++ other) ∙ s.local other same;
  }

  some_behind : SpellsSome M → SpellsSome N
  some_behind some = (text ∷ some.0, some.1, more some.0 some.1 some.2)

  taken : (next : LeftTokens → ReadOfTokens B) (t : List ℕ) (ts : LeftTokens) → bytes_eq t text ≡ true → then_goes_past (after_token text (t ∷ ts)) next ≡ next ts
  taken next t ts e = rw e refl

  not_taken : (next : LeftTokens → ReadOfTokens B) (t : List ℕ) (ts : LeftTokens) → bytes_eq t text ≡ false → then_goes_past (after_token text (t ∷ ts)) next ≡ Err (t ∷ ts)
  not_taken next t ts e = rw e refl

  pub goes_split : (next : LeftTokens → ReadOfTokens B) → SpellsSome M → ((ts : LeftTokens) → Split next M ts) → (ts : LeftTokens) → Split (λ us. then_goes_past (after_token text us) next) N ts
  goes_split next some s [] = stuck _ N [] (some_behind some) (empty_too (λ other. then_goes_past (after_token text other) next ≡ Err other) refl)
  goes_split next some s (t ∷ ts) =
      elim (cases_Bool (bytes_eq t text)) [
        | inl e ↦ subst (λ (u : List ℕ). Split (λ us. then_goes_past (after_token text us) next) N (u ∷ ts)) (sym (same_bytes t text e)) (behind_split _ next (λ us. taken next text us (subst (λ (u : List ℕ). bytes_eq u text ≡ true) (same_bytes t text e) e)) ts (s ts))
        | inr e ↦ stuck _ N (t ∷ ts) (some_behind some) (headed_too (λ other. then_goes_past (after_token text other) next ≡ Err other) t ts (λ us. not_taken next t us e))
      ]

-- ---- a token with a meaning

-- a token that means this
abbrev pub Means : {A : Type 0} → (List ℕ → Option A) → LeftTokens → A → Type 0
Means meaning ts a = (t : List ℕ) × (ts ≡ t ∷ []) × (meaning t ≡ Some a)

pub token_split : {A : Type 0} (meaning : List ℕ → Option A) → SpellsSome (Means meaning) → (ts : LeftTokens) → Split (token_read_as meaning) (Means meaning) ts
token_split meaning some [] = stuck _ _ [] some (empty_too (λ other. token_read_as meaning other ≡ Err other) refl)
token_split {A} meaning some (t ∷ ts) = go (meaning t) refl
  where
    go : (o : Option A) → meaning t ≡ o → Split (token_read_as meaning) (Means meaning) (t ∷ ts)
    go None e = stuck _ _ (t ∷ ts) some (headed_too (λ other. token_read_as meaning other ≡ Err other) t ts (λ us. rw e refl))
    go (Some a) e = record { front = t ∷ []; left = ts; got = Some a; parts = refl; spelled = (t, refl, e); local = λ other same. rw e refl }
