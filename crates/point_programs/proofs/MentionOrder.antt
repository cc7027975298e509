-- What is mentioned comes after what was there.
use Rattle.std.proofs.Common.{◌≡◌, ℕ, Bool, true, false, cond, ◌||◌, List, [], ◌∷◌, ◌++◌, length, take, Option, None, Result, Ok, Err, OnOk, ℤ, refl, sym, ap, ◌∙◌, true≢false}
use Rattle.std.proofs.Math.Seq.{take-append_seam, take-length}
use Rattle.std.proofs.lemmas.List.{append-nil, append_assoc}
use Rattle.std.specs.Prelude.{OnErr, bytes_eq}
use Rattle.point_programs.specs.Variables.{Variable, is_mentioned, mention, mention_all, with_value}

-- names in two parts
pub mention_all_append : (vs : List Variable) (names more : List (List ℕ)) → mention_all vs (names ++ more) ≡ mention_all (mention_all vs names) more
mention_all_append vs [] more = refl
mention_all_append vs (name ∷ names) more = mention_all_append (mention vs name) names more

-- a variable that was not mentioned comes last
last_or : (b m : Bool) (v : Variable) (w : Variable) (vs us more : List Variable)
    → (b || m) ≡ false → (m ≡ false → us ≡ vs ++ more) → cond b (w ∷ vs) (v ∷ us) ≡ (v ∷ vs) ++ more
last_or true m v w vs us more h rest = absurd (true≢false h)
last_or false m v w vs us more h rest = ap (λ (ws : List Variable). v ∷ ws) (rest h)

comes_last : (vs : List Variable) (name : List ℕ) (value : Option ℤ) → is_mentioned vs name ≡ false → with_value vs name value ≡ vs ++ (name, value) ∷ []
comes_last [] name value h = refl
comes_last (v ∷ vs) name value h =
    last_or (bytes_eq v.0 name) (is_mentioned vs name) v (v.0, value) vs (with_value vs name value) ((name, value) ∷ []) h (comes_last vs name value)

-- such a one is mentioned where it is set to undef
pub set_mentions : (vs : List Variable) (name : List ℕ) → is_mentioned vs name ≡ false → with_value vs name None ≡ mention vs name
set_mentions vs name h = comes_last vs name None h ∙ sym (ap (λ (b : Bool). cond b vs (vs ++ (name, None) ∷ [])) h)

-- what a name adds
abbrev added : List Variable → List ℕ → List Variable
added vs name = cond (is_mentioned vs name) [] ((name, None) ∷ [])

mention-adds : (vs : List Variable) (name : List ℕ) → mention vs name ≡ vs ++ added vs name
mention-adds vs name = by (is_mentioned vs name)
  where
    by : (b : Bool) → cond b vs (vs ++ (name, None) ∷ []) ≡ vs ++ cond b [] ((name, None) ∷ [])
    by true = sym (append-nil vs)
    by false = refl

-- what names add
mention_all-adds : (vs : List Variable) (names : List (List ℕ)) → (more : List Variable) × (mention_all vs names ≡ vs ++ more)
mention_all-adds vs [] = ([], sym (append-nil vs))
mention_all-adds vs (name ∷ names) =
    let rest = mention_all-adds (mention vs name) names in
    (added vs name ++ rest.0, rest.1 ∙ ap (λ (us : List Variable). us ++ rest.0) (mention-adds vs name) ∙ append_assoc vs (added vs name) rest.0)

-- what was there stays in front
pub front_stays : (vs : List Variable) (names : List (List ℕ)) → take (length vs) (mention_all vs names) ≡ vs
front_stays vs names =
    let adds = mention_all-adds vs names in
    ap (take (length vs)) adds.1 ∙ take-append_seam vs adds.0

-- what a name adds comes after it too
pub mention_front : (vs : List Variable) (name : List ℕ) → take (length vs) (mention vs name) ≡ vs
mention_front vs name = front_stays vs (name ∷ [])

-- what stays in front of a list that stays in front stays there
pub front_of : {A : Type 0} (a b c : List A) → take (length a) b ≡ a → take (length b) c ≡ b → take (length a) c ≡ a
front_of [] b c h k = refl
front_of (x ∷ a) [] c h k = absurd cc
front_of (x ∷ a) (y ∷ b) [] h k = absurd cc
front_of (x ∷ a) (y ∷ b) (z ∷ c) h k =
    let first : z ≡ x = cc in
    let in_b : take (length a) b ≡ a = cc in
    let in_c : take (length b) c ≡ b = cc in
    let rest : take (length a) c ≡ a = front_of a b c in_b in_c in
    ap (λ (w : _). w ∷ take (length a) c) first ∙ ap (λ (ws : List _). x ∷ ws) rest

-- what a call keeps in front, where at an error it keeps all
pub front_kept : {T E : Type 0} (r : Result T E) (old new all : List Variable) → OnOk r (new ≡ all) → OnErr r (new ≡ old) → take (length old) all ≡ old → take (length old) new ≡ old
front_kept (Ok a) old new all ok err front = ap (take (length old)) ok ∙ front
front_kept (Err e) old new all ok err front = ap (take (length old)) err ∙ take-length old

pub where_err : {T E : Type 0} (P : Type 0) (r : Result T E) → P → OnErr r P
where_err P (Ok a) p = tt
where_err P (Err e) p = p
