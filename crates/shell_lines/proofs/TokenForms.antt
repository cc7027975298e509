-- Commands that are read token by token: which tokens they are, and where other tokens stop to begin one.
use Rattle.std.proofs.Common.{◌≡◌, ℕ, zero, suc, ◌+◌, ◌<◌, ◌≤◌, Bool, true, false, cond, nat_le, List, [], ◌∷◌, ◌++◌, length, take, Option, Some, None, Result, Ok, Err, inl, inr, refl, sym, ap, ◌∙◌, subst, append_assoc, arith}
use Rattle.std.proofs.lemmas.Bool.Decides.{leb_tells}
use Rattle.std.proofs.lemmas.List.{length-append}
use Rattle.std.specs.Prelude.{slice_get, option_and_then}
use Rattle.shell_lines.specs.Lines.{LineCommand, ends_at, or_at, then_takes, token_at}

abbrev pub Tokens : Type 0
Tokens = List (List ℕ)

-- ---- which tokens are a command

-- none
abbrev pub Ends : LineCommand → Tokens → LineCommand → Type 0
Ends command [] c = command ≡ c
Ends command (t ∷ ts) c = ⊥

-- one with a meaning, and after it those that the meaning asks for
abbrev pub Then : {A : Type 0} → (List ℕ → Option A) → (A → Tokens → LineCommand → Type 0) → Tokens → LineCommand → Type 0
Then meaning next [] c = ⊥
Then {A} meaning next (t ∷ ts) c = (a : A) × (meaning t ≡ Some a) × next a ts c

-- The tokens are none such. The first n of them begin some, and no more of them do.
pub record Stop (R : Tokens → LineCommand → Type 0) (ts : Tokens) (n : ℕ) : Type 0 where
  pub within : n ≤ length ts
  pub more : Tokens
  pub whole : LineCommand
  pub begins : R (take n ts ++ more) whole
  pub longest : n < length ts → (more : Tokens) (c : LineCommand) → R (take (suc n) ts ++ more) c → ⊥

-- what f reads after so many tokens
pub record Form (k : ℕ) (f : Tokens → Result LineCommand ℕ) (R : Tokens → LineCommand → Type 0) : Type 0 where
  pub spells : (front rest : Tokens) (c : LineCommand) → length front ≡ k → f (front ++ rest) ≡ Ok c → R rest c
  pub reads : (front rest : Tokens) (c : LineCommand) → length front ≡ k → R rest c → f (front ++ rest) ≡ Ok c
  pub stops : (front rest : Tokens) (n : ℕ) → length front ≡ k → f (front ++ rest) ≡ Err n → (m : ℕ) × (n ≡ k + m) × Stop R rest m
  pub some : (rest : Tokens) × (c : LineCommand) × R rest c

-- the same function, and the same tokens
pub as_form : {k : ℕ} {f : Tokens → Result LineCommand ℕ} {R : Tokens → LineCommand → Type 0} (g : Tokens → Result LineCommand ℕ) → ((ts : Tokens) → g ts ≡ f ts) → Form k f R → Form k g R
as_form g same form = record {
  spells = λ front rest c here e. form.spells front rest c here (sym (same (front ++ rest)) ∙ e);
  reads = λ front rest c here r. same (front ++ rest) ∙ form.reads front rest c here r;
  stops = λ front rest n here e. form.stops front rest n here (sym (same (front ++ rest)) ∙ e);
  some = form.some;
}

-- the same function, and the same tokens in other words
pub retold : {k : ℕ} {f : Tokens → Result LineCommand ℕ} {R S : Tokens → LineCommand → Type 0} → ((ts : Tokens) (c : LineCommand) → R ts c → S ts c)
    → ((ts : Tokens) (c : LineCommand) → S ts c → R ts c) → Form k f R → Form k f S
retold to from form = record {
  spells = λ front rest c here e. to rest c (form.spells front rest c here e);
  reads = λ front rest c here r. form.reads front rest c here (from rest c r);
  stops = λ front rest n here e.
      let s = form.stops front rest n here e in (
        s.0,
        s.1,
        record {
          within = s.2.within;
          more = s.2.more;
          whole = s.2.whole;
          begins = to (take s.0 rest ++ s.2.more) s.2.whole s.2.begins;
          longest = λ lt more c r. s.2.longest lt more c (from (take (suc s.0) rest ++ more) c r);
        },
      );
  some = (form.some.0, form.some.1, to form.some.0 form.some.1 form.some.2);
}

-- ---- no token more

ends_here : (front : Tokens) (k : ℕ) → length front ≡ k → nat_le (length (front ++ [])) k ≡ true
ends_here front k here = elim (leb_tells (length (front ++ [])) k) [ inl t ↦ t.0 | inr f ↦ absurd (omega (arith, f.1, here, length-append front [])) ]

pub goes_on : (front rest : Tokens) (t : List ℕ) (k : ℕ) → length front ≡ k → nat_le (length (front ++ t ∷ rest)) k ≡ false
goes_on front rest t k here = elim (leb_tells (length (front ++ t ∷ rest)) k) [ inl e ↦ absurd (omega (arith, e.1, here, length-append front (t ∷ rest))) | inr f ↦ f.0 ]

module _ (k : ℕ) (command : LineCommand) where
  ended : (front : Tokens) → length front ≡ k → ends_at (front ++ []) k command ≡ Ok command
  ended front here = ap (λ (b : Bool). cond b (Ok command) (Err k)) (ends_here front k here)

  not_ended : (front rest : Tokens) (t : List ℕ) → length front ≡ k → ends_at (front ++ t ∷ rest) k command ≡ Err k
  not_ended front rest t here = ap (λ (b : Bool). cond b (Ok command) (Err k)) (goes_on front rest t k here)

  ends_spells : (front rest : Tokens) (c : LineCommand) → length front ≡ k → ends_at (front ++ rest) k command ≡ Ok c → Ends command rest c
  ends_spells front [] c here e = let same : ◌≡◌ {A = Result LineCommand ℕ} (Ok command) (Ok c) = sym (ended front here) ∙ e in cc
  ends_spells front (t ∷ rest) c here e = let never : ◌≡◌ {A = Result LineCommand ℕ} (Err k) (Ok c) = sym (not_ended front rest t here) ∙ e in cc

  ends_reads : (front rest : Tokens) (c : LineCommand) → length front ≡ k → Ends command rest c → ends_at (front ++ rest) k command ≡ Ok c
  ends_reads front [] c here r = ended front here ∙ ap (λ (d : LineCommand). Ok d) r
  ends_reads front (t ∷ rest) c here r = absurd r

  ends_stops : (front rest : Tokens) (n : ℕ) → length front ≡ k → ends_at (front ++ rest) k command ≡ Err n → (m : ℕ) × (n ≡ k + m) × Stop (Ends command) rest m
  ends_stops front [] n here e = let never : ◌≡◌ {A = Result LineCommand ℕ} (Ok command) (Err n) = sym (ended front here) ∙ e in absurd cc
  ends_stops front (t ∷ rest) n here e =
      let there : ◌≡◌ {A = Result LineCommand ℕ} (Err k) (Err n) = sym (not_ended front rest t here) ∙ e in
      let same : k ≡ n = cc in
      (0, omega (arith, same), record { within = omega arith; more = []; whole = command; begins = refl; longest = λ lt more c r. r })

  pub ends_form : Form k (λ ts. ends_at ts k command) (Ends command)
  ends_form = record { spells = ends_spells; reads = ends_reads; stops = ends_stops; some = ([], command, refl) }

-- ---- a token with a meaning

here_is : (front rest : Tokens) (t : List ℕ) (k : ℕ) → length front ≡ k → slice_get (front ++ t ∷ rest) k ≡ Some t
here_is [] rest t zero here = refl
here_is [] rest t (suc k) here = absurd (omega (arith, here))
here_is (u ∷ front) rest t zero here = absurd (omega (arith, here))
here_is (u ∷ front) rest t (suc k) here = here_is front rest t k (omega (arith, here))

none_here : (front : Tokens) (k : ℕ) → length front ≡ k → slice_get (front ++ []) k ≡ None
none_here [] k here = refl
none_here (u ∷ front) zero here = absurd (omega (arith, here))
none_here (u ∷ front) (suc k) here = none_here front k (omega (arith, here))

module _ (A : Type 0) (meaning : List ℕ → Option A) (next : A → Tokens → Result LineCommand ℕ) (k : ℕ) (R : A → Tokens → LineCommand → Type 0) where
  abbrev reader : Tokens → Result LineCommand ℕ
  reader ts = then_takes (token_at meaning ts k) (λ a. next a ts)

  none_left : (front : Tokens) → length front ≡ k → reader (front ++ []) ≡ Err k
  none_left front here = ap (λ (o : Option (List ℕ)). then_takes (or_at k (option_and_then meaning o)) (λ a. next a (front ++ []))) (none_here front k here)

  one_left : (front rest : Tokens) (t : List ℕ) (o : Option A) → length front ≡ k → meaning t ≡ o → reader (front ++ t ∷ rest) ≡ then_takes (or_at k o) (λ a. next a (front ++ t ∷ rest))
  one_left front rest t o here means =
      ap (λ (o : Option (List ℕ)). then_takes (or_at k (option_and_then meaning o)) (λ a. next a (front ++ t ∷ rest))) (here_is front rest t k here)
      ∙ ap (λ (o : Option A). then_takes (or_at k o) (λ a. next a (front ++ t ∷ rest))) means

  taken : (front rest : Tokens) (t : List ℕ) (a : A) → length front ≡ k → meaning t ≡ Some a → reader (front ++ t ∷ rest) ≡ next a ((front ++ t ∷ []) ++ rest)
  taken front rest t a here means = one_left front rest t (Some a) here means ∙ ap (next a) (sym (append_assoc front (t ∷ []) rest))

  longer : (front : Tokens) (t : List ℕ) → length front ≡ k → length (front ++ t ∷ []) ≡ suc k
  longer front t here = omega (arith, length-append front (t ∷ []), here)

  module _ (each : (a : A) → Form (suc k) (next a) (R a)) where
    then_spells : (front rest : Tokens) (c : LineCommand) → length front ≡ k → reader (front ++ rest) ≡ Ok c → Then meaning R rest c
    then_spells front [] c here e = let never : ◌≡◌ {A = Result LineCommand ℕ} (Err k) (Ok c) = sym (none_left front here) ∙ e in cc
    then_spells front (t ∷ rest) c here e = by (meaning t) refl
      where
        by : (o : Option A) → meaning t ≡ o → Then meaning R (t ∷ rest) c
        by None means = let never : ◌≡◌ {A = Result LineCommand ℕ} (Err k) (Ok c) = sym (one_left front rest t None here means) ∙ e in absurd cc
        by (Some a) means = (a, means, (each a).spells (front ++ t ∷ []) rest c (longer front t here) (sym (taken front rest t a here means) ∙ e))

    then_reads : (front rest : Tokens) (c : LineCommand) → length front ≡ k → Then meaning R rest c → reader (front ++ rest) ≡ Ok c
    then_reads front [] c here r = absurd r
    then_reads front (t ∷ rest) c here r = taken front rest t r.0 here r.1 ∙ (each r.0).reads (front ++ t ∷ []) rest c (longer front t here) r.2

    module _ (sample : List ℕ) (a : A) (means_it : meaning sample ≡ Some a) where
      some_more : (rest : Tokens) × (c : LineCommand) × Then meaning R rest c
      some_more = (sample ∷ (each a).some.0, (each a).some.1, (a, means_it, (each a).some.2))

      -- a token that means nothing here
      stops_here : (t : List ℕ) (rest : Tokens) → meaning t ≡ None → Stop (Then meaning R) (t ∷ rest) 0
      stops_here t rest means = record {
        within = omega arith;
        more = some_more.0;
        whole = some_more.1;
        begins = some_more.2;
        longest = λ lt more c r. let never : ◌≡◌ {A = Option A} (Some r.0) None = sym r.1 ∙ means in cc;
      }

      -- one that has its meaning, and those after it stop
      stops_behind : (t : List ℕ) (rest : Tokens) (b : A) (m : ℕ) → meaning t ≡ Some b → Stop (R b) rest m → Stop (Then meaning R) (t ∷ rest) (suc m)
      stops_behind t rest b m means s = record {
        within = omega (arith, s.within);
        more = s.more;
        whole = s.whole;
        begins = (b, means, s.begins);
        longest = λ lt more c r.
            let both : ◌≡◌ {A = Option A} (Some r.0) (Some b) = sym r.1 ∙ means in
            let same : r.0 ≡ b = cc in
            s.longest (omega (arith, lt)) more c (subst (λ (d : A). R d (take (suc m) rest ++ more) c) same r.2);
      }

      then_stops : (front rest : Tokens) (n : ℕ) → length front ≡ k → reader (front ++ rest) ≡ Err n → (m : ℕ) × (n ≡ k + m) × Stop (Then meaning R) rest m
      then_stops front [] n here e =
          let there : ◌≡◌ {A = Result LineCommand ℕ} (Err k) (Err n) = sym (none_left front here) ∙ e in
          let same : k ≡ n = cc in
          (0, omega (arith, same), record { within = omega arith; more = some_more.0; whole = some_more.1; begins = some_more.2; longest = λ lt. absurd (omega (arith, lt)) })
      then_stops front (t ∷ rest) n here e = by (meaning t) refl
        where
          by : (o : Option A) → meaning t ≡ o → (m : ℕ) × (n ≡ k + m) × Stop (Then meaning R) (t ∷ rest) m
          by None means =
              let there : ◌≡◌ {A = Result LineCommand ℕ} (Err k) (Err n) = sym (one_left front rest t None here means) ∙ e in
              let same : k ≡ n = cc in
              (0, omega (arith, same), stops_here t rest means)
          by (Some b) means =
              let s = (each b).stops (front ++ t ∷ []) rest n (longer front t here) (sym (taken front rest t b here means) ∙ e) in
              (suc s.0, omega (arith, s.1), stops_behind t rest b s.0 means s.2)

      pub then_form : Form k (λ ts. then_takes (token_at meaning ts k) (λ a. next a ts)) (Then meaning R)
      then_form = record { spells = then_spells; reads = then_reads; stops = then_stops; some = some_more }

-- ---- none, or some

-- no token, or these
abbrev pub Maybe : LineCommand → (Tokens → LineCommand → Type 0) → Tokens → LineCommand → Type 0
Maybe absent R [] c = absent ≡ c
Maybe absent R (t ∷ ts) c = R (t ∷ ts) c

module _ (k : ℕ) (absent : LineCommand) (f : Tokens → Result LineCommand ℕ) (R : Tokens → LineCommand → Type 0) (some_token : (c : LineCommand) → R [] c → ⊥) (form : Form k f R) where
  abbrev maybe_reader : Tokens → Result LineCommand ℕ
  maybe_reader ts = cond (nat_le (length ts) k) (Ok absent) (f ts)

  these_too : (ts : Tokens) (c : LineCommand) → R ts c → Maybe absent R ts c
  these_too [] c r = absurd (some_token c r)
  these_too (t ∷ ts) c r = r

  left_out : (front : Tokens) → length front ≡ k → maybe_reader (front ++ []) ≡ Ok absent
  left_out front here = ap (λ (b : Bool). cond b (Ok absent) (f (front ++ []))) (ends_here front k here)

  there_is : (front rest : Tokens) (t : List ℕ) → length front ≡ k → maybe_reader (front ++ t ∷ rest) ≡ f (front ++ t ∷ rest)
  there_is front rest t here = ap (λ (b : Bool). cond b (Ok absent) (f (front ++ t ∷ rest))) (goes_on front rest t k here)

  maybe_spells : (front rest : Tokens) (c : LineCommand) → length front ≡ k → maybe_reader (front ++ rest) ≡ Ok c → Maybe absent R rest c
  maybe_spells front [] c here e = let same : ◌≡◌ {A = Result LineCommand ℕ} (Ok absent) (Ok c) = sym (left_out front here) ∙ e in cc
  maybe_spells front (t ∷ rest) c here e = form.spells front (t ∷ rest) c here (sym (there_is front rest t here) ∙ e)

  maybe_reads : (front rest : Tokens) (c : LineCommand) → length front ≡ k → Maybe absent R rest c → maybe_reader (front ++ rest) ≡ Ok c
  maybe_reads front [] c here r = left_out front here ∙ ap (λ (d : LineCommand). Ok d) r
  maybe_reads front (t ∷ rest) c here r = there_is front rest t here ∙ form.reads front (t ∷ rest) c here r

  maybe_stops : (front rest : Tokens) (n : ℕ) → length front ≡ k → maybe_reader (front ++ rest) ≡ Err n → (m : ℕ) × (n ≡ k + m) × Stop (Maybe absent R) rest m
  maybe_stops front [] n here e = let never : ◌≡◌ {A = Result LineCommand ℕ} (Ok absent) (Err n) = sym (left_out front here) ∙ e in absurd cc
  maybe_stops front (t ∷ rest) n here e =
      let s = form.stops front (t ∷ rest) n here (sym (there_is front rest t here) ∙ e) in (
        s.0,
        s.1,
        record {
          within = s.2.within;
          more = s.2.more;
          whole = s.2.whole;
          begins = these_too (take s.0 (t ∷ rest) ++ s.2.more) s.2.whole s.2.begins;
          longest = s.2.longest;
        },
      )

  pub maybe_form : Form k (λ ts. cond (nat_le (length ts) k) (Ok absent) (f ts)) (Maybe absent R)
  maybe_form = record { spells = maybe_spells; reads = maybe_reads; stops = maybe_stops; some = ([], absent, refl) }
