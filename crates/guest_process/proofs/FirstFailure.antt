-- Tests, options, and the first check that fails.
use Rattle.std.proofs.Common.{◌≡◌, ℕ, zero, suc, ◌+◌, ◌<◌, ◌≤◌, Bool, true, false, cond, ◌⊎◌, inl, inr, Option, Some, None, refl, sym, ap, ◌∙◌, arith, ⊎_elim}
use Rattle.std.specs.Prelude.{◌==◌, option_map}
use Rattle.std.proofs.lemmas.Bool.{cases_lt, eq-eqb}
use Rattle.guest_process.specs.declared.divergence.Divergence.{Divergence}
use Rattle.guest_process.specs.Legal.{EntryChecks, first_failing, unless_checked}
use Rattle.guest_process.specs.Live.{lowest_signal}

pub same : (n : ℕ) → (n == n) ≡ true
same n = eq-eqb n n refl

pub kept : {A : Type 0} (b : Bool) (x : Option A) (y : A) → cond b x None ≡ Some y → (b ≡ true) × (x ≡ Some y)
kept true x y h = (refl, h)
kept false x y h = cc

pub mapped : {A B : Type 0} (f : A → B) (o : Option A) (y : B) → option_map f o ≡ Some y → (x : A) × (o ≡ Some x) × (f x ≡ y)
mapped f None y h = cc
mapped f (Some x) y h = (x, refl, cc)

pub record Hold (c : EntryChecks) : Type 0 where
  pub call : c.call ≡ true
  pub arguments : c.arguments ≡ true
  pub bytes : c.bytes ≡ true
  pub reply : c.reply ≡ true
  pub handler : c.handler ≡ true
  pub clock : c.clock ≡ true

unless_true : (a : Bool) (d : Divergence) (rest : Option Divergence) → a ≡ true → rest ≡ None → unless_checked a d rest ≡ None
unless_true true d rest e r = r
unless_true false d rest e r = cc

pub unless_none : (b : Bool) (d : Divergence) (rest : Option Divergence) → unless_checked b d rest ≡ None → (b ≡ true) × (rest ≡ None)
unless_none true d rest h = (refl, h)
unless_none false d rest h = cc

pub none_failing : (c : EntryChecks) → Hold c → first_failing c ≡ None
none_failing c h =
    unless_true c.call _ _ h.call (unless_true c.arguments _ _ h.arguments (unless_true c.bytes _ _ h.bytes (unless_true c.reply _ _ h.reply (unless_true c.handler _ _ h.handler (unless_true c.clock _ _ h.clock refl)))))

pub all_hold : (c : EntryChecks) → first_failing c ≡ None → Hold c
all_hold c h =
    let call = unless_none c.call _ _ h in
    let arguments = unless_none c.arguments _ _ call.1 in
    let bytes = unless_none c.bytes _ _ arguments.1 in
    let reply = unless_none c.reply _ _ bytes.1 in
    let handler = unless_none c.handler _ _ reply.1 in
    let clock = unless_none c.clock _ _ handler.1 in
    record { call = call.0; arguments = arguments.0; bytes = bytes.0; reply = reply.0; handler = handler.0; clock = clock.0 }

pub lowest_holds : (p : ℕ → Bool) (n s : ℕ) → (lowest_signal p n s ≡ 0) ⊎ ((p (lowest_signal p n s) ≡ true) × (lowest_signal p n s < s + n))
unfolding lowest_signal
lowest_holds p zero s = inl refl
lowest_holds p (suc n) s =
    lowest_more p n s (p s) refl (lowest_holds p n (s + 1))
  where
    lowest_more : (p : ℕ → Bool) (n s : ℕ) (b : Bool) → p s ≡ b → ((lowest_signal p n (s + 1) ≡ 0) ⊎ ((p (lowest_signal p n (s + 1)) ≡ true) × (lowest_signal p n (s + 1) < (s + 1) + n))) → ((cond b s (lowest_signal p n (s + 1)) ≡ 0) ⊎ ((p (cond b s (lowest_signal p n (s + 1))) ≡ true) × (cond b s (lowest_signal p n (s + 1)) < s + suc n)))
    lowest_more p n s true e h = inr (e, omega arith)
    lowest_more p n s false e (inl h) = inl h
    lowest_more p n s false e (inr h) = inr (h.0, omega (arith, h.1))

-- it is not above another one at which p holds, and above 0 where there is one
pub lowest_least : (p : ℕ → Bool) (n s r : ℕ) → 1 ≤ s → s ≤ r → r < s + n → p r ≡ true → (1 ≤ lowest_signal p n s) × (lowest_signal p n s ≤ r)
unfolding lowest_signal
lowest_least p zero s r least from below is = absurd (omega arith)
lowest_least p (suc n) s r least from below is =
    by_test (p s) refl (λ past. lowest_least p n (s + 1) r (omega arith) past (omega arith) is)
  where
    by_test : (b : Bool) → p s ≡ b → (s + 1 ≤ r → (1 ≤ lowest_signal p n (s + 1)) × (lowest_signal p n (s + 1) ≤ r)) → (1 ≤ cond b s (lowest_signal p n (s + 1))) × (cond b s (lowest_signal p n (s + 1)) ≤ r)
    by_test true e later = (least, from)
    by_test false e later = later (⊎_elim (λ less. omega arith) (λ over. let at : r ≡ s = omega arith in absurd (let no : true ≡ false = sym is ∙ ap p at ∙ e in cc)) (cases_lt s r))
