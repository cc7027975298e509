-- The world around a process, before and after what brings one of its events about.
use Rattle.std.proofs.Common.{◌≡◌, ℕ, ◌+◌, ◌≤◌, Bool, true, false, ◌&&◌, List, [], ◌∷◌, ◌++◌, length, length-append, drop, refl, ap, sym, subst, ◌∙◌, arith}
use Rattle.std.specs.Prelude.{◌==◌, if◌then◌else◌}
use Rattle.std.proofs.lemmas.Bool.{eq-eqb, eqb-true, ne_eqb}
use Rattle.std.proofs.Math.Seq.{drop-append_seam}
use Rattle.lib_calls.specs.declared.entry.Entry.{Entry}
use Rattle.lib_calls.specs.Answer.{answer_of}
use Rattle.lib_calls.specs.Traffic.{drawn, is_taken}
use Rattle.guest_process.specs.Live.{Env}
use Rattle.guest_process.specs.OneEvent.{WorldBrings, WorldSupplies}
use Rattle.group_record.specs.Run.{RunStep, history_of_steps, world_around}
use Rattle.schedule_back.specs.Laws.{NothingWaits}
use Rattle.group_world.specs.History.{Event, Inject, Clock, Random, Signal, History, given, is_killed, is_pending, mailbox, one_if, pool, put_last_if, supplied_bytes, taken_count, time, used_count}

-- a process took all datagrams and all random bytes that came for it, no signal is pending at it, and it was not killed
pub record IsQuiet (count : ℕ) (h : History) (p : ℕ) : Type 0 where
  pub datagrams : taken_count h p ≡ length (given count h p)
  pub bytes : used_count h p ≡ length (supplied_bytes h p)
  pub signals : (s : ℕ) → 1 ≤ s → is_pending h p s ≡ false
  pub alive : is_killed h p ≡ false

abbrev pub AreQuiet : ℕ → History → Type 0
AreQuiet count h = (p : ℕ) → IsQuiet count h p

-- at each process but p it is so
abbrev pub OthersQuiet : ℕ → History → ℕ → Type 0
OthersQuiet count h p = (q : ℕ) → (p == q) ≡ false → IsQuiet count h q

-- the world around a process
abbrev pub env_around : ℕ → History → ℕ → Env
env_around count h p = record {
  mailbox = mailbox count h p;
  pool = pool h p;
  time = time h p;
  pending = is_pending h p;
  killed = is_killed h p;
}

-- what the answer of an event of process p takes came for it, and nothing else: in each world that has these datagrams,
-- these random bytes and this time
pub record IsGiven (count : ℕ) (h : History) (p : ℕ) (e : Entry) : Type 0 where
  pub datagrams : taken_count h p + one_if (is_taken e) ≡ length (given count h p)
  pub bytes : used_count h p + drawn e ≡ length (supplied_bytes h p)
  pub signals : (s : ℕ) → 1 ≤ s → is_pending h p s ≡ false
  pub alive : is_killed h p ≡ false
  pub others : OthersQuiet count h p
  pub brings : (env : Env) → env.mailbox ≡ mailbox count h p → env.pool ≡ pool h p → env.time ≡ time h p → WorldBrings e.call.kind (answer_of e) env

-- and of the signals that one is pending which the event delivers
pub record IsReady (count : ℕ) (h : History) (p : ℕ) (e : Entry) : Type 0 where
  pub datagrams : taken_count h p + one_if (is_taken e) ≡ length (given count h p)
  pub bytes : used_count h p + drawn e ≡ length (supplied_bytes h p)
  pub others : OthersQuiet count h p
  pub pending : (s : ℕ) → 1 ≤ s → is_pending h p s ≡ (s == e.signal)
  pub alive : is_killed h p ≡ false
  pub supplies : WorldSupplies e (env_around count h p)

pub itself : (p : ℕ) → (p == p) ≡ true
itself p = eq-eqb p p refl

turned : (a b : ℕ) → (a == b) ≡ (b == a)
turned a b = by_test (a == b) refl where
  by_test : (t : Bool) → (a == b) ≡ t → (a == b) ≡ (b == a)
  by_test true is = is ∙ sym (eq-eqb b a (sym (eqb-true a b is)))
  by_test false is = is ∙ sym (ne_eqb b a (λ same. absurd (differ (sym is ∙ eq-eqb a b (sym same))))) where
    differ : false ≡ true → ⊥
    differ wrong = cc

all_gone : {A : Type 0} (xs : List A) → drop (length xs) xs ≡ []
all_gone [] = refl
all_gone (x ∷ xs) = all_gone xs

pub nothing_waits : (count : ℕ) (steps : List RunStep) (p : ℕ) → IsQuiet count (history_of_steps steps) p → NothingWaits (world_around count steps p)
nothing_waits count steps p q = record {
  datagrams = ap (λ n. drop n (given count (history_of_steps steps) p)) q.datagrams ∙ all_gone (given count (history_of_steps steps) p);
  bytes = ap (λ n. drop n (supplied_bytes (history_of_steps steps) p)) q.bytes ∙ all_gone (supplied_bytes (history_of_steps steps) p);
  signals = q.signals;
  alive = q.alive;
}

-- ---- an event

-- after the event all is quiet again
pub quiet_after : (count : ℕ) (h : History) (p : ℕ) (e : Entry) → IsReady count h p e → AreQuiet count (Event p e ∷ h)
quiet_after count h p e ready q = by_test (p == q) refl where
  signal_gone : (s : ℕ) → 1 ≤ s → (if (p == p) && (e.signal == s) then false else is_pending h p s) ≡ false
  signal_gone s first = ap (λ b. if b && (e.signal == s) then false else is_pending h p s) (itself p) ∙ by_signal (e.signal == s) refl where
    by_signal : (t : Bool) → (e.signal == s) ≡ t → (if t then false else is_pending h p s) ≡ false
    by_signal true is = refl
    by_signal false is = ready.pending s first ∙ turned s e.signal ∙ is

  at_p : IsQuiet count (Event p e ∷ h) p
  at_p = record {
    datagrams = ap (λ b. taken_count h p + one_if (b && is_taken e)) (itself p) ∙ ready.datagrams;
    bytes = ap (λ b. if b then used_count h p + drawn e else used_count h p) (itself p) ∙ ready.bytes;
    signals = signal_gone;
    alive = ready.alive;
  }

  no_more : (n : ℕ) → n + 0 ≡ n
  no_more n = omega arith

  at_other : (p == q) ≡ false → IsQuiet count (Event p e ∷ h) q
  at_other other =
      let quiet = ready.others q other in
      record {
        datagrams = ap (λ b. taken_count h q + one_if (b && is_taken e)) other ∙ no_more (taken_count h q) ∙ quiet.datagrams;
        bytes = ap (λ b. if b then used_count h q + drawn e else used_count h q) other ∙ quiet.bytes;
        signals = λ s first. ap (λ b. if b && (e.signal == s) then false else is_pending h q s) other ∙ quiet.signals s first;
        alive = quiet.alive;
      }

  by_test : (t : Bool) → (p == q) ≡ t → IsQuiet count (Event p e ∷ h) q
  by_test true same = subst (IsQuiet count (Event p e ∷ h)) (eqb-true p q same) at_p
  by_test false other = at_other other

-- ---- a signal

-- an event that delivers no signal
pub ready_without : (count : ℕ) (h : History) (p : ℕ) (e : Entry) → IsGiven count h p e → (e.signal == 0) ≡ true → IsReady count h p e
ready_without count h p e g none =
    let pending : (s : ℕ) → 1 ≤ s → is_pending h p s ≡ (s == e.signal) = λ s first. g.signals s first ∙ sym (ne_eqb s e.signal (λ same. omega (arith, first, same, eqb-true e.signal 0 none))) in
    record {
      datagrams = g.datagrams;
      bytes = g.bytes;
      others = g.others;
      pending = pending;
      alive = g.alive;
      supplies = record { alive = g.alive; brings = g.brings (env_around count h p) refl refl refl; signals = λ s first last. pending s first };
    }

-- one that delivers this signal, which is pending
pub ready_with : (count : ℕ) (h : History) (p : ℕ) (e : Entry) → IsGiven count h p e → IsReady count (Signal p e.signal ∷ h) p e
ready_with count h p e g =
    let pending : (s : ℕ) → 1 ≤ s → (if (p == p) && (e.signal == s) then true else is_pending h p s) ≡ (s == e.signal) =
    λ s first. ap (λ b. if b && (e.signal == s) then true else is_pending h p s) (itself p) ∙ by_signal s first (e.signal == s) refl in
    record {
      datagrams = g.datagrams;
      bytes = g.bytes;
      others = λ q other. still q other (g.others q other);
      pending = pending;
      alive = g.alive;
      supplies = record { alive = g.alive; brings = g.brings (env_around count (Signal p e.signal ∷ h) p) refl refl refl; signals = λ s first last. pending s first };
    } where
      by_signal : (s : ℕ) → 1 ≤ s → (t : Bool) → (e.signal == s) ≡ t → (if t then true else is_pending h p s) ≡ (s == e.signal)
      by_signal s first true is = sym (turned s e.signal ∙ is)
      by_signal s first false is = g.signals s first ∙ sym (turned s e.signal ∙ is)

      still : (q : ℕ) → (p == q) ≡ false → IsQuiet count h q → IsQuiet count (Signal p e.signal ∷ h) q
      still q other quiet = record {
        datagrams = quiet.datagrams;
        bytes = quiet.bytes;
        signals = λ s first. ap (λ b. if b && (e.signal == s) then true else is_pending h q s) other ∙ quiet.signals s first;
        alive = quiet.alive;
      }

-- ---- what the answer takes

no_more : (n : ℕ) → n + 0 ≡ n
no_more n = omega arith

-- nothing
pub given_nothing : (count : ℕ) (h : History) (p : ℕ) (e : Entry) → AreQuiet count h → is_taken e ≡ false → drawn e ≡ 0
    → ((env : Env) → env.mailbox ≡ [] → WorldBrings e.call.kind (answer_of e) env) → IsGiven count h p e
given_nothing count h p e quiet taken drew brings =
    let q = quiet p in
    record {
      datagrams = ap (λ b. taken_count h p + one_if b) taken ∙ no_more (taken_count h p) ∙ q.datagrams;
      bytes = ap (λ n. used_count h p + n) drew ∙ no_more (used_count h p) ∙ q.bytes;
      signals = q.signals;
      alive = q.alive;
      others = λ r other. quiet r;
      brings = λ env mail pool time. brings env (mail ∙ ap (λ n. drop n (given count h p)) q.datagrams ∙ all_gone (given count h p));
    }

-- the wall time
pub given_time : (count : ℕ) (h : History) (p : ℕ) (e : Entry) (value : ℕ) → AreQuiet count h → is_taken e ≡ false → drawn e ≡ 0
    → ((env : Env) → env.time ≡ value → WorldBrings e.call.kind (answer_of e) env) → IsGiven count (Clock p value ∷ h) p e
given_time count h p e value quiet taken drew brings =
    let q = quiet p in
    record {
      datagrams = ap (λ b. taken_count h p + one_if b) taken ∙ no_more (taken_count h p) ∙ q.datagrams;
      bytes = ap (λ n. used_count h p + n) drew ∙ no_more (used_count h p) ∙ q.bytes;
      signals = q.signals;
      alive = q.alive;
      others = λ r other. let s = quiet r in record { datagrams = s.datagrams; bytes = s.bytes; signals = s.signals; alive = s.alive };
      brings = λ env mail pool told. brings env (told ∙ ap (λ b. if b then value else time h p) (itself p));
    }

-- random bytes
pub given_bytes : (count : ℕ) (h : History) (p : ℕ) (e : Entry) (bytes : List ℕ) → AreQuiet count h → is_taken e ≡ false → drawn e ≡ length bytes
    → ((env : Env) → env.pool ≡ bytes → WorldBrings e.call.kind (answer_of e) env) → IsGiven count (Random p bytes ∷ h) p e
given_bytes count h p e bytes quiet taken drew brings =
    let q = quiet p in
    let all : supplied_bytes (Random p bytes ∷ h) p ≡ supplied_bytes h p ++ bytes = ap (λ b. if b then supplied_bytes h p ++ bytes else supplied_bytes h p) (itself p) in
    record {
      datagrams = ap (λ b. taken_count h p + one_if b) taken ∙ no_more (taken_count h p) ∙ q.datagrams;
      bytes = ap (λ n. used_count h p + n) drew ∙ ap (λ n. n + length bytes) q.bytes ∙ sym (length-append (supplied_bytes h p) bytes) ∙ ap length (sym all);
      signals = q.signals;
      alive = q.alive;
      others = λ r other. let s = quiet r in record {
        datagrams = s.datagrams;
        bytes = s.bytes ∙ ap length (sym (ap (λ b. if b then supplied_bytes h r ++ bytes else supplied_bytes h r) other));
        signals = s.signals;
        alive = s.alive;
      };
      brings = λ env mail front told. brings env (front ∙ ap (drop (used_count h p)) all ∙ ap (λ n. drop n (supplied_bytes h p ++ bytes)) q.bytes ∙ drop-append_seam (supplied_bytes h p) bytes);
    }

-- a datagram
pub given_datagram : (count : ℕ) (h : History) (p : ℕ) (e : Entry) (datagram : List ℕ) → AreQuiet count h → is_taken e ≡ true → drawn e ≡ 0
    → ((env : Env) → env.mailbox ≡ datagram ∷ [] → WorldBrings e.call.kind (answer_of e) env) → IsGiven count (Inject p datagram ∷ h) p e
given_datagram count h p e datagram quiet taken drew brings =
    let q = quiet p in
    let all : given count (Inject p datagram ∷ h) p ≡ given count h p ++ datagram ∷ [] = ap (λ b. put_last_if b (given count h p) datagram) (itself p) in
    record {
      datagrams = ap (λ b. taken_count h p + one_if b) taken ∙ ap (λ n. n + 1) q.datagrams ∙ sym (length-append (given count h p) (datagram ∷ [])) ∙ ap length (sym all);
      bytes = ap (λ n. used_count h p + n) drew ∙ no_more (used_count h p) ∙ q.bytes;
      signals = q.signals;
      alive = q.alive;
      others = λ r other. let s = quiet r in record {
        datagrams = s.datagrams ∙ ap length (sym (ap (λ b. put_last_if b (given count h r) datagram) other));
        bytes = s.bytes;
        signals = s.signals;
        alive = s.alive;
      };
      brings = λ env mail front told. brings env (mail ∙ ap (drop (taken_count h p)) all ∙ ap (λ n. drop n (given count h p ++ datagram ∷ [])) q.datagrams ∙ drop-append_seam (given count h p) (datagram ∷ []));
    }
