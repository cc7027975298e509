-- The datagrams that a process sent, by their numbers, and the processes that they are for.
use Rattle.std.proofs.Common.{◌≡◌, ℕ, zero, suc, ◌<◌, ◌≤◌, List, [], ◌∷◌, ◌++◌, length, replicate, get_or, Some, None, Result, Ok, Err, sym, ap, ◌∙◌, subst, ⊎_elim, inl, inr, arith}
use Rattle.std.specs.Prelude.{◌⊎◌, OnOk, OnErr, slice_set}
use Rattle.std.proofs.lemmas.Bool.{cases_eq}
use Rattle.std.proofs.lemmas.Option.{same_Some}
use Rattle.std.proofs.lemmas.List.{get_or_default, length-set}
use Rattle.lossy_net.specs.Network.{Sent, Traffic, after_sending, no_traffic, traffic_of, sent_by, nth_of}
use Rattle.lossy_net.specs.inside.Addressed.{AreForGroup, IsSentIntoGroup}
use Rattle.lossy_net.proofs.NetworkLemmas.{traffic_of-changed, traffic_of-others, traffic_of-replicate}

-- ---- the numbers

-- a datagram is at the numbers from 1 to the count of the datagrams
pub nth_of-within : (sent : List Sent) (n : ℕ) (datagram : Sent) → nth_of sent n ≡ Some datagram → (1 ≤ n) × (n ≤ length sent)
nth_of-within sent zero datagram e = absurd cc
nth_of-within [] (suc n) datagram e = absurd cc
nth_of-within (s ∷ sent) (suc zero) datagram e = (omega arith, omega arith)
nth_of-within (s ∷ sent) (suc (suc n)) datagram e =
    let inner = nth_of-within sent (suc n) datagram e in
    (omega arith, omega arith)

-- and at no other
pub nth_of-past : (sent : List Sent) (n : ℕ) → nth_of sent n ≡ None → 1 ≤ n → n ≤ length sent → ⊥
nth_of-past sent zero e begun within = omega arith
nth_of-past [] (suc n) e begun within = omega arith
nth_of-past (s ∷ sent) (suc zero) e begun within = cc
nth_of-past (s ∷ sent) (suc (suc n)) e begun within = nth_of-past sent (suc n) e (omega arith) (omega arith)

-- one more datagram leaves those before it at their numbers
pub nth_of-more : (sent : List Sent) (n : ℕ) (last datagram : Sent) → nth_of (sent ++ last ∷ []) n ≡ Some datagram → (nth_of sent n ≡ Some datagram) ⊎ (datagram ≡ last)
nth_of-more sent zero last datagram e = inl e
nth_of-more [] (suc zero) last datagram e = inr (sym (same_Some last datagram e))
nth_of-more [] (suc (suc n)) last datagram e = inl e
nth_of-more (s ∷ sent) (suc zero) last datagram e = inl e
nth_of-more (s ∷ sent) (suc (suc n)) last datagram e = nth_of-more sent (suc n) last datagram e

-- ---- the processes

AreFor-none : (count : ℕ) → AreForGroup count []
AreFor-none count zero datagram e = absurd cc
AreFor-none count (suc n) datagram e = absurd cc

AreFor-more : (count : ℕ) (sent : List Sent) (last : Sent) → last.to < count → AreForGroup count sent → AreForGroup count (sent ++ last ∷ [])
AreFor-more count sent last to h n datagram e = ⊎_elim
    (λ before. h n datagram before)
    (λ is. subst (λ (d : Sent). d.to < count) (sym is) to)
    (nth_of-more sent n last datagram e)

-- nothing was sent yet
pub IsAddressed-replicate : (count : ℕ) → IsSentIntoGroup (replicate count no_traffic)
IsAddressed-replicate count process =
    subst (λ (t : Traffic). AreForGroup (length (replicate count no_traffic)) t.sent) (sym (traffic_of-replicate count process)) (AreFor-none _)

-- one process's traffic is changed
pub IsAddressed-changed : (net : List Traffic) (p : ℕ) (traffic : Traffic) → p < length net → AreForGroup (length net) traffic.sent → IsSentIntoGroup net → IsSentIntoGroup (slice_set net p traffic)
IsAddressed-changed net p traffic within new h process =
    subst (λ size. AreForGroup size (sent_by (slice_set net p traffic) process)) (sym (length-set net p traffic)) (⊎_elim
    (λ same. subst (λ (t : Traffic). AreForGroup (length net) t.sent) (sym (ap (traffic_of (slice_set net p traffic)) same ∙ traffic_of-changed net p traffic within)) new)
    (λ other. subst (λ (t : Traffic). AreForGroup (length net) t.sent) (sym (traffic_of-others net p process traffic other)) (h process))
    (cases_eq process p))

-- ---- the traffic that was read at a process's number

pub traffic_at : (net : List Traffic) (p : ℕ) (traffic : Traffic) → p < length net → traffic ≡ get_or net p traffic → traffic_of net p ≡ traffic
traffic_at net p traffic within read = get_or_default net p no_traffic traffic within ∙ sym read

-- a datagram that was found there is for a process of the group
pub found_is_for : (net : List Traffic) (p n : ℕ) (traffic : Traffic) (datagram : Sent) → p < length net → traffic ≡ get_or net p traffic → nth_of traffic.sent n ≡ Some datagram → IsSentIntoGroup net → datagram.to < length net
found_is_for net p n traffic datagram within read found h =
    h p n datagram (subst (λ (t : Traffic). nth_of t.sent n ≡ Some datagram) (sym (traffic_at net p traffic within read)) found)

-- A datagram is added to the traffic that was read there, or nothing is, for want of memory.
pub IsAddressed-added : {T E : Type 0} (net : List Traffic) (p : ℕ) (old new : Traffic) (last : Sent) (r : Result T E) → p < length net → last.to < length net → old ≡ get_or net p old → OnOk r (new ≡ after_sending old last) → OnErr r (new ≡ old) → IsSentIntoGroup net → IsSentIntoGroup (slice_set net p new)
IsAddressed-added net p old new last r within to read ok err h =
    IsAddressed-changed net p new within (added r ok err) h
  where
    before : AreForGroup (length net) old.sent
    before = subst (λ (t : Traffic). AreForGroup (length net) t.sent) (traffic_at net p old within read) (h p)

    added : {T E : Type 0} (r : Result T E) → OnOk r (new ≡ after_sending old last) → OnErr r (new ≡ old) → AreForGroup (length net) new.sent
    added (Ok u) ok err = subst (λ (t : Traffic). AreForGroup (length net) t.sent) (sym ok) (AreFor-more (length net) old.sent last to before)
    added (Err e) ok err = subst (λ (t : Traffic). AreForGroup (length net) t.sent) (sym err) before

-- that it was found says that its number is from 1 to the count of the datagrams
pub found_is_within : (net : List Traffic) (p n : ℕ) (traffic : Traffic) (datagram : Sent) → p < length net → traffic ≡ get_or net p traffic → nth_of traffic.sent n ≡ Some datagram → (1 ≤ n) × (n ≤ length (sent_by net p))
found_is_within net p n traffic datagram within read found =
    nth_of-within (sent_by net p) n datagram (subst (λ (t : Traffic). nth_of t.sent n ≡ Some datagram) (sym (traffic_at net p traffic within read)) found)
