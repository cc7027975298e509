-- What each change of a network leaves of what was sent and of what waits, process by process.
use Rattle.std.proofs.Common.{◌≡◌, ◌≢◌, ℕ, ◌<◌, ◌≤◌, List, [], ◌∷◌, ◌++◌, length, replicate, refl, sym, ap, ◌∙◌, subst, ⊎_elim, arith, length-set, get_or-set_same, get_or-set_other}
use Rattle.std.specs.Prelude.{slice_set}
use Rattle.std.proofs.lemmas.Bool.{cases_eq, cases_lt}
use Rattle.std.proofs.lemmas.List.{get_or-replicate, get_or_past, length-replicate}
use Rattle.lossy_net.specs.Network.{Sent, Traffic, no_traffic, traffic_of, sent_by, mailbox_of, with_sent, with_mailbox}

-- ---- the traffic of the process whose traffic is changed, and of the others

pub traffic_of-changed : (net : List Traffic) (p : ℕ) (traffic : Traffic) → p < length net → traffic_of (slice_set net p traffic) p ≡ traffic
traffic_of-changed net p traffic within = get_or-set_same net p traffic no_traffic within

pub traffic_of-others : (net : List Traffic) (p q : ℕ) (traffic : Traffic) → q ≢ p → traffic_of (slice_set net p traffic) q ≡ traffic_of net q
traffic_of-others net p q traffic other = get_or-set_other net p q traffic no_traffic other

traffic_of-past : (net : List Traffic) (q : ℕ) → length net ≤ q → traffic_of net q ≡ no_traffic
traffic_of-past net q past = get_or_past net q no_traffic past

-- what a process's traffic says of it, where the change keeps that of the changed process
kept : {A : Type 0} (part : Traffic → A) (net : List Traffic) (p q : ℕ) (traffic : Traffic) → part traffic ≡ part (traffic_of net p) → part (traffic_of (slice_set net p traffic) q) ≡ part (traffic_of net q)
kept part net p q traffic same = ⊎_elim
    (λ e. ⊎_elim
    (λ within. ap part (subst (λ k. traffic_of (slice_set net p traffic) k ≡ traffic) (sym e) (traffic_of-changed net p traffic within)) ∙ same ∙ ap (λ k. part (traffic_of net k)) (sym e))
    (λ past. ap part (traffic_of-past (slice_set net p traffic) q (omega (arith, length-set net p traffic)) ∙ sym (traffic_of-past net q (omega arith))))
    (cases_lt p (length net)))
    (λ other. ap part (traffic_of-others net p q traffic other))
    (cases_eq q p)

-- ---- a datagram is sent

pub length-with_sent : (net : List Traffic) (p : ℕ) (datagram : Sent) → length (with_sent net p datagram) ≡ length net
length-with_sent net p datagram = length-set net p _

pub sent_by-with_sent : (net : List Traffic) (p : ℕ) (datagram : Sent) → p < length net → sent_by (with_sent net p datagram) p ≡ sent_by net p ++ datagram ∷ []
sent_by-with_sent net p datagram within = ap (λ (t : Traffic). t.sent) (traffic_of-changed net p _ within)

pub sent_by-with_sent_others : (net : List Traffic) (p q : ℕ) (datagram : Sent) → q ≢ p → sent_by (with_sent net p datagram) q ≡ sent_by net q
sent_by-with_sent_others net p q datagram other = ap (λ (t : Traffic). t.sent) (traffic_of-others net p q _ other)

pub mailbox_of-with_sent : (net : List Traffic) (p q : ℕ) (datagram : Sent) → mailbox_of (with_sent net p datagram) q ≡ mailbox_of net q
mailbox_of-with_sent net p q datagram = kept (λ (t : Traffic). t.waiting) net p q _ refl

-- ---- a mailbox is changed

pub length-with_mailbox : (net : List Traffic) (p : ℕ) (waiting : List (List ℕ)) → length (with_mailbox net p waiting) ≡ length net
length-with_mailbox net p waiting = length-set net p _

pub sent_by-with_mailbox : (net : List Traffic) (p q : ℕ) (waiting : List (List ℕ)) → sent_by (with_mailbox net p waiting) q ≡ sent_by net q
sent_by-with_mailbox net p q waiting = kept (λ (t : Traffic). t.sent) net p q _ refl

pub mailbox_of-with_mailbox : (net : List Traffic) (p : ℕ) (waiting : List (List ℕ)) → p < length net → mailbox_of (with_mailbox net p waiting) p ≡ waiting
mailbox_of-with_mailbox net p waiting within = ap (λ (t : Traffic). t.waiting) (traffic_of-changed net p _ within)

pub mailbox_of-with_mailbox_others : (net : List Traffic) (p q : ℕ) (waiting : List (List ℕ)) → q ≢ p → mailbox_of (with_mailbox net p waiting) q ≡ mailbox_of net q
mailbox_of-with_mailbox_others net p q waiting other = ap (λ (t : Traffic). t.waiting) (traffic_of-others net p q _ other)

-- ---- nothing was sent yet

pub traffic_of-replicate : (count p : ℕ) → traffic_of (replicate count no_traffic) p ≡ no_traffic
traffic_of-replicate count p = ⊎_elim
    (λ within. get_or-replicate count p no_traffic no_traffic within)
    (λ past. traffic_of-past (replicate count no_traffic) p (omega (arith, length-replicate count no_traffic)))
    (cases_lt p count)
