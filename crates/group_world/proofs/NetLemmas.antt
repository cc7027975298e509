-- What each change of the network leaves of what one process sent, and of what waits for it.
use Rattle.std.proofs.Common.{◌≡◌, ◌≢◌, ℕ, zero, suc, ◌<◌, Bool, true, false, ◌&&◌, List, [], ◌∷◌, ◌++◌, length, drop, map, replicate, Option, Some, None, refl, sym, ap, ◌∙◌, subst, ⊎_elim, length-set, get_or-set_same, get_or-set_other}
use Rattle.std.specs.Prelude.{◌==◌, slice_set, if◌then◌else◌, option_map}
use Rattle.std.proofs.lemmas.Bool.{cases_eq, eq-eqb, ne_eqb}
use Rattle.std.proofs.lemmas.List.{append-nil, get_or-replicate}
use Rattle.std.proofs.lemmas.Option.{slice_get-map}
use Rattle.lib_calls.specs.declared.entry.Entry.{Entry}
use Rattle.lossy_net.specs.Network.{Sent, Traffic, after_sending, no_traffic, nth_of, traffic_of, with_delivered, with_waiting}
use Rattle.group_world.specs.History.{addressed_datagram, datagram, one_if, put_last_if}
use Rattle.group_world.specs.Laws.{sent_as}
use Rattle.group_world.specs.World.{sent_if, took_if}

-- ---- as many processes as before

pub length-took_if : (net : List Traffic) (p : ℕ) (taken : Bool) → length (took_if taken net p) ≡ length net
length-took_if net p true = length-set net p _
length-took_if net p false = refl

pub length-sent_if : (net : List Traffic) (p : ℕ) (e : Entry) (sent : Bool) → length (sent_if sent net p e) ≡ length net
length-sent_if net p e true = length-set net p _
length-sent_if net p e false = refl

pub length-with_delivered : (net : List Traffic) (found : Option Sent) → length (with_delivered net found) ≡ length net
length-with_delivered net None = refl
length-with_delivered net (Some datagram) = length-set net datagram.to _

-- ---- the process whose traffic is changed, and the others

changed : (net : List Traffic) (p : ℕ) (traffic : Traffic) → p < length net → traffic_of (slice_set net p traffic) p ≡ traffic
changed net p traffic within = get_or-set_same net p traffic no_traffic within

others : (net : List Traffic) (q p : ℕ) (traffic : Traffic) → p ≢ q → traffic_of (slice_set net q traffic) p ≡ traffic_of net p
others net q p traffic other = get_or-set_other net q p traffic no_traffic other

-- nothing was sent yet
pub traffic_of-new : (count p : ℕ) → p < count → traffic_of (replicate count no_traffic) p ≡ no_traffic
traffic_of-new count p within = get_or-replicate count p no_traffic no_traffic within

-- ---- an event

-- what an event leaves of a process's traffic, with the datagram that it sent and whether it took one
abbrev after_traffic : Traffic → Bool → Bool → Sent → Traffic
after_traffic traffic sent taken last = record { sent = put_last_if sent traffic.sent last; waiting = drop (one_if taken) traffic.waiting }

event_same : (net : List Traffic) (p : ℕ) (e : Entry) (sent taken : Bool) → p < length net
    → traffic_of (sent_if sent (took_if taken net p) p e) p ≡ after_traffic (traffic_of net p) sent taken (sent_as p e)
event_same net p e true true within =
    changed _ p _ (subst (λ n. p < n) (sym (length-took_if net p true)) within)
    ∙ ap (λ t. after_sending t (sent_as p e)) (changed net p _ within)
event_same net p e true false within = changed net p _ within
event_same net p e false true within = changed net p _ within
event_same net p e false false within = refl

took_other : (net : List Traffic) (q p : ℕ) (taken : Bool) → p ≢ q → traffic_of (took_if taken net q) p ≡ traffic_of net p
took_other net q p true other = others net q p _ other
took_other net q p false other = refl

sent_other : (net : List Traffic) (q p : ℕ) (e : Entry) (sent : Bool) → p ≢ q → traffic_of (sent_if sent net q e) p ≡ traffic_of net p
sent_other net q p e true other = others net q p _ other
sent_other net q p e false other = refl

-- the traffic of process p after an event of process q
pub traffic_of-event : (net : List Traffic) (q p : ℕ) (e : Entry) (sent taken : Bool) → p < length net
    → traffic_of (sent_if sent (took_if taken net q) q e) p ≡ after_traffic (traffic_of net p) ((q == p) && sent) ((q == p) && taken) (sent_as p e)
traffic_of-event net q p e sent taken within = ⊎_elim
    (λ same. subst (λ k. traffic_of (sent_if sent (took_if taken net k) k e) p ≡ after_traffic (traffic_of net p) ((k == p) && sent) ((k == p) && taken) (sent_as p e)) (sym same)
    (event_same net p e sent taken within
    ∙ ap (λ b. after_traffic (traffic_of net p) (b && sent) (b && taken) (sent_as p e)) (sym (eq-eqb p p refl))))
    (λ other. sent_other (took_if taken net q) q p e sent (λ is. other (sym is)) ∙ took_other net q p taken (λ is. other (sym is))
    ∙ ap (λ b. after_traffic (traffic_of net p) (b && sent) (b && taken) (sent_as p e)) (sym (ne_eqb q p other)))
    (cases_eq q p)

-- ---- a datagram is put into a mailbox

-- the traffic with these datagrams at the end of what waits
abbrev and_waiting : Traffic → List (List ℕ) → Traffic
and_waiting traffic more = record { sent = traffic.sent; waiting = traffic.waiting ++ more }

none_waiting : (traffic : Traffic) → traffic ≡ and_waiting traffic []
none_waiting traffic = ap (λ waiting. record { sent = traffic.sent; waiting = waiting }) (sym (append-nil traffic.waiting))

-- the traffic of process p after bytes were put at the end of the mailbox of process q
pub traffic_of-waiting : (net : List Traffic) (q p : ℕ) (bytes : List ℕ) → p < length net
    → traffic_of (with_waiting net q bytes) p ≡ and_waiting (traffic_of net p) (if q == p then bytes ∷ [] else [])
traffic_of-waiting net q p bytes within = ⊎_elim
    (λ same. subst (λ k. traffic_of (with_waiting net k bytes) p ≡ and_waiting (traffic_of net p) (if k == p then bytes ∷ [] else [])) (sym same)
    (changed net p _ within ∙ ap (λ b. and_waiting (traffic_of net p) (if b then bytes ∷ [] else [])) (sym (eq-eqb p p refl))))
    (λ other. others net q p _ (λ is. other (sym is)) ∙ none_waiting (traffic_of net p)
    ∙ ap (λ b. and_waiting (traffic_of net p) (if b then bytes ∷ [] else [])) (sym (ne_eqb q p other)))
    (cases_eq q p)

-- the traffic of process p after a send of process q, if there is one, was delivered
pub traffic_of-delivered : (net : List Traffic) (q p : ℕ) (found : Option Entry) → p < length net
    → traffic_of (with_delivered net (option_map (sent_as q) found)) p ≡ and_waiting (traffic_of net p) (addressed_datagram q p found)
traffic_of-delivered net q p None within = none_waiting (traffic_of net p)
traffic_of-delivered net q p (Some e) within = traffic_of-waiting net e.call.a0 p (datagram q e) within

-- the numbers of the sends are those of the datagrams
pub nth_of-map : (q n : ℕ) (es : List Entry) → nth_of (map (sent_as q) es) n ≡ option_map (sent_as q) (nth_of es n)
nth_of-map q zero es = refl
nth_of-map q (suc before) es = slice_get-map (sent_as q) es before
