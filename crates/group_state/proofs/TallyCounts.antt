-- The outcome of a tally.
use Rattle.std.proofs.Common.{◌≡◌, ℕ, ◌+◌, ◌<◌, ◌≤◌, ◌==◌, Bool, true, false, cond, not, ◌&&◌, ◌||◌, is_some, List, [], ◌∷◌, ◌++◌, length, filter, Option, Some, None, refl, sym, ap, ◌∙◌, append_assoc, append-nil, length-append, arith}
use Rattle.std.specs.FinMap as map
use Rattle.std.specs.List.{list_any}
use Rattle.std.proofs.lemmas.Bool.Decides.{nat_tests}
use Rattle.call_table.specs.declared.kind.Kind.{Kind}
use Rattle.call_table.specs.declared.kind.Kind.TheVariants.{Send}
use Rattle.lamport_tag.specs.declared.Tag.{Tag}
use Rattle.lib_calls.specs.Traffic.{is_sent, is_taken, sends_as}
use Rattle.lib_calls.specs.declared.entry.Entry.{Entry}
use Rattle.group_order.specs.Sends.{FindsOneMoreSend, SendReceivers, by_sender}
use Rattle.group_state.specs.declared.tally.GroupCounts.{GroupCounts}
use Rattle.group_state.specs.declared.tally.Receipt.{Receipt}
use Rattle.group_state.specs.Tally.{AcceptedEvent, accepted_count, is_receipt, is_send, is_send_of, is_unmatched, is_unmatched_by, takes_untagged, tally_of_events}
use Rattle.group_state.specs.inside.Tallying.{AreNewEvents, IsNewSend, GroupTallying, counts_of, is_to_process, nothing_tallied, receipt_by, send_by, unmatched_receipts_in, with_accepted, with_all_accepted, with_send}

below : (k : Kind) (count : ℕ) (e : Entry) → sends_as k count e ≡ true → e.call.a0 < count
below Send count e sent = grind (arith, nat_tests)
below _ count e sent = cc

-- a send into the group is for one of its processes
pub below_count : (count : ℕ) (e : Entry) → is_sent count e ≡ true → e.call.a0 < count
unfolding is_sent
below_count count e sent = below e.call.kind count e sent

-- ---- one event

-- what it adds to those that took a datagram with a tag
abbrev receipt_of : Bool → Option Tag → ℕ → List Receipt
receipt_of false tag process = []
receipt_of true None process = []
receipt_of true (Some tag) process = record { process = process; tag = tag } ∷ []

pub record Adds (t new : GroupTallying) (a : AcceptedEvent) : Type 0 where
  pub count : new.count ≡ t.count
  pub sends : new.sends ≡ t.sends + cond (is_send t.count a) 1 0
  pub untagged : new.untagged ≡ t.untagged + cond (takes_untagged a) 1 0
  pub sent : new.sent ≡ (with_send t a).sent
  pub taken : new.taken ≡ t.taken ++ receipt_of (is_taken a.entry) a.entry.tag a.process

count_one : (b c : Bool) (tag : Option Tag) (p : ℕ) (t : GroupTallying) (a : AcceptedEvent) → (receipt_by c tag p (send_by b t a)).count ≡ t.count
count_one false false tag p t a = refl
count_one true false tag p t a = refl
count_one false true None p t a = refl
count_one true true None p t a = refl
count_one false true (Some tag) p t a = refl
count_one true true (Some tag) p t a = refl

sends_one : (b c : Bool) (tag : Option Tag) (p : ℕ) (t : GroupTallying) (a : AcceptedEvent) → (receipt_by c tag p (send_by b t a)).sends ≡ t.sends + cond b 1 0
sends_one false false tag p t a = omega arith
sends_one true false tag p t a = refl
sends_one false true None p t a = omega arith
sends_one true true None p t a = refl
sends_one false true (Some tag) p t a = omega arith
sends_one true true (Some tag) p t a = refl

untagged_one : (b c : Bool) (tag : Option Tag) (p : ℕ) (t : GroupTallying) (a : AcceptedEvent) → (receipt_by c tag p (send_by b t a)).untagged ≡ t.untagged + cond (c && not (is_some tag)) 1 0
untagged_one false false tag p t a = omega arith
untagged_one true false tag p t a = omega arith
untagged_one false true None p t a = refl
untagged_one true true None p t a = refl
untagged_one false true (Some tag) p t a = omega arith
untagged_one true true (Some tag) p t a = omega arith

sent_one : (c : Bool) (tag : Option Tag) (p : ℕ) (t : GroupTallying) → (receipt_by c tag p t).sent ≡ t.sent
sent_one false tag p t = refl
sent_one true None p t = refl
sent_one true (Some tag) p t = refl

taken_one : (b c : Bool) (tag : Option Tag) (p : ℕ) (t : GroupTallying) (a : AcceptedEvent) → (receipt_by c tag p (send_by b t a)).taken ≡ t.taken ++ receipt_of c tag p
taken_one false false tag p t a = sym (append-nil t.taken)
taken_one true false tag p t a = sym (append-nil t.taken)
taken_one false true None p t a = sym (append-nil t.taken)
taken_one true true None p t a = sym (append-nil t.taken)
taken_one false true (Some tag) p t a = refl
taken_one true true (Some tag) p t a = refl

pub adds : (t : GroupTallying) (a : AcceptedEvent) → Adds t (with_accepted t a) a
adds t a =
    let b = is_send t.count a in
    let c = is_taken a.entry in
    record {
      count = count_one b c a.entry.tag a.process t a;
      sends = sends_one b c a.entry.tag a.process t a;
      untagged = untagged_one b c a.entry.tag a.process t a;
      sent = sent_one c a.entry.tag a.process (with_send t a);
      taken = taken_one b c a.entry.tag a.process t a;
    }

at_most_one : (b : Bool) → cond b 1 0 ≤ 1
at_most_one true = omega arith
at_most_one false = omega arith

pub few_more : (t : GroupTallying) (a : AcceptedEvent) → ((with_accepted t a).sends ≤ t.sends + 1) × ((with_accepted t a).untagged ≤ t.untagged + 1)
few_more t a = (
  omega (arith, (adds t a).sends, at_most_one (is_send t.count a)),
  omega (arith, (adds t a).untagged, at_most_one (takes_untagged a)),
)

-- ---- many events

length_one : {X : Type 0} (b : Bool) (x : X) (xs : List X) → length (cond b (x ∷ xs) xs) ≡ cond b 1 0 + length xs
length_one true x xs = omega arith
length_one false x xs = omega arith

all_count : (events : List AcceptedEvent) (t : GroupTallying) → (with_all_accepted t events).count ≡ t.count
all_count [] t = refl
all_count (a ∷ events) t = all_count events (with_accepted t a) ∙ (adds t a).count

all_sends : (events : List AcceptedEvent) (t : GroupTallying) → (with_all_accepted t events).sends ≡ t.sends + accepted_count (is_send t.count) events
all_sends [] t = omega arith
all_sends (a ∷ events) t =
    let more = all_sends events (with_accepted t a) in
    let same : accepted_count (is_send (with_accepted t a).count) events ≡ accepted_count (is_send t.count) events = ap (λ n. accepted_count (is_send n) events) (adds t a).count in
    omega (arith, more, same, (adds t a).sends, length_one (is_send t.count a) a (filter (is_send t.count) events))

all_untagged : (events : List AcceptedEvent) (t : GroupTallying) → (with_all_accepted t events).untagged ≡ t.untagged + accepted_count takes_untagged events
all_untagged [] t = omega arith
all_untagged (a ∷ events) t =
    let more = all_untagged events (with_accepted t a) in
    omega (arith, more, (adds t a).untagged, length_one (takes_untagged a) a (filter takes_untagged events))

abbrev receipts : List AcceptedEvent → List Receipt
receipts [] = []
receipts (a ∷ events) = receipt_of (is_taken a.entry) a.entry.tag a.process ++ receipts events

all_taken : (events : List AcceptedEvent) (t : GroupTallying) → (with_all_accepted t events).taken ≡ t.taken ++ receipts events
all_taken [] t = sym (append-nil t.taken)
all_taken (a ∷ events) t =
    let one = receipt_of (is_taken a.entry) a.entry.tag a.process in
    all_taken events (with_accepted t a) ∙ ap (λ l. l ++ receipts events) (adds t a).taken ∙ append_assoc t.taken one (receipts events)

length_receipt : (c : Bool) (tag : Option Tag) (p : ℕ) → length (receipt_of c tag p) ≡ cond (c && is_some tag) 1 0
length_receipt false tag p = refl
length_receipt true None p = refl
length_receipt true (Some tag) p = refl

length_receipts : (events : List AcceptedEvent) → length (receipts events) ≡ accepted_count is_receipt events
length_receipts [] = refl
length_receipts (a ∷ events) =
    let one = receipt_of (is_taken a.entry) a.entry.tag a.process in
    omega (arith, length_append_is one (receipts events), length_receipt (is_taken a.entry) a.entry.tag a.process, length_receipts events, length_one (is_receipt a) a (filter is_receipt events))
  where
    length_append_is : (xs ys : List Receipt) → length (xs ++ ys) ≡ length xs + length ys
    length_append_is xs ys = length-append xs ys

-- ---- the sends

or_false : (x : Bool) → x ≡ (x || false)
or_false true = refl
or_false false = refl

or_assoc : (x y z : Bool) → ((x || y) || z) ≡ (x || (y || z))
or_assoc true y z = refl
or_assoc false y z = refl

and_false : (x y : Bool) → (x && (false && y)) ≡ false
and_false true y = refl
and_false false y = refl

module _ (finds : FindsOneMoreSend) where
  -- where the event sends
  sent_here : (t : GroupTallying) (a : AcceptedEvent) (p : ℕ) (tag : Tag) → IsNewSend t a
      → is_to_process p (map.get (map.insert t.sent (a.process, a.entry.clock) a.entry.call.a0) (tag.sender, tag.clock))
      ≡ (is_to_process p (map.get t.sent (tag.sender, tag.clock)) || (((a.process == tag.sender) && (a.entry.clock == tag.clock)) && (true && (a.entry.call.a0 == p))))
  sent_here t a p tag new =
      let to = a.entry.call.a0 in
      ap (is_to_process p) (finds t.sent a.process a.entry.clock to tag.sender tag.clock)
      ∙ by_key ((a.process == tag.sender) && (a.entry.clock == tag.clock)) refl
    where
      known : a.process ≡ tag.sender → a.entry.clock ≡ tag.clock → map.get t.sent (tag.sender, tag.clock) ≡ None
      known process clock = ap (λ (n : ℕ). map.get t.sent (n, tag.clock)) (sym process) ∙ ap (λ (n : ℕ). map.get t.sent (a.process, n)) (sym clock) ∙ new

      process_of : ((a.process == tag.sender) && (a.entry.clock == tag.clock)) ≡ true → a.process ≡ tag.sender
      process_of test = grind (arith, nat_tests)

      clock_of : ((a.process == tag.sender) && (a.entry.clock == tag.clock)) ≡ true → a.entry.clock ≡ tag.clock
      clock_of test = grind (arith, nat_tests)

      by_key : (b : Bool) → ((a.process == tag.sender) && (a.entry.clock == tag.clock)) ≡ b
          → is_to_process p (cond b (Some a.entry.call.a0) (map.get t.sent (tag.sender, tag.clock))) ≡ (is_to_process p (map.get t.sent (tag.sender, tag.clock)) || (b && (true && (a.entry.call.a0 == p))))
      by_key true test = ap (λ (o : Option ℕ). is_to_process p o || (a.entry.call.a0 == p)) (sym (known (process_of test) (clock_of test)))
      by_key false test = or_false (is_to_process p (map.get t.sent (tag.sender, tag.clock)))

  matched_by : (t : GroupTallying) (a : AcceptedEvent) (p : ℕ) (tag : Tag) (b : Bool) → IsNewSend t a
      → is_to_process p (map.get (send_by b t a).sent (tag.sender, tag.clock))
      ≡ (is_to_process p (map.get t.sent (tag.sender, tag.clock)) || (((a.process == tag.sender) && (a.entry.clock == tag.clock)) && (b && (a.entry.call.a0 == p))))
  matched_by t a p tag true new = sent_here t a p tag new
  matched_by t a p tag false new =
      or_false (is_to_process p (map.get t.sent (tag.sender, tag.clock)))
      ∙ ap (λ (b : Bool). is_to_process p (map.get t.sent (tag.sender, tag.clock)) || b) (sym (and_false ((a.process == tag.sender) && (a.entry.clock == tag.clock)) (a.entry.call.a0 == p)))

  matched_one : (t : GroupTallying) (a : AcceptedEvent) (p : ℕ) (tag : Tag) → IsNewSend t a
      → is_to_process p (map.get (with_accepted t a).sent (tag.sender, tag.clock)) ≡ (is_to_process p (map.get t.sent (tag.sender, tag.clock)) || is_send_of t.count p tag a)
  matched_one t a p tag new = ap (λ (s : SendReceivers). is_to_process p (map.get s (tag.sender, tag.clock))) (adds t a).sent ∙ matched_by t a p tag (is_send t.count a) new

  -- the send that a tag names is among those that were counted before and these
  matched : (events : List AcceptedEvent) (t : GroupTallying) (p : ℕ) (tag : Tag) → AreNewEvents t events
      → is_to_process p (map.get (with_all_accepted t events).sent (tag.sender, tag.clock)) ≡ (is_to_process p (map.get t.sent (tag.sender, tag.clock)) || list_any (is_send_of t.count p tag) events)
  matched [] t p tag new = or_false (is_to_process p (map.get t.sent (tag.sender, tag.clock)))
  matched (a ∷ events) t p tag new =
      matched events (with_accepted t a) p tag new.1
      ∙ ap (λ (n : ℕ). is_to_process p (map.get (with_accepted t a).sent (tag.sender, tag.clock)) || list_any (is_send_of n p tag) events) (adds t a).count
      ∙ ap (λ (b : Bool). b || list_any (is_send_of t.count p tag) events) (matched_one t a p tag new.0)
      ∙ or_assoc (is_to_process p (map.get t.sent (tag.sender, tag.clock))) (is_send_of t.count p tag a) (list_any (is_send_of t.count p tag) events)

-- ---- the unmatched

both_one : {X Y : Type 0} (b c : Bool) (x : X) (y : Y) (xs : List X) (ys : List Y) → b ≡ c → length xs ≡ length ys → length (cond b (x ∷ xs) xs) ≡ length (cond c (y ∷ ys) ys)
both_one b c x y xs ys same rest =
    let one : Bool → ℕ = λ d. cond d 1 0 in
    let equal : cond b 1 0 ≡ cond c 1 0 = ap one same in
    omega (arith, rest, length_one b x xs, length_one c y ys, equal)

unmatched_one : (count : ℕ) (all : List AcceptedEvent) (sent : SendReceivers) (c : Bool) (tag : Option Tag) (a : AcceptedEvent) (rs : List Receipt) (rest : List AcceptedEvent)
    → ((p : ℕ) (tag : Tag) → is_to_process p (map.get sent (tag.sender, tag.clock)) ≡ list_any (is_send_of count p tag) all)
    → unmatched_receipts_in sent rs ≡ accepted_count (is_unmatched count all) rest
    → unmatched_receipts_in sent (receipt_of c tag a.process ++ rs)
    ≡ length (cond ((c && is_some tag) && is_unmatched_by count all a.process tag) (a ∷ filter (is_unmatched count all) rest) (filter (is_unmatched count all) rest))
unmatched_one count all sent false tag a rs rest known more = more
unmatched_one count all sent true None a rs rest known more = more
unmatched_one count all sent true (Some tag) a rs rest known more =
    both_one _ _ (record { process = a.process; tag = tag }) a _ _ (ap not (known a.process tag)) more

unmatched_all : (count : ℕ) (all : List AcceptedEvent) (sent : SendReceivers) (events : List AcceptedEvent)
    → ((p : ℕ) (tag : Tag) → is_to_process p (map.get sent (tag.sender, tag.clock)) ≡ list_any (is_send_of count p tag) all)
    → unmatched_receipts_in sent (receipts events) ≡ accepted_count (is_unmatched count all) events
unmatched_all count all sent [] known = refl
unmatched_all count all sent (a ∷ events) known = unmatched_one count all sent (is_taken a.entry) a.entry.tag a (receipts events) events known (unmatched_all count all sent events known)

-- ---- the whole

same_counts : (a b c d e f g h : ℕ) → a ≡ e → b ≡ f → c ≡ g → d ≡ h → ◌≡◌ {A = GroupCounts} (record { sends = a; receives = b; unmatched = c; untagged = d }) (record { sends = e; receives = f; unmatched = g; untagged = h })
same_counts a b c d e f g h p q r s = rw (p, q, r, s) refl

module _ (finds : FindsOneMoreSend) where
  -- events that were new where they came
  pub counted : (count : ℕ) (events : List AcceptedEvent) → AreNewEvents (nothing_tallied count) events → counts_of (with_all_accepted (nothing_tallied count) events) ≡ tally_of_events count events
  counted count events new =
      let t = with_all_accepted (nothing_tallied count) events in
      let known : (p : ℕ) (tag : Tag) → is_to_process p (map.get t.sent (tag.sender, tag.clock)) ≡ list_any (is_send_of count p tag) events =
      λ p tag. matched finds events (nothing_tallied count) p tag new ∙ ap (λ (o : Option ℕ). is_to_process p o || list_any (is_send_of count p tag) events) (map.get-empty by_sender (tag.sender, tag.clock)) in
      let taken : t.taken ≡ receipts events = all_taken events (nothing_tallied count) in
      same_counts t.sends (length t.taken) (unmatched_receipts_in t.sent t.taken) t.untagged _ _ _ _
      (let n = all_sends events (nothing_tallied count) in omega (arith, n))
      (ap length taken ∙ length_receipts events)
      (ap (unmatched_receipts_in t.sent) taken ∙ unmatched_all count events t.sent events known)
      (let n = all_untagged events (nothing_tallied count) in omega (arith, n))
