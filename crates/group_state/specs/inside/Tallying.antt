-- The tally of a group's events while they come, one after the other.
use Rattle.std.specs.Prelude.{◌≡◌, ℕ, ◌+◌, ◌<◌, ◌^◌, ◌==◌, Bool, true, false, not, List, [], ◌∷◌, ◌++◌, length, filter, Option, Some, None, refl}
use Rattle.std.specs.Coded.{Coded, code_by, coded×, coded_ℕ, coded_list}
use Rattle.std.specs.FinMap as map
use Rattle.lamport_tag.specs.declared.Tag.{Tag}
use Rattle.lib_calls.specs.Traffic.{is_taken}
use Rattle.group_order.specs.Sends.{SendReceivers}
use Rattle.group_state.specs.declared.tally.GroupCounts.{GroupCounts}
use Rattle.group_state.specs.declared.tally.Receipt.{Receipt}
use Rattle.group_state.specs.Tally.{AcceptedEvent, is_send}

-- of the events so far in a group of `count`: how many sent, how many took a datagram without a tag, the
-- sends, and who took a datagram with which tag
pub record GroupTallying : Type 0 where
  pub count : ℕ
  pub sends : ℕ
  pub untagged : ℕ
  pub sent : SendReceivers
  pub taken : List Receipt

abbrev pub receipt_code : Coded Receipt
receipt_code =
    code_by (ℕ × (ℕ × ℕ)) (coded× coded_ℕ (coded× coded_ℕ coded_ℕ))
    (λ r. (r.process, (r.tag.sender, r.tag.clock)))
    (λ p. record { process = p.0; tag = record { sender = p.1.0; clock = p.1.1 } })
    (λ _. refl)

abbrev pub tallying_code : Coded GroupTallying
tallying_code =
    code_by (ℕ × (ℕ × (ℕ × (SendReceivers × List Receipt))))
    (coded× coded_ℕ (coded× coded_ℕ (coded× coded_ℕ (coded× (map.code (coded× coded_ℕ coded_ℕ) coded_ℕ) (coded_list receipt_code)))))
    (λ t. (t.count, (t.sends, (t.untagged, (t.sent, t.taken)))))
    (λ p. record { count = p.0; sends = p.1.0; untagged = p.1.1.0; sent = p.1.1.1.0; taken = p.1.1.1.1 })
    (λ _. refl)

-- no events
abbrev pub nothing_tallied : ℕ → GroupTallying
nothing_tallied count = record { count = count; sends = 0; untagged = 0; sent = map.empty; taken = [] }

-- with this event's send, where it is one
abbrev pub send_by : Bool → GroupTallying → AcceptedEvent → GroupTallying
send_by false t a = t
send_by true t a = record t { sends = t.sends + 1; sent = map.insert t.sent (a.process, a.entry.clock) a.entry.call.a0 }

abbrev pub with_send : GroupTallying → AcceptedEvent → GroupTallying
with_send t a = send_by (is_send t.count a) t a

-- with the datagram that it took, where it took one
abbrev pub receipt_by : Bool → Option Tag → ℕ → GroupTallying → GroupTallying
receipt_by false tag process t = t
receipt_by true None process t = record t { untagged = t.untagged + 1 }
receipt_by true (Some tag) process t = record t { taken = t.taken ++ record { process = process; tag = tag } ∷ [] }

abbrev pub with_receipt : GroupTallying → AcceptedEvent → GroupTallying
with_receipt t a = receipt_by (is_taken a.entry) a.entry.tag a.process t

-- with one event more
abbrev pub with_accepted : GroupTallying → AcceptedEvent → GroupTallying
with_accepted t a = with_receipt (with_send t a) a

-- with these events more
abbrev pub with_all_accepted : GroupTallying → List AcceptedEvent → GroupTallying
with_all_accepted t [] = t
with_all_accepted t (a ∷ events) = with_all_accepted (with_accepted t a) events

-- no send of its process at its clock was counted
abbrev pub IsNewSend : GroupTallying → AcceptedEvent → Type 0
IsNewSend t a = map.get t.sent (a.process, a.entry.clock) ≡ None

-- each of these events is new where it comes
abbrev pub AreNewEvents : GroupTallying → List AcceptedEvent → Type 0
AreNewEvents t [] = Unit {0}
AreNewEvents t (a ∷ events) = IsNewSend t a × AreNewEvents (with_accepted t a) events

-- one event more can be counted
pub record HasTallyRoom (t : GroupTallying) : Type 0 where
  pub sends : t.sends + 1 < 2 ^ 64
  pub untagged : t.untagged + 1 < 2 ^ 64

-- each of these events can be counted where it comes
abbrev pub HasTallyRoomFor : GroupTallying → List AcceptedEvent → Type 0
HasTallyRoomFor t [] = Unit {0}
HasTallyRoomFor t (a ∷ events) = HasTallyRoom t × HasTallyRoomFor (with_accepted t a) events

-- the send that the tag names is for this process
abbrev pub is_to_process : ℕ → Option ℕ → Bool
is_to_process process None = false
is_to_process process (Some to) = to == process

abbrev pub is_matched_in : SendReceivers → Receipt → Bool
is_matched_in sent r = is_to_process r.process (map.get sent (r.tag.sender, r.tag.clock))

abbrev pub unmatched_receipts_in : SendReceivers → List Receipt → ℕ
unmatched_receipts_in sent taken = length (filter (λ r. not (is_matched_in sent r)) taken)

-- the tally of the events so far
abbrev pub counts_of : GroupTallying → GroupCounts
counts_of t = record { sends = t.sends; receives = length t.taken; unmatched = unmatched_receipts_in t.sent t.taken; untagged = t.untagged }
