-- What an event's entry tells of the network: it sends or takes or does neither, and what it sends is for a
-- process of the group.
use Rattle.std.proofs.Common.{◌≡◌, ℕ, List, Bool, true, false, ◌&&◌, refl}
use Rattle.std.specs.Prelude.{◌==◌, nat_lt, not}
use Rattle.std.proofs.lemmas.Bool.{false≢true, true≢false}
use Rattle.call_table.specs.declared.kind.Kind.{Kind}
use Rattle.call_table.specs.declared.kind.Kind.TheVariants.{Send}
use Rattle.lib_calls.specs.declared.entry.Entry.{Entry}
use Rattle.lib_calls.specs.Effects.{minus_one}
use Rattle.lib_calls.specs.Traffic.{is_sent, is_taken, sends_as, takes_as}
use Rattle.lossy_net.specs.Network.{Traffic}
use Rattle.group_world.specs.World.{sent_if, took_if}

sends_alone : (kind : Kind) (count : ℕ) (e : Entry) → sends_as kind count e ≡ true → takes_as kind e ≡ false
sends_alone Send count e sent = refl
sends_alone kind count e sent = absurd (false≢true sent)

-- an event that sends takes nothing
pub not_both : (count : ℕ) (e : Entry) → is_sent count e ≡ true → is_taken e ≡ false
unfolding is_sent is_taken
not_both count e sent = sends_alone e.call.kind count e sent

within_itself : (good within : Bool) → (good && within) ≡ ((good && within) && within)
within_itself true true = refl
within_itself true false = refl
within_itself false within = refl

sends_within : (kind : Kind) (count : ℕ) (e : Entry) → sends_as kind count e ≡ (sends_as kind count e && nat_lt e.call.a0 count)
sends_within Send count e = within_itself (not (e.reply == minus_one)) (nat_lt e.call.a0 count)
sends_within kind count e = refl

-- what it sends is for a process of the group
pub sent_within : (count : ℕ) (e : Entry) → is_sent count e ≡ (is_sent count e && nat_lt e.call.a0 count)
unfolding is_sent
sent_within count e = sends_within e.call.kind count e

-- so it makes no difference which of the two is done first
pub either_first : (net : List Traffic) (p : ℕ) (e : Entry) (sent taken : Bool) → (sent ≡ true → taken ≡ false)
    → took_if taken (sent_if sent net p e) p ≡ sent_if sent (took_if taken net p) p e
either_first net p e true true alone = absurd (true≢false (alone refl))
either_first net p e true false alone = refl
either_first net p e false taken alone = refl
