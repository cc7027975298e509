-- The entry of an event whose bytes are lent from where it was spelled.
use Rattle.std.proofs.Common.{◌≡◌, ◌∙◌, ◌++◌, ℕ, lit≤, Bool, true, false, List, [], length, ap, arith, length-append, refl, subst, sym}
use Rattle.std.proofs.Math.Seq.{drop-append_seam}
use Rattle.std.specs.Prelude.{drop}
use Rattle.lib_calls.specs.declared.entry.Entry.{Entry}
use Rattle.lib_calls.specs.declared.entry.EntryView.{EntryView}
use Rattle.lib_calls.specs.Effects.{outgoing_of}
use Rattle.call_table.specs.Table.{row}
use Rattle.lib_calls.specs.Entry.{IsShaped, IsStringIf, entry_of}
use Rattle.call_log.specs.declared.version.Version.TheVariants.{Two}
use Rattle.call_log.specs.Entry.{encoding}
use Rattle.call_log.specs.Spelling.{AddsBeforeOutgoing, EndsWithEntry, IsLengthIf, with_outgoing}
use Rattle.guest_process.specs.State.{State}
use Rattle.group_record.specs.inside.Recorded.{IsSpelledEvent, event_entry}

-- ---- its shape

no_bytes : (has : Bool) → IsStringIf has []
no_bytes true = lit≤ tt
no_bytes false = refl

-- an entry is shaped too if it sends out nothing
pub shaped_without : (e : Entry) (outgoing : List ℕ) → e.outgoing ≡ [] → IsShaped (with_outgoing e outgoing) → IsShaped e
shaped_without e outgoing none shaped = record {
  clock = shaped.clock;
  thread = shaped.thread;
  signal = shaped.signal;
  arguments = shaped.arguments;
  reply = shaped.reply;
  outgoing = subst (IsStringIf (row e.call.kind).entry.outgoing) (sym none) (no_bytes (row e.call.kind).entry.outgoing);
  incoming = shaped.incoming;
  tag = shaped.tag;
}

-- how many bytes it sends out
pub length_fits : (has : Bool) (bytes : List ℕ) → IsStringIf has bytes → IsLengthIf has (length bytes)
length_fits true bytes few = few
length_fits false bytes none = ap length none

-- ---- its bytes

-- what was spelled, and then what is sent out
pub spelled_so : (e : Entry) (last sent start : ℕ) (outgoing cleared lead bytes : List ℕ) → AddsBeforeOutgoing Two last sent e cleared lead → length outgoing ≡ sent → cleared ≡ [] → start ≡ length lead → bytes ≡ lead ++ outgoing
    → IsSpelledEvent last (with_outgoing e outgoing) start bytes
spelled_so e last sent start outgoing cleared lead bytes adds size none at put = record {
  spelled = put ∙ adds outgoing size ∙ ap (λ (t : List ℕ). t ++ encoding Two last (with_outgoing e outgoing)) none;
  inside = omega (arith, at, ap length put, length-append lead outgoing);
  sent = ap (drop start) put ∙ ap (λ n. drop n (lead ++ outgoing)) at ∙ drop-append_seam lead outgoing;
}

-- where they are lent as a slice they end with it
pub ends_with : (S : State) (event : EntryView) (last start : ℕ) (bytes lent : List ℕ) → IsSpelledEvent last (event_entry S event) start bytes → IsShaped (event_entry S event) → lent ≡ bytes
    → EndsWithEntry Two (entry_of event) lent
ends_with S event last start bytes lent spelled shaped is = record { outgoing = outgoing_of event.call S.store.memory; last = last; before = []; shaped = shaped; is = is ∙ spelled.spelled }

-- what is lent from there is that entry
pub lent_same : (S : State) (event : EntryView) (last start : ℕ) (bytes lent : List ℕ) (entry : Entry) → IsSpelledEvent last (event_entry S event) start bytes → lent ≡ bytes
    → entry ≡ with_outgoing (entry_of event) (drop start lent) → event_entry S event ≡ entry
lent_same S event last start bytes lent entry spelled is made = ap (with_outgoing (entry_of event)) (sym spelled.sent ∙ ap (drop start) (sym is)) ∙ sym made

-- and it was spelled so
pub spelled_same : (S : State) (event : EntryView) (last start : ℕ) (bytes : List ℕ) (entry : Entry) → IsSpelledEvent last (event_entry S event) start bytes
    → event_entry S event ≡ entry → bytes ≡ encoding Two last entry
spelled_same S event last start bytes entry spelled same = spelled.spelled ∙ ap (encoding Two last) same
