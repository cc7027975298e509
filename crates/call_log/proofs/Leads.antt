-- The outgoing bytes of an entry come last, so that the entry is spelled without them first; and where its incoming bytes stand.
use Rattle.std.proofs.Common.{◌≡◌, ℕ, ◌+◌, ◌-◌, Bool, true, false, List, [], ◌∷◌, ◌++◌, length, take, drop, Option, refl, sym, ap, ◌∙◌, append_assoc, arith, length-append}
use Rattle.std.specs.List.{concat}
use Rattle.std.proofs.Math.Seq.{drop-append_seam, take-append_seam}
use Rattle.std.specs.Int.{w16, w32, w64}
use Rattle.std.proofs.lemmas.List.{append-nil}
use Rattle.lamport_tag.specs.declared.Tag.{Tag}
use Rattle.call_table.specs.Table.{row}
use Rattle.call_table.specs.declared.kind.Kind.{Kind}
use Rattle.call_table.specs.declared.kind.Kind.TheVariants.{Begin, Exit, Note, Print, Now, SleepUntil, Random, Me, Send, Recv, TryRecv, Spawn, Yield, Join, Lock, Unlock, OnSignal, Thread}
use Rattle.lib_calls.specs.declared.entry.Entry.{Entry}
use Rattle.lib_calls.specs.Entry.{IsShaped, IsStringIf}
use Rattle.call_log.specs.declared.version.Version.{Version}
use Rattle.call_log.specs.Version.{clock_bytes, number_bytes}
use Rattle.call_log.specs.Entry.{argument_bytes, body_bytes, encoding, string_if, tag_if}
use Rattle.call_log.specs.Spelling.{AddsBeforeOutgoing, EndsWithEntry, IsLengthIf, with_outgoing}
use Rattle.call_log.specs.inside.Parts.{framed_lead, front_bytes, lead_bytes, length_if, reply_bytes}

-- what has outgoing bytes has neither incoming ones nor a tag
abbrev OnlyOutgoing : Bool → Bool → Bool → Type 0
OnlyOutgoing true incoming tag = (incoming ≡ false) × (tag ≡ false)
OnlyOutgoing false incoming tag = Unit {0}

only_outgoing : (kind : Kind) → OnlyOutgoing (row kind).entry.outgoing (row kind).entry.incoming (row kind).entry.tag
only_outgoing Begin = tt
only_outgoing Exit = tt
only_outgoing Note = tt
only_outgoing Print = (refl, refl)
only_outgoing Now = tt
only_outgoing SleepUntil = tt
only_outgoing Random = tt
only_outgoing Me = tt
only_outgoing Send = (refl, refl)
only_outgoing Recv = tt
only_outgoing TryRecv = tt
only_outgoing Spawn = tt
only_outgoing Yield = tt
only_outgoing Join = tt
only_outgoing Lock = tt
only_outgoing Unlock = tt
only_outgoing OnSignal = tt
only_outgoing Thread = tt

nothing_left : (bytes : List ℕ) → length bytes ≡ 0 → bytes ≡ []
nothing_left [] e = refl
nothing_left (b ∷ bytes) e = absurd (omega (arith, e))

last_part : (reply size outgoing : List ℕ) → ((reply ++ (size ++ [])) ++ []) ++ outgoing ≡ (reply ++ ((size ++ outgoing) ++ [])) ++ []
last_part reply size outgoing = simp (append_assoc, append-nil)

-- the fields after the arguments, with the outgoing bytes behind them
behind : (v : Version) (has incoming has_tag : Bool) (reply came outgoing : List ℕ) (tag : Option Tag) (sent : ℕ) → OnlyOutgoing has incoming has_tag → IsLengthIf has sent → length outgoing ≡ sent
    → ((reply ++ (length_if v has sent ++ string_if v incoming came)) ++ tag_if v has_tag tag) ++ outgoing ≡ (reply ++ (string_if v has outgoing ++ string_if v incoming came)) ++ tag_if v has_tag tag
behind v true false false reply came outgoing tag sent only few is =
    ap (λ (n : ℕ). ((reply ++ (number_bytes v w32 n ++ [])) ++ []) ++ outgoing) (sym is) ∙ last_part reply (number_bytes v w32 (length outgoing)) outgoing
behind v true true has_tag reply came outgoing tag sent only few is = absurd cc
behind v true false true reply came outgoing tag sent only few is = absurd cc
behind v false incoming has_tag reply came outgoing tag sent only none is =
    let front = (reply ++ ([] ++ string_if v incoming came)) ++ tag_if v has_tag tag in
    ap (λ (t : List ℕ). front ++ t) (nothing_left outgoing (is ∙ none)) ∙ append-nil front

-- ---- the body

regroup : (clock thread kind signal arguments reply outgoing incoming tag : List ℕ) → concat (clock ∷ thread ∷ kind ∷ signal ∷ arguments ∷ reply ∷ outgoing ∷ incoming ∷ tag ∷ []) ≡ concat (clock ∷ thread ∷ (kind ++ signal) ∷ []) ++ (arguments ++ ((reply ++ (outgoing ++ incoming)) ++ tag))
regroup clock thread kind signal arguments reply outgoing incoming tag = simp (append_assoc, append-nil)

body_fields : (v : Version) (last : ℕ) (e : Entry) → body_bytes v last e ≡ concat (clock_bytes v last e.clock ∷ number_bytes v w16 e.thread ∷ ((row e.call.kind).number ∷ []) ∷ (e.signal ∷ []) ∷ argument_bytes v e.call ∷ number_bytes v w64 e.reply ∷ string_if v (row e.call.kind).entry.outgoing e.outgoing ∷ string_if v (row e.call.kind).entry.incoming e.incoming ∷ tag_if v (row e.call.kind).entry.tag e.tag ∷ [])
unfolding body_bytes
body_fields v last e = refl

-- the parts of a body
body_parts : (v : Version) (last : ℕ) (e : Entry)
    → body_bytes v last e ≡ front_bytes v last e ++ (argument_bytes v e.call ++ ((number_bytes v w64 e.reply ++ (string_if v (row e.call.kind).entry.outgoing e.outgoing ++ string_if v (row e.call.kind).entry.incoming e.incoming)) ++ tag_if v (row e.call.kind).entry.tag e.tag))
unfolding front_bytes
body_parts v last e =
    body_fields v last e
    ∙ regroup (clock_bytes v last e.clock) (number_bytes v w16 e.thread) ((row e.call.kind).number ∷ []) (e.signal ∷ []) (argument_bytes v e.call) (number_bytes v w64 e.reply) (string_if v (row e.call.kind).entry.outgoing e.outgoing) (string_if v (row e.call.kind).entry.incoming e.incoming) (tag_if v (row e.call.kind).entry.tag e.tag)

same_front : (v : Version) (last : ℕ) (e : Entry) (outgoing : List ℕ) → front_bytes v last (with_outgoing e outgoing) ≡ front_bytes v last e
unfolding front_bytes
same_front v last e outgoing = refl

three_before : (a b c d : List ℕ) → (a ++ (b ++ c)) ++ d ≡ a ++ (b ++ (c ++ d))
three_before a b c d = append_assoc a (b ++ c) d ∙ ap (λ (t : List ℕ). a ++ t) (append_assoc b c d)

pub lead_and_outgoing : (v : Version) (last sent : ℕ) (e : Entry) (outgoing : List ℕ) → IsLengthIf (row e.call.kind).entry.outgoing sent → length outgoing ≡ sent
    → lead_bytes v last sent e ++ outgoing ≡ body_bytes v last (with_outgoing e outgoing)
unfolding lead_bytes reply_bytes
lead_and_outgoing v last sent e outgoing few is =
    three_before (front_bytes v last e) (argument_bytes v e.call) _ outgoing
    ∙ ap (λ (t : List ℕ). front_bytes v last e ++ (argument_bytes v e.call ++ t))
    (behind v (row e.call.kind).entry.outgoing (row e.call.kind).entry.incoming (row e.call.kind).entry.tag (number_bytes v w64 e.reply) e.incoming outgoing e.tag sent (only_outgoing e.call.kind) few is)
    ∙ ap (λ (t : List ℕ). t ++ (argument_bytes v e.call ++ ((number_bytes v w64 e.reply ++ (string_if v (row e.call.kind).entry.outgoing outgoing ++ string_if v (row e.call.kind).entry.incoming e.incoming)) ++ tag_if v (row e.call.kind).entry.tag e.tag))) (sym (same_front v last e outgoing))
    ∙ sym (body_parts v last (with_outgoing e outgoing))

-- so many more bytes make the whole body
pub whole_length : (v : Version) (last sent : ℕ) (e : Entry) (outgoing : List ℕ) → IsLengthIf (row e.call.kind).entry.outgoing sent → length outgoing ≡ sent
    → length (lead_bytes v last sent e) + sent ≡ length (body_bytes v last (with_outgoing e outgoing))
whole_length v last sent e outgoing few is =
    omega (arith, is, length-append (lead_bytes v last sent e) outgoing, ap length (lead_and_outgoing v last sent e outgoing few is))

-- ---- the entry

pub framed_and_outgoing : (v : Version) (last sent : ℕ) (e : Entry) (outgoing : List ℕ) → IsLengthIf (row e.call.kind).entry.outgoing sent → length outgoing ≡ sent
    → framed_lead v last sent e ++ outgoing ≡ encoding v last (with_outgoing e outgoing)
unfolding framed_lead encoding
framed_and_outgoing v last sent e outgoing few is =
    append_assoc (number_bytes v w32 (length (lead_bytes v last sent e) + sent)) (lead_bytes v last sent e) outgoing
    ∙ ap (λ (n : ℕ). number_bytes v w32 n ++ (lead_bytes v last sent e ++ outgoing)) (whole_length v last sent e outgoing few is)
    ∙ ap (λ (t : List ℕ). number_bytes v w32 (length (body_bytes v last (with_outgoing e outgoing))) ++ t) (lead_and_outgoing v last sent e outgoing few is)

-- what was added in front of the outgoing bytes, and then these
pub entry_added : (v : Version) (last sent : ℕ) (e : Entry) (old mid outgoing : List ℕ) → IsLengthIf (row e.call.kind).entry.outgoing sent → length outgoing ≡ sent
    → mid ≡ old ++ framed_lead v last sent e → mid ++ outgoing ≡ old ++ encoding v last (with_outgoing e outgoing)
entry_added v last sent e old mid outgoing few is added =
    ap (λ (t : List ℕ). t ++ outgoing) added ∙ append_assoc old (framed_lead v last sent e) outgoing ∙ ap (λ (t : List ℕ). old ++ t) (framed_and_outgoing v last sent e outgoing few is)

pub adds_before : (v : Version) (last sent : ℕ) (e : Entry) (old mid : List ℕ) → IsLengthIf (row e.call.kind).entry.outgoing sent
    → mid ≡ old ++ framed_lead v last sent e → AddsBeforeOutgoing v last sent e old mid
adds_before v last sent e old mid few added = λ outgoing is. entry_added v last sent e old mid outgoing few is added

-- the length of bytes that the kind may have
pub length_of_string : (has : Bool) (bytes : List ℕ) → IsStringIf has bytes → IsLengthIf has (length bytes)
length_of_string true bytes few = few
length_of_string false bytes none = ap length none

-- ---- the incoming bytes

-- what is in front of the incoming bytes of an entry
abbrev pub before_incoming : Version → ℕ → Entry → List ℕ → List ℕ
before_incoming v last e before =
    before ++ (number_bytes v w32 (length (body_bytes v last e)) ++ (front_bytes v last e ++ (argument_bytes v e.call ++ (number_bytes v w64 e.reply ++ (string_if v (row e.call.kind).entry.outgoing e.outgoing ++ number_bytes v w32 (length e.incoming))))))

regroup_incoming : (before size front arguments reply outgoing count incoming tag : List ℕ)
    → before ++ (size ++ (front ++ (arguments ++ ((reply ++ (outgoing ++ (count ++ incoming))) ++ tag)))) ≡ (before ++ (size ++ (front ++ (arguments ++ (reply ++ (outgoing ++ count)))))) ++ (incoming ++ tag)
regroup_incoming before size front arguments reply outgoing count incoming tag = simp append_assoc

with_string : (v : Version) (has : Bool) (bytes : List ℕ) → has ≡ true → string_if v has bytes ≡ number_bytes v w32 (length bytes) ++ bytes
with_string v true bytes e = refl
with_string v false bytes e = absurd cc

pub incoming_place : (v : Version) (last : ℕ) (e : Entry) (before : List ℕ) → (row e.call.kind).entry.incoming ≡ true
    → before ++ encoding v last e ≡ before_incoming v last e before ++ (e.incoming ++ tag_if v (row e.call.kind).entry.tag e.tag)
unfolding encoding
incoming_place v last e before has =
    ap (λ (t : List ℕ). before ++ (number_bytes v w32 (length (body_bytes v last e)) ++ t)) (body_parts v last e)
    ∙ ap (λ (t : List ℕ). before ++ (number_bytes v w32 (length (body_bytes v last e)) ++ (front_bytes v last e ++ (argument_bytes v e.call ++ ((number_bytes v w64 e.reply ++ (string_if v (row e.call.kind).entry.outgoing e.outgoing ++ t)) ++ tag_if v (row e.call.kind).entry.tag e.tag))))) (with_string v (row e.call.kind).entry.incoming e.incoming has)
    ∙ regroup_incoming before (number_bytes v w32 (length (body_bytes v last e))) (front_bytes v last e) (argument_bytes v e.call) (number_bytes v w64 e.reply) (string_if v (row e.call.kind).entry.outgoing e.outgoing) (number_bytes v w32 (length e.incoming)) e.incoming (tag_if v (row e.call.kind).entry.tag e.tag)

-- how long three pieces are
pub three_lengths : (front piece tail bytes : List ℕ) → bytes ≡ front ++ (piece ++ tail) → length bytes ≡ length front + (length piece + length tail)
three_lengths front piece tail bytes is = omega (arith, ap length is, length-append front (piece ++ tail), length-append piece tail)

-- a piece in front of another at the end
pub piece_before : (bytes front piece tail : List ℕ) (end n : ℕ) → bytes ≡ front ++ (piece ++ tail) → end ≡ length bytes - length tail → n ≡ length piece
    → take (end - (end - n)) (drop (end - n) bytes) ≡ piece
piece_before bytes front piece tail end n is ends count =
    let whole = three_lengths front piece tail bytes is in
    let start : end - n ≡ length front = omega (arith, whole, ends, count) in
    let size : end - (end - n) ≡ length piece = omega (arith, whole, ends, count) in
    ap (λ (k : ℕ). take k (drop (end - n) bytes)) size
    ∙ ap (λ (k : ℕ). take (length piece) (drop k bytes)) start
    ∙ ap (λ (t : List ℕ). take (length piece) (drop (length front) t)) is
    ∙ ap (take (length piece)) (drop-append_seam front (piece ++ tail))
    ∙ take-append_seam piece tail

-- the incoming bytes of an entry with which bytes end, and its tag behind them
pub incoming_behind : (v : Version) (e : Entry) (bytes : List ℕ) → EndsWithEntry v e bytes → (row e.call.kind).entry.incoming ≡ true
    → (front : List ℕ) × (bytes ≡ front ++ (e.incoming ++ tag_if v (row e.call.kind).entry.tag e.tag))
incoming_behind v e bytes ends has =
    (before_incoming v ends.last (with_outgoing e ends.outgoing) ends.before, ends.is ∙ incoming_place v ends.last (with_outgoing e ends.outgoing) ends.before has)
