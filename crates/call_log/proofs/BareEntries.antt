-- The bytes of a bare entry.
use Rattle.std.proofs.Common.{◌≡◌, ℕ, ◌+◌, ◌-◌, ◌^◌, ◌/◌, ◌%◌, ◌<◌, ◌≤◌, Bool, true, false, ◌&&◌, not, List, [], ◌∷◌, ◌++◌, length, Option, refl, sym, ap, ◌∙◌, arith, length-append}
use Rattle.std.specs.Prelude.{nat_lt}
use Rattle.std.specs.List.{concat}
use Rattle.std.proofs.lemmas.Bool.{eqb-true, le-ltb, lt-ltb, ltb-true}
use Rattle.std.proofs.lemmas.List.{append-nil}
use Rattle.lamport_tag.specs.declared.Tag.{Tag}
use Rattle.call_table.specs.Table.{row}
use Rattle.fri_bytes.specs.Short.{short_bytes}
use Rattle.lib_calls.specs.declared.entry.Entry.{Entry}
use Rattle.call_log.specs.declared.version.Version.TheVariants.{Two}
use Rattle.call_log.specs.Version.{clock_gap}
use Rattle.call_log.specs.Entry.{argument_bytes, number_if, string_if, tag_if}
use Rattle.call_log.specs.Spelling.{IsLengthIf}
use Rattle.call_log.specs.inside.Parts.{framed_lead, front_bytes, is_bare, lead_bytes, length_if, reply_bytes}

-- ---- short numbers

pub short_byte : (n : ℕ) → n < 128 → short_bytes n ≡ n ∷ []
unfolding short_bytes
short_byte n small = rw (lt-ltb n 128 small) refl

pub short_pair : (n : ℕ) → 128 ≤ n → n / 128 < 128 → short_bytes n ≡ (128 + n % 128) ∷ n / 128 ∷ []
unfolding short_bytes
short_pair n big small = rw (le-ltb n 128 big, lt-ltb (n / 128) 128 small) refl

pub short_triple : (n : ℕ) → 128 ≤ n → 128 ≤ n / 128 → n / 128 / 128 < 128 → short_bytes n ≡ (128 + n % 128) ∷ (128 + n / 128 % 128) ∷ n / 128 / 128 ∷ []
unfolding short_bytes
short_triple n big more small = rw (le-ltb n 128 big, le-ltb (n / 128) 128 more, lt-ltb (n / 128 / 128) 128 small) refl

-- what is spelled of a short body, after the length of the whole
pub behind_length : (last sent : ℕ) (e : Entry) (size : ℕ) → size ≡ length (lead_bytes Two last sent e) + sent → size < 128 → framed_lead Two last sent e ≡ size ∷ lead_bytes Two last sent e
unfolding framed_lead
behind_length last sent e size is small =
    ap (λ (n : ℕ). short_bytes n ++ lead_bytes Two last sent e) (sym is) ∙ ap (λ (t : List ℕ). t ++ lead_bytes Two last sent e) (short_byte size small)

-- ---- what a bare entry is

both : (a b : Bool) → (a && b) ≡ true → (a ≡ true) × (b ≡ true)
both true b h = (refl, h)
both false b h = absurd cc

untrue : (b : Bool) → not b ≡ true → b ≡ false
untrue true h = absurd cc
untrue false h = refl

record Bare (last : ℕ) (e : Entry) : Type 0 where
  one : (row e.call.kind).signature.params ≡ 1
  outgoing : (row e.call.kind).entry.outgoing ≡ false
  incoming : (row e.call.kind).entry.incoming ≡ false
  tag : (row e.call.kind).entry.tag ≡ false
  gap : clock_gap last e.clock < 128
  thread : e.thread < 128
  reply : e.reply < 128

bare_parts : (last : ℕ) (e : Entry) → is_bare last e ≡ true → Bare last e
bare_parts last e h =
    let one = both _ _ h in
    let outgoing = both _ _ one.1 in
    let incoming = both _ _ outgoing.1 in
    let tag = both _ _ incoming.1 in
    let gap = both _ _ tag.1 in
    let thread = both _ _ gap.1 in
    record {
      one = eqb-true _ _ one.0;
      outgoing = untrue _ outgoing.0;
      incoming = untrue _ incoming.0;
      tag = untrue _ tag.0;
      gap = ltb-true _ _ gap.0;
      thread = ltb-true _ _ thread.0;
      reply = ltb-true _ _ thread.1;
    }

-- ---- its fields

front_of : (gap thread number signal : ℕ) → gap < 128 → thread < 128 → concat (short_bytes gap ∷ short_bytes thread ∷ (number ∷ signal ∷ []) ∷ []) ≡ gap ∷ thread ∷ number ∷ signal ∷ []
front_of gap thread number signal few some = rw (short_byte gap few, short_byte thread some) refl

argument_of : (params a0 a1 a2 : ℕ) (bytes : List ℕ) → params ≡ 1 → short_bytes a0 ≡ bytes
    → concat (number_if Two (nat_lt 0 params) a0 ∷ number_if Two (nat_lt 1 params) a1 ∷ number_if Two (nat_lt 2 params) a2 ∷ []) ≡ bytes
argument_of params a0 a1 a2 bytes one is = rw one (append-nil (short_bytes a0) ∙ is)

reply_of : (has came : Bool) (reply sent : ℕ) (incoming : List ℕ) → has ≡ false → came ≡ false → reply < 128
    → short_bytes reply ++ (length_if Two has sent ++ string_if Two came incoming) ≡ reply ∷ []
reply_of has came reply sent incoming none nothing small = rw (none, nothing, short_byte reply small) refl

no_tag : (has : Bool) (tag : Option Tag) → has ≡ false → tag_if Two has tag ≡ []
no_tag has tag none = rw none refl

together : (a b c d : List ℕ) {x y z w : List ℕ} → x ≡ a → y ≡ b → z ≡ c → w ≡ d → x ++ (y ++ (z ++ w)) ≡ a ++ (b ++ (c ++ d))
together a b c d p q r s = rw (p, q, r, s) refl

bare_lead : (last sent : ℕ) (e : Entry) (bytes : List ℕ) → Bare last e → short_bytes e.call.a0 ≡ bytes
    → lead_bytes Two last sent e ≡ clock_gap last e.clock ∷ e.thread ∷ (row e.call.kind).number ∷ e.signal ∷ (bytes ++ e.reply ∷ [])
unfolding lead_bytes front_bytes argument_bytes reply_bytes
bare_lead last sent e bytes h is =
    together (clock_gap last e.clock ∷ e.thread ∷ (row e.call.kind).number ∷ e.signal ∷ []) bytes (e.reply ∷ []) []
    (front_of (clock_gap last e.clock) e.thread (row e.call.kind).number e.signal h.gap h.thread)
    (argument_of (row e.call.kind).signature.params e.call.a0 e.call.a1 e.call.a2 bytes h.one is)
    (reply_of (row e.call.kind).entry.outgoing (row e.call.kind).entry.incoming e.reply sent e.incoming h.outgoing h.incoming h.reply)
    (no_tag (row e.call.kind).entry.tag e.tag h.tag)

none_sent : (has : Bool) (sent : ℕ) → has ≡ false → IsLengthIf has sent → sent ≡ 0
none_sent true sent none few = absurd cc
none_sent false sent none few = few

-- all of it, if these are the bytes of its argument
pub bare_bytes : (last sent : ℕ) (e : Entry) (bytes : List ℕ) (size : ℕ) → is_bare last e ≡ true → IsLengthIf (row e.call.kind).entry.outgoing sent → short_bytes e.call.a0 ≡ bytes → size ≡ 5 + length bytes → size < 128
    → framed_lead Two last sent e ≡ size ∷ clock_gap last e.clock ∷ e.thread ∷ (row e.call.kind).number ∷ e.signal ∷ (bytes ++ e.reply ∷ [])
bare_bytes last sent e bytes size h fits is long small =
    let parts = bare_parts last e h in
    let lead = bare_lead last sent e bytes parts is in
    let none = none_sent (row e.call.kind).entry.outgoing sent parts.outgoing fits in
    let ends : length (bytes ++ e.reply ∷ []) ≡ length bytes + 1 = length-append bytes (e.reply ∷ []) in
    behind_length last sent e size (omega (arith, ap length lead, ends, none, long)) small ∙ ap (λ (t : List ℕ). size ∷ t) lead

-- how far a clock is above another, as it is counted
pub gap_same : (last clock : ℕ) → last < 2 ^ 64 → (clock + (2 ^ 64 - last)) % 2 ^ 64 ≡ clock_gap last clock
gap_same last clock small = omega arith

-- what was added is all of it
pub put_whole : {whole rest : List ℕ} {size gap thread number signal counted named : ℕ} (old new : List ℕ) → whole ≡ size ∷ gap ∷ thread ∷ number ∷ signal ∷ rest → counted ≡ gap → named ≡ number
    → new ≡ old ++ (size ∷ counted ∷ thread ∷ named ∷ signal ∷ rest) → new ≡ old ++ whole
put_whole old new is gap number put = put ∙ rw (gap, number, is) refl
