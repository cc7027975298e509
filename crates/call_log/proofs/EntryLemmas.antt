-- An entry is at the front of some bytes exactly where `entry_at` gives one.
use Rattle.std.proofs.Common.{append_assoc, nat_eq, ◌≡◌, ℕ, ◌<◌, ◌≤◌, true, leb, List, [], ◌∷◌, ◌++◌, length, drop, slice_index, Option, Some, None, refl, sym, ap, ◌∙◌, subst, arith}
use Rattle.std.specs.Int.{w16, w32, w64}
use Rattle.std.specs.List.{starts_with}
use Rattle.std.proofs.lemmas.Bool.{leb-true}
use Rattle.std.proofs.lemmas.Bool.Decides.{Decides-eqb}
use Rattle.std.proofs.lemmas.Slice.Eq.{starts_is}
use Rattle.std.proofs.lemmas.List.{drop_at, nil_from_length}
use Rattle.std.proofs.lemmas.Option.{cond_some, same_Some}
use Rattle.fri_bytes.specs.Laws.{AreBytes, ExactReaders}
use Rattle.fri_bytes.specs.Reading.{byte_at, piece_at}
use Rattle.call_table.specs.Table.{row}
use Rattle.call_table.specs.declared.kind.Kind.{Kind}
use Rattle.lib_calls.specs.declared.entry.Entry.{Entry}
use Rattle.lib_calls.specs.Entry.{IsShaped}
use Rattle.call_log.specs.declared.version.Version.{Version}
use Rattle.call_log.specs.Version.{clock_at, clock_bytes, number_at, number_bytes}
use Rattle.call_log.specs.Entry.{BeginsNoEntry, body_bytes, encoding, argument_bytes, string_if, tag_if}
use Rattle.call_log.specs.Reading.{read_entry, body_at, kind_byte_at, call_at, string_if_at, tag_if_at}
use Rattle.call_log.specs.Log.{Unread, entry_at, entry_in, unread_after_entry}
use Rattle.call_log.proofs.EntrySizes.{length-body_lt}
use Rattle.call_log.proofs.ShapeTests.{and_true, both_true, is_shaped-from, shaped_from_test}
use Rattle.call_log.proofs.FieldLemmas.{bind_some, front_in_range, bytes_after, onto, next, when_true, kept, clock_field, u16_field, u32_field, u64_field, byte_field, kind_field, string_if_field, tag_if_field, call_at-kind, call_field}

at_most_none : (n : ℕ) → leb n 0 ≡ true → n ≡ 0
at_most_none n h = let few : n ≤ 0 = leb-true n 0 h in omega arith

-- the fields of an entry of the kind were read one after the other, and nothing is left
record Steps (v : Version) (last : ℕ) (kind : Kind) (bytes : List ℕ) (e : Entry) : Type 0 where
  kind_is : e.call.kind ≡ kind
  after_clock : List ℕ
  after_thread : List ℕ
  after_kind : List ℕ
  after_signal : List ℕ
  after_call : List ℕ
  after_reply : List ℕ
  after_outgoing : List ℕ
  after_incoming : List ℕ
  clock : clock_at v last bytes ≡ Some (e.clock, after_clock)
  thread : number_at v w16 after_clock ≡ Some (e.thread, after_thread)
  number : kind_byte_at after_thread ≡ Some (kind, after_kind)
  signal : byte_at after_kind ≡ Some (e.signal, after_signal)
  call : call_at v kind after_signal ≡ Some (e.call, after_call)
  reply : number_at v w64 after_call ≡ Some (e.reply, after_reply)
  outgoing : string_if_at v (row kind).entry.outgoing after_reply ≡ Some (e.outgoing, after_outgoing)
  incoming : string_if_at v (row kind).entry.incoming after_outgoing ≡ Some (e.incoming, after_incoming)
  tag : tag_if_at v (row kind).entry.tag after_incoming ≡ Some (e.tag, [])

body_at-from : (v : Version) (last : ℕ) (kind : Kind) (bytes : List ℕ) (e : Entry) → Steps v last kind bytes e → body_at v last bytes ≡ Some e
unfolding body_at
body_at-from v last kind bytes e h =
    next _ _ (e.clock, h.after_clock) _ h.clock (
    next _ _ (e.thread, h.after_thread) _ h.thread (
    next _ _ (kind, h.after_kind) _ h.number (
    next _ _ (e.signal, h.after_signal) _ h.signal (
    next _ _ (e.call, h.after_call) _ h.call (
    next _ _ (e.reply, h.after_reply) _ h.reply (
    next _ _ (e.outgoing, h.after_outgoing) _ h.outgoing (
    next _ _ (e.incoming, h.after_incoming) _ h.incoming (
    next _ _ (e.tag, []) _ h.tag refl))))))))

-- the steps of some kind
abbrev AnySteps : Version → ℕ → List ℕ → Entry → Type 0
AnySteps v last bytes e = (kind : Kind) × Steps v last kind bytes e

steps_from : (v : Version) (last : ℕ) (bytes : List ℕ) (e : Entry) → body_at v last bytes ≡ Some e → AnySteps v last bytes e
unfolding body_at
steps_from v last bytes e read =
    let clock = bind_some _ _ _ read in
    let thread = bind_some _ _ _ clock.2 in
    let kind = bind_some _ _ _ thread.2 in
    let signal = bind_some _ _ _ kind.2 in
    let call = bind_some _ _ _ signal.2 in
    let reply = bind_some _ _ _ call.2 in
    let outgoing = bind_some _ _ _ reply.2 in
    let incoming = bind_some _ _ _ outgoing.2 in
    let tag = bind_some _ _ _ incoming.2 in
    let end = kept _ _ _ tag.2 in
    let made : Entry = record {
      clock = clock.0.0;
      thread = thread.0.0;
      signal = signal.0.0;
      call = call.0.0;
      reply = reply.0.0;
      outgoing = outgoing.0.0;
      incoming = incoming.0.0;
      tag = tag.0.0;
    } in
    let none_left : tag.0.1 ≡ [] = nil_from_length tag.0.1 (at_most_none (length tag.0.1) end.0) in
    let steps : Steps v last kind.0.0 bytes made = record {
      kind_is = call_at-kind v kind.0.0 signal.0.1 call.0.0 call.0.1 call.1;
      after_clock = clock.0.1;
      after_thread = thread.0.1;
      after_kind = kind.0.1;
      after_signal = signal.0.1;
      after_call = call.0.1;
      after_reply = reply.0.1;
      after_outgoing = outgoing.0.1;
      after_incoming = incoming.0.1;
      clock = clock.1;
      thread = thread.1;
      number = kind.1;
      signal = signal.1;
      call = call.1;
      reply = reply.1;
      outgoing = outgoing.1;
      incoming = incoming.1;
      tag = tag.1 ∙ ap (λ (t : List ℕ). Some (tag.0.0, t)) none_left;
    } in
    subst (AnySteps v last bytes) (same_Some made e end.1) (kind.0.0, steps)

module _ (readers : ExactReaders) where
  -- the readers read what was written, whatever follows
  pub body_at-body : (v : Version) (last : ℕ) (e : Entry) → IsShaped e → body_at v last (body_bytes v last e) ≡ Some e
  unfolding body_bytes
  body_at-body v last e shaped =
      let tag : List ℕ = tag_if v (row e.call.kind).entry.tag e.tag ++ [] in
      let incoming : List ℕ = string_if v (row e.call.kind).entry.incoming e.incoming ++ tag in
      let outgoing : List ℕ = string_if v (row e.call.kind).entry.outgoing e.outgoing ++ incoming in
      let reply : List ℕ = number_bytes v w64 e.reply ++ outgoing in
      let call : List ℕ = argument_bytes v e.call ++ reply in
      let signal : List ℕ = (e.signal ∷ []) ++ call in
      let kind : List ℕ = ((row e.call.kind).number ∷ []) ++ signal in
      let thread : List ℕ = number_bytes v w16 e.thread ++ kind in
      let read : Steps v last e.call.kind (clock_bytes v last e.clock ++ thread) e = record {
        kind_is = refl;
        after_clock = thread;
        after_thread = kind;
        after_kind = signal;
        after_signal = call;
        after_call = reply;
        after_reply = outgoing;
        after_outgoing = incoming;
        after_incoming = tag;
        clock = (clock_field readers v last).again e.clock thread shaped.clock;
        thread = (u16_field readers v).again e.thread kind shaped.thread;
        number = kind_field.again e.call.kind signal tt;
        signal = refl;
        call = (call_field readers v e.call.kind).again e.call reply (refl, shaped.arguments);
        reply = (u64_field readers v).again e.reply outgoing shaped.reply;
        outgoing = (string_if_field readers v (row e.call.kind).entry.outgoing).again e.outgoing incoming shaped.outgoing;
        incoming = (string_if_field readers v (row e.call.kind).entry.incoming).again e.incoming tag shaped.incoming;
        tag = (tag_if_field readers v (row e.call.kind).entry.tag).again e.tag [] shaped.tag;
      } in
      body_at-from v last e.call.kind (clock_bytes v last e.clock ++ thread) e read

  -- and what they read is an entry that is all of the bytes
  shaped_from : (v : Version) (last : ℕ) (bytes : List ℕ) (e : Entry) → AreBytes bytes → Steps v last e.call.kind bytes e → IsShaped e × (bytes ≡ body_bytes v last e)
  unfolding body_bytes
  shaped_from v last bytes e are h =
      let are_1 = bytes_after (clock_field readers v last) bytes e.clock h.after_clock are h.clock in
      let are_2 = bytes_after (u16_field readers v) h.after_clock e.thread h.after_thread are_1 h.thread in
      let are_3 = bytes_after kind_field h.after_thread e.call.kind h.after_kind are_2 h.number in
      let are_4 = bytes_after byte_field h.after_kind e.signal h.after_signal are_3 h.signal in
      let are_5 = bytes_after (call_field readers v e.call.kind) h.after_signal e.call h.after_call are_4 h.call in
      let are_6 = bytes_after (u64_field readers v) h.after_call e.reply h.after_reply are_5 h.reply in
      let are_7 = bytes_after (string_if_field readers v (row e.call.kind).entry.outgoing) h.after_reply e.outgoing h.after_outgoing are_6 h.outgoing in
      let are_8 = bytes_after (string_if_field readers v (row e.call.kind).entry.incoming) h.after_outgoing e.incoming h.after_incoming are_7 h.incoming in
      let clock = (clock_field readers v last).found bytes e.clock h.after_clock are h.clock in
      let thread = (u16_field readers v).found h.after_clock e.thread h.after_thread are_1 h.thread in
      let kind = kind_field.found h.after_thread e.call.kind h.after_kind are_2 h.number in
      let signal = byte_field.found h.after_kind e.signal h.after_signal are_3 h.signal in
      let call = (call_field readers v e.call.kind).found h.after_signal e.call h.after_call are_4 h.call in
      let reply = (u64_field readers v).found h.after_call e.reply h.after_reply are_5 h.reply in
      let outgoing = (string_if_field readers v (row e.call.kind).entry.outgoing).found h.after_reply e.outgoing h.after_outgoing are_6 h.outgoing in
      let incoming = (string_if_field readers v (row e.call.kind).entry.incoming).found h.after_outgoing e.incoming h.after_incoming are_7 h.incoming in
      let tag = (tag_if_field readers v (row e.call.kind).entry.tag).found h.after_incoming e.tag [] are_8 h.tag in
      let shaped : IsShaped e = record {
        clock = clock.0;
        thread = thread.0;
        signal = signal.0;
        arguments = call.0.1;
        reply = reply.0;
        outgoing = outgoing.0;
        incoming = incoming.0;
        tag = tag.0;
      } in
      let spelled : bytes ≡ body_bytes v last e =
      clock.1 ∙ onto (clock_bytes v last e.clock) (
      thread.1 ∙ onto (number_bytes v w16 e.thread) (
      kind.1 ∙ onto ((row e.call.kind).number ∷ []) (
      signal.1 ∙ onto (e.signal ∷ []) (
      call.1 ∙ onto (argument_bytes v e.call) (
      reply.1 ∙ onto (number_bytes v w64 e.reply) (
      outgoing.1 ∙ onto (string_if v (row e.call.kind).entry.outgoing e.outgoing) (
      incoming.1 ∙ onto (string_if v (row e.call.kind).entry.incoming e.incoming) tag.1))))))) in
      (shaped, spelled)

  body_at-found : (v : Version) (last : ℕ) (bytes : List ℕ) (e : Entry) → AreBytes bytes → body_at v last bytes ≡ Some e → IsShaped e × (bytes ≡ body_bytes v last e)
  body_at-found v last bytes e are found =
      let steps = steps_from v last bytes e found in
      let at : Steps v last steps.0 bytes e = steps.1 in
      shaped_from v last bytes e are (subst (λ (k : Kind). Steps v last k bytes e) (sym at.kind_is) at)

  -- ---- an entry after its length

  read_entry-from : (v : Version) (last : ℕ) (bytes after within rest : List ℕ) (n : ℕ) (e : Entry) → number_at v w32 bytes ≡ Some (n, after) → piece_at n after ≡ Some (within, rest) → body_at v last within ≡ Some e → read_entry v last bytes ≡ Some (e, rest)
  unfolding read_entry
  read_entry-from v last bytes after within rest n e size piece entry =
      next _ _ (n, after) _ size (next _ _ (within, rest) _ piece (next _ _ e _ entry refl))

  -- the readers read what was written, whatever follows
  pub read_entry-encoding : (v : Version) (last : ℕ) (e : Entry) (rest : List ℕ) → IsShaped e → read_entry v last (encoding v last e ++ rest) ≡ Some (e, rest)
  unfolding encoding
  read_entry-encoding v last e rest shaped =
      let body : List ℕ = body_bytes v last e in
      ap (read_entry v last) (append_assoc (number_bytes v w32 (length body)) body rest)
      ∙ read_entry-from v last _ (body ++ rest) body rest (length body) e
      ((u32_field readers v).again (length body) (body ++ rest) (length-body_lt v last e shaped))
      ((readers.piece (length body)).again body body rest (refl, refl))
      (body_at-body v last e shaped)

  encoding_from : (v : Version) (last : ℕ) (bytes after within rest : List ℕ) (n : ℕ) (e : Entry) → bytes ≡ number_bytes v w32 n ++ after → after ≡ within ++ rest → length within ≡ n → within ≡ body_bytes v last e → bytes ≡ encoding v last e ++ rest
  unfolding encoding
  encoding_from v last bytes after within rest n e front then size is =
      let body : List ℕ = body_bytes v last e in
      front ∙ onto (number_bytes v w32 n) (then ∙ ap (λ (t : List ℕ). t ++ rest) is)
      ∙ ap (λ (k : ℕ). number_bytes v w32 k ++ (body ++ rest)) (sym size ∙ ap length is)
      ∙ sym (append_assoc (number_bytes v w32 (length body)) body rest)

  -- and what they read is an entry that is there
  pub read_entry-found : (v : Version) (last : ℕ) (bytes : List ℕ) (e : Entry) (rest : List ℕ) → AreBytes bytes → read_entry v last bytes ≡ Some (e, rest) → IsShaped e × (bytes ≡ encoding v last e ++ rest)
  unfolding read_entry
  read_entry-found v last bytes e rest are found =
      let size = bind_some _ _ _ found in
      let piece = bind_some _ _ _ size.2 in
      let entry = bind_some _ _ _ piece.2 in
      let number = (u32_field readers v).found bytes size.0.0 size.0.1 are size.1 in
      let front = (readers.piece size.0.0).takes size.0.1 piece.0.0 piece.0.1 piece.1 in
      let after : size.0.1 ≡ piece.0.0 ++ piece.0.1 = front.1 ∙ ap (λ (t : List ℕ). t ++ piece.0.1) front.2.1 in
      let are_piece : AreBytes piece.0.0 = front_in_range piece.0.0 piece.0.1 (λ i. subst (λ (t : List ℕ). slice_index t i < 256) after (bytes_after (u32_field readers v) bytes size.0.0 size.0.1 are size.1 i)) in
      let inside = body_at-found v last piece.0.0 entry.0 are_piece entry.1 in
      let spelled : bytes ≡ encoding v last entry.0 ++ piece.0.1 =
      encoding_from v last bytes size.0.1 piece.0.0 piece.0.1 size.0.0 entry.0 number.1 after front.2.0 inside.1 in
      subst (λ (x : Entry × List ℕ). IsShaped x.0 × (bytes ≡ encoding v last x.0 ++ x.1)) (same_Some (entry.0, piece.0.1) (e, rest) entry.2) (inside.0, spelled)

  -- where they read nothing, no entry is in front
  pub read_entry-none : (v : Version) (last : ℕ) (bytes : List ℕ) → read_entry v last bytes ≡ None → BeginsNoEntry v last bytes
  read_entry-none v last bytes none e rest shaped begins =
      let some : read_entry v last bytes ≡ Some (e, rest) = ap (read_entry v last) begins ∙ read_entry-encoding v last e rest shaped in
      cc

  -- ---- the entry in front

  pub entry_at-begins : (left : Unread) (e : Entry) (rest : List ℕ) → IsShaped e → left.bytes ≡ encoding left.version left.last e ++ rest → entry_at left ≡ Some (e, unread_after_entry left e rest)
  unfolding entry_at entry_in
  entry_at-begins left e rest shaped begins =
      let spelling : List ℕ = encoding left.version left.last e in
      let read : read_entry left.version left.last left.bytes ≡ Some (e, rest) = ap (read_entry left.version left.last) begins ∙ read_entry-encoding left.version left.last e rest shaped in
      let starts : starts_with nat_eq left.bytes spelling ≡ true = (starts_is Decides-eqb left.bytes spelling _ refl).1 rest begins in
      let after : drop (length spelling) left.bytes ≡ rest = ap (drop (length spelling)) begins ∙ drop_at spelling rest (length spelling) refl in
      next _ _ (e, rest) _ read (when_true _ _ _ _ (both_true _ _ (is_shaped-from e shaped) starts) (ap (λ (t : List ℕ). Some (e, unread_after_entry left e t)) after))

-- an entry in front, and what is left after it
pub record IsNext (left : Unread) (e : Entry) (next : Unread) : Type 0 where
  pub shaped : IsShaped e
  pub spelled : left.bytes ≡ encoding left.version left.last e ++ next.bytes
  pub left_is : next ≡ unread_after_entry left e next.bytes

pub entry_at-found : (left : Unread) (e : Entry) (next : Unread) → entry_at left ≡ Some (e, next) → IsNext left e next
unfolding entry_at entry_in
entry_at-found left e next found =
    let read = bind_some (λ (x : Entry × List ℕ). entry_in left x.0) (read_entry left.version left.last left.bytes) (e, next) found in
    let chosen = cond_some _ _ _ read.2 in
    let tests = and_true _ _ chosen.0 in
    let spelled = (starts_is Decides-eqb left.bytes (encoding left.version left.last read.0.0) _ refl).0 tests.1 in
    subst (λ (x : Entry × Unread). IsNext left x.0 x.1) chosen.1 (record { shaped = shaped_from_test read.0.0 tests.0; spelled = spelled; left_is = refl })

-- a value that none can be
pub none_from : {A : Type 0} (o : Option A) → ((x : A) → o ≡ Some x → ⊥) → o ≡ None
none_from None h = refl
none_from (Some x) h = absurd (h x refl)

pub entry_at-none : (left : Unread) → BeginsNoEntry left.version left.last left.bytes → entry_at left ≡ None
entry_at-none left none = none_from (entry_at left) (λ x found.
    let there = entry_at-found left x.0 x.1 found in
    none x.0 x.1.bytes there.shaped there.spelled)
