-- All entries of what is left of a log: what one more entry changes, and that no list of entries is longer.
use Rattle.std.proofs.Common.{◌≡◌, ℕ, zero, suc, ◌+◌, ◌≤◌, ◌⊎◌, inl, inr, ◌↔◌, subst, append-nil, List, [], ◌∷◌, ◌++◌, length, Option, Some, None, refl, sym, ap, ◌∙◌, arith, length-append, append_assoc, length-drop}
use Rattle.std.specs.Prelude.{◌<◌, take, drop, All}
use Rattle.std.proofs.lemmas.List.{take-append-drop}
use Rattle.std.proofs.lemmas.Option.{same_Some}
use Rattle.std.proofs.lemmas.List.Elements.{All-nil, All-cons, All-head, All-tail}
use Rattle.fri_bytes.specs.Laws.{ExactReaders}
use Rattle.lib_calls.specs.declared.entry.Entry.{Entry}
use Rattle.lib_calls.specs.Entry.{IsShaped}
use Rattle.call_log.specs.declared.version.Version.{Version}
use Rattle.call_log.specs.Entry.{BeginsNoEntry, clock_after, encoding, encodings}
use Rattle.call_log.specs.Limits.{least_entry}
use Rattle.call_log.specs.Log.{HoldsEntries, Unread, EntriesAndRest, entry_at, entries_of, unread_after_entry, rest_of_log, entries_walk_then, entries_walk_within, with_first_entry}
use Rattle.call_log.proofs.EntryLemmas.{entry_at-begins, entry_at-found, entry_at-none}
use Rattle.call_log.proofs.EntrySizes.{length-encoding}

-- each entry takes bytes
pub shorter : (v : Version) (last : ℕ) (bytes : List ℕ) (e : Entry) (rest : List ℕ) → bytes ≡ encoding v last e ++ rest → length rest + least_entry ≤ length bytes
shorter v last bytes e rest begins = omega (arith, ap length begins, length-append (encoding v last e) rest, length-encoding v last e)

-- an entry stands in front, or none does
pub record Begins (left : Unread) : Type 0 where
  pub entry : Entry
  pub rest : List ℕ
  pub shaped : IsShaped entry
  pub spelled : left.bytes ≡ encoding left.version left.last entry ++ rest

-- none does
abbrev pub Stops : Unread → Type 0
Stops left = BeginsNoEntry left.version left.last left.bytes

-- fewer bytes are left after it
fewer : (left : Unread) (b : Begins left) → length b.rest + least_entry ≤ length left.bytes
fewer left b = shorter left.version left.last left.bytes b.entry b.rest b.spelled

-- no bytes hold no entry
pub nothing_begins : (v : Version) (last : ℕ) → BeginsNoEntry v last []
nothing_begins v last e rest shaped begins = omega (arith, shorter v last [] e rest begins)

-- entries that stand alone are held
pub held_alone : (v : Version) (last : ℕ) (entries : List Entry) → All IsShaped entries → HoldsEntries (record { version = v; last = last; bytes = encodings v last entries }) entries []
held_alone v last entries shaped = record { shaped = shaped; spelled = sym (append-nil (encodings v last entries)); longest = nothing_begins v (clock_after last entries) }

module _ (readers : ExactReaders) where
  cases : (left : Unread) (o : Option (Entry × Unread)) → entry_at left ≡ o → Begins left ⊎ Stops left
  cases left None e = inr (λ entry rest shaped spelled.
      let some : entry_at left ≡ Some (entry, unread_after_entry left entry rest) = entry_at-begins readers left entry rest shaped spelled in
      absurd cc)
  cases left (Some x) e =
      let found = entry_at-found left x.0 x.1 e in
      inl (record { entry = x.0; rest = x.1.bytes; shaped = found.shaped; spelled = found.spelled })

  pub front_cases : (left : Unread) → Begins left ⊎ Stops left
  front_cases left = cases left (entry_at left) refl

  -- what is read where an entry is in front
  reads : (left : Unread) (b : Begins left) → entry_at left ≡ Some (b.entry, unread_after_entry left b.entry b.rest)
  reads left b = entry_at-begins readers left b.entry b.rest b.shaped b.spelled

  -- ---- the limit does not matter where it is the number of bytes or more

  walk-limit : (n m : ℕ) (left : Unread) → length left.bytes ≤ n → length left.bytes ≤ m → entries_walk_within n left ≡ entries_walk_within m left
  unfolding entries_walk_within
  walk-limit zero zero left p q = refl
  walk-limit zero (suc m) left p q = elim (front_cases left) [
    | inl b ↦ absurd (omega (arith, fewer left b))
    | inr none ↦ rw (entry_at-none left none) refl
  ]
  walk-limit (suc n) zero left p q = elim (front_cases left) [
    | inl b ↦ absurd (omega (arith, fewer left b))
    | inr none ↦ rw (entry_at-none left none) refl
  ]
  walk-limit (suc n) (suc m) left p q = elim (front_cases left) [
    | inl b ↦
        let less = fewer left b in
        let more = walk-limit n m (unread_after_entry left b.entry b.rest) (omega arith) (omega arith) in
        rw (reads left b) (ap (with_first_entry b.entry) more)
    | inr none ↦ rw (entry_at-none left none) refl
  ]

  -- ---- one entry more, and the end

  walk-step : (left : Unread) → entries_walk_within (length left.bytes) left ≡ entries_walk_then (entries_walk_within (length left.bytes)) left.bytes (entry_at left)
  unfolding entries_walk_within
  walk-step left = walk-limit (length left.bytes) (suc (length left.bytes)) left (omega arith) (omega arith)

  walk-next : (left : Unread) (e : Entry) (rest : List ℕ) → IsShaped e → left.bytes ≡ encoding left.version left.last e ++ rest → entries_walk_within (length left.bytes) left ≡ with_first_entry e (entries_walk_within (length rest) (unread_after_entry left e rest))
  walk-next left e rest shaped begins =
      let less = shorter left.version left.last left.bytes e rest begins in
      walk-step left
      ∙ ap (entries_walk_then (entries_walk_within (length left.bytes)) left.bytes) (entry_at-begins readers left e rest shaped begins)
      ∙ ap (with_first_entry e) (walk-limit (length left.bytes) (length rest) (unread_after_entry left e rest) (omega arith) (omega arith))

  walk-none : (left : Unread) → entry_at left ≡ None → entries_walk_within (length left.bytes) left ≡ record { entries = []; rest = left.bytes }
  walk-none left none = walk-step left ∙ ap (entries_walk_then (entries_walk_within (length left.bytes)) left.bytes) none

  -- the entry that is in front is the first of all
  pub entries_of-next : (left : Unread) (e : Entry) (rest : List ℕ) → IsShaped e → left.bytes ≡ encoding left.version left.last e ++ rest → entries_of left ≡ e ∷ entries_of (unread_after_entry left e rest)
  unfolding entries_of
  entries_of-next left e rest shaped begins = ap (λ (w : EntriesAndRest). w.entries) (walk-next left e rest shaped begins)

  -- and the bytes after all entries are those after the others
  pub rest_of-next : (left : Unread) (e : Entry) (rest : List ℕ) → IsShaped e → left.bytes ≡ encoding left.version left.last e ++ rest → rest_of_log left ≡ rest_of_log (unread_after_entry left e rest)
  unfolding rest_of_log
  rest_of-next left e rest shaped begins = ap (λ (w : EntriesAndRest). w.rest) (walk-next left e rest shaped begins)

  -- where none is found, there is none
  pub entries_of-none : (left : Unread) → entry_at left ≡ None → entries_of left ≡ []
  unfolding entries_of
  entries_of-none left none = ap (λ (w : EntriesAndRest). w.entries) (walk-none left none)

  -- and all bytes are left
  pub rest_of-none : (left : Unread) → entry_at left ≡ None → rest_of_log left ≡ left.bytes
  unfolding rest_of_log
  rest_of-none left none = ap (λ (w : EntriesAndRest). w.rest) (walk-none left none)

  pub entries_of-end : (left : Unread) → Stops left → entries_of left ≡ []
  entries_of-end left none = entries_of-none left (entry_at-none left none)

  pub rest_of-end : (left : Unread) → Stops left → rest_of_log left ≡ left.bytes
  rest_of-end left none = rest_of-none left (entry_at-none left none)

  -- ---- the two functions give what is held, and nothing else is held

  -- one more entry in front
  pub Holds-next : (left : Unread) (e : Entry) (rest : List ℕ) (entries : List Entry) (over : List ℕ) → IsShaped e → left.bytes ≡ encoding left.version left.last e ++ rest → HoldsEntries (unread_after_entry left e rest) entries over → HoldsEntries left (e ∷ entries) over
  Holds-next left e rest entries over shaped begins h = record {
    shaped = All-cons IsShaped e entries shaped h.shaped;
    spelled = begins ∙ ap (λ (t : List ℕ). encoding left.version left.last e ++ t) h.spelled ∙ sym (append_assoc (encoding left.version left.last e) (encodings left.version e.clock entries) over);
    longest = h.longest;
  }

  none_held : (left : Unread) → Stops left → HoldsEntries left (entries_of left) (rest_of_log left)
  none_held left none =
      let h : HoldsEntries left [] left.bytes = record { shaped = All-nil IsShaped; spelled = refl; longest = none } in
      rw (entries_of-end left none, rest_of-end left none) h

  holds-limit : (n : ℕ) (left : Unread) → length left.bytes ≤ n → HoldsEntries left (entries_of left) (rest_of_log left)
  holds-limit zero left p = elim (front_cases left) [
    | inl b ↦ absurd (omega (arith, fewer left b))
    | inr none ↦ none_held left none
  ]
  holds-limit (suc n) left p = elim (front_cases left) [
    | inl b ↦
        let less = fewer left b in
        let next : Unread = unread_after_entry left b.entry b.rest in
        let more = holds-limit n next (omega arith) in
        rw (entries_of-next left b.entry b.rest b.shaped b.spelled, rest_of-next left b.entry b.rest b.shaped b.spelled)
        (Holds-next left b.entry b.rest (entries_of next) (rest_of_log next) b.shaped b.spelled more)
    | inr none ↦ none_held left none
  ]

  pub holds : (left : Unread) → HoldsEntries left (entries_of left) (rest_of_log left)
  holds left = holds-limit (length left.bytes) left (omega arith)

  pub holds_once : (left : Unread) (entries : List Entry) (rest : List ℕ) → HoldsEntries left entries rest → (entries ≡ entries_of left) × (rest ≡ rest_of_log left)
  holds_once left [] rest h =
      let none : Stops left = λ e after shaped begins. h.longest e after shaped (sym h.spelled ∙ begins) in
      (sym (entries_of-end left none), sym h.spelled ∙ sym (rest_of-end left none))
  holds_once left (e ∷ entries) rest h =
      let shaped : IsShaped e = All-head IsShaped e entries h.shaped in
      let others : List ℕ = encodings left.version e.clock entries ++ rest in
      let begins : left.bytes ≡ encoding left.version left.last e ++ others = h.spelled ∙ append_assoc (encoding left.version left.last e) (encodings left.version e.clock entries) rest in
      let next : HoldsEntries (unread_after_entry left e others) entries rest = record { shaped = All-tail IsShaped e entries h.shaped; spelled = refl; longest = h.longest } in
      let more = holds_once (unread_after_entry left e others) entries rest next in (
        ap (λ (es : List Entry). e ∷ es) more.0 ∙ sym (entries_of-next left e others shaped begins),
        more.1 ∙ sym (rest_of-next left e others shaped begins),
      )

  -- ---- what is read is what is held

  pub holds_exactly : (left : Unread) (entries : List Entry) (rest : List ℕ) → HoldsEntries left entries rest ↔ ((entries_of left ≡ entries) × (rest_of_log left ≡ rest))
  holds_exactly left entries rest = (
    λ h. let once = holds_once left entries rest h in (sym once.0, sym once.1),
    λ h. subst (λ (x : List Entry × List ℕ). HoldsEntries left x.0 x.1) (ap (λ (es : List Entry). (es, rest_of_log left)) h.0 ∙ ap (λ (r : List ℕ). (entries, r)) h.1) (holds left),
  )

  -- ---- an entry that was cut

  cut_begins_none : (v : Version) (last : ℕ) (e : Entry) (n : ℕ) → IsShaped e → n < length (encoding v last e) → BeginsNoEntry v last (take n (encoding v last e))
  cut_begins_none v last e n shaped low other rest fits begins =
      let whole : List ℕ = encoding v last e in
      let left : Unread = record { version = v; last = last; bytes = whole } in
      let after : List ℕ = rest ++ drop n whole in
      let is : whole ≡ encoding v last other ++ after =
      sym (take-append-drop n whole) ∙ ap (λ (b : List ℕ). b ++ drop n whole) begins ∙ append_assoc (encoding v last other) rest (drop n whole) in
      let one : entry_at left ≡ Some (e, unread_after_entry left e []) = entry_at-begins readers left e [] shaped (sym (append-nil whole)) in
      let two : entry_at left ≡ Some (other, unread_after_entry left other after) = entry_at-begins readers left other after fits is in
      let same : length after ≡ 0 = sym (ap (λ (x : Entry × Unread). length x.1.bytes) (same_Some _ _ (sym one ∙ two))) in
      omega (arith, low, same, length-append rest (drop n whole), length-drop n whole)

  pub held_cut : (v : Version) (last : ℕ) (entries : List Entry) (e : Entry) (n : ℕ) → All IsShaped entries → IsShaped e → n < length (encoding v (clock_after last entries) e)
      → HoldsEntries (record { version = v; last = last; bytes = encodings v last entries ++ take n (encoding v (clock_after last entries) e) }) entries (take n (encoding v (clock_after last entries) e))
  held_cut v last entries e n all shaped low = record { shaped = all; spelled = refl; longest = cut_begins_none v (clock_after last entries) e n shaped low }
