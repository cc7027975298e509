-- A head is at the front of some bytes exactly where `head_at` gives one.
use Rattle.std.proofs.Common.{◌≡◌, ℕ, ◌^◌, ◌<◌, inl, inr, true, cond, nat_eq, eqb, leb, ltb, lit<, List, [], ◌∷◌, ◌++◌, length, drop, slice_index, Some, None, codes, refl, sym, ap, ◌∙◌, subst, arith}
use Rattle.std.specs.List.{starts_with}
use Rattle.std.specs.Int.{w32, to_le_bytes}
use Rattle.std.proofs.lemmas.Bool.{eqb-true, leb-true, le-leb, ltb-true, lt-ltb}
use Rattle.std.proofs.lemmas.Bool.Decides.{Decides-eqb}
use Rattle.std.proofs.lemmas.Slice.Eq.{starts_is, bytes_eq-Decides}
use Rattle.std.proofs.lemmas.List.{drop_at}
use Rattle.std.proofs.lemmas.Option.{cond_some, same_Some, some_pair_parts}
use Rattle.fri_bytes.specs.Laws.{AreBytes, ExactReaders}
use Rattle.fri_bytes.specs.Reading.{byte_at, piece_at, le_at}
use Rattle.call_log.specs.declared.version.Version.{Version}
use Rattle.call_log.specs.declared.version.Version.TheVariants.{One, Two}
use Rattle.call_log.specs.Version.{version_number, version_numbered}
use Rattle.call_log.specs.Head.{Head, IsHead, BeginsNoHead, head_bytes}
use Rattle.fri_text.specs.Name.{is_name}
use Rattle.call_log.specs.Reading.{log_mark_at, name_at, read_head}
use Rattle.call_log.specs.Log.{Unread, unread_after_head, head_at, head_in}
use Rattle.call_log.proofs.FieldLemmas.{bind_some, rest_in_range, ReadsBack, bytes_after, onto, concat-append, next, when_true, kept, chosen, le_field, byte_field}
use Rattle.call_log.proofs.ShapeTests.{and_true, both_true, head_from_test, is_head-from}
use Rattle.call_log.proofs.EntryLemmas.{none_from}

-- ---- names

name_at-from : (bytes after name rest : List ℕ) (n : ℕ) → byte_at bytes ≡ Some (n, after) → piece_at n after ≡ Some (name, rest) → is_name name ≡ true → name_at bytes ≡ Some (name, rest)
unfolding name_at
name_at-from bytes after name rest n size piece named =
    next _ _ (n, after) _ size (next _ _ (name, rest) _ piece (when_true _ _ _ _ named refl))

-- ---- heads

-- the fields of a head were read one after the other
record Steps (bytes : List ℕ) (h : Head) (rest : List ℕ) : Type 0 where
  after_magic : List ℕ
  after_version : List ℕ
  after_count : List ℕ
  after_process : List ℕ
  magic : log_mark_at (codes "LLOG") bytes ≡ Some (codes "LLOG", after_magic)
  version : le_at w32 after_magic ≡ Some (version_number h.version, after_version)
  count : le_at w32 after_version ≡ Some (h.count, after_count)
  process : le_at w32 after_count ≡ Some (h.process, after_process)
  name : name_at after_process ≡ Some (h.name, rest)
  some : leb 1 h.count ≡ true
  few : leb h.count 16 ≡ true
  within : ltb h.process h.count ≡ true

-- the version with the number of a version
version_found : (v : Version) → version_numbered (version_number v) ≡ Some v
version_found One = refl
version_found Two = refl

version_small : (v : Version) → version_number v < 2 ^ 32
version_small One = lit< tt
version_small Two = lit< tt

-- a number that some version has is the one of that version
number_of : (n : ℕ) (v : Version) → version_numbered n ≡ Some v → n ≡ version_number v
number_of n v e = elim (chosen (eqb n 1) (Some One) (cond (eqb n 2) (Some Two) None) (Some v) e) [
  | inl p ↦ eqb-true n 1 p.0 ∙ ap version_number (same_Some One v p.1)
  | inr p ↦ let q = kept (eqb n 2) (Some Two) v p.1 in eqb-true n 2 q.0 ∙ ap version_number (same_Some Two v q.1)
]

read_head-from : (bytes : List ℕ) (h : Head) (rest : List ℕ) → Steps bytes h rest → read_head bytes ≡ Some (h, rest)
unfolding read_head
read_head-from bytes h rest s =
    next _ _ (codes "LLOG", s.after_magic) _ s.magic (
    next _ _ (version_number h.version, s.after_version) _ s.version (
    next _ _ h.version _ (version_found h.version) (
    next _ _ (h.count, s.after_count) _ s.count (
    next _ _ (h.process, s.after_process) _ s.process (
    next _ _ (h.name, rest) _ s.name (
    when_true _ _ _ _ (both_true _ _ (both_true _ _ s.some s.few) s.within) refl))))))

module _ (readers : ExactReaders) where
  -- ---- the magic bytes

  mark_again : (mark rest : List ℕ) → log_mark_at mark (mark ++ rest) ≡ Some (mark, rest)
  mark_again mark rest =
      next _ _ (mark, rest) _ ((readers.piece (length mark)).again mark mark rest (refl, refl))
      (when_true _ _ _ _ ((bytes_eq-Decides mark mark).1 refl) refl)

  mark_found : (mark bytes piece rest : List ℕ) → log_mark_at mark bytes ≡ Some (piece, rest) → bytes ≡ mark ++ rest
  mark_found mark bytes piece rest e =
      let read = bind_some _ _ _ e in
      let same = kept _ _ _ read.2 in
      let front = (readers.piece (length mark)).takes bytes read.0.0 read.0.1 read.1 in
      let is : read.0.0 ≡ mark = (bytes_eq-Decides read.0.0 mark).0 same.0 in
      let parts = some_pair_parts read.0.0 piece read.0.1 rest same.1 in
      front.1 ∙ ap (λ (t : List ℕ). t ++ read.0.1) (front.2.1 ∙ is) ∙ onto mark parts.1

  name_found : (bytes name rest : List ℕ) → AreBytes bytes → name_at bytes ≡ Some (name, rest) → (is_name name ≡ true) × (bytes ≡ (length name ∷ name) ++ rest)
  unfolding name_at
  name_found bytes name rest are e =
      let size = bind_some _ _ _ e in
      let piece = bind_some _ _ _ size.2 in
      let named = kept _ _ _ piece.2 in
      let first = byte_field.found bytes size.0.0 size.0.1 are size.1 in
      let front = (readers.piece size.0.0).takes size.0.1 piece.0.0 piece.0.1 piece.1 in
      let after : size.0.1 ≡ piece.0.0 ++ piece.0.1 = front.1 ∙ ap (λ (t : List ℕ). t ++ piece.0.1) front.2.1 in
      let spelled : bytes ≡ (length piece.0.0 ∷ piece.0.0) ++ piece.0.1 =
      first.1 ∙ ap (λ (n : ℕ). n ∷ size.0.1) (sym front.2.0) ∙ ap (λ (t : List ℕ). length piece.0.0 ∷ t) after in
      subst (λ (x : List ℕ × List ℕ). (is_name x.0 ≡ true) × (bytes ≡ (length x.0 ∷ x.0) ++ x.1)) (same_Some piece.0 (name, rest) named.1) (named.0, spelled)

  name_field : ReadsBack (λ name. is_name name ≡ true) (λ name. length name ∷ name) name_at
  name_field = record {
    again = λ name rest named. name_at-from _ (name ++ rest) name rest (length name) refl ((readers.piece (length name)).again name name rest (refl, refl)) named;
    found = name_found;
  }

  -- the readers read what was written, whatever follows
  pub read_head-head_bytes : (h : Head) (rest : List ℕ) → IsHead h → read_head (head_bytes h ++ rest) ≡ Some (h, rest)
  unfolding head_bytes
  read_head-head_bytes h rest fits =
      let name : List ℕ = (length h.name ∷ h.name) ++ rest in
      let process : List ℕ = to_le_bytes w32 h.process ++ name in
      let count : List ℕ = to_le_bytes w32 h.count ++ process in
      let version : List ℕ = to_le_bytes w32 (version_number h.version) ++ count in
      let read : Steps (codes "LLOG" ++ version) h rest = record {
        after_magic = version;
        after_version = count;
        after_count = process;
        after_process = name;
        magic = mark_again (codes "LLOG") version;
        version = (le_field readers w32).again (version_number h.version) count (version_small h.version);
        count = (le_field readers w32).again h.count process (omega (arith, fits.few));
        process = (le_field readers w32).again h.process name (omega (arith, fits.few, fits.within));
        name = name_field.again h.name rest fits.named;
        some = le-leb _ _ fits.some;
        few = le-leb _ _ fits.few;
        within = lt-ltb _ _ fits.within;
      } in
      ap read_head (concat-append (codes "LLOG" ∷ to_le_bytes w32 (version_number h.version) ∷ to_le_bytes w32 h.count ∷ to_le_bytes w32 h.process ∷ (length h.name ∷ []) ∷ h.name ∷ []) rest)
      ∙ read_head-from (codes "LLOG" ++ version) h rest read

  -- and what they read is a head that is there
  pub read_head-found : (bytes : List ℕ) (h : Head) (rest : List ℕ) → AreBytes bytes → read_head bytes ≡ Some (h, rest) → IsHead h × (bytes ≡ head_bytes h ++ rest)
  unfolding read_head head_bytes
  read_head-found bytes h rest are found =
      let magic = bind_some _ _ _ found in
      let version = bind_some _ _ _ magic.2 in
      let kind = bind_some _ _ _ version.2 in
      let count = bind_some _ _ _ kind.2 in
      let process = bind_some _ _ _ count.2 in
      let name = bind_some _ _ _ process.2 in
      let end = cond_some _ _ _ name.2 in
      let within = and_true _ _ end.0 in
      let few = and_true _ _ within.0 in
      let marked = mark_found (codes "LLOG") bytes magic.0.0 magic.0.1 magic.1 in
      let are_1 : AreBytes magic.0.1 = rest_in_range (codes "LLOG") magic.0.1 (λ i. subst (λ (t : List ℕ). slice_index t i < 256) marked (are i)) in
      let are_2 = bytes_after (le_field readers w32) magic.0.1 version.0.0 version.0.1 are_1 version.1 in
      let are_3 = bytes_after (le_field readers w32) version.0.1 count.0.0 count.0.1 are_2 count.1 in
      let are_4 = bytes_after (le_field readers w32) count.0.1 process.0.0 process.0.1 are_3 process.1 in
      let version_is = (le_field readers w32).found magic.0.1 version.0.0 version.0.1 are_1 version.1 in
      let count_is = (le_field readers w32).found version.0.1 count.0.0 count.0.1 are_2 count.1 in
      let process_is = (le_field readers w32).found count.0.1 process.0.0 process.0.1 are_3 process.1 in
      let name_is = name_field.found process.0.1 name.0.0 name.0.1 are_4 name.1 in
      let made : Head = record { version = kind.0; count = count.0.0; process = process.0.0; name = name.0.0 } in
      let fits : IsHead made = record {
        some = leb-true _ _ few.0;
        few = leb-true _ _ few.1;
        within = ltb-true _ _ within.1;
        named = name_is.0;
      } in
      let number : version.0.0 ≡ version_number kind.0 = number_of version.0.0 kind.0 kind.1 in
      let spelled =
      marked ∙ onto (codes "LLOG") (
      version_is.1 ∙ ap (λ (n : ℕ). to_le_bytes w32 n ++ version.0.1) number ∙ onto (to_le_bytes w32 (version_number kind.0)) (
      count_is.1 ∙ onto (to_le_bytes w32 count.0.0) (
      process_is.1 ∙ onto (to_le_bytes w32 process.0.0) name_is.1)))
      ∙ sym (concat-append (codes "LLOG" ∷ to_le_bytes w32 (version_number kind.0) ∷ to_le_bytes w32 count.0.0 ∷ to_le_bytes w32 process.0.0 ∷ (length name.0.0 ∷ []) ∷ name.0.0 ∷ []) name.0.1) in
      subst (λ (x : Head × List ℕ). IsHead x.0 × (bytes ≡ head_bytes x.0 ++ x.1)) end.1 (fits, spelled)

  -- where they read nothing, no head is in front
  pub read_head-none : (bytes : List ℕ) → read_head bytes ≡ None → BeginsNoHead bytes
  read_head-none bytes none h rest fits begins =
      let some : read_head bytes ≡ Some (h, rest) = ap read_head begins ∙ read_head-head_bytes h rest fits in
      cc

  -- ---- the head in front

  pub head_at-begins : (bytes : List ℕ) (h : Head) (rest : List ℕ) → IsHead h → bytes ≡ head_bytes h ++ rest → head_at bytes ≡ Some (h, unread_after_head h rest)
  unfolding head_at head_in
  head_at-begins bytes h rest fits begins =
      let read : read_head bytes ≡ Some (h, rest) = ap read_head begins ∙ read_head-head_bytes h rest fits in
      let starts : starts_with nat_eq bytes (head_bytes h) ≡ true = (starts_is Decides-eqb bytes (head_bytes h) _ refl).1 rest begins in
      let after : drop (length (head_bytes h)) bytes ≡ rest = ap (drop (length (head_bytes h))) begins ∙ drop_at (head_bytes h) rest (length (head_bytes h)) refl in
      next _ _ (h, rest) _ read (when_true _ _ _ _ (both_true _ _ (is_head-from h fits) starts) (ap (λ (t : List ℕ). Some (h, unread_after_head h t)) after))

-- a head in front, and what is left after it
pub record IsInFront (bytes : List ℕ) (h : Head) (left : Unread) : Type 0 where
  pub fits : IsHead h
  pub spelled : bytes ≡ head_bytes h ++ left.bytes
  pub left_is : left ≡ unread_after_head h left.bytes

pub head_at-found : (bytes : List ℕ) (h : Head) (left : Unread) → head_at bytes ≡ Some (h, left) → IsInFront bytes h left
unfolding head_at head_in
head_at-found bytes h left found =
    let read = bind_some (λ (x : Head × List ℕ). head_in bytes x.0) (read_head bytes) (h, left) found in
    let chosen = cond_some _ _ _ read.2 in
    let tests = and_true _ _ chosen.0 in
    let spelled = (starts_is Decides-eqb bytes (head_bytes read.0.0) _ refl).0 tests.1 in
    subst (λ (x : Head × Unread). IsInFront bytes x.0 x.1) chosen.1 (record { fits = head_from_test read.0.0 tests.0; spelled = spelled; left_is = refl })

pub head_at-none : (bytes : List ℕ) → BeginsNoHead bytes → head_at bytes ≡ None
head_at-none bytes none = none_from (head_at bytes) (λ x found.
    let there = head_at-found bytes x.0 x.1 found in
    none x.0 x.1.bytes there.fits there.spelled)
