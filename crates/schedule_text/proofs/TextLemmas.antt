-- The text of a schedule, and the lines and fields that are read of it.
use Rattle.std.proofs.Common.{◌≡◌, ℕ, ◌-◌, ◌^◌, ◌<◌, ◌≤◌, Bool, true, false, ◌&&◌, eqb, ltb, List, [], ◌∷◌, ◌++◌, length, map, flat_map, get_or, filter, Ok, refl, sym, ap, subst, ◌∙◌, arith, inl, inr, append_assoc, ℤ, pos}
use Rattle.std.specs.Prelude.{codes, All, decimal, neg_ℤ}
use Rattle.std.specs.Char.{is_ascii_digit}
use Rattle.std.specs.Fmt.{signed_decimal}
use Rattle.std.specs.List.{AllPass, AllZip, join_with_byte, list_all, onto_first, slice_split}
use Rattle.std.specs.Str.Lines.{strip_carriage_return}
use Rattle.std.proofs.lemmas.Bool.{and_parts, cases_Bool, eqb-true, lt-ltb, ltb-true, leb-true}
use Rattle.std.proofs.lemmas.List.{append-nil}
use Rattle.std.proofs.lemmas.List.Elements.{All-append, All-cons, All-head, All-tail, All-nil, All-weaker}
use Rattle.std.proofs.lemmas.List.Splits.{slice_split_none, slice_split_at}
use Rattle.std.proofs.lemmas.List.Sums.{AllPass-from_list_all}
use Rattle.hex.specs.Hex.{is_hex_digit}
use Rattle.fri_text.specs.Decimal.{is_decimal, decimal_of}
use Rattle.fri_text.specs.Hex.{hex_word}
use Rattle.fri_text.specs.Laws.{WordsReadBack, ExactHex}
use Rattle.fri_text.specs.Line.{is_line_feed, pieces_of, lines_of}
use Rattle.fri_text.specs.Name.{is_name, is_name_byte}
use Rattle.schedule_text.specs.declared.item.Item.{Item}
use Rattle.schedule_text.specs.declared.item.Item.TheVariants.{Run, Deliver, Inject, Clock, Random, Signal, Kill}
use Rattle.schedule_text.specs.declared.process.ProcessLine.{ProcessLine}
use Rattle.schedule_text.specs.Fields.{is_separator, fields_of, is_comment}
use Rattle.schedule_text.specs.Grammar.{IsNumber, IsSignedNumber, IsHex, IsProcessLine, IsRunItem, IsItemLine, lines_kept, SpellsSchedule}
use Rattle.lamport_tag.specs.Limits.{most_processes}
use Rattle.schedule_text.specs.Reading.{schedule_of}
use Rattle.schedule_text.specs.Schedule.{Schedule, IsInRange, IsProcess, IsWellFormed, IsSchedule, is_visible, is_module_name}
use Rattle.schedule_text.specs.Text.{header_fields, process_fields, times_fields, item_fields, line_text, process_text, item_text, text_of}
use Rattle.schedule_text.proofs.OutcomeLemmas.{schedule_again}
use Rattle.schedule_text.proofs.StepLemmas.{IsKept, kept-kept}
use Rattle.schedule_text.proofs.WordLemmas.{map_some}

-- ---- fields that a line may have

-- one visible byte or more
pub record IsField (word : List ℕ) : Type 0 where
  pub some : 0 < length word
  pub visible : AllPass is_visible word

-- a visible byte is no blank
not_blank : (b : ℕ) → is_visible b ≡ true → is_separator b ≡ false
not_blank b e = grind arith

-- neither a visible byte nor a space is a line feed or a carriage return
abbrev Stays : ℕ → Type 0
Stays b = (is_line_feed b ≡ false) × (eqb b 13 ≡ false)

visible_stays : (b : ℕ) → is_visible b ≡ true → Stays b
visible_stays b e = (grind arith, grind arith)

-- ---- the fields of a line

-- a part with a byte is kept
keep_part : (part : List ℕ) (parts : List (List ℕ)) → 0 < length part → filter (λ p. ltb 0 (length p)) (part ∷ parts) ≡ part ∷ filter (λ p. ltb 0 (length p)) parts
keep_part part parts some = rw (lt-ltb 0 (length part) some) refl

-- no byte of a field is a blank
no_blank : (word : List ℕ) → IsField word → All (λ b. is_separator b ≡ false) word
no_blank word h = All-weaker (λ b. is_visible b ≡ true) (λ b. is_separator b ≡ false) not_blank word h.visible

-- what a space joins is cut there again
fields_of-joined : (field : List ℕ) (fields : List (List ℕ)) → All IsField (field ∷ fields) → fields_of (join_with_byte 32 (field ∷ fields)) ≡ field ∷ fields
fields_of-joined field [] h =
    let first = All-head IsField field [] h in
    ap (filter (λ p. ltb 0 (length p))) (slice_split_none is_separator field (no_blank field first)) ∙ keep_part field [] first.some
fields_of-joined field (next ∷ fields) h =
    let first = All-head IsField field (next ∷ fields) h in
    ap (filter (λ p. ltb 0 (length p))) (slice_split_at is_separator field 32 (join_with_byte 32 (next ∷ fields)) (no_blank field first) refl)
    ∙ keep_part field (slice_split is_separator (join_with_byte 32 (next ∷ fields))) first.some
    ∙ ap (λ (fs : List (List ℕ)). field ∷ fs) (fields_of-joined next fields (All-tail IsField field (next ∷ fields) h))

-- ---- the lines of a text

-- no byte of joined fields ends a line
joined_stays : (fields : List (List ℕ)) → All IsField fields → All Stays (join_with_byte 32 fields)
joined_stays [] h = All-nil Stays
joined_stays (field ∷ []) h = All-weaker (λ b. is_visible b ≡ true) Stays visible_stays field (All-head IsField field [] h).visible
joined_stays (field ∷ next ∷ fields) h =
    let first = All-weaker (λ b. is_visible b ≡ true) Stays visible_stays field (All-head IsField field (next ∷ fields) h).visible in
    All-append Stays field (32 ∷ join_with_byte 32 (next ∷ fields)) first
    (All-cons Stays 32 (join_with_byte 32 (next ∷ fields)) (refl, refl) (joined_stays (next ∷ fields) (All-tail IsField field (next ∷ fields) h)))

-- what comes before a line feed is the first piece
piece_before : (line rest : List ℕ) → All Stays line → pieces_of (line ++ 10 ∷ rest) ≡ line ∷ pieces_of rest
piece_before [] rest h = refl
piece_before (b ∷ line) rest h =
    rw (All-head Stays b line h).0 (ap (onto_first b) (piece_before line rest (All-tail Stays b line h)))

-- it has no carriage return to be dropped
last_stays : (line : List ℕ) → All Stays line → eqb (get_or line (length line - 1) 0) 13 ≡ false
last_stays [] h = refl
last_stays (b ∷ line) h = (h (length (b ∷ line) - 1) 0 (omega arith)).1

strip_none : (line : List ℕ) → All Stays line → strip_carriage_return line ≡ line
strip_none line h = rw (last_stays line h) refl

-- this makes it the first line
line_before : (line rest : List ℕ) → All Stays line → lines_of (line ++ 10 ∷ rest) ≡ line ∷ lines_of rest
line_before line rest h =
    ap (map strip_carriage_return) (piece_before line rest h) ∙ ap (λ (l : List ℕ). l ∷ lines_of rest) (strip_none line h)

-- the fields of a line that isn't passed over
pub record IsLine (fields : List (List ℕ)) : Type 0 where
  pub word : List ℕ
  pub more : List (List ℕ)
  pub fields_are : fields ≡ word ∷ more
  pub no_comment : is_comment word ≡ false
  pub good : All IsField fields

-- the fields of a line are read from its text
fields_again : (fields : List (List ℕ)) → IsLine fields → fields_of (join_with_byte 32 fields) ≡ fields
fields_again [] h = absurd (let none = h.fields_are in cc)
fields_again (field ∷ fields) h = fields_of-joined field fields h.good

-- a line at the front of a text is the first that is kept
kept_line : (fields : List (List ℕ)) (rest : List ℕ) → IsLine fields → lines_kept (lines_of (line_text fields ++ rest)) ≡ fields ∷ lines_kept (lines_of rest)
kept_line fields rest h =
    let line : List ℕ = join_with_byte 32 fields in
    let again = fields_again fields h in
    let here : IsKept (fields_of line) = record { word = h.word; rest = h.more; fields_are = again ∙ h.fields_are; no_comment = h.no_comment } in
    ap (λ (text : List ℕ). lines_kept (lines_of text)) (append_assoc line (10 ∷ []) rest)
    ∙ ap lines_kept (line_before line rest (joined_stays fields h.good))
    ∙ kept-kept line (lines_of rest) here
    ∙ ap (λ (fs : List (List ℕ)). fs ∷ lines_kept (lines_of rest)) again

-- so are the lines of a list
kept_lines : {X : Type 0} (fields : X → List (List ℕ)) (xs : List X) (rest : List ℕ) → All (λ x. IsLine (fields x)) xs → lines_kept (lines_of (flat_map (λ x. line_text (fields x)) xs ++ rest)) ≡ map fields xs ++ lines_kept (lines_of rest)
kept_lines fields [] rest h = refl
kept_lines fields (x ∷ xs) rest h =
    let more : List ℕ = flat_map (λ x. line_text (fields x)) xs in
    ap (λ (text : List ℕ). lines_kept (lines_of text)) (append_assoc (line_text (fields x)) more rest)
    ∙ kept_line (fields x) (more ++ rest) (All-head (λ x. IsLine (fields x)) x xs h)
    ∙ ap (λ (ls : List (List (List ℕ))). fields x ∷ ls) (kept_lines fields xs rest (All-tail (λ x. IsLine (fields x)) x xs h))

-- ---- words

-- bytes of one kind are bytes of another
all_weaker : (p q : ℕ → Bool) → ((b : ℕ) → p b ≡ true → q b ≡ true) → (word : List ℕ) → AllPass p word → AllPass q word
all_weaker p q more word h = All-weaker (λ b. p b ≡ true) (λ b. q b ≡ true) more word h

digit_visible : (b : ℕ) → is_ascii_digit b ≡ true → is_visible b ≡ true
digit_visible b e = grind arith

hex_visible : (b : ℕ) → is_hex_digit b ≡ true → is_visible b ≡ true
hex_visible b e = grind arith

name_visible : (b : ℕ) → is_name_byte b ≡ true → is_visible b ≡ true
name_visible b e = grind arith

-- a word of digits is a field
decimal_field : (word : List ℕ) → is_decimal word ≡ true → IsField word
decimal_field word e =
    let parts = and_parts (ltb 0 (length word)) (list_all is_ascii_digit word) e in
    record { some = ltb-true 0 (length word) parts.0; visible = all_weaker is_ascii_digit is_visible digit_visible word (AllPass-from_list_all is_ascii_digit word parts.1) }

-- so is a number
pub number_field : (word : List ℕ) (n : ℕ) → IsNumber word n → IsField word
number_field word n is =
    elim (cases_Bool (is_decimal word)) [
      | inl digits ↦ decimal_field word digits
      | inr other ↦ absurd (let none = rw other at is in cc)
    ]

-- and a number with a sign
pub signed_field : (word : List ℕ) (z : ℤ) → IsSignedNumber word z → IsField word
signed_field [] z is = absurd cc
signed_field (b ∷ word) z is =
    elim (cases_Bool (eqb b 45)) [
      | inl minus ↦
          let same : b ≡ 45 = eqb-true b 45 minus in
          let found = map_some (λ (n : ℕ). neg_ℤ (pos n)) (decimal_of word) z (rw minus at is) in
          let digits = number_field word found.0 found.1 in
          record { some = omega arith; visible = All-cons (λ b. is_visible b ≡ true) b word (rw same refl) digits.visible }
      | inr plain ↦
          let found = map_some pos (decimal_of (b ∷ word)) z (rw plain at is) in
          number_field (b ∷ word) found.0 found.1
    ]

-- a name of three parts of a test
first_and_third : (a b c : Bool) → (a && b && c) ≡ true → (a ≡ true) × (c ≡ true)
first_and_third true true true e = (refl, refl)
first_and_third true true false e = absurd cc
first_and_third true false c e = absurd cc
first_and_third false b c e = absurd cc

-- the same of six
first_and_third_of_six : (a b c d e f : Bool) → (a && b && c && d && e && f) ≡ true → (a ≡ true) × (c ≡ true)
first_and_third_of_six true true true d e f h = (refl, refl)
first_and_third_of_six true true false d e f h = absurd cc
first_and_third_of_six true false c d e f h = absurd cc
first_and_third_of_six false b c d e f h = absurd cc

-- the name of a process is a field
name_field : (word : List ℕ) → is_name word ≡ true → IsField word
name_field word e =
    let parts = first_and_third _ _ (list_all is_name_byte word) e in
    record { some = leb-true 1 (length word) parts.0; visible = all_weaker is_name_byte is_visible name_visible word (AllPass-from_list_all is_name_byte word parts.1) }

-- so is the name of a module's file
module_field : (word : List ℕ) → is_module_name word ≡ true → IsField word
module_field word e =
    let parts = first_and_third_of_six _ _ (list_all is_visible word) _ _ _ e in
    record { some = leb-true 1 (length word) parts.0; visible = AllPass-from_list_all is_visible word parts.1 }

-- ---- the lines of a schedule

-- a word of the grammar
record IsKeyword (word : List ℕ) : Type 0 where
  field : IsField word
  no_comment : is_comment word ≡ false

-- these fields make a line
line_of_fields : (word : List ℕ) (more : List (List ℕ)) → IsKeyword word → All IsField more → IsLine (word ∷ more)
line_of_fields word more key good = record { word = word; more = more; fields_are = refl; no_comment = key.no_comment; good = All-cons IsField word more key.field good }

-- the first line is one
header_line : IsLine header_fields
header_line =
    let version : IsField (codes "1") = record { some = omega arith; visible = AllPass-from_list_all is_visible (codes "1") refl } in
    line_of_fields (codes "friday") (codes "1" ∷ []) (record { field = record { some = omega arith; visible = AllPass-from_list_all is_visible (codes "friday") refl }; no_comment = refl })
    (All-cons IsField (codes "1") [] version (All-nil IsField))

-- two fields after the first
two_fields : (a b : List ℕ) → IsField a → IsField b → All IsField (a ∷ b ∷ [])
two_fields a b x y = All-cons IsField a (b ∷ []) x (All-cons IsField b [] y (All-nil IsField))

-- the line of a process is one
process_line : (line : ProcessLine) → IsProcess line → IsLine (process_fields line)
process_line line good =
    line_of_fields (codes "process") (line.name ∷ line.module ∷ []) (record { field = record { some = omega arith; visible = AllPass-from_list_all is_visible (codes "process") refl }; no_comment = refl })
    (two_fields line.name line.module (name_field line.name good.name) (module_field line.module good.file))

-- what each element makes of itself
zip_map : {A B : Type 0} (R : A → B → Type 0) (f : B → A) (xs : List B) → All (λ x. R (f x) x) xs → AllZip R (map f xs) xs
zip_map R f [] h = tt
zip_map R f (x ∷ xs) h = (All-head (λ x. R (f x) x) x xs h, zip_map R f xs (All-tail (λ x. R (f x) x) x xs h))

-- a list of tries that is left out or written
times_one : (n : ℕ) → eqb n 1 ≡ true → times_fields n ≡ []
times_one n e = rw e refl

times_other : (n : ℕ) → eqb n 1 ≡ false → times_fields n ≡ decimal n ∷ []
times_other n e = rw e refl

-- the word of an item
keyword : (word : List ℕ) → ltb 0 (length word) ≡ true → list_all is_visible word ≡ true → is_comment word ≡ false → IsKeyword word
keyword word some visible no_comment = record { field = record { some = ltb-true 0 (length word) some; visible = AllPass-from_list_all is_visible word visible }; no_comment = no_comment }

module _ (words : WordsReadBack) (hex : ExactHex) where
  -- a hexadecimal word is a field
  hex_field : (word bytes : List ℕ) → IsHex word bytes → IsField word
  hex_field word bytes is =
      elim (hex.some word bytes is).0 [
        | inl minus ↦ rw minus (record { some = omega arith; visible = AllPass-from_list_all is_visible (codes "-") refl })
        | inr digits ↦ record { some = digits.0; visible = all_weaker is_hex_digit is_visible hex_visible word digits.2 }
      ]

  -- a number that is written is a field
  decimal_is : (n : ℕ) → n < 2 ^ 64 → IsField (decimal n)
  decimal_is n small = number_field (decimal n) n (words.number n small)

  -- an item's line is written so, and is one
  abbrev IsWritten : Item → Type 0
  IsWritten i = IsItemLine (item_fields i) i × IsLine (item_fields i)

  -- P and one more field after the word
  pair_line : (word : List ℕ) (process : ℕ) (last : List ℕ) → IsKeyword word → process < 2 ^ 64 → IsField last → IsLine (word ∷ decimal process ∷ last ∷ [])
  pair_line word process last key small field = line_of_fields word (decimal process ∷ last ∷ []) key (two_fields (decimal process) last (decimal_is process small) field)

  -- the fields of a run item, of which these are the last
  run_fields : (process thread times : ℕ) (last : List (List ℕ)) → process < 2 ^ 64 → thread < 2 ^ 64 → All IsField last → IsLine (codes "run" ∷ decimal process ∷ decimal thread ∷ last)
  run_fields process thread times last p t good =
      line_of_fields (codes "run") (decimal process ∷ decimal thread ∷ last) (keyword (codes "run") refl refl refl)
      (All-cons IsField (decimal process) (decimal thread ∷ last) (decimal_is process p) (All-cons IsField (decimal thread) last (decimal_is thread t) good))

  -- a run item
  run_written : (process thread times : ℕ) → process < 2 ^ 64 → thread < 2 ^ 64 → times < 2 ^ 64 → IsWritten (Run process thread times)
  run_written process thread times p t n =
      elim (cases_Bool (eqb times 1)) [
        | inl one ↦
            subst (λ (last : List (List ℕ)). IsRunItem (codes "run" ∷ decimal process ∷ decimal thread ∷ last) process thread times × IsLine (codes "run" ∷ decimal process ∷ decimal thread ∷ last)) (sym (times_one times one))
            ((refl, words.number process p, words.number thread t, eqb-true times 1 one), run_fields process thread times [] p t (All-nil IsField))
        | inr other ↦
            subst (λ (last : List (List ℕ)). IsRunItem (codes "run" ∷ decimal process ∷ decimal thread ∷ last) process thread times × IsLine (codes "run" ∷ decimal process ∷ decimal thread ∷ last)) (sym (times_other times other))
            ((refl, words.number process p, words.number thread t, words.number times n), run_fields process thread times (decimal times ∷ []) p t (All-cons IsField (decimal times) [] (decimal_is times n) (All-nil IsField)))
      ]

  -- each item in range
  item_written : (processes : ℕ) (i : Item) → processes ≤ most_processes → IsInRange processes i → IsWritten i
  item_written processes (Run p t n) few range = run_written p t n (omega (arith, range.0)) (omega (arith, range.1)) (omega (arith, range.3))
  item_written processes (Deliver p n) few range =
      let process : p < 2 ^ 64 = omega (arith, range.0) in
      let number : n < 2 ^ 64 = omega (arith, range.2) in
      ((refl, words.number p process, words.number n number), pair_line (codes "deliver") p (decimal n) (keyword (codes "deliver") refl refl refl) process (decimal_is n number))
  item_written processes (Inject p bytes) few range =
      let process : p < 2 ^ 64 = omega (arith, range.0) in
      let is = words.bytes bytes range.1 in
      ((refl, words.number p process, is), pair_line (codes "inject") p (hex_word bytes) (keyword (codes "inject") refl refl refl) process (hex_field (hex_word bytes) bytes is))
  item_written processes (Clock p v) few range =
      let process : p < 2 ^ 64 = omega (arith, range.0) in
      let is = words.signed v range.1 in
      ((refl, words.number p process, is), pair_line (codes "clock") p (signed_decimal v) (keyword (codes "clock") refl refl refl) process (signed_field (signed_decimal v) v is))
  item_written processes (Random p bytes) few range =
      let process : p < 2 ^ 64 = omega (arith, range.0) in
      let is = words.bytes bytes range.1 in
      ((refl, words.number p process, is), pair_line (codes "random") p (hex_word bytes) (keyword (codes "random") refl refl refl) process (hex_field (hex_word bytes) bytes is))
  item_written processes (Signal p s) few range =
      let process : p < 2 ^ 64 = omega (arith, range.0) in
      let signal : s < 2 ^ 64 = omega (arith, range.2) in
      ((refl, words.number p process, words.number s signal), pair_line (codes "signal") p (decimal s) (keyword (codes "signal") refl refl refl) process (decimal_is s signal))
  item_written processes (Kill p) few range =
      let process : p < 2 ^ 64 = omega (arith, range) in
      ((refl, words.number p process), line_of_fields (codes "kill") (decimal p ∷ []) (keyword (codes "kill") refl refl refl) (All-cons IsField (decimal p) [] (decimal_is p process) (All-nil IsField)))

  -- the lines of the items are kept
  items_kept : (items : List Item) → All IsWritten items → lines_kept (lines_of (flat_map item_text items)) ≡ map item_fields items
  items_kept items h =
      ap (λ (text : List ℕ). lines_kept (lines_of text)) (sym (append-nil (flat_map item_text items)))
      ∙ kept_lines item_fields items [] (All-weaker IsWritten (λ i. IsLine (item_fields i)) (λ i w. w.1) items h)
      ∙ append-nil (map item_fields items)

  -- the text of a schedule in range spells it
  pub text_spells : (s : Schedule) → IsWellFormed s → SpellsSchedule (text_of s) s
  text_spells s formed =
      let items : All IsWritten s.items = All-weaker (IsInRange (length s.processes)) IsWritten (λ i range. item_written (length s.processes) i formed.most range) s.items formed.items in
      let processes : All (λ p. IsLine (process_fields p)) s.processes = All-weaker IsProcess (λ p. IsLine (process_fields p)) process_line s.processes formed.lines in
      record {
        header = header_fields;
        process_lines = map process_fields s.processes;
        item_lines = map item_fields s.items;
        in_order = ap (λ (text : List ℕ). lines_kept (lines_of text)) (append_assoc (line_text header_fields) (flat_map process_text s.processes) (flat_map item_text s.items))
            ∙ kept_line header_fields (flat_map process_text s.processes ++ flat_map item_text s.items) header_line
            ∙ ap (λ (ls : List (List (List ℕ))). header_fields ∷ ls) (kept_lines process_fields s.processes (flat_map item_text s.items) processes ∙ ap (λ (ls : List (List (List ℕ))). map process_fields s.processes ++ ls) (items_kept s.items items));
        begins = refl;
        processes = zip_map IsProcessLine process_fields s.processes (λ k d lt. refl);
        items = zip_map IsItemLine item_fields s.items (All-weaker IsWritten (λ i. IsItemLine (item_fields i) i) (λ i w. w.0) s.items items);
        formed = formed;
      }

  -- and is read back
  pub text_read : (s : Schedule) → IsSchedule s → schedule_of (text_of s) ≡ Ok s
  text_read s h = schedule_again (text_of s) s (text_spells s h.formed) h.runs
