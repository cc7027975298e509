-- Lines of a header, a process or an item: what is read is written so, and what is written so is read.
use Rattle.std.proofs.Common.{◌≡◌, ℕ, ◌<◌, ◌≤◌, true, false, cond, ◌&&◌, List, [], ◌∷◌, Some, None, refl, sym, ap, subst, ◌∙◌, arith, inl, inr, ℤ}
use Rattle.std.specs.Prelude.{◌↔◌, codes}
use Rattle.std.specs.Result.{result_ok}
use Rattle.std.specs.Str.{bytes_eq}
use Rattle.std.proofs.lemmas.Bool.{cases_Bool, and_from, and_parts}
use Rattle.std.proofs.lemmas.Slice.Eq.{bytes_eq-Decides}
use Rattle.fri_bytes.specs.Laws.{AreBytes}
use Rattle.fri_text.specs.Decimal.{signed_of, within_i64}
use Rattle.fri_text.specs.Hex.{hex_of}
use Rattle.fri_text.specs.Name.{is_name}
use Rattle.guest_signals.specs.Signals.{most_signal}
use Rattle.schedule_text.specs.declared.item.Item.{Item}
use Rattle.schedule_text.specs.declared.item.Item.TheVariants.{Run, Deliver, Inject, Clock, Random, Signal, Kill}
use Rattle.schedule_text.specs.Limits.{most_thread_number, most_datagram}
use Rattle.schedule_text.specs.declared.process.ProcessLine.{ProcessLine}
use Rattle.schedule_text.specs.Fields.{field_at, last_field_of, is_comment}
use Rattle.schedule_text.specs.ItemLine.{begin_item, is_item_word, item_of_fields}
use Rattle.schedule_text.specs.Grammar.{IsNumber, IsSignedNumber, IsHeader, IsHex, IsProcessLine, IsRunItem, IsPair, IsItemLine}
use Rattle.schedule_text.specs.Reading.{number_up_to, positive_of, process_number_of, times_of, is_header, process_line_of, run_item, pair_in, deliver_item, bytes_in, inject_item, clock_item, random_item, signal_item, kill_item, item_by_word}
use Rattle.schedule_text.specs.Schedule.{IsInRange, IsProcess, is_module_name}
use Rattle.schedule_text.proofs.WordLemmas.{bind_some, map_some, kept, field_takes, last_takes, number_takes, number_again, positive_takes, positive_again, hex_takes, process_takes, process_again, value_takes, value_again, times_takes, times_again}

-- two words that compare equal are one
pub is_word : (word text : List ℕ) → bytes_eq word text ≡ true → word ≡ text
is_word word text e = (bytes_eq-Decides word text).0 e

-- one word compares equal to itself
pub same_word : (word text : List ℕ) → word ≡ text → bytes_eq word text ≡ true
same_word word text e = (bytes_eq-Decides word text).1 e

-- ---- items

-- the fields after `run`, with what stands before and after them
record HasRun (processes : ℕ) (fields : List (List ℕ)) (item : Item) : Type 0 where
  p : List ℕ
  t : List ℕ
  rest : List (List ℕ)
  process : ℕ
  thread : ℕ
  times : ℕ
  fields_are : fields ≡ p ∷ t ∷ rest
  item_is : Run process thread times ≡ item
  process_is : IsNumber p process × (process < processes)
  thread_is : IsNumber t thread × (thread ≤ most_thread_number)
  times_are : times_of rest ≡ Some times

-- what was read, field by field
run_parts : (processes : ℕ) (fields : List (List ℕ)) (item : Item) → run_item processes fields ≡ Some item → HasRun processes fields item
unfolding run_item
run_parts processes fields item e =
    let p = bind_some (field_at fields) _ item e in
    let process = bind_some (process_number_of processes p.0.0) _ item p.2 in
    let t = bind_some (field_at p.0.1) _ item process.2 in
    let thread = bind_some (number_up_to most_thread_number t.0.0) _ item t.2 in
    let times = bind_some (times_of t.0.1) _ item thread.2 in
    record {
      p = p.0.0;
      t = t.0.0;
      rest = t.0.1;
      process = process.0;
      thread = thread.0;
      times = times.0;
      fields_are = field_takes fields p.0.0 p.0.1 p.1 ∙ ap (λ (fs : List (List ℕ)). p.0.0 ∷ fs) (field_takes p.0.1 t.0.0 t.0.1 t.1);
      item_is = let there = times.2 in cc;
      process_is = process_takes processes p.0.0 process.0 process.1;
      thread_is = number_takes most_thread_number t.0.0 thread.0 thread.1;
      times_are = times.1;
    }

-- these parts are written as a run item, in range
run_written : (processes : ℕ) (p t : List ℕ) (rest : List (List ℕ)) (process thread times : ℕ) → IsNumber p process × (process < processes) → IsNumber t thread × (thread ≤ most_thread_number) → times_of rest ≡ Some times → IsItemLine (codes "run" ∷ p ∷ t ∷ rest) (Run process thread times) × IsInRange processes (Run process thread times)
run_written processes p t rest process thread times is_process is_thread e =
    elim (times_takes rest times e) [
      | inl none ↦ (
        subst (λ (fs : List (List ℕ)). IsRunItem (codes "run" ∷ p ∷ t ∷ fs) process thread times) (sym none.0) (refl, is_process.0, is_thread.0, none.1),
        (is_process.1, is_thread.1, omega (arith, none.1), omega (arith, none.1)),
      )
      | inr some ↦ (
        subst (λ (fs : List (List ℕ)). IsRunItem (codes "run" ∷ p ∷ t ∷ fs) process thread times) (sym some.1) (refl, is_process.0, is_thread.0, some.2),
        (is_process.1, is_thread.1, some.3, some.4),
      )
    ]

-- what is read after `run` is written so and in range
run_takes : (processes : ℕ) (word : List ℕ) (fields : List (List ℕ)) (item : Item) → word ≡ codes "run" → run_item processes fields ≡ Some item → IsItemLine (word ∷ fields) item × IsInRange processes item
run_takes processes word fields item is e =
    let h = run_parts processes fields item e in
    let w = run_written processes h.p h.t h.rest h.process h.thread h.times h.process_is h.thread_is h.times_are in
    let line : codes "run" ∷ h.p ∷ h.t ∷ h.rest ≡ word ∷ fields = ap (λ (v : List ℕ). v ∷ h.p ∷ h.t ∷ h.rest) (sym is) ∙ ap (λ (fs : List (List ℕ)). word ∷ fs) (sym h.fields_are) in
    subst (λ (i : Item). IsItemLine (word ∷ fields) i × IsInRange processes i) h.item_is (subst (λ (fs : List (List ℕ)). IsItemLine fs (Run h.process h.thread h.times) × IsInRange processes (Run h.process h.thread h.times)) line w)

-- P and one more field, after the word of an item
record HasPair (processes : ℕ) (fields : List (List ℕ)) (pair : ℕ × List ℕ) : Type 0 where
  p : List ℕ
  fields_are : fields ≡ p ∷ pair.1 ∷ []
  process_is : IsNumber p pair.0 × (pair.0 < processes)

-- what was read of them
pair_parts : (processes : ℕ) (fields : List (List ℕ)) (pair : ℕ × List ℕ) → pair_in processes fields ≡ Some pair → HasPair processes fields pair
unfolding pair_in
pair_parts processes fields pair e =
    let p = bind_some (field_at fields) _ pair e in
    let process = bind_some (process_number_of processes p.0.0) _ pair p.2 in
    let last = bind_some (last_field_of p.0.1) _ pair process.2 in
    let same : ◌≡◌ {A = ℕ × List ℕ} (process.0, last.0) pair = (let there = last.2 in cc) in
    subst (HasPair processes fields) same (record {
      p = p.0.0;
      fields_are = field_takes fields p.0.0 p.0.1 p.1 ∙ ap (λ (fs : List (List ℕ)). p.0.0 ∷ fs) (last_takes p.0.1 last.0 last.1);
      process_is = process_takes processes p.0.0 process.0 process.1;
    })

-- they are written so after the word
pair_takes : (name : List ℕ) (processes : ℕ) (word : List ℕ) (fields : List (List ℕ)) (pair : ℕ × List ℕ) (IsLast : List ℕ → Type 0) → word ≡ name → pair_in processes fields ≡ Some pair → IsLast pair.1 → IsPair name (word ∷ fields) pair.0 IsLast × (pair.0 < processes)
pair_takes name processes word fields pair IsLast is e last =
    let h = pair_parts processes fields pair e in
    (subst (λ (fs : List (List ℕ)). IsPair name (word ∷ fs) pair.0 IsLast) (sym h.fields_are) (is, h.process_is.0, last), h.process_is.1)

-- what is read after `deliver` is written so and in range
deliver_takes : (processes : ℕ) (word : List ℕ) (fields : List (List ℕ)) (item : Item) → word ≡ codes "deliver" → deliver_item processes fields ≡ Some item → IsItemLine (word ∷ fields) item × IsInRange processes item
unfolding deliver_item
deliver_takes processes word fields item is e =
    let pair = bind_some (pair_in processes fields) _ item e in
    let number = bind_some (positive_of most_datagram pair.0.1) _ item pair.2 in
    let item_is : Deliver pair.0.0 number.0 ≡ item = (let there = number.2 in cc) in
    let written = positive_takes most_datagram pair.0.1 number.0 number.1 in
    let line = pair_takes (codes "deliver") processes word fields pair.0 (λ n. IsNumber n number.0) is pair.1 written.0 in
    subst (λ (i : Item). IsItemLine (word ∷ fields) i × IsInRange processes i) item_is (line.0, (line.1, written.1, written.2))

-- what is read after `clock` is written so and in range
clock_takes : (processes : ℕ) (word : List ℕ) (fields : List (List ℕ)) (item : Item) → word ≡ codes "clock" → clock_item processes fields ≡ Some item → IsItemLine (word ∷ fields) item × IsInRange processes item
unfolding clock_item
clock_takes processes word fields item is e =
    let pair = bind_some (pair_in processes fields) _ item e in
    let value = bind_some (result_ok (within_i64 (signed_of pair.0.1))) _ item pair.2 in
    let item_is : Clock pair.0.0 value.0 ≡ item = (let there = value.2 in cc) in
    let written = value_takes pair.0.1 value.0 value.1 in
    let line = pair_takes (codes "clock") processes word fields pair.0 (λ v. IsSignedNumber v value.0) is pair.1 written.0 in
    subst (λ (i : Item). IsItemLine (word ∷ fields) i × IsInRange processes i) item_is (line.0, (line.1, written.1))

-- what is read as P and HEX is written so and in range
bytes_takes : (name : List ℕ) (processes : ℕ) (word : List ℕ) (fields : List (List ℕ)) (x : ℕ × List ℕ) → word ≡ name → bytes_in processes fields ≡ Some x → IsPair name (word ∷ fields) x.0 (λ h. IsHex h x.1) × (x.0 < processes) × AreBytes x.1
unfolding bytes_in
bytes_takes name processes word fields x is e =
    let pair = bind_some (pair_in processes fields) _ x e in
    let bytes = bind_some (hex_of pair.0.1) _ x pair.2 in
    let same : ◌≡◌ {A = ℕ × List ℕ} (pair.0.0, bytes.0) x = (let there = bytes.2 in cc) in
    let line = pair_takes name processes word fields pair.0 (λ h. IsHex h bytes.0) is pair.1 bytes.1 in
    subst (λ (y : ℕ × List ℕ). IsPair name (word ∷ fields) y.0 (λ h. IsHex h y.1) × (y.0 < processes) × AreBytes y.1) same (line.0, line.1, hex_takes pair.0.1 bytes.0 bytes.1)

-- what is read after `inject` is written so and in range
inject_takes : (processes : ℕ) (word : List ℕ) (fields : List (List ℕ)) (item : Item) → word ≡ codes "inject" → inject_item processes fields ≡ Some item → IsItemLine (word ∷ fields) item × IsInRange processes item
unfolding inject_item
inject_takes processes word fields item is e =
    let found = map_some (λ (x : ℕ × List ℕ). Inject x.0 x.1) (bytes_in processes fields) item e in
    let written = bytes_takes (codes "inject") processes word fields found.0 is found.1 in
    subst (λ (i : Item). IsItemLine (word ∷ fields) i × IsInRange processes i) found.2 (written.0, (written.1, written.2))

-- what is read after `random` is written so and in range
random_takes : (processes : ℕ) (word : List ℕ) (fields : List (List ℕ)) (item : Item) → word ≡ codes "random" → random_item processes fields ≡ Some item → IsItemLine (word ∷ fields) item × IsInRange processes item
unfolding random_item
random_takes processes word fields item is e =
    let found = map_some (λ (x : ℕ × List ℕ). Random x.0 x.1) (bytes_in processes fields) item e in
    let written = bytes_takes (codes "random") processes word fields found.0 is found.1 in
    subst (λ (i : Item). IsItemLine (word ∷ fields) i × IsInRange processes i) found.2 (written.0, (written.1, written.2))

-- what is read after `signal` is written so and in range
signal_takes : (processes : ℕ) (word : List ℕ) (fields : List (List ℕ)) (item : Item) → word ≡ codes "signal" → signal_item processes fields ≡ Some item → IsItemLine (word ∷ fields) item × IsInRange processes item
unfolding signal_item
signal_takes processes word fields item is e =
    let pair = bind_some (pair_in processes fields) _ item e in
    let number = bind_some (positive_of most_signal pair.0.1) _ item pair.2 in
    let item_is : Signal pair.0.0 number.0 ≡ item = (let there = number.2 in cc) in
    let written = positive_takes most_signal pair.0.1 number.0 number.1 in
    let line = pair_takes (codes "signal") processes word fields pair.0 (λ n. IsNumber n number.0) is pair.1 written.0 in
    subst (λ (i : Item). IsItemLine (word ∷ fields) i × IsInRange processes i) item_is (line.0, (line.1, written.1, written.2))

-- what is read after `kill` is written so and in range
kill_takes : (processes : ℕ) (word : List ℕ) (fields : List (List ℕ)) (item : Item) → word ≡ codes "kill" → kill_item processes fields ≡ Some item → IsItemLine (word ∷ fields) item × IsInRange processes item
unfolding kill_item
kill_takes processes word fields item is e =
    let p = bind_some (last_field_of fields) _ item e in
    let process = bind_some (process_number_of processes p.0) _ item p.2 in
    let item_is : Kill process.0 ≡ item = (let there = process.2 in cc) in
    let written = process_takes processes p.0 process.0 process.1 in
    subst (λ (i : Item). IsItemLine (word ∷ fields) i × IsInRange processes i) item_is
    (subst (λ (fs : List (List ℕ)). IsItemLine (word ∷ fs) (Kill process.0)) (sym (last_takes fields p.0 p.1)) (is, written.0), written.1)

-- the same of the words that are tried last
later_takes : (processes : ℕ) (word : List ℕ) (fields : List (List ℕ)) (item : Item) → cond (bytes_eq word (codes "clock")) (clock_item processes fields) (cond (bytes_eq word (codes "random")) (random_item processes fields) (cond (bytes_eq word (codes "signal")) (signal_item processes fields) (cond (bytes_eq word (codes "kill")) (kill_item processes fields) None))) ≡ Some item → IsItemLine (word ∷ fields) item × IsInRange processes item
later_takes processes word fields item e =
    elim (cases_Bool (bytes_eq word (codes "clock"))) [
      | inl clock ↦ clock_takes processes word fields item (is_word word (codes "clock") clock) (rw clock at e)
      | inr no_clock ↦
          let e = rw no_clock at e in
          elim (cases_Bool (bytes_eq word (codes "random"))) [
            | inl random ↦ random_takes processes word fields item (is_word word (codes "random") random) (rw random at e)
            | inr no_random ↦
                let e = rw no_random at e in
                elim (cases_Bool (bytes_eq word (codes "signal"))) [
                  | inl signal ↦ signal_takes processes word fields item (is_word word (codes "signal") signal) (rw signal at e)
                  | inr no_signal ↦
                      let some = kept (bytes_eq word (codes "kill")) (kill_item processes fields) item (rw no_signal at e) in
                      kill_takes processes word fields item (is_word word (codes "kill") some.0) some.1
                ]
          ]
    ]

-- what is read as an item is written so and in range
pub item_takes : (processes : ℕ) (word : List ℕ) (fields : List (List ℕ)) (item : Item) → item_by_word processes word fields ≡ Some item → IsItemLine (word ∷ fields) item × IsInRange processes item
unfolding item_by_word
item_takes processes word fields item e =
    elim (cases_Bool (bytes_eq word (codes "run"))) [
      | inl run ↦ run_takes processes word fields item (is_word word (codes "run") run) (rw run at e)
      | inr no_run ↦
          let e = rw no_run at e in
          elim (cases_Bool (bytes_eq word (codes "deliver"))) [
            | inl deliver ↦ deliver_takes processes word fields item (is_word word (codes "deliver") deliver) (rw deliver at e)
            | inr no_deliver ↦
                let e = rw no_deliver at e in
                elim (cases_Bool (bytes_eq word (codes "inject"))) [
                  | inl inject ↦ inject_takes processes word fields item (is_word word (codes "inject") inject) (rw inject at e)
                  | inr no_inject ↦ later_takes processes word fields item (rw no_inject at e)
                ]
          ]
    ]

-- the fields of a run item in range are read
run_again : (processes : ℕ) (p t : List ℕ) (rest : List (List ℕ)) (process thread times : ℕ) → IsNumber p process → process < processes → IsNumber t thread → thread ≤ most_thread_number → times_of rest ≡ Some times → run_item processes (p ∷ t ∷ rest) ≡ Some (Run process thread times)
unfolding run_item
run_again processes p t rest process thread times is_process below is_thread small tries =
    rw (process_again processes p process is_process below, number_again most_thread_number t thread is_thread small, tries) refl

-- a line whose first word is `run` is read as a run item
run_line : (processes : ℕ) (word : List ℕ) (fields : List (List ℕ)) (item : Item) → word ≡ codes "run" → run_item processes fields ≡ Some item → item_by_word processes word fields ≡ Some item
unfolding item_by_word
run_line processes word fields item is e = rw is e

-- the fields of P and one more, after the word of an item
record WritesPair (name word : List ℕ) (fields : List (List ℕ)) (process : ℕ) (IsLast : List ℕ → Type 0) : Type 0 where
  p : List ℕ
  last : List ℕ
  word_is : word ≡ name
  fields_are : fields ≡ p ∷ last ∷ []
  process_is : IsNumber p process
  last_is : IsLast last

-- what is written after the word
writes_pair : (name word : List ℕ) (fields : List (List ℕ)) (process : ℕ) (IsLast : List ℕ → Type 0) → IsPair name (word ∷ fields) process IsLast → WritesPair name word fields process IsLast
writes_pair name word [] process IsLast line = absurd line
writes_pair name word (p ∷ []) process IsLast line = absurd line
writes_pair name word (p ∷ last ∷ []) process IsLast line = record { p = p; last = last; word_is = line.0; fields_are = refl; process_is = line.1; last_is = line.2 }
writes_pair name word (p ∷ last ∷ more ∷ fields) process IsLast line = absurd line

-- it is read
pair_again : (processes : ℕ) (name word : List ℕ) (fields : List (List ℕ)) (process : ℕ) (IsLast : List ℕ → Type 0) (h : WritesPair name word fields process IsLast) → process < processes → pair_in processes fields ≡ Some (process, h.last)
unfolding pair_in
pair_again processes name word fields process IsLast h below = rw (h.fields_are, process_again processes h.p process h.process_is below) refl

-- P and HEX are read
bytes_again : (processes : ℕ) (name word : List ℕ) (fields : List (List ℕ)) (process : ℕ) (bytes : List ℕ) → WritesPair name word fields process (λ h. IsHex h bytes) → process < processes → bytes_in processes fields ≡ Some (process, bytes)
unfolding bytes_in
bytes_again processes name word fields process bytes h below = rw (pair_again processes name word fields process _ h below, h.last_is) refl

-- a deliver item in range is read
deliver_line : (processes : ℕ) (word : List ℕ) (fields : List (List ℕ)) (process number : ℕ) → WritesPair (codes "deliver") word fields process (λ n. IsNumber n number) → IsInRange processes (Deliver process number) → item_by_word processes word fields ≡ Some (Deliver process number)
unfolding item_by_word deliver_item
deliver_line processes word fields process number h range =
    rw (h.word_is, pair_again processes _ word fields process _ h range.0, positive_again most_datagram h.last number h.last_is range.1 range.2) refl

-- an inject item in range is read
inject_line : (processes : ℕ) (word : List ℕ) (fields : List (List ℕ)) (process : ℕ) (bytes : List ℕ) → WritesPair (codes "inject") word fields process (λ h. IsHex h bytes) → IsInRange processes (Inject process bytes) → item_by_word processes word fields ≡ Some (Inject process bytes)
unfolding item_by_word inject_item
inject_line processes word fields process bytes h range = rw (h.word_is, bytes_again processes _ word fields process bytes h range.0) refl

-- a clock item in range is read
clock_line : (processes : ℕ) (word : List ℕ) (fields : List (List ℕ)) (process : ℕ) (value : ℤ) → WritesPair (codes "clock") word fields process (λ v. IsSignedNumber v value) → IsInRange processes (Clock process value) → item_by_word processes word fields ≡ Some (Clock process value)
unfolding item_by_word clock_item
clock_line processes word fields process value h range =
    rw (h.word_is, pair_again processes _ word fields process _ h range.0, value_again h.last value h.last_is range.1) refl

-- a random item in range is read
random_line : (processes : ℕ) (word : List ℕ) (fields : List (List ℕ)) (process : ℕ) (bytes : List ℕ) → WritesPair (codes "random") word fields process (λ h. IsHex h bytes) → IsInRange processes (Random process bytes) → item_by_word processes word fields ≡ Some (Random process bytes)
unfolding item_by_word random_item
random_line processes word fields process bytes h range = rw (h.word_is, bytes_again processes _ word fields process bytes h range.0) refl

-- a signal item in range is read
signal_line : (processes : ℕ) (word : List ℕ) (fields : List (List ℕ)) (process number : ℕ) → WritesPair (codes "signal") word fields process (λ n. IsNumber n number) → IsInRange processes (Signal process number) → item_by_word processes word fields ≡ Some (Signal process number)
unfolding item_by_word signal_item
signal_line processes word fields process number h range =
    rw (h.word_is, pair_again processes _ word fields process _ h range.0, positive_again most_signal h.last number h.last_is range.1 range.2) refl

-- a kill item in range is read
kill_line : (processes : ℕ) (word p : List ℕ) (process : ℕ) → word ≡ codes "kill" → IsNumber p process → process < processes → item_by_word processes word (p ∷ []) ≡ Some (Kill process)
unfolding item_by_word kill_item
kill_line processes word p process is is_process below = rw (is, process_again processes p process is_process below) refl

-- what is written as an item and is in range is read
pub item_again : (processes : ℕ) (word : List ℕ) (fields : List (List ℕ)) (item : Item) → IsItemLine (word ∷ fields) item → IsInRange processes item → item_by_word processes word fields ≡ Some item
item_again processes word [] (Run process thread times) line range = absurd line
item_again processes word (p ∷ []) (Run process thread times) line range = absurd line
item_again processes word (p ∷ t ∷ []) (Run process thread times) line range =
    run_line processes word (p ∷ t ∷ []) _ line.0 (run_again processes p t [] process thread times line.1 range.0 line.2 range.1 (ap (λ (n : ℕ). Some n) (sym line.3)))
item_again processes word (p ∷ t ∷ n ∷ []) (Run process thread times) line range =
    run_line processes word (p ∷ t ∷ n ∷ []) _ line.0 (run_again processes p t (n ∷ []) process thread times line.1 range.0 line.2 range.1 (times_again n times line.3 range.2 range.3))
item_again processes word (p ∷ t ∷ n ∷ m ∷ fields) (Run process thread times) line range = absurd line
item_again processes word fields (Deliver process number) line range = deliver_line processes word fields process number (writes_pair _ word fields process _ line) range
item_again processes word fields (Inject process bytes) line range = inject_line processes word fields process bytes (writes_pair _ word fields process _ line) range
item_again processes word fields (Clock process value) line range = clock_line processes word fields process value (writes_pair _ word fields process _ line) range
item_again processes word fields (Random process bytes) line range = random_line processes word fields process bytes (writes_pair _ word fields process _ line) range
item_again processes word fields (Signal process number) line range = signal_line processes word fields process number (writes_pair _ word fields process _ line) range
item_again processes word [] (Kill process) line range = absurd line
item_again processes word (p ∷ []) (Kill process) line range = kill_line processes word p process line.0 line.1 range
item_again processes word (p ∷ more ∷ fields) (Kill process) line range = absurd line

-- an item's first word is no process line's, and begins no comment
pub item_word : (word : List ℕ) (fields : List (List ℕ)) (item : Item) → IsItemLine (word ∷ fields) item → (bytes_eq word (codes "process") ≡ false) × (is_comment word ≡ false)
item_word word [] (Run process thread times) line = absurd line
item_word word (p ∷ []) (Run process thread times) line = absurd line
item_word word (p ∷ t ∷ []) (Run process thread times) line = rw line.0 (refl, refl)
item_word word (p ∷ t ∷ n ∷ []) (Run process thread times) line = rw line.0 (refl, refl)
item_word word (p ∷ t ∷ n ∷ m ∷ fields) (Run process thread times) line = absurd line
item_word word fields (Deliver process number) line = rw (writes_pair (codes "deliver") word fields process _ line).word_is (refl, refl)
item_word word fields (Inject process bytes) line = rw (writes_pair (codes "inject") word fields process _ line).word_is (refl, refl)
item_word word fields (Clock process value) line = rw (writes_pair (codes "clock") word fields process _ line).word_is (refl, refl)
item_word word fields (Random process bytes) line = rw (writes_pair (codes "random") word fields process _ line).word_is (refl, refl)
item_word word fields (Signal process number) line = rw (writes_pair (codes "signal") word fields process _ line).word_is (refl, refl)
item_word word [] (Kill process) line = absurd line
item_word word (p ∷ []) (Kill process) line = rw line.0 (refl, refl)
item_word word (p ∷ more ∷ fields) (Kill process) line = absurd line

-- an item's first word is one of those of items
item_begins : (word : List ℕ) (fields : List (List ℕ)) (item : Item) → IsItemLine (word ∷ fields) item → is_item_word word ≡ true
item_begins word [] (Run process thread times) line = absurd line
item_begins word (p ∷ []) (Run process thread times) line = absurd line
item_begins word (p ∷ t ∷ []) (Run process thread times) line = rw line.0 refl
item_begins word (p ∷ t ∷ n ∷ []) (Run process thread times) line = rw line.0 refl
item_begins word (p ∷ t ∷ n ∷ m ∷ fields) (Run process thread times) line = absurd line
item_begins word fields (Deliver process number) line = rw (writes_pair (codes "deliver") word fields process _ line).word_is refl
item_begins word fields (Inject process bytes) line = rw (writes_pair (codes "inject") word fields process _ line).word_is refl
item_begins word fields (Clock process value) line = rw (writes_pair (codes "clock") word fields process _ line).word_is refl
item_begins word fields (Random process bytes) line = rw (writes_pair (codes "random") word fields process _ line).word_is refl
item_begins word fields (Signal process signal) line = rw (writes_pair (codes "signal") word fields process _ line).word_is refl
item_begins word [] (Kill process) line = absurd line
item_begins word (p ∷ []) (Kill process) line = rw line.0 refl
item_begins word (p ∷ more ∷ fields) (Kill process) line = absurd line

-- ---- lines by themselves

-- no item is written without fields
no_fields : (item : Item) → IsItemLine [] item → ⊥
no_fields (Run process thread times) line = line
no_fields (Deliver process number) line = line
no_fields (Inject process bytes) line = line
no_fields (Clock process value) line = line
no_fields (Random process bytes) line = line
no_fields (Signal process signal) line = line
no_fields (Kill process) line = line

-- fields give the item that they write, where it is in range
pub fields_give : (processes : ℕ) (fields : List (List ℕ)) (item : Item) → (item_of_fields processes fields ≡ Some item) ↔ (IsItemLine fields item × IsInRange processes item)
fields_give processes [] item = (λ e. absurd cc, λ h. absurd (no_fields item h.0))
fields_give processes (word ∷ fields) item = (item_takes processes word fields item, λ h. item_again processes word fields item h.0 h.1)

-- and begin as those of an item
pub fields_begin : (processes : ℕ) (fields : List (List ℕ)) (item : Item) → item_of_fields processes fields ≡ Some item → begin_item fields ≡ true
fields_begin processes [] item e = absurd cc
fields_begin processes (word ∷ fields) item e = item_begins word fields item (item_takes processes word fields item e).0

-- ---- processes

-- the process of this name and this module
abbrev named : List ℕ → List ℕ → ProcessLine
named name file = record { name = name; «module» = file }

-- a process that was read has the name and the module of its line, which are in range
process_parts : (name file : List ℕ) (line : ProcessLine) → cond (is_name name && is_module_name file) (Some (named name file)) None ≡ Some line → (name ≡ line.name) × (file ≡ line.module) × IsProcess line
process_parts name file line e =
    let some = kept (is_name name && is_module_name file) (Some (named name file)) line e in
    let good = and_parts (is_name name) (is_module_name file) some.0 in
    let same : named name file ≡ line = (let there = some.1 in cc) in
    (ap (λ (l : ProcessLine). l.name) same, ap (λ (l : ProcessLine). l.module) same, subst IsProcess same (record { name = good.0; file = good.1 }))

-- what is read as a process is written so and in range
pub process_line_takes : (word : List ℕ) (fields : List (List ℕ)) (line : ProcessLine) → word ≡ codes "process" → process_line_of fields ≡ Some line → IsProcessLine (word ∷ fields) line × IsProcess line
unfolding process_line_of
process_line_takes word fields line is e =
    let name = bind_some (field_at fields) _ line e in
    let file = bind_some (last_field_of name.0.1) _ line name.2 in
    let parts = process_parts name.0.0 file.0 line file.2 in
    let fields_are : fields ≡ line.name ∷ line.module ∷ [] = field_takes fields name.0.0 name.0.1 name.1 ∙ ap (λ (fs : List (List ℕ)). name.0.0 ∷ fs) (last_takes name.0.1 file.0 file.1) ∙ ap (λ (n : List ℕ). n ∷ file.0 ∷ []) parts.0 ∙ ap (λ (f : List ℕ). line.name ∷ f ∷ []) parts.1 in
    (ap (λ (v : List ℕ). v ∷ fields) is ∙ ap (λ (fs : List (List ℕ)). codes "process" ∷ fs) fields_are, parts.2)

-- a process in range is read
pub process_line_again : (line : ProcessLine) → IsProcess line → process_line_of (line.name ∷ line.module ∷ []) ≡ Some line
unfolding process_line_of
process_line_again line good = rw (and_from (is_name line.name) (is_module_name line.module) good.name good.file) refl

-- ---- the header

-- what is taken for the header is the header
pub header_takes : (word : List ℕ) (fields : List (List ℕ)) → is_header word fields ≡ true → IsHeader (word ∷ fields)
header_takes word [] e = absurd cc
header_takes word (version ∷ []) e =
    let same = and_parts (bytes_eq word (codes "friday")) (bytes_eq version (codes "1")) e in
    rw (is_word word (codes "friday") same.0, is_word version (codes "1") same.1) refl
header_takes word (version ∷ other ∷ fields) e = absurd cc
