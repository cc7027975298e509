-- All lines: what comes of them is what they spell.
use Rattle.std.proofs.Common.{◌≡◌, ◌≢◌, ℕ, zero, suc, ◌+◌, ◌<◌, ◌≤◌, ◌⊎◌, true, List, [], ◌∷◌, ◌++◌, length, get_or, Option, Some, None, refl, sym, ap, subst, ◌∙◌, arith, inl, inr}
use Rattle.std.specs.Prelude.{codes, All, AllPairs}
use Rattle.std.specs.List.{AllZip}
use Rattle.std.proofs.lemmas.Bool.{lt-leb}
use Rattle.std.proofs.lemmas.List.{append_assoc, append-nil, get_or_append_left, get_or_at, length-append}
use Rattle.schedule_text.specs.declared.item.Item.{Item}
use Rattle.schedule_text.specs.declared.item.Item.TheVariants.{Run, Deliver, Inject, Clock, Random, Signal, Kill}
use Rattle.lamport_tag.specs.Limits.{most_processes}
use Rattle.schedule_text.specs.declared.process.ProcessLine.{ProcessLine}
use Rattle.schedule_text.specs.Fields.{fields_of, is_passed_over}
use Rattle.schedule_text.specs.Grammar.{IsHeader, IsProcessLine, IsItemLine, lines_kept, AreLinesOf}
use Rattle.schedule_text.specs.Reading.{◌>>=◌, SchedulePart, nothing_read, with_fields, with_process, with_schedule_item, with_schedule_line, with_line_of, schedule_part}
use Rattle.schedule_text.specs.Schedule.{Schedule, IsInRange, IsProcess}
use Rattle.schedule_text.proofs.ItemLemmas.{item_again, item_word, process_line_again}
use Rattle.schedule_text.proofs.StepLemmas.{IsNew, new_any, IsKept, kept_cases, passed_line, kept_fields, line_is, kept-passed, kept-kept, Step, header, process, item, step_of, IsPart, nothing_is, step_keeps}
use Rattle.schedule_text.proofs.WordLemmas.{bind_some}

-- what comes of the lines, or nothing where one isn't allowed
abbrev pub lines_give : SchedulePart → List (List ℕ) → Option SchedulePart
lines_give part [] = Some part
lines_give part (line ∷ lines) = with_schedule_line part line >>= λ next. lines_give next lines

-- a line that is passed over changes nothing
give-passed : (part : SchedulePart) (line : List ℕ) (lines : List (List ℕ)) → is_passed_over (fields_of line) ≡ true → lines_give part (line ∷ lines) ≡ lines_give part lines
give-passed part line lines e = ap (λ (o : Option SchedulePart). o >>= λ next. lines_give next lines) (passed_line part line e)

-- two things that are found at once are one
pub some_is : {A : Type 0} (x y : A) → ◌≡◌ {A = Option A} (Some x) (Some y) → x ≡ y
some_is x y e = cc

-- another line is a step
kept_step : (part : SchedulePart) (line : List ℕ) (next : SchedulePart) → IsKept (fields_of line) → with_schedule_line part line ≡ Some next → Step part (fields_of line) next
kept_step part line next h e =
    let fields : with_schedule_line part line ≡ with_fields part h.word h.rest = line_is part line ∙ ap (with_line_of part) h.fields_are ∙ kept_fields part h.word h.rest h.no_comment in
    subst (λ (fs : List (List ℕ)). Step part fs next) (sym h.fields_are) (step_of part h.word h.rest next (sym fields ∙ e))

-- ---- what comes of lines is in range

-- what comes of lines stays in range
pub all_keep : (lines : List (List ℕ)) (part end : SchedulePart) → IsPart part → lines_give part lines ≡ Some end → IsPart end
all_keep [] part end h e = subst IsPart (some_is part end e) h
all_keep (line ∷ lines) part end h e =
    elim (kept_cases (fields_of line)) [
      | inl over ↦ all_keep lines part end h (sym (give-passed part line lines over) ∙ e)
      | inr here ↦
          let next = bind_some (with_schedule_line part line) (λ next. lines_give next lines) end e in
          all_keep lines next.0 end (step_keeps part (fields_of line) next.0 (kept_step part line next.0 here next.1) h) next.2
    ]

-- ---- lines after the header

-- the lines are process lines and then items, which come to what was there before
record Adds (part : SchedulePart) (lines : List (List ℕ)) (end : SchedulePart) : Type 0 where
  process_lines : List (List (List ℕ))
  item_lines : List (List (List ℕ))
  more_processes : List ProcessLine
  more_items : List Item
  in_order : lines_kept lines ≡ process_lines ++ item_lines
  processes_are : end.processes ≡ part.processes ++ more_processes
  items_are : end.items ≡ part.items ++ more_items
  processes : AllZip IsProcessLine process_lines more_processes
  items : AllZip IsItemLine item_lines more_items
  order : (part.items ≡ []) ⊎ (process_lines ≡ [])

-- no lines write no elements
no_more : {A B : Type 0} (R : A → B → Type 0) (xs : List A) (ys : List B) → xs ≡ [] → AllZip R xs ys → ys ≡ []
no_more R [] [] e h = refl
no_more R [] (y ∷ ys) e h = absurd h
no_more R (x ∷ xs) ys e h = absurd cc

-- no line adds nothing
adds_none : (part end : SchedulePart) → part ≡ end → Adds part [] end
adds_none part end same = record {
  process_lines = [];
  item_lines = [];
  more_processes = [];
  more_items = [];
  in_order = refl;
  processes_are = ap (λ (p : SchedulePart). p.processes) (sym same) ∙ sym (append-nil part.processes);
  items_are = ap (λ (p : SchedulePart). p.items) (sym same) ∙ sym (append-nil part.items);
  processes = tt;
  items = tt;
  order = inr refl;
}

-- a line that is passed over adds nothing
adds_passed : (part end : SchedulePart) (line : List ℕ) (lines : List (List ℕ)) → is_passed_over (fields_of line) ≡ true → Adds part lines end → Adds part (line ∷ lines) end
adds_passed part end line lines over h = record {
  process_lines = h.process_lines;
  item_lines = h.item_lines;
  more_processes = h.more_processes;
  more_items = h.more_items;
  in_order = kept-passed line lines over ∙ h.in_order;
  processes_are = h.processes_are;
  items_are = h.items_are;
  processes = h.processes;
  items = h.items;
  order = h.order;
}

-- a list with an element isn't empty
not_empty : {A : Type 0} (xs : List A) (x : A) → xs ++ x ∷ [] ≡ [] → ⊥
not_empty [] x e = cc
not_empty (y ∷ ys) x e = cc

-- one more line in front; `begun` says that the next part has the header, and `go` is what the other lines add
adds_step : (part next end : SchedulePart) (line : List ℕ) (lines : List (List ℕ)) → lines_kept (line ∷ lines) ≡ fields_of line ∷ lines_kept lines → part.has_header ≡ true → Step part (fields_of line) next → (next.has_header ≡ true → Adds next lines end) → Adds part (line ∷ lines) end
adds_step part _ end line lines kept begun (header before is) go = absurd cc
adds_step part _ end line lines kept begun (process p has none room is good new) go =
    let h = go begun in
    record {
      process_lines = fields_of line ∷ h.process_lines;
      item_lines = h.item_lines;
      more_processes = p ∷ h.more_processes;
      more_items = h.more_items;
      in_order = kept ∙ ap (λ (ls : List (List (List ℕ))). fields_of line ∷ ls) h.in_order;
      processes_are = h.processes_are ∙ append_assoc part.processes (p ∷ []) h.more_processes;
      items_are = h.items_are;
      processes = (is, h.processes);
      items = h.items;
      order = inl none;
    }
adds_step part _ end line lines kept begun (item i has is range) go =
    let h = go begun in
    let behind : h.process_lines ≡ [] = elim h.order [ inl none ↦ absurd (not_empty part.items i none) | inr none ↦ none ] in
    let none : h.more_processes ≡ [] = no_more IsProcessLine h.process_lines h.more_processes behind h.processes in
    record {
      process_lines = [];
      item_lines = fields_of line ∷ h.item_lines;
      more_processes = [];
      more_items = i ∷ h.more_items;
      in_order = kept ∙ ap (λ (ls : List (List (List ℕ))). fields_of line ∷ ls) (h.in_order ∙ ap (λ (ls : List (List (List ℕ))). ls ++ h.item_lines) behind);
      processes_are = h.processes_are ∙ ap (λ (ps : List ProcessLine). part.processes ++ ps) none;
      items_are = h.items_are ∙ append_assoc part.items (i ∷ []) h.more_items;
      processes = tt;
      items = (is, h.items);
      order = inr refl;
    }

-- what comes of lines after the header is what they add
adds : (lines : List (List ℕ)) (part end : SchedulePart) → part.has_header ≡ true → lines_give part lines ≡ Some end → Adds part lines end
adds [] part end begun e = adds_none part end (some_is part end e)
adds (line ∷ lines) part end begun e =
    elim (kept_cases (fields_of line)) [
      | inl over ↦ adds_passed part end line lines over (adds lines part end begun (sym (give-passed part line lines over) ∙ e))
      | inr here ↦
          let next = bind_some (with_schedule_line part line) (λ next. lines_give next lines) end e in
          adds_step part next.0 end line lines (kept-kept line lines here) begun (kept_step part line next.0 here next.1) (λ has. adds lines next.0 end has next.2)
    ]

-- ---- all lines

-- after the header, before the first process line
abbrev pub begin : SchedulePart
begin = record { has_header = true; processes = []; items = [] }

-- the first line that isn't passed over is the header
record Begins (lines : List (List ℕ)) (end : SchedulePart) : Type 0 where
  header : List (List ℕ)
  rest : List (List ℕ)
  first : lines_kept lines ≡ header ∷ lines_kept rest
  is : IsHeader header
  gives : lines_give begin rest ≡ Some end

-- the first line that isn't passed over can only be the header
begins_step : (next end : SchedulePart) (line : List ℕ) (lines : List (List ℕ)) → lines_kept (line ∷ lines) ≡ fields_of line ∷ lines_kept lines → Step nothing_read (fields_of line) next → lines_give next lines ≡ Some end → Begins (line ∷ lines) end
begins_step _ end line lines kept (header before is) e = record { header = fields_of line; rest = lines; first = kept; is = is; gives = e }
begins_step _ end line lines kept (process p has none room is good new) e = absurd cc
begins_step _ end line lines kept (item i has is range) e = absurd cc

-- either nothing has come, or the header came first
begins : (lines : List (List ℕ)) (end : SchedulePart) → lines_give nothing_read lines ≡ Some end → (end ≡ nothing_read) ⊎ Begins lines end
begins [] end e = inl (sym (some_is nothing_read end e))
begins (line ∷ lines) end e =
    elim (kept_cases (fields_of line)) [
      | inl over ↦
          elim (begins lines end (sym (give-passed nothing_read line lines over) ∙ e)) [
            | inl none ↦ inl none
            | inr h ↦ inr (record { header = h.header; rest = h.rest; first = kept-passed line lines over ∙ h.first; is = h.is; gives = h.gives })
          ]
      | inr here ↦
          let next = bind_some (with_schedule_line nothing_read line) (λ next. lines_give next lines) end e in
          inr (begins_step next.0 end line lines (kept-kept line lines here) (kept_step nothing_read line next.0 here next.1) next.2)
    ]

-- what comes of all lines, where it has a process, is what they spell
pub lines_take : (lines : List (List ℕ)) (end : SchedulePart) → 0 < length end.processes → lines_give nothing_read lines ≡ Some end → AreLinesOf lines (schedule_part end)
lines_take lines end some e =
    let range = all_keep lines nothing_read end nothing_is e in
    elim (begins lines end e) [
      | inl none ↦ absurd (omega (arith, ap (λ (p : SchedulePart). length p.processes) none))
      | inr b ↦
          let h = adds b.rest begin end refl b.gives in
          record {
            header = b.header;
            process_lines = h.process_lines;
            item_lines = h.item_lines;
            in_order = b.first ∙ ap (λ (ls : List (List (List ℕ))). b.header ∷ ls) h.in_order;
            begins = b.is;
            processes = subst (AllZip IsProcessLine h.process_lines) (sym h.processes_are) h.processes;
            items = subst (AllZip IsItemLine h.item_lines) (sym h.items_are) h.items;
            formed = record { some = omega arith; most = range.most; lines = range.lines; names = range.names; items = range.items };
          }
    ]

-- ---- what is spelled comes of the lines

-- what comes of lines with these fields, none of which is passed over
abbrev fields_give : SchedulePart → List (List (List ℕ)) → Option SchedulePart
fields_give part [] = Some part
fields_give part (fields ∷ more) = with_line_of part fields >>= λ next. fields_give next more

-- two ways to go on that agree everywhere agree here
same_next : {A B : Type 0} (o : Option A) (f g : A → Option B) → ((x : A) → f x ≡ g x) → (o >>= f) ≡ (o >>= g)
same_next None f g e = refl
same_next (Some x) f g e = e x

-- only the lines that aren't passed over matter
give-kept : (lines : List (List ℕ)) (part : SchedulePart) → lines_give part lines ≡ fields_give part (lines_kept lines)
give-kept [] part = refl
give-kept (line ∷ lines) part =
    elim (kept_cases (fields_of line)) [
      | inl over ↦ give-passed part line lines over ∙ give-kept lines part ∙ ap (fields_give part) (sym (kept-passed line lines over))
      | inr here ↦
          ap (λ (o : Option SchedulePart). o >>= λ next. lines_give next lines) (line_is part line)
          ∙ same_next (with_line_of part (fields_of line)) (λ next. lines_give next lines) (λ next. fields_give next (lines_kept lines)) (λ next. give-kept lines next)
          ∙ ap (fields_give part) (sym (kept-kept line lines here))
    ]

-- lines are taken one part after the other
give-append : (a b : List (List (List ℕ))) (part mid : SchedulePart) → fields_give part a ≡ Some mid → fields_give part (a ++ b) ≡ fields_give mid b
give-append [] b part mid e = ap (λ (p : SchedulePart). fields_give p b) (some_is part mid e)
give-append (fields ∷ a) b part mid e =
    let next = bind_some (with_line_of part fields) (λ next. fields_give next a) mid e in
    ap (λ (o : Option SchedulePart). o >>= λ next. fields_give next (a ++ b)) next.1 ∙ give-append a b next.0 mid next.2

-- the parts that have the header
abbrev pub having : List ProcessLine → List Item → SchedulePart
having ps is = record { has_header = true; processes = ps; items = is }

-- a process in range, with room and a new name, is taken
one_process : (ps : List ProcessLine) (line : ProcessLine) → length ps < most_processes → IsProcess line → IsNew ps line.name → with_fields (having ps []) (codes "process") (line.name ∷ line.module ∷ []) ≡ Some (having (ps ++ line ∷ []) [])
unfolding with_fields with_process
one_process ps line room good new = rw (lt-leb most_processes (length ps) room, process_line_again line good, new_any line.name ps new) refl

-- an item in range is taken
one_item : (ps : List ProcessLine) (is : List Item) (word : List ℕ) (fields : List (List ℕ)) (i : Item) → IsItemLine (word ∷ fields) i → IsInRange (length ps) i → with_fields (having ps is) word fields ≡ Some (having ps (is ++ i ∷ []))
unfolding with_fields with_schedule_item
one_item ps is word fields i line range = rw ((item_word word fields i line).0, item_again (length ps) word fields i line range) refl

-- the line of such a process is taken
process_line_gives : (ps : List ProcessLine) (fields : List (List ℕ)) (line : ProcessLine) → length ps < most_processes → IsProcess line → IsNew ps line.name → IsProcessLine fields line → with_line_of (having ps []) fields ≡ Some (having (ps ++ line ∷ []) [])
process_line_gives ps fields line room good new is =
    ap (with_line_of (having ps [])) is ∙ kept_fields (having ps []) (codes "process") (line.name ∷ line.module ∷ []) refl ∙ one_process ps line room good new

-- the line of such an item is taken
item_line_gives : (ps : List ProcessLine) (is : List Item) (fields : List (List ℕ)) (i : Item) → IsItemLine fields i → IsInRange (length ps) i → with_line_of (having ps is) fields ≡ Some (having ps (is ++ i ∷ []))
item_line_gives ps is [] (Run p t n) line range = absurd line
item_line_gives ps is [] (Deliver p n) line range = absurd line
item_line_gives ps is [] (Inject p bytes) line range = absurd line
item_line_gives ps is [] (Clock p v) line range = absurd line
item_line_gives ps is [] (Random p bytes) line range = absurd line
item_line_gives ps is [] (Signal p s) line range = absurd line
item_line_gives ps is [] (Kill p) line range = absurd line
item_line_gives ps is (word ∷ fields) i line range = kept_fields (having ps is) word fields (item_word word fields i line).1 ∙ one_item ps is word fields i line range

-- a later name is new
new_name : (all ps : List ProcessLine) (q : ProcessLine) (qs : List ProcessLine) → all ≡ ps ++ q ∷ qs → AllPairs (λ a b. a.name ≢ b.name) all → IsNew ps q.name
new_name all ps q qs e apart k d lt same =
    let size : length all ≡ length ps + suc (length qs) = ap length e ∙ length-append ps (q ∷ qs) in
    let first : get_or all k d ≡ get_or ps k d = ap (λ (ls : List ProcessLine). get_or ls k d) e ∙ get_or_append_left ps (q ∷ qs) d k lt in
    let second : get_or all (length ps) d ≡ q = ap (λ (ls : List ProcessLine). get_or ls (length ps) d) e ∙ get_or_at ps q qs d (length ps) refl in
    apart k (length ps) d lt (omega arith) (ap (λ (p : ProcessLine). p.name) first ∙ same ∙ ap (λ (p : ProcessLine). p.name) (sym second))

-- all processes, of which `ps` have come
process_lines_give : (all ps qs : List ProcessLine) (lines : List (List (List ℕ))) → all ≡ ps ++ qs → length all ≤ most_processes → All IsProcess all → AllPairs (λ a b. a.name ≢ b.name) all → AllZip IsProcessLine lines qs → fields_give (having ps []) lines ≡ Some (having all [])
process_lines_give all ps [] [] e most good apart h = ap (λ (ls : List ProcessLine). Some (having ls [])) (sym (append-nil ps) ∙ sym e)
process_lines_give all ps (q ∷ qs) [] e most good apart h = absurd h
process_lines_give all ps [] (fields ∷ lines) e most good apart h = absurd h
process_lines_give all ps (q ∷ qs) (fields ∷ lines) e most good apart h =
    let size : length all ≡ length ps + suc (length qs) = ap length e ∙ length-append ps (q ∷ qs) in
    let at : get_or all (length ps) q ≡ q = ap (λ (ls : List ProcessLine). get_or ls (length ps) q) e ∙ get_or_at ps q qs q (length ps) refl in
    let new : IsNew ps q.name = new_name all ps q qs e apart in
    ap (λ (o : Option SchedulePart). o >>= λ next. fields_give next lines) (process_line_gives ps fields q (omega arith) (subst IsProcess at (good (length ps) q (omega arith))) new h.0)
    ∙ process_lines_give all (ps ++ q ∷ []) qs lines (e ∙ sym (append_assoc ps (q ∷ []) qs)) most good apart h.1

-- all items, after those that have come
item_lines_give : (ps : List ProcessLine) (is js : List Item) (lines : List (List (List ℕ))) → All (IsInRange (length ps)) js → AllZip IsItemLine lines js → fields_give (having ps is) lines ≡ Some (having ps (is ++ js))
item_lines_give ps is [] [] range h = ap (λ (ls : List Item). Some (having ps ls)) (sym (append-nil is))
item_lines_give ps is (j ∷ js) [] range h = absurd h
item_lines_give ps is [] (fields ∷ lines) range h = absurd h
item_lines_give ps is (j ∷ js) (fields ∷ lines) range h =
    ap (λ (o : Option SchedulePart). o >>= λ next. fields_give next lines) (item_line_gives ps is fields j h.0 (range zero j (omega arith)))
    ∙ item_lines_give ps (is ++ j ∷ []) js lines (λ k d lt. range (suc k) d (omega arith)) h.1
    ∙ ap (λ (ls : List Item). Some (having ps ls)) (append_assoc is (j ∷ []) js)

-- the header is taken first
header_gives : (fields : List (List ℕ)) → IsHeader fields → with_line_of nothing_read fields ≡ Some begin
unfolding with_fields
header_gives fields is = ap (with_line_of nothing_read) is

-- what is spelled comes of the lines
pub lines_again : (lines : List (List ℕ)) (s : Schedule) → AreLinesOf lines s → lines_give nothing_read lines ≡ Some (having s.processes s.items)
lines_again lines s h =
    let processes = process_lines_give s.processes [] s.processes h.process_lines refl h.formed.most h.formed.lines h.formed.names h.processes in
    let items = item_lines_give s.processes [] s.items h.item_lines h.formed.items h.items in
    give-kept lines nothing_read ∙ ap (fields_give nothing_read) h.in_order
    ∙ ap (λ (o : Option SchedulePart). o >>= λ next. fields_give next (h.process_lines ++ h.item_lines)) (header_gives h.header h.begins)
    ∙ give-append h.process_lines h.item_lines begin (having s.processes []) processes ∙ items

-- lines spell at most one schedule
pub one_of_lines : (lines : List (List ℕ)) (s t : Schedule) → AreLinesOf lines s → AreLinesOf lines t → s ≡ t
one_of_lines lines s t a b = ap schedule_part (some_is (having s.processes s.items) (having t.processes t.items) (sym (lines_again lines s a) ∙ lines_again lines t b))
