-- One more line: what it may be, and that what has come stays in range.
use Rattle.std.proofs.Common.{◌≡◌, ◌≢◌, ℕ, zero, suc, ◌<◌, ◌≤◌, ◌⊎◌, Bool, true, false, cond, ◌||◌, ltb, leb, List, [], ◌∷◌, ◌++◌, length, get_or, Some, None, refl, sym, ap, subst, ◌∙◌, arith, inl, inr}
use Rattle.std.specs.Prelude.{codes, All, AllPairs}
use Rattle.std.specs.List.{list_any}
use Rattle.std.specs.Str.{bytes_eq}
use Rattle.std.proofs.lemmas.Bool.{cases_Bool, lt-ltb, leb-false, or_parts, or_from}
use Rattle.std.proofs.lemmas.List.{length-append}
use Rattle.std.proofs.lemmas.List.Elements.{All-push}
use Rattle.std.proofs.lemmas.List.Quantifiers.{all_pairs_push}
use Rattle.schedule_text.specs.declared.item.Item.{Item}
use Rattle.lamport_tag.specs.Limits.{most_processes}
use Rattle.schedule_text.specs.declared.process.ProcessLine.{ProcessLine}
use Rattle.schedule_text.specs.Fields.{fields_of, is_comment, is_passed_over}
use Rattle.schedule_text.specs.Grammar.{IsHeader, IsProcessLine, IsItemLine, lines_kept}
use Rattle.schedule_text.specs.Reading.{SchedulePart, nothing_read, is_header, process_line_of, item_by_word, with_process, with_schedule_item, with_fields, with_line_of, with_schedule_line}
use Rattle.schedule_text.specs.Schedule.{IsInRange, IsProcess}
use Rattle.schedule_text.proofs.ItemLemmas.{is_word, same_word, item_takes, process_line_takes, header_takes}
use Rattle.schedule_text.proofs.WordLemmas.{bind_some, map_some, kept, passed}

-- ---- lines that are passed over, and others

-- the fields begin with a word that begins no comment
pub record IsKept (fields : List (List ℕ)) : Type 0 where
  pub word : List ℕ
  pub rest : List (List ℕ)
  pub fields_are : fields ≡ word ∷ rest
  pub no_comment : is_comment word ≡ false

-- a line is passed over, or is kept
pub kept_cases : (fields : List (List ℕ)) → (is_passed_over fields ≡ true) ⊎ IsKept fields
kept_cases [] = inl refl
kept_cases (word ∷ rest) = elim (cases_Bool (is_comment word)) [ inl comment ↦ inl comment | inr other ↦ inr (record { word = word; rest = rest; fields_are = refl; no_comment = other }) ]

-- fields that are passed over change nothing
passed_fields : (part : SchedulePart) (fields : List (List ℕ)) → is_passed_over fields ≡ true → with_line_of part fields ≡ Some part
passed_fields part [] e = refl
passed_fields part (word ∷ rest) e = rw e refl

-- a line that is passed over changes nothing
pub passed_line : (part : SchedulePart) (line : List ℕ) → is_passed_over (fields_of line) ≡ true → with_schedule_line part line ≡ Some part
unfolding with_schedule_line
passed_line part line e = passed_fields part (fields_of line) e

-- other fields are taken
pub kept_fields : (part : SchedulePart) (word : List ℕ) (rest : List (List ℕ)) → is_comment word ≡ false → with_line_of part (word ∷ rest) ≡ with_fields part word rest
kept_fields part word rest e = rw e refl

-- a line counts by its fields
pub line_is : (part : SchedulePart) (line : List ℕ) → with_schedule_line part line ≡ with_line_of part (fields_of line)
unfolding with_schedule_line
line_is part line = refl

-- a line that is passed over isn't kept
pub kept-passed : (line : List ℕ) (lines : List (List ℕ)) → is_passed_over (fields_of line) ≡ true → lines_kept (line ∷ lines) ≡ lines_kept lines
kept-passed line lines e = rw e refl

-- a line that is kept isn't passed over
not_passed : (fields : List (List ℕ)) → IsKept fields → is_passed_over fields ≡ false
not_passed fields h = ap is_passed_over h.fields_are ∙ h.no_comment

-- another line is kept
pub kept-kept : (line : List ℕ) (lines : List (List ℕ)) → IsKept (fields_of line) → lines_kept (line ∷ lines) ≡ fields_of line ∷ lines_kept lines
kept-kept line lines h = rw (not_passed (fields_of line) h) refl

-- ---- what one more line may be

-- no process has this name yet
abbrev pub IsNew : List ProcessLine → List ℕ → Type 0
IsNew processes name = (k : ℕ) (d : ProcessLine) → k < length processes → (get_or processes k d).name ≢ name

-- a line with these fields is allowed after `part`, and gives the part of the last argument
pub data Step (part : SchedulePart) (fields : List (List ℕ)) : SchedulePart → Type 0 where
  header : part.has_header ≡ false → IsHeader fields → Step part fields (record part { has_header = true })
  process : (line : ProcessLine) → part.has_header ≡ true → part.items ≡ [] → length part.processes < most_processes → IsProcessLine fields line → IsProcess line → IsNew part.processes line.name → Step part fields (record part { processes = part.processes ++ line ∷ [] })
  item : (i : Item) → part.has_header ≡ true → IsItemLine fields i → IsInRange (length part.processes) i → Step part fields (record part { items = part.items ++ i ∷ [] })

-- a name that no process compares equal to is new
any_new : (name : List ℕ) (processes : List ProcessLine) → list_any (λ other. bytes_eq other.name name) processes ≡ false → IsNew processes name
any_new name [] e k d lt same = absurd (omega arith)
any_new name (p ∷ ps) e zero d lt same =
    let yes = same_word p.name name same in
    let no = (or_parts (bytes_eq p.name name) (list_any (λ other. bytes_eq other.name name) ps) e).0 in
    cc
any_new name (p ∷ ps) e (suc k) d lt same = any_new name ps (or_parts (bytes_eq p.name name) (list_any (λ other. bytes_eq other.name name) ps) e).1 k d (omega arith) same

-- two names compare unequal
other_name : (a b : List ℕ) → a ≢ b → bytes_eq a b ≡ false
other_name a b ne = elim (cases_Bool (bytes_eq a b)) [ inl same ↦ absurd (ne (is_word a b same)) | inr other ↦ other ]

-- no process compares equal to a new name
pub new_any : (name : List ℕ) (processes : List ProcessLine) → IsNew processes name → list_any (λ other. bytes_eq other.name name) processes ≡ false
new_any name [] new = refl
new_any name (p ∷ ps) new =
    or_from (bytes_eq p.name name) (list_any (λ other. bytes_eq other.name name) ps) (other_name p.name name (new zero p (omega arith))) (new_any name ps (λ k d lt. new (suc k) d (omega arith)))

-- a list that isn't longer than 0 is empty
none_left : {A : Type 0} (xs : List A) → ltb 0 (length xs) ≡ false → xs ≡ []
none_left [] e = refl
none_left (x ∷ xs) e = absurd (let some = lt-ltb 0 (length (x ∷ xs)) (omega arith) in cc)

-- what is taken as a process line is one that is allowed
process_step : (part : SchedulePart) (word : List ℕ) (fields : List (List ℕ)) (next : SchedulePart) → part.has_header ≡ true → word ≡ codes "process" → with_process part fields ≡ Some next → Step part (word ∷ fields) next
unfolding with_process
process_step part word fields next begun is e =
    let room = passed (ltb 0 (length part.items) || leb most_processes (length part.processes)) _ next e in
    let line = bind_some (process_line_of fields) _ next room.1 in
    let new = passed (list_any (λ other. bytes_eq other.name line.0.name) part.processes) _ next line.2 in
    let free = or_parts (ltb 0 (length part.items)) (leb most_processes (length part.processes)) room.0 in
    let written = process_line_takes word fields line.0 is line.1 in
    let same : record part { processes = part.processes ++ line.0 ∷ [] } ≡ next = (let there = new.1 in cc) in
    subst (Step part (word ∷ fields)) same (process line.0 begun (none_left part.items free.0) (leb-false most_processes (length part.processes) free.1) written.0 written.1 (any_new line.0.name part.processes new.0))

-- what is taken as an item is one that is allowed
item_step : (part : SchedulePart) (word : List ℕ) (fields : List (List ℕ)) (next : SchedulePart) → part.has_header ≡ true → with_schedule_item part word fields ≡ Some next → Step part (word ∷ fields) next
unfolding with_schedule_item
item_step part word fields next begun e =
    let i = map_some (λ (i : Item). record part { items = part.items ++ i ∷ [] }) (item_by_word (length part.processes) word fields) next e in
    let written = item_takes (length part.processes) word fields i.0 i.1 in
    subst (Step part (word ∷ fields)) i.2 (item i.0 begun written.0 written.1)

-- the side of a choice that was taken
at_true : {A : Type 0} (b : Bool) (x y z : A) → b ≡ true → cond b x y ≡ z → x ≡ z
at_true b x y z t e = sym (ap (λ (c : Bool). cond c x y) t) ∙ e

at_false : {A : Type 0} (b : Bool) (x y z : A) → b ≡ false → cond b x y ≡ z → y ≡ z
at_false b x y z t e = sym (ap (λ (c : Bool). cond c x y) t) ∙ e

-- what is taken as the header is one that is allowed
header_step : (part : SchedulePart) (word : List ℕ) (fields : List (List ℕ)) (next : SchedulePart) → part.has_header ≡ false → cond (is_header word fields) (Some (record part { has_header = true })) None ≡ Some next → Step part (word ∷ fields) next
header_step part word fields next before e =
    let head = kept (is_header word fields) (Some (record part { has_header = true })) next e in
    let same : record part { has_header = true } ≡ next = (let there = head.1 in cc) in
    subst (Step part (word ∷ fields)) same (header before (header_takes word fields head.0))

-- a line that is allowed is one of the three
pub step_of : (part : SchedulePart) (word : List ℕ) (fields : List (List ℕ)) (next : SchedulePart) → with_fields part word fields ≡ Some next → Step part (word ∷ fields) next
unfolding with_fields
step_of part word fields next e =
    elim (cases_Bool part.has_header) [
      | inl begun ↦
          let after = at_true part.has_header _ _ (Some next) begun e in
          elim (cases_Bool (bytes_eq word (codes "process"))) [
            | inl is ↦ process_step part word fields next begun (is_word word (codes "process") is) (at_true _ _ _ (Some next) is after)
            | inr other ↦ item_step part word fields next begun (at_false _ _ _ (Some next) other after)
          ]
      | inr before ↦ header_step part word fields next before (at_false part.has_header _ _ (Some next) before e)
    ]

-- ---- what has come is in range

-- what has come is in range
pub record IsPart (part : SchedulePart) : Type 0 where
  pub before : part.has_header ≡ false → length part.processes ≡ 0
  pub most : length part.processes ≤ most_processes
  pub lines : All IsProcess part.processes
  pub names : AllPairs (λ a b. a.name ≢ b.name) part.processes
  pub items : All (IsInRange (length part.processes)) part.items

-- this holds before the first line
pub nothing_is : IsPart nothing_read
nothing_is = record {
  before = λ _. refl;
  most = omega arith;
  lines = λ k d lt. absurd (omega arith);
  names = λ i j d lt below. absurd (omega arith);
  items = λ k d lt. absurd (omega arith);
}

-- an allowed line keeps what has come in range
pub step_keeps : (part : SchedulePart) (fields : List (List ℕ)) (next : SchedulePart) → Step part fields next → IsPart part → IsPart next
step_keeps part fields _ (header before is) h = record { before = λ e. absurd cc; most = h.most; lines = h.lines; names = h.names; items = h.items }
step_keeps part fields _ (process line begun none room is good new) h = record {
  before = λ e. absurd cc;
  most = omega (arith, length-append part.processes (line ∷ []));
  lines = All-push IsProcess part.processes line h.lines good;
  names = all_pairs_push (λ (a b : ProcessLine). a.name ≢ b.name) part.processes line h.names (λ k d lt. new k d lt);
  items = λ k d lt. absurd (omega (arith, ap length none));
}
step_keeps part fields _ (item i begun is range) h = record {
  before = h.before;
  most = h.most;
  lines = h.lines;
  names = h.names;
  items = All-push (IsInRange (length part.processes)) part.items i h.items range;
}
