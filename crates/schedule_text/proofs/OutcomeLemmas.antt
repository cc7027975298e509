-- What reading gives, and what the grammar says of the same lines.
use Rattle.std.proofs.Common.{◌≡◌, ℕ, zero, suc, ◌+◌, ◌-◌, ◌<◌, ◌≤◌, ◌⊎◌, Bool, true, false, ltb, leb, List, [], ◌∷◌, ◌++◌, length, take, drop, Option, Some, None, Result, Ok, Err, refl, sym, ap, subst, ◌∙◌, arith, inl, inr, append_assoc, take-take}
use Rattle.std.specs.Prelude.{codes, All}
use Rattle.std.proofs.lemmas.Bool.{cases_Bool, cases_lt, ltb-true, ltb-false, leb-true, leb-false}
use Rattle.std.proofs.Math.Seq.{take-length}
use Rattle.std.proofs.lemmas.List.{nil_from_length, take-append-drop}
use Rattle.fri_text.specs.Line.{lines_of}
use Rattle.schedule_text.specs.declared.item.Item.{Item}
use Rattle.schedule_text.specs.declared.item.Item.TheVariants.{Run, Deliver, Inject, Clock, Random, Signal, Kill}
use Rattle.schedule_text.specs.declared.process.ProcessLine.{ProcessLine}
use Rattle.schedule_text.specs.Limits.{most_runs}
use Rattle.schedule_text.specs.Grammar.{AreLinesOf, SpellsSchedule, BeginSchedule, IsFirstBad, SpellsBadLineAt}
use Rattle.schedule_text.specs.Reading.{◌>>=◌, ScheduleRefusal, BadLineAt, TooManyRuns, SchedulePart, nothing_read, with_schedule_line, with_fields, with_process, process_line_of, schedule_part, whole_schedule_of, outcome_of, schedule_of}
use Rattle.schedule_text.specs.Schedule.{Schedule, IsSchedule, IsInRange, run_count}
use Rattle.schedule_text.proofs.LineLemmas.{lines_give, having, all_keep, lines_take, lines_again, one_of_lines, some_is}
use Rattle.schedule_text.proofs.StepLemmas.{IsPart, nothing_is}
use Rattle.schedule_text.proofs.WordLemmas.{bind_some}

-- the first `good` lines are allowed, and the next isn't, or there is none and no process has come
pub record Stops (part : SchedulePart) (lines : List (List ℕ)) (good : ℕ) : Type 0 where
  pub within : good ≤ length lines
  pub mid : SchedulePart
  pub gives : lines_give part (take good lines) ≡ Some mid
  pub bad : good < length lines → lines_give part (take (suc good) lines) ≡ None
  pub unfinished : good ≡ length lines → length mid.processes ≡ 0

-- what an outcome says of the lines
pub data Came (part : SchedulePart) (lines : List (List ℕ)) (number : ℕ) : Result Schedule ScheduleRefusal → Type 0 where
  whole : (end : SchedulePart) → lines_give part lines ≡ Some end → 0 < length end.processes → run_count end.items ≤ most_runs → Came part lines number (Ok (schedule_part end))
  over : (end : SchedulePart) → lines_give part lines ≡ Some end → 0 < length end.processes → most_runs < run_count end.items → Came part lines number (Err TooManyRuns)
  stops : (good : ℕ) → Stops part lines good → Came part lines number (Err (BadLineAt (number + good)))

-- where no line is left
came_end : (number : ℕ) (part : SchedulePart) → Came part [] number (whole_schedule_of number part)
unfolding whole_schedule_of
came_end number part =
    elim (cases_Bool (ltb 0 (length part.processes))) [
      | inl some ↦
          elim (cases_Bool (leb (run_count part.items) most_runs)) [
            | inl few ↦ rw (some, few) (whole part refl (ltb-true 0 (length part.processes) some) (leb-true (run_count part.items) most_runs few))
            | inr many ↦ rw (some, many) (over part refl (ltb-true 0 (length part.processes) some) (leb-false (run_count part.items) most_runs many))
          ]
      | inr none ↦
          rw none (subst (λ (n : ℕ). Came part [] number (Err (BadLineAt n))) (let e : number + 0 ≡ number = omega arith in e)
          (stops 0 (record { within = omega arith; mid = part; gives = refl; bad = λ lt. absurd (omega arith); unfinished = λ _. omega (arith, ltb-false 0 (length part.processes) none) })))
    ]

-- an allowed line is taken, and then the others
after_line : (part next : SchedulePart) (line : List ℕ) (lines : List (List ℕ)) → with_schedule_line part line ≡ Some next → lines_give part (line ∷ lines) ≡ lines_give next lines
after_line part next line lines e = ap (λ (o : Option SchedulePart). o >>= λ p. lines_give p lines) e

-- what is said of the lines after an allowed one is said of all
came_on : (number : ℕ) (part next : SchedulePart) (line : List ℕ) (lines : List (List ℕ)) (outcome : Result Schedule ScheduleRefusal) → with_schedule_line part line ≡ Some next → Came next lines (number + 1) outcome → Came part (line ∷ lines) number outcome
came_on number part next line lines _ e (whole end gives some few) = whole end (after_line part next line lines e ∙ gives) some few
came_on number part next line lines _ e (over end gives some many) = over end (after_line part next line lines e ∙ gives) some many
came_on number part next line lines _ e (stops good h) =
    subst (λ (n : ℕ). Came part (line ∷ lines) number (Err (BadLineAt n))) (let same : number + suc good ≡ number + 1 + good = omega arith in same)
    (stops (suc good) (record {
      within = omega (arith, h.within);
      mid = h.mid;
      gives = after_line part next line (take good lines) e ∙ h.gives;
      bad = λ lt. after_line part next line (take (suc good) lines) e ∙ h.bad (omega arith);
      unfinished = λ same. h.unfinished (omega arith);
    }))

-- a line that isn't allowed is where reading stops
came_bad : (number : ℕ) (part : SchedulePart) (line : List ℕ) (lines : List (List ℕ)) → with_schedule_line part line ≡ None → Came part (line ∷ lines) number (Err (BadLineAt number))
came_bad number part line lines e =
    subst (λ (n : ℕ). Came part (line ∷ lines) number (Err (BadLineAt n))) (let same : number + 0 ≡ number = omega arith in same)
    (stops 0 (record {
      within = omega arith;
      mid = part;
      gives = refl;
      bad = λ lt. ap (λ (o : Option SchedulePart). o >>= λ p. lines_give p []) e;
      unfinished = λ same. absurd (omega arith);
    }))

-- nothing, or something
cases_Option : {A : Type 0} (o : Option A) → (o ≡ None) ⊎ ((x : A) × (o ≡ Some x))
cases_Option None = inl refl
cases_Option (Some x) = inr (x, refl)

-- what reading gives of the lines
pub came : (lines : List (List ℕ)) (number : ℕ) (part : SchedulePart) → Came part lines number (outcome_of number part lines)
unfolding outcome_of
came [] number part = came_end number part
came (line ∷ lines) number part =
    elim (cases_Option (with_schedule_line part line)) [
      | inl bad ↦ rw bad (came_bad number part line lines bad)
      | inr next ↦ rw next.1 (came_on number part next.0 line lines (outcome_of (number + 1) next.0 lines) next.1 (came lines (number + 1) next.0))
    ]

-- ---- lines that begin a schedule

-- allowed lines are taken, and then the others
after_lines : (front back : List (List ℕ)) (part mid : SchedulePart) → lines_give part front ≡ Some mid → lines_give part (front ++ back) ≡ lines_give mid back
after_lines [] back part mid e = ap (λ (p : SchedulePart). lines_give p back) (some_is part mid e)
after_lines (line ∷ front) back part mid e =
    let next = bind_some (with_schedule_line part line) (λ p. lines_give p front) mid e in
    after_line part next.0 line (front ++ back) next.1 ∙ after_lines front back next.0 mid next.2

-- where lines are allowed, so is each front of them
front_lines : (front back : List (List ℕ)) (part end : SchedulePart) → lines_give part (front ++ back) ≡ Some end → (mid : SchedulePart) × (lines_give part front ≡ Some mid)
front_lines [] back part end e = (part, refl)
front_lines (line ∷ front) back part end e =
    let next = bind_some (with_schedule_line part line) (λ p. lines_give p (front ++ back)) end e in
    let mid = front_lines front back next.0 end next.2 in
    (mid.0, after_line part next.0 line front next.1 ∙ mid.1)

-- no item is in range where there is no process
no_process : (i : Item) → IsInRange 0 i → ⊥
no_process (Run p t n) range = omega (arith, range.0)
no_process (Deliver p n) range = omega (arith, range.0)
no_process (Inject p bytes) range = omega (arith, range.0)
no_process (Clock p v) range = omega (arith, range.0)
no_process (Random p bytes) range = omega (arith, range.0)
no_process (Signal p s) range = omega (arith, range.0)
no_process (Kill p) range = omega arith

-- so there is none
no_items : (items : List Item) → All (IsInRange 0) items → items ≡ []
no_items [] range = refl
no_items (i ∷ items) range = absurd (no_process i (range zero i (omega arith)))

-- a process line may follow the header
process_after : lines_give (having [] []) (codes "process a a" ∷ []) ≡ Some (having (record { name = codes "a"; «module» = codes "a" } ∷ []) [])
unfolding with_schedule_line with_fields with_process process_line_of
process_after = refl

-- the header and a process line may be at the front
all_after : lines_give nothing_read (codes "friday 1" ∷ codes "process a a" ∷ []) ≡ Some (having (record { name = codes "a"; «module» = codes "a" } ∷ []) [])
unfolding with_schedule_line with_fields with_process process_line_of
all_after = refl

-- lines that are allowed, and after which these come to a process, begin a schedule
goes_on : (lines rest : List (List ℕ)) (mid end : SchedulePart) → lines_give nothing_read lines ≡ Some mid → lines_give mid rest ≡ Some end → 0 < length end.processes → BeginSchedule lines
goes_on lines rest mid end e f some = record { rest = rest; whole = schedule_part end; spelled = lines_take (lines ++ rest) end some (after_lines lines rest nothing_read mid e ∙ f) }

-- lines that have brought no process yet begin a schedule
begins_empty : (lines : List (List ℕ)) (has : Bool) → lines_give nothing_read lines ≡ Some (record { has_header = has; processes = []; items = [] }) → BeginSchedule lines
begins_empty lines true e = goes_on lines (codes "process a a" ∷ []) _ _ e process_after (omega arith)
begins_empty lines false e = goes_on lines (codes "friday 1" ∷ codes "process a a" ∷ []) _ _ e all_after (omega arith)

-- where no process has come, no item has
empty_part : (mid : SchedulePart) → IsPart mid → length mid.processes ≡ 0 → mid ≡ record { has_header = mid.has_header; processes = []; items = [] }
empty_part mid range none =
    let processes = nil_from_length mid.processes none in
    let items = no_items mid.items (subst (λ (n : ℕ). All (IsInRange n) mid.items) none range.items) in
    ap (λ (ps : List ProcessLine). record { has_header = mid.has_header; processes = ps; items = mid.items }) processes
    ∙ ap (λ (is : List Item). record { has_header = mid.has_header; processes = []; items = is }) items

-- lines that are allowed begin a schedule
begins_of : (lines : List (List ℕ)) (mid : SchedulePart) → lines_give nothing_read lines ≡ Some mid → BeginSchedule lines
begins_of lines mid e =
    elim (cases_Bool (ltb 0 (length mid.processes))) [
      | inl some ↦ goes_on lines [] mid mid e refl (ltb-true 0 (length mid.processes) some)
      | inr none ↦
          let none : length mid.processes ≡ 0 = omega (arith, ltb-false 0 (length mid.processes) none) in
          begins_empty lines mid.has_header (e ∙ ap (λ (p : SchedulePart). Some p) (empty_part mid (all_keep lines nothing_read mid nothing_is e) none))
    ]

-- lines that aren't allowed begin none
begins_not : (lines : List (List ℕ)) → lines_give nothing_read lines ≡ None → BeginSchedule lines → ⊥
begins_not lines e h =
    let mid = front_lines lines h.rest nothing_read (having h.whole.processes h.whole.items) (lines_again (lines ++ h.rest) h.whole h.spelled) in
    let no = mid.1 in
    cc

-- ---- the first bad line

-- lines at which reading stops spell no schedule
stopped_unspelled : (lines : List (List ℕ)) (good : ℕ) (s : Schedule) → Stops nothing_read lines good → AreLinesOf lines s → ⊥
stopped_unspelled lines good s h spelled =
    let all = lines_again lines s spelled in
    elim (cases_lt good (length lines)) [
      | inl there ↦
          let mid = front_lines (take (suc good) lines) (drop (suc good) lines) nothing_read (having s.processes s.items) (ap (lines_give nothing_read) (take-append-drop (suc good) lines) ∙ all) in
          let no = h.bad there in
          let yes = mid.1 in
          cc
      | inr behind ↦
          let end : good ≡ length lines = omega (arith, h.within) in
          let every : take good lines ≡ lines = ap (λ (n : ℕ). take n lines) end ∙ take-length lines in
          let same : h.mid ≡ having s.processes s.items = some_is h.mid (having s.processes s.items) (sym h.gives ∙ ap (lines_give nothing_read) every ∙ all) in
          omega (arith, ap (λ (p : SchedulePart). length p.processes) same, h.unfinished end, spelled.formed.some)
    ]

-- where reading stops is the first bad line
pub first_bad : (lines : List (List ℕ)) (good : ℕ) → Stops nothing_read lines good → IsFirstBad lines (1 + good)
first_bad lines good h =
    let less : good ≡ 1 + good - 1 = omega arith in
    let more : 1 + good ≡ suc good = omega arith in
    record {
      counted = omega arith;
      within = omega (arith, h.within);
      good = subst (λ (n : ℕ). BeginSchedule (take n lines)) less (begins_of (take good lines) h.mid h.gives);
      bad = λ le b. begins_not (take (suc good) lines) (h.bad (omega arith)) (subst (λ (n : ℕ). BeginSchedule (take n lines)) more b);
      unspelled = λ s spelled. stopped_unspelled lines good s h spelled;
    }

-- fewer lines begin a schedule too
shorter : (lines : List (List ℕ)) (m n : ℕ) → m ≤ n → BeginSchedule (take n lines) → BeginSchedule (take m lines)
shorter lines m n le b =
    let front : take m (take n lines) ≡ take m lines = take-take m n lines le in
    let all : take m lines ++ drop m (take n lines) ≡ take n lines = ap (λ (ls : List (List ℕ)). ls ++ drop m (take n lines)) (sym front) ∙ take-append-drop m (take n lines) in
    record {
      rest = drop m (take n lines) ++ b.rest;
      whole = b.whole;
      spelled = subst (λ (ls : List (List ℕ)). AreLinesOf ls b.whole) (ap (λ (ls : List (List ℕ)). ls ++ b.rest) (sym all) ∙ append_assoc (take m lines) (drop m (take n lines)) b.rest) b.spelled;
    }

-- no line before the first bad one is it too
not_before : (lines : List (List ℕ)) (m n : ℕ) → m < n → IsFirstBad lines m → IsFirstBad lines n → ⊥
not_before lines m n lt a b = a.bad (omega (arith, b.within)) (shorter lines m (n - 1) (omega arith) b.good)

-- one line is the first bad one
pub one_first_bad : (lines : List (List ℕ)) (m n : ℕ) → IsFirstBad lines m → IsFirstBad lines n → m ≡ n
one_first_bad lines m n a b =
    elim (cases_lt m n) [
      | inl less ↦ absurd (not_before lines m n less a b)
      | inr other ↦ elim (cases_lt n m) [ inl less ↦ absurd (not_before lines n m less b a) | inr same ↦ omega arith ]
    ]

-- ---- the schedule of some bytes

-- what `schedule_of` gives says what the lines are
pub came_of : (bytes : List ℕ) → Came nothing_read (lines_of bytes) 1 (schedule_of bytes)
unfolding schedule_of
came_of bytes = came (lines_of bytes) 1 nothing_read

-- the same three of lines: a schedule
came_ok : (lines : List (List ℕ)) (outcome : Result Schedule ScheduleRefusal) (s : Schedule) → Came nothing_read lines 1 outcome → outcome ≡ Ok s → AreLinesOf lines s × IsSchedule s
came_ok lines _ s (whole end gives some few) e =
    let same : schedule_part end ≡ s = cc in
    let spelled = lines_take lines end some gives in
    subst (λ (t : Schedule). AreLinesOf lines t × IsSchedule t) same (spelled, record { formed = spelled.formed; runs = few })
came_ok lines _ s (over end gives some many) e = absurd cc
came_ok lines _ s (stops good h) e = absurd cc

-- too many run items
came_over : (lines : List (List ℕ)) (outcome : Result Schedule ScheduleRefusal) → Came nothing_read lines 1 outcome → outcome ≡ Err TooManyRuns → (s : Schedule) × AreLinesOf lines s × (most_runs < run_count s.items)
came_over lines _ (whole end gives some few) e = absurd cc
came_over lines _ (over end gives some many) e = (schedule_part end, lines_take lines end some gives, many)
came_over lines _ (stops good h) e = absurd cc

-- a bad line
came_stops : (lines : List (List ℕ)) (outcome : Result Schedule ScheduleRefusal) (n : ℕ) → Came nothing_read lines 1 outcome → outcome ≡ Err (BadLineAt n) → IsFirstBad lines n
came_stops lines _ n (whole end gives some few) e = absurd cc
came_stops lines _ n (over end gives some many) e = absurd cc
came_stops lines _ n (stops good h) e = subst (IsFirstBad lines) (let same : 1 + good ≡ n = cc in same) (first_bad lines good h)

-- what is given as a schedule is spelled, and may be run
pub schedule_found : (bytes : List ℕ) (s : Schedule) → schedule_of bytes ≡ Ok s → SpellsSchedule bytes s × IsSchedule s
schedule_found bytes s e = came_ok (lines_of bytes) (schedule_of bytes) s (came_of bytes) e

-- where too many run items are the answer, a schedule with so many is spelled
pub schedule_over : (bytes : List ℕ) → schedule_of bytes ≡ Err TooManyRuns → (s : Schedule) × SpellsSchedule bytes s × (most_runs < run_count s.items)
schedule_over bytes e = came_over (lines_of bytes) (schedule_of bytes) (came_of bytes) e

-- a line that is given as bad is the first bad one
pub schedule_bad : (bytes : List ℕ) (n : ℕ) → schedule_of bytes ≡ Err (BadLineAt n) → SpellsBadLineAt bytes n
schedule_bad bytes n e = came_stops (lines_of bytes) (schedule_of bytes) n (came_of bytes) e

-- what comes of lines that spell a schedule is this schedule
spelled_came : (lines : List (List ℕ)) (s : Schedule) (end : SchedulePart) → AreLinesOf lines s → lines_give nothing_read lines ≡ Some end → end ≡ having s.processes s.items
spelled_came lines s end spelled gives = some_is end (having s.processes s.items) (sym gives ∙ lines_again lines s spelled)

-- of lines that spell a schedule
came_spelled : (lines : List (List ℕ)) (outcome : Result Schedule ScheduleRefusal) (s : Schedule) → Came nothing_read lines 1 outcome → AreLinesOf lines s → (run_count s.items ≤ most_runs → outcome ≡ Ok s) × (most_runs < run_count s.items → outcome ≡ Err TooManyRuns)
came_spelled lines _ s (whole end gives some few) spelled =
    let same = spelled_came lines s end spelled gives in
    (λ _. ap (λ (p : SchedulePart). Ok (schedule_part p)) same, λ many. absurd (omega (arith, ap (λ (p : SchedulePart). run_count p.items) same)))
came_spelled lines _ s (over end gives some many) spelled =
    let same = spelled_came lines s end spelled gives in
    (λ few. absurd (omega (arith, ap (λ (p : SchedulePart). run_count p.items) same)), λ _. refl)
came_spelled lines _ s (stops good h) spelled = absurd (stopped_unspelled lines good s h spelled)

-- a schedule that is spelled, with no more run items than the limit, is given
pub schedule_again : (bytes : List ℕ) (s : Schedule) → SpellsSchedule bytes s → run_count s.items ≤ most_runs → schedule_of bytes ≡ Ok s
schedule_again bytes s spelled few = (came_spelled (lines_of bytes) (schedule_of bytes) s (came_of bytes) spelled).0 few

-- one with more is refused so
pub over_again : (bytes : List ℕ) (s : Schedule) → SpellsSchedule bytes s → most_runs < run_count s.items → schedule_of bytes ≡ Err TooManyRuns
over_again bytes s spelled many = (came_spelled (lines_of bytes) (schedule_of bytes) s (came_of bytes) spelled).1 many

-- of lines that have a bad one
came_bad_line : (lines : List (List ℕ)) (outcome : Result Schedule ScheduleRefusal) (n : ℕ) → Came nothing_read lines 1 outcome → IsFirstBad lines n → outcome ≡ Err (BadLineAt n)
came_bad_line lines _ n (whole end gives some few) bad = absurd (bad.unspelled (schedule_part end) (lines_take lines end some gives))
came_bad_line lines _ n (over end gives some many) bad = absurd (bad.unspelled (schedule_part end) (lines_take lines end some gives))
came_bad_line lines _ n (stops good h) bad = ap (λ (k : ℕ). Err (BadLineAt k)) (one_first_bad lines (1 + good) n (first_bad lines good h) bad)

-- the first bad line is given
pub bad_again : (bytes : List ℕ) (n : ℕ) → SpellsBadLineAt bytes n → schedule_of bytes ≡ Err (BadLineAt n)
bad_again bytes n bad = came_bad_line (lines_of bytes) (schedule_of bytes) n (came_of bytes) bad

-- bytes spell at most one schedule
pub one_schedule : (bytes : List ℕ) (s t : Schedule) → SpellsSchedule bytes s → SpellsSchedule bytes t → s ≡ t
one_schedule bytes s t a b = one_of_lines (lines_of bytes) s t a b

-- one line is the first bad one of some bytes
pub one_bad_line : (bytes : List ℕ) (m n : ℕ) → SpellsBadLineAt bytes m → SpellsBadLineAt bytes n → m ≡ n
one_bad_line bytes m n a b = one_first_bad (lines_of bytes) m n a b

-- of any lines
came_either : (lines : List (List ℕ)) (outcome : Result Schedule ScheduleRefusal) → Came nothing_read lines 1 outcome → ((s : Schedule) × AreLinesOf lines s) ⊎ ((n : ℕ) × IsFirstBad lines n)
came_either lines _ (whole end gives some few) = inl (schedule_part end, lines_take lines end some gives)
came_either lines _ (over end gives some many) = inl (schedule_part end, lines_take lines end some gives)
came_either lines _ (stops good h) = inr (1 + good, first_bad lines good h)

-- bytes spell a schedule, or have a bad line
pub spelled_or_bad : (bytes : List ℕ) → ((s : Schedule) × SpellsSchedule bytes s) ⊎ ((n : ℕ) × SpellsBadLineAt bytes n)
spelled_or_bad bytes = came_either (lines_of bytes) (schedule_of bytes) (came_of bytes)

-- ---- reading line by line

-- an allowed line, and then the others
outcome_on : (number : ℕ) (part next : SchedulePart) (line : List ℕ) (lines : List (List ℕ)) → with_schedule_line part line ≡ Some next → outcome_of number part (line ∷ lines) ≡ outcome_of (number + 1) next lines
unfolding outcome_of
outcome_on number part next line lines e = rw e refl

-- a line that isn't allowed
outcome_bad : (number : ℕ) (part : SchedulePart) (line : List ℕ) (lines : List (List ℕ)) → with_schedule_line part line ≡ None → outcome_of number part (line ∷ lines) ≡ Err (BadLineAt number)
unfolding outcome_of
outcome_bad number part line lines e = rw e refl

-- no line
outcome_end : (number : ℕ) (part : SchedulePart) → outcome_of number part [] ≡ whole_schedule_of number part
unfolding outcome_of
outcome_end number part = refl

-- the loop begins with all lines
pub read_begins : (bytes left : List ℕ) (part : SchedulePart) → left ≡ bytes → part ≡ nothing_read → outcome_of 1 part (lines_of left) ≡ schedule_of bytes
unfolding schedule_of
read_begins bytes left part same none = rw (same, none) refl

-- it goes on after a line that is allowed
pub read_on : (outcome : Result Schedule ScheduleRefusal) (left line after : List ℕ) (number : ℕ) (part next : SchedulePart) → outcome_of number part (lines_of left) ≡ outcome → lines_of left ≡ line ∷ lines_of after → with_schedule_line part line ≡ Some next → outcome_of (number + 1) next (lines_of after) ≡ outcome
read_on outcome left line after number part next so_far taken allowed =
    sym (outcome_on number part next line (lines_of after) allowed) ∙ ap (outcome_of number part) (sym taken) ∙ so_far

-- it ends at one that isn't
pub read_bad : (outcome : Result Schedule ScheduleRefusal) (left line after : List ℕ) (number : ℕ) (part : SchedulePart) → outcome_of number part (lines_of left) ≡ outcome → lines_of left ≡ line ∷ lines_of after → with_schedule_line part line ≡ None → outcome ≡ Err (BadLineAt number)
read_bad outcome left line after number part so_far taken refused =
    sym so_far ∙ ap (outcome_of number part) taken ∙ outcome_bad number part line (lines_of after) refused

-- it ends after the last
pub read_ends : (outcome : Result Schedule ScheduleRefusal) (left : List ℕ) (number : ℕ) (part : SchedulePart) → outcome_of number part (lines_of left) ≡ outcome → lines_of left ≡ [] → outcome ≡ whole_schedule_of number part
read_ends outcome left number part so_far none =
    sym so_far ∙ ap (outcome_of number part) none ∙ outcome_end number part
