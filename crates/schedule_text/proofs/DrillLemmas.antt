-- The schedule of the drill is within the limits.
use Rattle.std.proofs.Common.{◌≡◌, ◌≢◌, ℕ, zero, suc, ◌+◌, ◌-◌, ◌*◌, ◌/◌, ◌%◌, ◌<◌, ◌≤◌, ◌==◌, Bool, true, false, cond, get_or, List, [], ◌∷◌, ◌++◌, flat_map, refl, sym, ap, ◌∙◌, arith, append_assoc, append-nil}
use Rattle.std.specs.Prelude.{codes, All, AllPairs, IsTrue}
use Rattle.std.specs.List.{AllByRecursion, range_with_len}
use Rattle.std.proofs.lemmas.List.Elements.{All-append}
use Rattle.std.proofs.lemmas.Grind.{flat_map-append}
use Rattle.std.proofs.lemmas.List.Kept.{AllPairs-cons}
use Rattle.std.proofs.lemmas.List.Sums.{sum_by-append}
use Rattle.fri_text.specs.Name.{is_name}
use Rattle.schedule_text.specs.declared.item.Item.{Item}
use Rattle.schedule_text.specs.declared.item.Item.TheVariants.{Run, Deliver}
use Rattle.schedule_text.specs.declared.process.ProcessLine.{ProcessLine}
use Rattle.schedule_text.specs.Drill.{drill_processes, drill_round, drill_schedule, drill_start, idle_try, ring_line}
use Rattle.schedule_text.specs.Limits.{most_rounds, most_runs}
use Rattle.schedule_text.specs.Schedule.{IsInRange, IsProcess, IsSchedule, run_count, tries}

-- one round more
pub one_round_more : (start n : ℕ) → range_with_len start (suc n) ≡ range_with_len start n ++ (start + n) ∷ []
one_round_more start zero = ap (λ k. k ∷ []) (omega arith)
one_round_more start (suc n) = ap (λ hs. start ∷ hs) (one_round_more (start + 1) n ∙ ap (λ k. range_with_len (start + 1) n ++ k ∷ []) (omega arith))

-- ---- the processes

abbrev Apart : ProcessLine → ProcessLine → Type 0
Apart a b = a.name ≢ b.name

each : {X : Type 0} (P : X → Type 0) (xs : List X) → AllByRecursion P xs → All P xs
each P [] all k d below = absurd (omega (arith, below))
each P (x ∷ xs) all zero d below = all.0
each P (x ∷ xs) all (suc k) d below = each P xs all.1 k d (omega (arith, below))

abbrev apart_after : List ProcessLine → Type 0
apart_after [] = Unit {0}
apart_after (x ∷ xs) = AllByRecursion (Apart x) xs × apart_after xs

pairs : (xs : List ProcessLine) → apart_after xs → AllPairs Apart xs
pairs [] apart = λ i j d below within. absurd (omega (arith, below, within))
pairs (x ∷ xs) apart = AllPairs-cons Apart x xs (each (Apart x) xs apart.0) (pairs xs apart.1)

abbrev last_digit : List ℕ → ℕ
last_digit name = get_or name 1 0

unlike : (a b : ProcessLine) → (last_digit a.name ≡ last_digit b.name → ⊥) → Apart a b
unlike a b differ same = differ (ap last_digit same)

abbrev n0 : ProcessLine
n0 = ring_line (codes "n0")

abbrev n1 : ProcessLine
n1 = ring_line (codes "n1")

abbrev n2 : ProcessLine
n2 = ring_line (codes "n2")

abbrev n3 : ProcessLine
n3 = ring_line (codes "n3")

named : AllPairs Apart drill_processes
named = pairs drill_processes (
  (unlike n0 n1 (λ (e : 48 ≡ 49). omega (arith, e)), (unlike n0 n2 (λ (e : 48 ≡ 50). omega (arith, e)), (unlike n0 n3 (λ (e : 48 ≡ 51). omega (arith, e)), tt))),
  (
    (unlike n1 n2 (λ (e : 49 ≡ 50). omega (arith, e)), (unlike n1 n3 (λ (e : 49 ≡ 51). omega (arith, e)), tt)),
    ((unlike n2 n3 (λ (e : 50 ≡ 51). omega (arith, e)), tt), (tt, tt)),
  ),
)

may_run : (name : List ℕ) → IsTrue (is_name name) → IsProcess (ring_line name)
may_run name is = record { name = is; file = refl }

lined : All IsProcess drill_processes
lined = each IsProcess drill_processes (may_run (codes "n0") refl, (may_run (codes "n1") refl, (may_run (codes "n2") refl, (may_run (codes "n3") refl, tt))))

-- ---- the items

run_in : (p times : ℕ) → p < 4 → 1 ≤ times → times ≤ most_runs → IsInRange 4 (Run p 0 times)
run_in p times within some few = (within, omega arith, some, few)

start_in : All (IsInRange 4) drill_start
start_in = each (IsInRange 4) drill_start (
  run_in 0 3 (omega arith) (omega arith) (omega arith),
  (
    run_in 1 2 (omega arith) (omega arith) (omega arith),
    (run_in 2 2 (omega arith) (omega arith) (omega arith), (run_in 3 2 (omega arith) (omega arith) (omega arith), tt)),
  ),
)

idle_in : (idle : Bool) (p : ℕ) → p < 4 → All (IsInRange 4) (cond idle (Run p 0 1 ∷ []) [])
idle_in true p within = each (IsInRange 4) (Run p 0 1 ∷ []) (run_in p 1 within (omega arith) (omega arith), tt)
idle_in false p within = each (IsInRange 4) [] tt

abbrev hands_on : ℕ → List Item
hands_on h = Deliver ((h - 1) % 4) ((h - 1) / 4 + 1) ∷ Run (h % 4) 0 2 ∷ []

round_in : (h : ℕ) → 1 ≤ h → h ≤ most_rounds → All (IsInRange 4) (drill_round h)
round_in h some few =
    let handed : All (IsInRange 4) (hands_on h) = each (IsInRange 4) (hands_on h) ((omega arith, omega arith, omega (arith, some, few)), (run_in (h % 4) 2 (omega arith) (omega arith) (omega arith), tt)) in
    All-append (IsInRange 4) (idle_try h) (hands_on h) (idle_in (h % 3 == 0) (h % 4) (omega arith)) handed

rounds_in : (start n : ℕ) → 1 ≤ start → start + n ≤ suc most_rounds → All (IsInRange 4) (flat_map drill_round (range_with_len start n))
rounds_in start zero some few = each (IsInRange 4) [] tt
rounds_in start (suc n) some few =
    All-append (IsInRange 4) (drill_round start) (flat_map drill_round (range_with_len (start + 1) n)) (round_in start some (omega (arith, few))) (rounds_in (start + 1) n (omega arith) (omega (arith, few)))

-- ---- the tries

idle_run : (idle : Bool) (p : ℕ) → run_count (cond idle (Run p 0 1 ∷ []) []) ≤ 1
idle_run true p = omega arith
idle_run false p = omega arith

round_run : (h : ℕ) → run_count (drill_round h) ≤ 3
round_run h = omega (arith, sum_by-append tries (idle_try h) (hands_on h), idle_run (h % 3 == 0) (h % 4))

rounds_run : (start n : ℕ) → run_count (flat_map drill_round (range_with_len start n)) ≤ 3 * n
rounds_run start zero = omega arith
rounds_run start (suc n) =
    omega (arith, sum_by-append tries (drill_round start) (flat_map drill_round (range_with_len (start + 1) n)), round_run start, rounds_run (start + 1) n)

pub drill_within : (rounds : ℕ) → rounds ≤ most_rounds → IsSchedule (drill_schedule rounds)
drill_within rounds few = record {
  formed = record {
    some = omega arith;
    most = omega arith;
    lines = lined;
    names = named;
    items = All-append (IsInRange 4) drill_start (flat_map drill_round (range_with_len 1 rounds)) start_in (rounds_in 1 rounds (omega arith) (omega (arith, few)));
  };
  runs = omega (arith, sum_by-append tries drill_start (flat_map drill_round (range_with_len 1 rounds)), rounds_run 1 rounds, few);
}

-- the items of one round more
pub drill_more : (done : ℕ) → (drill_start ++ flat_map drill_round (range_with_len 1 done)) ++ drill_round (done + 1) ≡ drill_start ++ flat_map drill_round (range_with_len 1 (done + 1))
drill_more done =
    let next : done + 1 ≡ suc done = omega arith in
    let last : 1 + done ≡ done + 1 = omega arith in
    let so_far = flat_map drill_round (range_with_len 1 done) in
    let more : flat_map drill_round (range_with_len 1 (done + 1)) ≡ so_far ++ drill_round (done + 1) =
    ap (λ n. flat_map drill_round (range_with_len 1 n)) next ∙ ap (flat_map drill_round) (one_round_more 1 done) ∙ flat_map-append drill_round (range_with_len 1 done) ((1 + done) ∷ [])
    ∙ ap (λ (is : List Item). so_far ++ is) (append-nil (drill_round (1 + done)) ∙ ap drill_round last) in
    append_assoc drill_start so_far (drill_round (done + 1)) ∙ ap (λ (is : List Item). drill_start ++ is) (sym more)
