-- Replays, each in its place by the number of its process.
use Rattle.std.proofs.Common.{◌≡◌, ◌≢◌, ◌∙◌, ◌<◌, ◌≤◌, ◌+◌, ℕ, suc, Bool, true, false, cond, List, [], ◌∷◌, ◌++◌, length, ap, arith, refl, subst, sym}
use Rattle.std.specs.Prelude.{nat_lt}
use Rattle.std.specs.List.{AllByRecursion, insert, prefix_len, take_while}
use Rattle.std.proofs.lemmas.Bool.{ltb-false, ltb-true}
use Rattle.std.proofs.lemmas.List.Folds.{length-prefix_len}
use Rattle.group_state.specs.Place.{AscendsByProcess}
use Rattle.proc_replay.specs.Replaying.{Replaying}
use Rattle.log_pairs.specs.Pairs.{insert_replay, sort_replays}
use Rattle.log_pairs.proofs.LogClashes.{all_so}

-- ---- where a replay is put

abbrev pub lower : ℕ → List Replaying → List Replaying
lower process rs = take_while (λ other. nat_lt other.head.process process) rs

abbrev count_lower : ℕ → List Replaying → ℕ
count_lower process rs = prefix_len (λ other. nat_lt other.head.process process) rs

put_at : (r : Replaying) (rs : List Replaying) → insert rs (count_lower r.head.process rs) r ≡ insert_replay r rs
put_at r [] = refl
put_at r (s ∷ rs) = by_test (nat_lt s.head.process r.head.process) (count_lower r.head.process rs) (put_at r rs) where
  by_test : (b : Bool) (n : ℕ) → insert rs n r ≡ insert_replay r rs → insert (s ∷ rs) (cond b (1 + n) 0) r ≡ cond b (s ∷ insert_replay r rs) (r ∷ s ∷ rs)
  by_test true n rest =
      let next : suc n ≡ 1 + n = omega arith in
      subst (λ (k : ℕ). insert (s ∷ rs) k r ≡ s ∷ insert_replay r rs) next (ap (λ (ps : List Replaying). s ∷ ps) rest)
  by_test false n rest = refl

-- after those with lower numbers
pub put_behind : (r : Replaying) (rs : List Replaying) → insert rs (length (lower r.head.process rs)) r ≡ insert_replay r rs
put_behind r rs = ap (λ (n : ℕ). insert rs n r) (length-prefix_len (λ other. nat_lt other.head.process r.head.process) rs) ∙ put_at r rs

pub placed_last : (sorted rs : List Replaying) (r : Replaying) → sort_replays sorted (rs ++ r ∷ []) ≡ insert_replay r (sort_replays sorted rs)
placed_last sorted [] r = refl
placed_last sorted (s ∷ rs) r = placed_last (insert_replay s sorted) rs r

-- ---- what is so of each stays so

placed_keeps : (P : Replaying → Type 0) (r : Replaying) (rs : List Replaying) → P r → AllByRecursion P rs → AllByRecursion P (insert_replay r rs)
placed_keeps P r [] one all = (one, tt)
placed_keeps P r (s ∷ rs) one all = by_test (nat_lt s.head.process r.head.process) (placed_keeps P r rs one all.1) where
  by_test : (b : Bool) → AllByRecursion P (insert_replay r rs) → AllByRecursion P (cond b (s ∷ insert_replay r rs) (r ∷ s ∷ rs))
  by_test true rest = (all.0, rest)
  by_test false rest = (one, all)

pub all_placed_keeps : (P : Replaying → Type 0) (sorted rs : List Replaying) → AllByRecursion P sorted → AllByRecursion P rs → AllByRecursion P (sort_replays sorted rs)
all_placed_keeps P sorted [] before all = before
all_placed_keeps P sorted (r ∷ rs) before all = all_placed_keeps P (insert_replay r sorted) rs (placed_keeps P r sorted all.0 before) all.1

-- ---- they ascend

-- of two processes
abbrev pub Differ : Replaying → Replaying → Type 0
Differ r s = s.head.process ≢ r.head.process

ascends_more : (r : Replaying) (rs : List Replaying) → AscendsByProcess rs → AllByRecursion (Differ r) rs → AscendsByProcess (insert_replay r rs)
ascends_more r [] ascends differ = (tt, tt)
ascends_more r (s ∷ rs) ascends differ = by_test (nat_lt s.head.process r.head.process) refl (ascends_more r rs ascends.1 differ.1) where
  by_test : (b : Bool) → nat_lt s.head.process r.head.process ≡ b → AscendsByProcess (insert_replay r rs) → AscendsByProcess (cond b (s ∷ insert_replay r rs) (r ∷ s ∷ rs))
  by_test true is rest = (placed_keeps (λ t. s.head.process < t.head.process) r rs (ltb-true s.head.process r.head.process is) ascends.0, rest)
  by_test false is rest =
      let below : r.head.process < s.head.process = omega (arith, ltb-false s.head.process r.head.process is, differ.0) in
      ((below, all_so (λ t. s.head.process < t.head.process) (λ t. r.head.process < t.head.process) rs (λ t h. omega (arith, h, below)) ascends.0), ascends)

-- no two are of one process
abbrev pub AreDistinct : List Replaying → Type 0
AreDistinct [] = Unit {0}
AreDistinct (r ∷ rs) = AllByRecursion (Differ r) rs × AreDistinct rs

abbrev pub AreNew : List Replaying → List Replaying → Type 0
AreNew sorted rs = AllByRecursion (λ r. AllByRecursion (Differ r) sorted) rs

new_behind : (r : Replaying) (sorted rs : List Replaying) → AreNew sorted rs → AllByRecursion (Differ r) rs → AreNew (insert_replay r sorted) rs
new_behind r sorted [] new differ = tt
new_behind r sorted (s ∷ rs) new differ =
    (placed_keeps (Differ s) r sorted (λ same. differ.0 (sym same)) new.0, new_behind r sorted rs new.1 differ.1)

pub all_ascend : (sorted rs : List Replaying) → AscendsByProcess sorted → AreNew sorted rs → AreDistinct rs → AscendsByProcess (sort_replays sorted rs)
all_ascend sorted [] ascends new distinct = ascends
all_ascend sorted (r ∷ rs) ascends new distinct =
    all_ascend (insert_replay r sorted) rs (ascends_more r sorted ascends new.0) (new_behind r sorted rs new.1 distinct.0) distinct.1

pub none_new : (rs : List Replaying) → AreNew [] rs
none_new [] = tt
none_new (r ∷ rs) = (tt, none_new rs)

-- ---- they are few

pub few_from : (least limit : ℕ) (rs : List Replaying) → least ≤ limit → AscendsByProcess rs → AllByRecursion (λ r. least ≤ r.head.process) rs → AllByRecursion (λ r. r.head.process < limit) rs → least + length rs ≤ limit
few_from least limit [] within ascends above below = omega arith
few_from least limit (r ∷ rs) within ascends above below =
    let first : least ≤ r.head.process = above.0 in
    let rest : suc r.head.process + length rs ≤ limit =
    few_from (suc r.head.process) limit rs (omega (arith, below.0)) ascends.1 (all_so (λ s. r.head.process < s.head.process) (λ s. suc r.head.process ≤ s.head.process) rs (λ s h. omega (arith, h)) ascends.0) below.1 in
    omega (arith, first, rest)
