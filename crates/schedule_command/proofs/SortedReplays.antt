-- Replays that are put in order are the same ones.
use Rattle.std.proofs.Common.{◌≡◌, ◌+◌, ℕ, zero, suc, Bool, true, false, cond, List, [], ◌∷◌, length, Some, ap, refl, subst, arith}
use Rattle.std.specs.Prelude.{nat_lt, slice_get}
use Rattle.std.specs.List.{AllByRecursion}
use Rattle.std.proofs.lemmas.Option.{same_Some}
use Rattle.proc_replay.specs.Replaying.{Replaying}
use Rattle.log_pairs.specs.Pairs.{insert_replay, sort_replays}

-- the list has this replay at some place
pub record Has (rs : List Replaying) (r : Replaying) : Type 0 where
  pub place : ℕ
  pub is : slice_get rs place ≡ Some r

later : (s : Replaying) (rs : List Replaying) (r : Replaying) → Has rs r → Has (s ∷ rs) r
later s rs r h = record { place = suc h.place; is = h.is }

first : (r : Replaying) (rs : List Replaying) → Has (r ∷ rs) r
first r rs = record { place = 0; is = refl }

-- ---- one that is put in its place

inserted : (r : Replaying) (rs : List Replaying) → Has (insert_replay r rs) r
inserted r [] = first r []
inserted r (s ∷ rs) = by_test (nat_lt s.head.process r.head.process) (inserted r rs) where
  by_test : (b : Bool) → Has (insert_replay r rs) r → Has (cond b (s ∷ insert_replay r rs) (r ∷ s ∷ rs)) r
  by_test true h = later s (insert_replay r rs) r h
  by_test false h = first r (s ∷ rs)

still_has : (r : Replaying) (rs : List Replaying) (x : Replaying) (place : ℕ) → slice_get rs place ≡ Some x → Has (insert_replay r rs) x
still_has r [] x place is = cc
still_has r (s ∷ rs) x zero is = by_test (nat_lt s.head.process r.head.process) where
  by_test : (b : Bool) → Has (cond b (s ∷ insert_replay r rs) (r ∷ s ∷ rs)) x
  by_test true = record { place = 0; is = is }
  by_test false = record { place = 1; is = is }
still_has r (s ∷ rs) x (suc place) is = by_test (nat_lt s.head.process r.head.process) (still_has r rs x place is) where
  by_test : (b : Bool) → Has (insert_replay r rs) x → Has (cond b (s ∷ insert_replay r rs) (r ∷ s ∷ rs)) x
  by_test true h = later s (insert_replay r rs) x h
  by_test false h = record { place = suc (suc place); is = is }

insert_keeps : (P : Replaying → Type 0) (r : Replaying) (rs : List Replaying) → P r → AllByRecursion P rs → AllByRecursion P (insert_replay r rs)
insert_keeps P r [] one all = (one, tt)
insert_keeps P r (s ∷ rs) one all = by_test (nat_lt s.head.process r.head.process) (insert_keeps P r rs one all.1) where
  by_test : (b : Bool) → AllByRecursion P (insert_replay r rs) → AllByRecursion P (cond b (s ∷ insert_replay r rs) (r ∷ s ∷ rs))
  by_test true rest = (all.0, rest)
  by_test false rest = (one, all)

length_inserted : (r : Replaying) (rs : List Replaying) → length (insert_replay r rs) ≡ suc (length rs)
length_inserted r [] = refl
length_inserted r (s ∷ rs) = by_test (nat_lt s.head.process r.head.process) (length_inserted r rs) where
  by_test : (b : Bool) → length (insert_replay r rs) ≡ suc (length rs) → length (cond b (s ∷ insert_replay r rs) (r ∷ s ∷ rs)) ≡ suc (suc (length rs))
  by_test true is = ap suc is
  by_test false is = refl

-- ---- all of them

before_has : (sorted rs : List Replaying) (x : Replaying) → Has sorted x → Has (sort_replays sorted rs) x
before_has sorted [] x h = h
before_has sorted (r ∷ rs) x h = before_has (insert_replay r sorted) rs x (still_has r sorted x h.place h.is)

-- each is there still
pub sorted_has : (sorted rs : List Replaying) (x : Replaying) (place : ℕ) → slice_get rs place ≡ Some x → Has (sort_replays sorted rs) x
sorted_has sorted [] x place is = cc
sorted_has sorted (r ∷ rs) x zero is =
    before_has (insert_replay r sorted) rs x (subst (Has (insert_replay r sorted)) (same_Some r x is) (inserted r sorted))
sorted_has sorted (r ∷ rs) x (suc place) is = sorted_has (insert_replay r sorted) rs x place is

-- what holds of each holds of each then
pub sort_keeps : (P : Replaying → Type 0) (sorted rs : List Replaying) → AllByRecursion P sorted → AllByRecursion P rs → AllByRecursion P (sort_replays sorted rs)
sort_keeps P sorted [] before all = before
sort_keeps P sorted (r ∷ rs) before all = sort_keeps P (insert_replay r sorted) rs (insert_keeps P r sorted all.0 before) all.1

-- and they are as many
pub length_sorted : (sorted rs : List Replaying) → length (sort_replays sorted rs) ≡ length sorted + length rs
length_sorted sorted [] = omega arith
length_sorted sorted (r ∷ rs) = omega (arith, length_sorted (insert_replay r sorted) rs, length_inserted r sorted)
