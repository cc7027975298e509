-- In a whole group the node of a log is the number of its process.
use Rattle.std.proofs.Common.{◌≡◌, ℕ, zero, suc, ◌+◌, ◌≤◌, ◌<◌, List, [], ◌∷◌, length, Some, ap, arith}
use Rattle.std.specs.Prelude.{All, slice_get}
use Rattle.std.specs.List.{AllByRecursion}
use Rattle.std.proofs.lemmas.List.Elements.{recursion_from_All}
use Rattle.std.proofs.lemmas.Option.{same_Some}
use Rattle.proc_replay.specs.Replaying.{Replaying}
use Rattle.group_state.specs.Place.{AreGroupReplays, AscendsByProcess, group_count}
use Rattle.proc_replay.specs.AtHead.{IsAtHead}

abbrev process_of : Replaying → ℕ
process_of r = r.head.process

abbrev Below : ℕ → List Replaying → Type 0
Below n rs = AllByRecursion (λ r. process_of r < n) rs

abbrev From : ℕ → List Replaying → Type 0
From k rs = AllByRecursion (λ r. k ≤ process_of r) rs

-- so many numbers above the first have room below n
room : (n : ℕ) (r : Replaying) (rs : List Replaying) → AscendsByProcess (r ∷ rs) → process_of r < n → Below n rs → process_of r + length rs < n
room n r [] up first below = omega (arith, first)
room n r (s ∷ rs) up first below = omega (arith, up.0.0, room n s rs up.1 below.0 below.1)

after_first : (k : ℕ) (r : Replaying) (rs : List Replaying) → process_of r ≡ k → AllByRecursion (λ s. process_of r < process_of s) rs → From (suc k) rs
after_first k r [] is above = tt
after_first k r (s ∷ rs) is above = (omega (arith, is, above.0), after_first k r rs is above.1)

numbered : (k n : ℕ) (rs : List Replaying) → AscendsByProcess rs → From k rs → Below n rs → k + length rs ≡ n → (i : ℕ) (r : Replaying) → slice_get rs i ≡ Some r → process_of r ≡ k + i
numbered k n [] up from below count i r at = cc
numbered k n (s ∷ rs) up from below count i r at =
    let is : process_of s ≡ k = omega (arith, from.0, room n s rs up below.0 below.1, count) in
    let rest : suc k + length rs ≡ n = omega (arith, count) in
    by_place is (numbered (suc k) n rs up.1 (after_first k s rs is up.0) below.1 rest) i r at where
      by_place : process_of s ≡ k → ((i : ℕ) (r : Replaying) → slice_get rs i ≡ Some r → process_of r ≡ suc k + i) → (i : ℕ) (r : Replaying) → slice_get (s ∷ rs) i ≡ Some r → process_of r ≡ k + i
      by_place is later zero r at = let same : process_of s ≡ process_of r = ap process_of (same_Some s r at) in omega (arith, is, same)
      by_place is later (suc i) r at = omega (arith, later i r at)

from_zero : (rs : List Replaying) → From 0 rs
from_zero [] = tt
from_zero (r ∷ rs) = (omega arith, from_zero rs)

all_below : (n : ℕ) (rs : List Replaying) → AllByRecursion IsAtHead rs → AllByRecursion (λ r. r.head.count ≡ n) rs → Below n rs
all_below n [] heads counts = tt
all_below n (r ∷ rs) heads counts = (omega (arith, heads.0.head.within, counts.0), all_below n rs heads.1 counts.1)

pub process_is : (start : List Replaying) → AreGroupReplays start → All IsAtHead start → length start ≡ group_count start → (p : ℕ) (r : Replaying) → slice_get start p ≡ Some r → r.head.process ≡ p
process_is start replayers heads whole p r at =
    let n = group_count start in
    let below = all_below n start (recursion_from_All IsAtHead start heads) (recursion_from_All (λ (r : Replaying). r.head.count ≡ n) start replayers.one) in
    let count : 0 + length start ≡ n = omega (arith, whole) in
    let is : r.head.process ≡ 0 + p = numbered 0 n start replayers.ascends (from_zero start) below count p r at in
    omega (arith, is)
