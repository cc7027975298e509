-- Each datagram that a process was given has the act that gave it, and they are taken in that order.
use Rattle.std.proofs.Common.{◌≡◌, ℕ, zero, suc, ◌≤◌, Bool, true, false, List, [], ◌∷◌, ◌++◌, length, drop, Option, Some, None, inl, inr, refl, sym, ap, subst, ⊎_elim, arith}
use Rattle.std.specs.Prelude.{◌==◌, ◌⊎◌, slice_get, if◌then◌else◌}
use Rattle.std.proofs.lemmas.List.{append-nil}
use Rattle.std.proofs.lemmas.Option.{same_Some}
use Rattle.lib_calls.specs.declared.entry.Entry.{Entry}
use Rattle.lossy_net.specs.Network.{nth_of}
use Rattle.group_world.specs.History.{Act, Deliver, Inject, History, addressed_datagram, datagram, given, sends, taken_count}
use Rattle.group_world.specs.Laws.{GiverOfDatagram, MailboxIsFifo, gives}
use Rattle.group_world.proofs.ListEnds.{put_last_is}

-- ---- lists

first_of_rest : {A : Type 0} (n : ℕ) (xs : List A) → slice_get (drop n xs) 0 ≡ slice_get xs n
first_of_rest zero xs = refl
first_of_rest (suc n) [] = refl
first_of_rest (suc n) (x ∷ xs) = first_of_rest n xs

-- where one more came at most, what is at a number stood there before, or it is the one that came
before_or_last : {A : Type 0} (xs more : List A) (n : ℕ) (x : A) → length more ≤ 1 → slice_get (xs ++ more) n ≡ Some x
    → (slice_get xs n ≡ Some x) ⊎ ((n ≡ length xs) × (more ≡ x ∷ []))
before_or_last [] [] n x few found = absurd cc
before_or_last [] (y ∷ []) zero x few found = inr (omega arith, ap (λ z. z ∷ []) (same_Some y x found))
before_or_last [] (y ∷ []) (suc n) x few found = absurd cc
before_or_last [] (y ∷ z ∷ more) n x few found = absurd (omega arith)
before_or_last (y ∷ xs) more zero x few found = inl found
before_or_last (y ∷ xs) more (suc n) x few found = ⊎_elim
    (λ stood. inl stood)
    (λ last. inr (omega (arith, last.0), last.1))
    (before_or_last xs more n x few found)

-- ---- what an act gives

one_at_most : {A : Type 0} (b : Bool) (x : A) → length (if b then x ∷ [] else []) ≤ 1
one_at_most true x = omega arith
one_at_most false x = omega arith

addressed_once : (q p : ℕ) (found : Option Entry) → length (addressed_datagram q p found) ≤ 1
addressed_once q p None = omega arith
addressed_once q p (Some e) = one_at_most (e.call.a0 == p) (datagram q e)

gives_once : (count : ℕ) (h : History) (a : Act) (p : ℕ) → length (gives count h a p) ≤ 1
gives_once count h (Deliver q n) p = addressed_once q p (nth_of (sends count h q) n)
gives_once count h (Inject q bytes) p = one_at_most (q == p) bytes
gives_once count h a p = omega arith

given_next : (count : ℕ) (h : History) (a : Act) (p : ℕ) → given count (a ∷ h) p ≡ given count h p ++ gives count h a p
given_next count h (Deliver q n) p = refl
given_next count h (Inject q bytes) p = put_last_is (q == p) (given count h p) bytes
given_next count h a p = sym (append-nil (given count h p))

-- ---- all acts

earlier_giver : (count : ℕ) (h : History) (a : Act) (p number : ℕ) (bytes : List ℕ) → GiverOfDatagram count h p number bytes → GiverOfDatagram count (a ∷ h) p number bytes
earlier_giver count h a p number bytes g = record {
  later = a ∷ g.later;
  act = g.act;
  earlier = g.earlier;
  split = ap (λ rest. a ∷ rest) g.split;
  number_is = g.number_is;
  gives_it = g.gives_it;
}

has_giver : (count : ℕ) (h : History) (p number : ℕ) (bytes : List ℕ) → slice_get (given count h p) number ≡ Some bytes → GiverOfDatagram count h p number bytes
has_giver count [] p number bytes found = absurd cc
has_giver count (a ∷ h) p number bytes found = ⊎_elim
    (λ stood. earlier_giver count h a p number bytes (has_giver count h p number bytes stood))
    (λ last. record { later = []; act = a; earlier = h; split = refl; number_is = last.0; gives_it = last.1 })
    (before_or_last (given count h p) (gives count h a p) number bytes (gives_once count h a p)
    (subst (λ xs. slice_get xs number ≡ Some bytes) (given_next count h a p) found))

pub in_turn : MailboxIsFifo
in_turn = record {
  front = λ count h p. first_of_rest (taken_count h p) (given count h p);
  giver = has_giver;
}
