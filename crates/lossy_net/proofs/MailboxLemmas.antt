-- A mailbox is what was put into it, in order, without the datagrams that were taken: the next one to be
-- taken is the next one that was put.
use Rattle.std.proofs.Common.{◌≡◌, ℕ, zero, suc, ◌+◌, ◌≤◌, List, ◌∷◌, [], ◌++◌, length, drop, refl, sym}
use Rattle.std.specs.List.{slice_get}
use Rattle.std.proofs.lemmas.List.{drop-drop, drop-append-le}

-- the first one that waits is the one that was put after those that were taken
pub front_is_next : (put : List (List ℕ)) (taken : ℕ) → slice_get (drop taken put) 0 ≡ slice_get put taken
front_is_next put zero = refl
front_is_next [] (suc taken) = refl
front_is_next (datagram ∷ put) (suc taken) = front_is_next put taken

-- it is taken
pub taken_is_next : (put : List (List ℕ)) (taken : ℕ) → drop 1 (drop taken put) ≡ drop (taken + 1) put
taken_is_next put taken = drop-drop 1 taken put

-- one more is put
pub put_comes_last : (put : List (List ℕ)) (taken : ℕ) (datagram : List ℕ) → taken ≤ length put → drop taken put ++ datagram ∷ [] ≡ drop taken (put ++ datagram ∷ [])
put_comes_last put taken datagram within = sym (drop-append-le taken put (datagram ∷ []) within)
