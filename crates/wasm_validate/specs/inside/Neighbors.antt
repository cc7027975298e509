-- Elements of a list that show the same as their neighbors.
use Rattle.std.specs.Prelude.{◌≡◌, ◌≢◌, ℕ, ◌+◌, ◌<◌, List, length, slice_index_or}

-- two neighbors show the same
abbrev pub HasEqualNeighbors : {X : Type 0} → (X → List ℕ) → List X → Type 0
HasEqualNeighbors {X} f xs =
    (k : ℕ) × (k + 1 < length xs) × ((d : X) → f (slice_index_or xs k d) ≡ f (slice_index_or xs (k + 1) d))

-- no two do, among the first so many elements
abbrev pub HasNoEqualNeighborsBelow : {X : Type 0} → (X → List ℕ) → List X → ℕ → Type 0
HasNoEqualNeighborsBelow {X} f xs n =
    (k : ℕ) (d : X) → k + 1 < n → f (slice_index_or xs k d) ≢ f (slice_index_or xs (k + 1) d)

-- no two do
abbrev pub HasNoEqualNeighbors : {X : Type 0} → (X → List ℕ) → List X → Type 0
HasNoEqualNeighbors f xs = HasNoEqualNeighborsBelow f xs (length xs)
