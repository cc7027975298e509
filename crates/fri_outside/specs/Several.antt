-- Several files of one call: what makes them all, and what stands where the call was stopped.
use Rattle.std.specs.Prelude.{◌≡◌, ◌≢◌, ◌⊎◌, ℕ, zero, suc, List, [], ◌∷◌, ◌++◌, map, take, slice_get, Option, Some, AllPairs, Contains}
use Rattle.std.specs.FinMap.{get}
use Rattle.fri_outside.specs.Outside.{Folder, WhenTold, with_file}

-- the folder with these files made, the first of them first
abbrev pub with_files : List (List ℕ × List ℕ) → Option Folder → Option Folder
with_files [] told = told
with_files (file ∷ files) told = with_files files (with_file file.0 file.1 told)

-- the first of these files are made, each with all its bytes, and no other name changed
abbrev pub AreFirstMade : List (List ℕ × List ℕ) → Option Folder → Option Folder → Type 0
AreFirstMade files before after = (n : ℕ) × (after ≡ with_files (take n files) before)

-- the files with this piece after the bytes of the one at this place, if there is one
abbrev pub files_with_grown_piece : List (List ℕ × List ℕ) → ℕ → List ℕ → List (List ℕ × List ℕ)
files_with_grown_piece [] place piece = []
files_with_grown_piece (file ∷ files) zero piece = (file.0, file.1 ++ piece) ∷ files
files_with_grown_piece (file ∷ files) (suc place) piece = file ∷ files_with_grown_piece files place piece

-- no two of these files have one name
abbrev pub AreApartNames : List (List ℕ × List ℕ) → Type 0
AreApartNames files = AllPairs (λ one other. one.0 ≢ other.0) files

-- each of these files is the one at its place among the whole ones, with some of the front of its bytes
abbrev pub AreFileFronts : List (List ℕ × List ℕ) → List (List ℕ × List ℕ) → Type 0
AreFileFronts files whole =
    (place : ℕ) (name bytes : List ℕ) → slice_get files place ≡ Some (name, bytes)
    → (more : List ℕ) × (slice_get whole place ≡ Some (name, bytes ++ more))

-- the new folder has each of these files, and under every other name what the old one has
pub record AddsFiles (files : List (List ℕ × List ℕ)) (old new : Folder) : Type 0 where
  pub held : (place : ℕ) (name bytes : List ℕ) → slice_get files place ≡ Some (name, bytes) → get new name ≡ Some bytes
  pub others : (name : List ℕ) → (Contains (map (λ file. file.0) files) name → ⊥) → get new name ≡ get old name

-- a name is as before, or is one of these files and has some of its front
abbrev pub IsLeftFile : Folder → List (List ℕ × List ℕ) → Folder → List ℕ → Type 0
IsLeftFile old files new name =
    (get new name ≡ get old name)
    ⊎ ((bytes : List ℕ) × Contains files (name, bytes) × ((n : ℕ) × (get new name ≡ Some (take n bytes))))

-- each of these files is as before or has some of its front, and no other name changes
pub record ChangesOnlyFiles (before : Option Folder) (files : List (List ℕ × List ℕ)) (after : Option Folder) : Type 0 where
  pub each : WhenTold before (λ old. (new : Folder) × (after ≡ Some new) × ((name : List ℕ) → IsLeftFile old files new name))

-- no name but these changes
pub record OtherFilesStay (names : Folder → List (List ℕ)) (before after : Option Folder) : Type 0 where
  pub each : WhenTold before (λ old. (new : Folder) × (after ≡ Some new)
      × ((name : List ℕ) → (Contains (names old) name → ⊥) → get new name ≡ get old name))
