-- What holds of folders, whatever they hold.
use Rattle.std.specs.Prelude.{◌≡◌, ℕ, ◌≤◌, List, [], ◌∷◌, ◌++◌, length, slice_get, Option, Some}
use Rattle.std.specs.FinMap.{get, insert}
use Rattle.fri_outside.specs.Outside.{Folder, Held, found_within, with_file, with_piece_in_folder}
use Rattle.fri_outside.specs.Several.{with_files, files_with_grown_piece, AreApartNames, AreFileFronts, AddsFiles, ChangesOnlyFiles}

-- a file that was made has its bytes, a piece goes after them, and a reader finds bytes within its limit.
-- Of several files: one more is made after the others, a piece goes after the bytes of one and leaves them apart,
-- all that are apart stand in the folder that they made, and where some were made in part no other name changed
pub record KeepsFiles : Type 0 where
  pub made : (folder : Folder) (name bytes : List ℕ) → get (insert folder name bytes) name ≡ Some bytes
  pub behind : (told : Option Folder) (name bytes piece : List ℕ) → with_piece_in_folder name piece (with_file name bytes told) ≡ with_file name (bytes ++ piece) told
  pub within : (limit : ℕ) (bytes : List ℕ) → length bytes ≤ limit → found_within limit (Some bytes) ≡ Held bytes
  pub more : (told : Option Folder) (files : List (List ℕ × List ℕ)) (name bytes : List ℕ)
      → with_file name bytes (with_files files told) ≡ with_files (files ++ (name, bytes) ∷ []) told
  pub grows : (told : Option Folder) (files : List (List ℕ × List ℕ)) (place : ℕ) (name bytes piece : List ℕ)
      → AreApartNames files → slice_get files place ≡ Some (name, bytes)
      → with_piece_in_folder name piece (with_files files told) ≡ with_files (files_with_grown_piece files place piece) told
  pub apart : (files : List (List ℕ × List ℕ)) (place : ℕ) (piece : List ℕ) → AreApartNames files → AreApartNames (files_with_grown_piece files place piece)
  pub stands : (folder : Folder) (files : List (List ℕ × List ℕ)) → AreApartNames files
      → (new : Folder) × (with_files files (Some folder) ≡ Some new) × AddsFiles files folder new
  pub left : (told : Option Folder) (files whole : List (List ℕ × List ℕ)) → AreFileFronts files whole → ChangesOnlyFiles told whole (with_files files told)
