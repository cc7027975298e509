-- What holds of several files that are made one after the other.
use Rattle.std.proofs.Common.{◌≡◌, ◌≢◌, ◌⊎◌, ℕ, zero, suc, List, [], ◌∷◌, ◌++◌, Bool, true, false, cond, map, slice_get, slice_index_or, length, Option, Some, None, unwrap_or, Contains, refl, sym, ap, subst, ◌∙◌, inl, inr, arith}
use Rattle.std.proofs.Math.ListN.{get_or-map}
use Rattle.std.proofs.Math.Seq.{take-append_seam}
use Rattle.std.proofs.lemmas.List.{length-map}
use Rattle.std.proofs.lemmas.Option.{same_Some, slice_get_within, get_or_from_slice_get}
use Rattle.std.specs.Ordering.{nat_cmp, eq_by_cmp}
use Rattle.std.specs.Cmp.Lexicographic.{slice_cmp, nat_list_cmp_total}
use Rattle.std.specs.FinMap.{insert, get, get-insert, same_map, slice_cmp-IsAntisymmetric, nat_cmp-IsAntisymmetric}
use Rattle.fri_outside.specs.Outside.{Folder, bytes_at, with_file, with_piece_in_folder}
use Rattle.fri_outside.specs.Several.{with_files, files_with_grown_piece, AreApartNames, AreFileFronts, AddsFiles, IsLeftFile, ChangesOnlyFiles}
use Rattle.fri_outside.proofs.StoredFiles.{is_same, get_set, with_piece-with_file}

-- one more file after the others
pub more_made : (told : Option Folder) (files : List (List ℕ × List ℕ)) (name bytes : List ℕ) → with_file name bytes (with_files files told) ≡ with_files (files ++ (name, bytes) ∷ []) told
more_made told [] name bytes = refl
more_made told (file ∷ files) name bytes = more_made (with_file file.0 file.1 told) files name bytes

-- names that differ do not tie
differs : (q name : List ℕ) → q ≢ name → eq_by_cmp (slice_cmp nat_cmp) q name ≡ false
differs q name apart =
    elim (eq_by_cmp (slice_cmp nat_cmp) q name) as (λ b. eq_by_cmp (slice_cmp nat_cmp) q name ≡ b → b ≡ false) [
      | true ↦ λ tied. absurd (apart (is_same q name tied))
      | false ↦ λ untied. refl
    ] refl

-- a file that was made leaves the other names
get_other : (s : Folder) (name bytes q : List ℕ) → q ≢ name → get (insert s name bytes) q ≡ get s q
get_other s name bytes q apart = get-insert nat_list_cmp_total s name bytes q ∙ ap (λ b. cond b (Some bytes) (get s q)) (differs q name apart)

cond_swapped : {A : Type 0} (a b : Bool) (x y z : A) → (a ≡ true → b ≡ true → ⊥) → cond a x (cond b y z) ≡ cond b y (cond a x z)
cond_swapped true true x y z apart = absurd (apart refl refl)
cond_swapped true false x y z apart = refl
cond_swapped false b x y z apart = refl

-- files of two names are made in either order
insert_swapped : (s : Folder) (a b x y : List ℕ) → a ≢ b → insert (insert s a x) b y ≡ insert (insert s b y) a x
insert_swapped s a b x y apart = same_map nat_list_cmp_total (slice_cmp-IsAntisymmetric nat_cmp-IsAntisymmetric) _ _ (λ q.
    get-insert nat_list_cmp_total (insert s a x) b y q
    ∙ ap (cond (eq_by_cmp (slice_cmp nat_cmp) q b) (Some y)) (get-insert nat_list_cmp_total s a x q)
    ∙ cond_swapped (eq_by_cmp (slice_cmp nat_cmp) q b) (eq_by_cmp (slice_cmp nat_cmp) q a) (Some y) (Some x) (get s q)
    (λ is_b is_a. apart (sym (is_same q a is_a) ∙ is_same q b is_b))
    ∙ ap (cond (eq_by_cmp (slice_cmp nat_cmp) q a) (Some x)) (sym (get-insert nat_list_cmp_total s b y q))
    ∙ sym (get-insert nat_list_cmp_total (insert s b y) a x q))

-- a piece is added to a file before or after another file is made
piece_first : (told : Option Folder) (name piece other bytes : List ℕ) → other ≢ name → with_piece_in_folder name piece (with_file other bytes told) ≡ with_file other bytes (with_piece_in_folder name piece told)
piece_first None name piece other bytes apart = refl
piece_first (Some s) name piece other bytes apart = ap Some (
    ap (λ o. insert (insert s other bytes) name (unwrap_or o [] ++ piece)) (get_other s other bytes name (λ same. apart (sym same)))
    ∙ insert_swapped s other name bytes (bytes_at s name ++ piece) apart)

piece_before : (told : Option Folder) (files : List (List ℕ × List ℕ)) (name piece : List ℕ)
    → ((place : ℕ) (other bytes : List ℕ) → slice_get files place ≡ Some (other, bytes) → other ≢ name)
    → with_piece_in_folder name piece (with_files files told) ≡ with_files files (with_piece_in_folder name piece told)
piece_before told [] name piece apart = refl
piece_before told (file ∷ files) name piece apart =
    piece_before (with_file file.0 file.1 told) files name piece (λ place. apart (suc place))
    ∙ ap (with_files files) (piece_first told name piece file.0 file.1 (apart 0 file.0 file.1 refl))

-- files after one that is apart from them have other names
apart_from_first : (file : List ℕ × List ℕ) (files : List (List ℕ × List ℕ)) → AreApartNames (file ∷ files)
    → (place : ℕ) (other bytes : List ℕ) → slice_get files place ≡ Some (other, bytes) → other ≢ file.0
apart_from_first file files apart place other bytes at same =
    apart 0 (suc place) (other, bytes) (omega arith) (omega (arith, slice_get_within files place (other, bytes) at))
    (sym same ∙ sym (ap (λ (f : List ℕ × List ℕ). f.0) (get_or_from_slice_get files place (other, bytes) (other, bytes) at)))

apart_behind : (file : List ℕ × List ℕ) (files : List (List ℕ × List ℕ)) → AreApartNames (file ∷ files) → AreApartNames files
apart_behind file files apart i j d before within = apart (suc i) (suc j) d (omega arith) (omega arith)

-- a piece after the bytes of one file
pub piece_grows : (told : Option Folder) (files : List (List ℕ × List ℕ)) (place : ℕ) (name bytes piece : List ℕ) → AreApartNames files → slice_get files place ≡ Some (name, bytes)
    → with_piece_in_folder name piece (with_files files told) ≡ with_files (files_with_grown_piece files place piece) told
piece_grows told [] place name bytes piece apart at = cc
piece_grows told (file ∷ files) zero name bytes piece apart at =
    let same : file ≡ (name, bytes) = same_Some _ _ at in
    subst (λ (n : List ℕ). with_piece_in_folder n piece (with_files (file ∷ files) told) ≡ with_files (files_with_grown_piece (file ∷ files) zero piece) told) (ap (λ (f : List ℕ × List ℕ). f.0) same)
    (piece_before (with_file file.0 file.1 told) files file.0 piece (apart_from_first file files apart)
    ∙ ap (with_files files) (with_piece-with_file told file.0 file.1 piece))
piece_grows told (file ∷ files) (suc place) name bytes piece apart at =
    piece_grows (with_file file.0 file.1 told) files place name bytes piece (apart_behind file files apart) at

-- a piece leaves the names
grown_name : (files : List (List ℕ × List ℕ)) (place : ℕ) (piece : List ℕ) (i : ℕ) (d : List ℕ × List ℕ) → (slice_index_or (files_with_grown_piece files place piece) i d).0 ≡ (slice_index_or files i d).0
grown_name [] place piece i d = refl
grown_name (file ∷ files) zero piece zero d = refl
grown_name (file ∷ files) zero piece (suc i) d = refl
grown_name (file ∷ files) (suc place) piece zero d = refl
grown_name (file ∷ files) (suc place) piece (suc i) d = grown_name files place piece i d

grown_length : (files : List (List ℕ × List ℕ)) (place : ℕ) (piece : List ℕ) → length (files_with_grown_piece files place piece) ≡ length files
grown_length [] place piece = refl
grown_length (file ∷ files) zero piece = refl
grown_length (file ∷ files) (suc place) piece = ap suc (grown_length files place piece)

pub grown_apart : (files : List (List ℕ × List ℕ)) (place : ℕ) (piece : List ℕ) → AreApartNames files → AreApartNames (files_with_grown_piece files place piece)
grown_apart files place piece apart i j d before within same =
    apart i j d before (omega (arith, grown_length files place piece))
    (sym (grown_name files place piece i d) ∙ same ∙ grown_name files place piece j d)

-- a name is not among those of the files that are apart from its own
not_behind : (file : List ℕ × List ℕ) (files : List (List ℕ × List ℕ)) → AreApartNames (file ∷ files) → Contains (map (λ file. file.0) files) file.0 → ⊥
not_behind file files apart (k, within, at) =
    let inside = rw length-map at within in
    apart 0 (suc k) file (omega arith) (omega arith) (sym at ∙ get_or-map (λ (f : List ℕ × List ℕ). f.0) files k file)

-- files that are apart stand in the folder that they made
adds_one : (old new : Folder) (file : List ℕ × List ℕ) (files : List (List ℕ × List ℕ)) → AreApartNames (file ∷ files) → AddsFiles files (insert old file.0 file.1) new → AddsFiles (file ∷ files) old new
adds_one old new file files apart rest = record { held = held; others = others } where
  held : (place : ℕ) (name bytes : List ℕ) → slice_get (file ∷ files) place ≡ Some (name, bytes) → get new name ≡ Some bytes
  held zero name bytes at = subst (λ (f : List ℕ × List ℕ). get new f.0 ≡ Some f.1) (same_Some _ _ at)
      (rest.others file.0 (not_behind file files apart) ∙ get_set old file.0 file.1)
  held (suc place) name bytes at = rest.held place name bytes at

  others : (name : List ℕ) → (Contains (map (λ file. file.0) (file ∷ files)) name → ⊥) → get new name ≡ get old name
  others name out = rest.others name (λ among. out (suc among.0, omega (arith, among.1), among.2))
      ∙ get_other old file.0 file.1 name (λ same. out (0, omega arith, sym same))

pub apart_stand : (folder : Folder) (files : List (List ℕ × List ℕ)) → AreApartNames files → (new : Folder) × (with_files files (Some folder) ≡ Some new) × AddsFiles files folder new
apart_stand folder [] apart = (folder, refl, record { held = λ place name bytes at. cc; others = λ name out. refl })
apart_stand folder (file ∷ files) apart =
    let rest = apart_stand (insert folder file.0 file.1) files (apart_behind file files apart) in
    (rest.0, rest.1, adds_one folder rest.0 file files apart rest.2)

-- each name is as before, or is one of the files that were made
IsMade : Folder → List (List ℕ × List ℕ) → Folder → List ℕ → Type 0
IsMade old files new q =
    (get new q ≡ get old q)
    ⊎ ((place : ℕ) × ((bytes : List ℕ) × (slice_get files place ≡ Some (q, bytes)) × (get new q ≡ Some bytes)))

first_made : (old new : Folder) (file : List ℕ × List ℕ) (files : List (List ℕ × List ℕ)) (q : List ℕ) → get new q ≡ get (insert old file.0 file.1) q → IsMade old (file ∷ files) new q
unfolding IsMade
first_made old new file files q same =
    elim (eq_by_cmp (slice_cmp nat_cmp) q file.0) as (λ b. eq_by_cmp (slice_cmp nat_cmp) q file.0 ≡ b → IsMade old (file ∷ files) new q) [
      | true ↦ λ tied. inr (
        0,
        (
          file.1,
          ap (λ n. Some (n, file.1)) (sym (is_same q file.0 tied)),
          same ∙ get-insert nat_list_cmp_total old file.0 file.1 q ∙ ap (λ b. cond b (Some file.1) (get old q)) tied,
        ),
      )
      | false ↦ λ untied. inl (same ∙ get-insert nat_list_cmp_total old file.0 file.1 q ∙ ap (λ b. cond b (Some file.1) (get old q)) untied)
    ] refl

one_made : (old new : Folder) (file : List ℕ × List ℕ) (files : List (List ℕ × List ℕ)) (q : List ℕ) → IsMade (insert old file.0 file.1) files new q → IsMade old (file ∷ files) new q
unfolding IsMade
one_made old new file files q (inl same) = first_made old new file files q same
one_made old new file files q (inr (place, (bytes, at, has))) = inr (suc place, (bytes, at, has))

each_made : (folder : Folder) (files : List (List ℕ × List ℕ)) → (new : Folder) × (with_files files (Some folder) ≡ Some new) × ((q : List ℕ) → IsMade folder files new q)
unfolding IsMade
each_made folder [] = (folder, refl, λ q. inl refl)
each_made folder (file ∷ files) =
    let rest = each_made (insert folder file.0 file.1) files in
    (rest.0, rest.1, λ q. one_made folder rest.0 file files q (rest.2 q))

-- what is made of files in part is some of the front of each
part_left : (old new : Folder) (files whole : List (List ℕ × List ℕ)) (q : List ℕ) → AreFileFronts files whole → IsMade old files new q → IsLeftFile old whole new q
unfolding IsMade
part_left old new files whole q fronts (inl same) = inl same
part_left old new files whole q fronts (inr (place, (bytes, at, has))) =
    let front = fronts place q bytes at in
    inr (
      bytes ++ front.0,
      (place, slice_get_within whole place _ front.1, get_or_from_slice_get whole place _ _ front.1),
      (length bytes, has ∙ ap Some (sym (take-append_seam bytes front.0))),
    )

pub fronts_left : (told : Option Folder) (files whole : List (List ℕ × List ℕ)) → AreFileFronts files whole → ChangesOnlyFiles told whole (with_files files told)
fronts_left told files whole fronts = record {
  each = λ old is_told.
      let made = each_made old files in
      (made.0, ap (with_files files) is_told ∙ made.1, λ q. part_left old made.0 files whole q fronts (made.2 q));
}
