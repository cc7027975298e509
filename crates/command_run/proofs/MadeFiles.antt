-- What is made of the files of a command's work.
use Rattle.std.proofs.Common.{◌≡◌, ◌<◌, ℕ, zero, suc, arith, slice_index_or, Contains, List, [], ◌∷◌, true, false, cond, map, Option, Some, take, length, refl, sym, ap, subst, ◌∙◌, inl, inr, lit<, Ok, Err, Result}
use Rattle.std.proofs.Math.Seq.{take-length}
use Rattle.std.proofs.lemmas.List.{length-map}
use Rattle.std.specs.Ordering.{nat_cmp, eq_by_cmp, is_eq}
use Rattle.std.specs.declared.cmp.Ordering.{Ordering}
use Rattle.std.specs.declared.cmp.Ordering.TheVariants.{Less, Equal, Greater}
use Rattle.std.specs.Cmp.Lexicographic.{slice_cmp, nat_list_cmp_total}
use Rattle.std.specs.FinMap.{insert, get, get-insert, slice_cmp-IsAntisymmetric, nat_cmp-IsAntisymmetric}
use Rattle.fri_outside.specs.Outside.{Folder, with_file}
use Rattle.fri_outside.specs.Several.{with_files, IsLeftFile, ChangesOnlyFiles, OtherFilesStay}
use Rattle.command_run.specs.declared.refusal.WorkText.{WorkText}
use Rattle.command_run.specs.declared.refusal.StopCause.{StopCause}
use Rattle.command_run.specs.declared.refusal.StopCause.TheVariants as refusal
use Rattle.command_run.specs.Call.{MakesWorkFiles}
use Rattle.command_run.specs.FileLaws.{same_changes}
use Rattle.command_run.specs.Outcome.{CommandOutcome, writes_of}
use Rattle.command_run.specs.Run.{WritesOnly}

equal_from_is_eq : (r : Ordering) → is_eq r ≡ true → r ≡ Equal
equal_from_is_eq Less e = cc
equal_from_is_eq Equal e = refl
equal_from_is_eq Greater e = cc

-- names that tie are one name
is_same : (q name : List ℕ) → eq_by_cmp (slice_cmp nat_cmp) q name ≡ true → q ≡ name
is_same q name tied = slice_cmp-IsAntisymmetric nat_cmp-IsAntisymmetric q name (equal_from_is_eq _ tied)

-- a file that was set to some of its front: that name has it, and the others are as before
is_left : (old : Folder) (name bytes : List ℕ) (n : ℕ) (q : List ℕ) → IsLeftFile old ((name, bytes) ∷ []) (insert old name (take n bytes)) q
is_left old name bytes n q =
    elim (eq_by_cmp (slice_cmp nat_cmp) q name) as (λ b. eq_by_cmp (slice_cmp nat_cmp) q name ≡ b → IsLeftFile old ((name, bytes) ∷ []) (insert old name (take n bytes)) q) [
      | true ↦ λ tied. let same : q ≡ name = is_same q name tied in
          inr (bytes, (0, lit< tt, ap (λ k. (k, bytes)) (sym same)), (n, get-insert nat_list_cmp_total old name (take n bytes) q ∙ ap (λ b. cond b (Some (take n bytes)) (get old q)) tied))
      | false ↦ λ differs. inl (get-insert nat_list_cmp_total old name (take n bytes) q ∙ ap (λ b. cond b (Some (take n bytes)) (get old q)) differs)
    ] refl

first_of_one : (k : ℕ) (x y : List ℕ × List ℕ) → k < 1 → slice_index_or (x ∷ []) k y ≡ y → x ≡ y
first_of_one zero x y h e = e
first_of_one (suc k) x y h e = absurd (omega arith)

-- a name in a folder with one file more
more_left : (old now new : Folder) (file : List ℕ × List ℕ) (files : List (List ℕ × List ℕ)) (q : List ℕ) → now ≡ insert old file.0 file.1 → IsLeftFile now files new q → IsLeftFile old (file ∷ files) new q
more_left old now new file files q is (inl same) = one_more (is_left old file.0 file.1 (length file.1) q) where
  here : get new q ≡ get (insert old file.0 (take (length file.1) file.1)) q
  here = same ∙ ap (λ s. get s q) is ∙ ap (λ b. get (insert old file.0 b) q) (sym (take-length file.1))

  one_more : IsLeftFile old ((file.0, file.1) ∷ []) (insert old file.0 (take (length file.1) file.1)) q → IsLeftFile old (file ∷ files) new q
  one_more (inl before) = inl (here ∙ before)
  one_more (inr (bytes, (k, inside, at), (n, has))) = inr (bytes, (0, omega arith, first_of_one k file (q, bytes) inside at), (n, here ∙ has))
more_left old now new file files q is (inr (bytes, (k, inside, at), n)) = inr (bytes, (suc k, omega arith, at), n)

-- files that are made are made in part
pub all_changes : (files : List (List ℕ × List ℕ)) (before after : Option Folder) → after ≡ with_files files before → ChangesOnlyFiles before files after
all_changes [] before after e = same_changes before after [] e
all_changes (file ∷ files) before after e = record {
  each = λ old told.
      let rest = (all_changes files (with_file file.0 file.1 before) after e).each (insert old file.0 file.1) (ap (with_file file.0 file.1) told) in
      (rest.0, rest.1, λ q. more_left old (insert old file.0 file.1) rest.0 file files q refl (rest.2 q));
}

-- whatever the outcome of a command, it changed only the files that it was to make
pub makes_changes : (ended : Result WorkText StopCause) (files : List (List ℕ × List ℕ)) (before after : Option Folder) → MakesWorkFiles ended files before after → ChangesOnlyFiles before files after
makes_changes (Ok answer) files before after makes = all_changes files before after makes
makes_changes (Err (refusal.Refused file why)) files before after makes = all_changes files before after makes
makes_changes (Err (refusal.Absent file)) files before after makes = all_changes files before after makes
makes_changes (Err refusal.ReadFault) files before after makes = makes
makes_changes (Err refusal.WriteFault) files before after makes = makes
makes_changes (Err refusal.NoMemory) files before after makes = makes

-- the name of a file is among their names
name_among : (files : List (List ℕ × List ℕ)) (file : List ℕ × List ℕ) → Contains files file → Contains (map (λ f. f.0) files) file.0
name_among files file (k, inside, at) = (k, rw length-map inside, at_name files k file at) where
  at_name : (files : List (List ℕ × List ℕ)) (k : ℕ) (file : List ℕ × List ℕ) → slice_index_or files k file ≡ file → slice_index_or (map (λ f. f.0) files) k file.0 ≡ file.0
  at_name [] k file e = refl
  at_name (x ∷ files) zero file e = ap (λ (f : List ℕ × List ℕ). f.0) e
  at_name (x ∷ files) (suc k) file e = at_name files k file e

-- where these files alone changed, no other name did
pub changes_others : (files : Folder → List (List ℕ × List ℕ)) (before after : Option Folder) → ((folder : Folder) → before ≡ Some folder → ChangesOnlyFiles before (files folder) after) → OtherFilesStay (λ folder. map (λ f. f.0) (files folder)) before after
changes_others files before after changes = record {
  each = λ old told.
      let c = (changes old told).each old told in
      (c.0, c.1, λ name out. stays old c.0 name out (c.2 name));
} where
  stays : (old new : Folder) (name : List ℕ) → (Contains (map (λ f. f.0) (files old)) name → ⊥) → IsLeftFile old (files old) new name → get new name ≡ get old name
  stays old new name out (inl same) = same
  stays old new name out (inr (bytes, among, part)) = absurd (out (name_among (files old) (name, bytes) among))

-- whatever its outcome, the names of the files that it was to make alone changed
pub makes_others : (written : Folder → List (List ℕ)) (expected : Option CommandOutcome) (before after : Option Folder) (ended : Result WorkText StopCause)
    → ((o : CommandOutcome) → expected ≡ Some o → MakesWorkFiles ended (writes_of o) before after)
    → ((folder : Folder) → before ≡ Some folder → WritesOnly written expected before after folder)
    → OtherFilesStay written before after
makes_others written expected before after ended makes names = record {
  each = λ old told. by_names old told (names old told);
} where
  by_names : (old : Folder) → before ≡ Some old → WritesOnly written expected before after old
      → (new : Folder) × (after ≡ Some new) × ((name : List ℕ) → (Contains (written old) name → ⊥) → get new name ≡ get old name)
  by_names old told (inl same) = (old, same ∙ told, λ name out. refl)
  by_names old told (inr (o, is, names)) =
      let c = (changes_others (λ _. writes_of o) before after (λ folder here. makes_changes ended _ before after (makes o is))).each old told in
      (c.0, c.1, λ name out. c.2 name (λ among. out (subst (λ (ns : List (List ℕ)). Contains ns name) (sym names) among)))
