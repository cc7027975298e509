-- What follows by computing of files that did not change, and of files that are made one after the other, all of them or the first.
use Rattle.std.specs.Prelude.{◌≡◌, ℕ, zero, suc, List, [], ◌∷◌, ◌++◌, length, take, drop, slice_get, Option, Some, Result, Ok, Err}
use Rattle.std.proofs.Common.{refl, sym, subst, ap, ◌∙◌, inl, append-nil}
use Rattle.std.proofs.Math.Seq.{take-length}
use Rattle.std.proofs.lemmas.List.{take-append-drop}
use Rattle.fri_outside.specs.Laws.{KeepsFiles}
use Rattle.fri_outside.specs.Outside.{Folder, with_file}
use Rattle.fri_outside.specs.Several.{AreFileFronts, AreFirstMade, ChangesOnlyFiles, OtherFilesStay, with_files}
use Rattle.fri_outside.specs.declared.files.WriteError.{WriteError}
use Rattle.fri_outside.specs.declared.files.WriteError.TheVariants as writing
use Rattle.command_run.specs.declared.refusal.StopCause.{StopCause}
use Rattle.command_run.specs.declared.refusal.StopCause.TheVariants as refusal
use Rattle.command_run.specs.declared.refusal.WorkText.{WorkText}
use Rattle.command_run.specs.Call.{MakesAllFiles, MakesWholeFiles, MakesWorkFiles, write_refusal}

-- what did not change at all changed these files only
pub same_changes : (before after : Option Folder) (files : List (List ℕ × List ℕ)) → after ≡ before → ChangesOnlyFiles before files after
same_changes before after files e = record { each = λ old told. (old, e ∙ told, λ name. inl refl) }

-- where nothing changed, the others stayed
pub same_others : (names : Folder → List (List ℕ)) (before after : Option Folder) → after ≡ before → OtherFilesStay names before after
same_others names before after e = record { each = λ old told. (old, e ∙ told, λ name out. refl) }

-- ---- files that are made one after the other

-- some files are made after the others
pub with_more_files : (files more : List (List ℕ × List ℕ)) (told : Option Folder) → with_files (files ++ more) told ≡ with_files more (with_files files told)
with_more_files [] more told = refl
with_more_files (file ∷ files) more told = with_more_files files more (with_file file.0 file.1 told)

abbrev a_file : List ℕ → List ℕ → Option (List ℕ × List ℕ)
a_file name bytes = Some (name, bytes)

-- with more files after the whole ones
further_at : (whole more : List (List ℕ × List ℕ)) (k : ℕ) (x : List ℕ × List ℕ) → slice_get whole k ≡ Some x → slice_get (whole ++ more) k ≡ Some x
further_at [] more k x at = cc
further_at (y ∷ whole) more zero x at = at
further_at (y ∷ whole) more (suc k) x at = further_at whole more k x at

pub fronts_of_more : (files whole more : List (List ℕ × List ℕ)) → AreFileFronts files whole → AreFileFronts files (whole ++ more)
fronts_of_more files whole more fronts place n bytes at =
    let f = fronts place n bytes at in (f.0, further_at whole more place (n, bytes ++ f.0) f.1)

-- all of them
own_fronts : (files : List (List ℕ × List ℕ)) → AreFileFronts files files
own_fronts files place name bytes at = ([], at ∙ ap (a_file name) (sym (append-nil bytes)))

-- ---- files of which the first are made

first_fronts : (files : List (List ℕ × List ℕ)) (n : ℕ) → AreFileFronts (take n files) files
first_fronts files n =
    subst (AreFileFronts (take n files)) (take-append-drop n files) (fronts_of_more (take n files) (take n files) (drop n files) (own_fronts (take n files)))

first_changes : KeepsFiles → (files : List (List ℕ × List ℕ)) (before after : Option Folder) → AreFirstMade files before after → ChangesOnlyFiles before files after
first_changes keeps files before after (n, is) = subst (ChangesOnlyFiles before files) (sym is) (keeps.left before (take n files) files (first_fronts files n))

-- a failed write leaves the first of them
pub failed_makes : (error : WriteError) (files : List (List ℕ × List ℕ)) (before after : Option Folder) → AreFirstMade files before after → MakesAllFiles (Err (write_refusal error)) files before after
failed_makes writing.Failed files before after first = first
failed_makes writing.NoMemory files before after first = first

-- they were not all made
pub some_files_made : (e : StopCause) (files : List (List ℕ × List ℕ)) (before after : Option Folder) → MakesAllFiles (Err e) files before after → MakesWholeFiles (Err e) files before after
some_files_made (refusal.Refused file why) files before after made = absurd made
some_files_made (refusal.Absent file) files before after made = absurd made
some_files_made refusal.ReadFault files before after made = absurd made
some_files_made refusal.WriteFault files before after made = made
some_files_made refusal.NoMemory files before after made = made

-- all of them are the first of them
pub all_first_made : (files : List (List ℕ × List ℕ)) (before after : Option Folder) → after ≡ with_files files before → AreFirstMade files before after
all_first_made files before after is = (length files, is ∙ ap (λ fs. with_files fs before) (sym (take-length files)))

-- so at each result the first of them are made
pub whole_first : (ended : Result WorkText StopCause) (files : List (List ℕ × List ℕ)) (before after : Option Folder) → MakesWholeFiles ended files before after → AreFirstMade files before after
whole_first (Ok answer) files before after makes = all_first_made files before after makes
whole_first (Err (refusal.Refused file why)) files before after makes = all_first_made files before after makes
whole_first (Err (refusal.Absent file)) files before after makes = all_first_made files before after makes
whole_first (Err refusal.ReadFault) files before after makes = makes
whole_first (Err refusal.WriteFault) files before after makes = makes
whole_first (Err refusal.NoMemory) files before after makes = makes

-- and each has some of its front
pub whole_makes : KeepsFiles → (ended : Result WorkText StopCause) (files : List (List ℕ × List ℕ)) (before after : Option Folder) → MakesWholeFiles ended files before after → MakesWorkFiles ended files before after
whole_makes keeps (Ok answer) files before after makes = makes
whole_makes keeps (Err (refusal.Refused file why)) files before after makes = makes
whole_makes keeps (Err (refusal.Absent file)) files before after makes = makes
whole_makes keeps (Err refusal.ReadFault) files before after makes = first_changes keeps files before after makes
whole_makes keeps (Err refusal.WriteFault) files before after makes = first_changes keeps files before after makes
whole_makes keeps (Err refusal.NoMemory) files before after makes = first_changes keeps files before after makes
