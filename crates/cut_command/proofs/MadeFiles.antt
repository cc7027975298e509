-- The files of the logs, one made after the other.
use Rattle.std.proofs.Common.{◌≡◌, ◌∙◌, ◌+◌, ◌<◌, ◌++◌, ℕ, zero, suc, List, [], ◌∷◌, get_or, length, map, take, slice_get, true, Option, Some, option_map, ap, arith, subst, sym}
use Rattle.std.specs.Prelude.{All}
use Rattle.std.proofs.lemmas.Option.{same_Some, slice_get-get_or, slice_get-map}
use Rattle.fri_outside.specs.Outside.{Folder, with_file}
use Rattle.fri_outside.specs.Several.{with_files}
use Rattle.fri_text.specs.Name.{is_name}
use Rattle.call_log.specs.Head.{IsHead}
use Rattle.call_log.specs.Log.{entries_of, rewritten_log}
use Rattle.command_run.specs.FileLaws.{with_more_files}
use Rattle.cut_command.specs.declared.fronts.Front.{Front}
use Rattle.cut_command.specs.Cut.{cut_name}
use Rattle.cut_command.specs.inside.Meanings.{front_file}

abbrev a_file : List ℕ → List ℕ → Option (List ℕ × List ℕ)
a_file name bytes = Some (cut_name name, bytes)

-- the file of the log at a place
pub file_here : (fronts : List Front) (n : ℕ) (front d : Front) (name bytes : List ℕ) → n < length fronts → front ≡ get_or fronts n d → name ≡ front.log.head.name
    → bytes ≡ rewritten_log front.log.head (take front.kept (entries_of front.log.left)) → slice_get (map front_file fronts) n ≡ a_file name bytes
file_here fronts n front d name bytes within is named rewrites =
    slice_get-map front_file fronts n ∙ ap (option_map front_file) (slice_get-get_or fronts n d within ∙ ap Some (sym is))
    ∙ ap (λ (name : List ℕ). a_file name (front_file front).1) (sym named) ∙ ap (a_file name) (sym rewrites)

-- the head of the log there is one
pub head_here : (fronts : List Front) (n : ℕ) (front d : Front) (name : List ℕ) → All (λ (f : Front). IsHead f.log.head) fronts → n < length fronts → front ≡ get_or fronts n d → name ≡ front.log.head.name → is_name name ≡ true
head_here fronts n front d name heads within is named =
    ap is_name named ∙ (subst (λ (f : Front). IsHead f.log.head) (sym is) (heads n d within)).named

abbrev Files : Type 0
Files = List (List ℕ × List ℕ)

-- ---- the first of some files

-- those of one file more
more_files : (files : Files) (n : ℕ) (file : List ℕ × List ℕ) → slice_get files n ≡ Some file → take (suc n) files ≡ take n files ++ file ∷ []
more_files [] n file at = cc
more_files (f ∷ files) zero file at = ap (λ (f : List ℕ × List ℕ). f ∷ []) (same_Some f file at)
more_files (f ∷ files) (suc n) file at = ap (λ (fs : Files). f ∷ fs) (more_files files n file at)

-- ---- what was made

-- the next file, too
pub one_made : (files : Files) (n : ℕ) (file : List ℕ × List ℕ) (before mid after : Option Folder) → slice_get files n ≡ Some file → mid ≡ with_files (take n files) before
    → after ≡ with_file file.0 file.1 mid → after ≡ with_files (take (n + 1) files) before
one_made files n file before mid after at so_far made =
    let next : suc n ≡ n + 1 = omega arith in
    made ∙ ap (with_file file.0 file.1) so_far ∙ sym (with_more_files (take n files) (file ∷ []) before)
    ∙ ap (λ (fs : Files). with_files fs before) (sym (more_files files n file at) ∙ ap (λ (k : ℕ). take k files) next)
