-- Files that were made are made in part.
use Rattle.std.proofs.Common.{◌≡◌, ℕ, List, [], Option, Some, sym, ap, subst, ◌∙◌, append-nil}
use Rattle.fri_outside.specs.Laws.{KeepsFiles}
use Rattle.fri_outside.specs.Outside.{Folder}
use Rattle.fri_outside.specs.Several.{with_files, AreFileFronts, ChangesOnlyFiles}

own_fronts : (files : List (List ℕ × List ℕ)) → AreFileFronts files files
own_fronts files place name bytes at = ([], at ∙ ap (λ (b : List ℕ). Some (name, b)) (sym (append-nil bytes)))

pub all_made : KeepsFiles → (files : List (List ℕ × List ℕ)) (before after : Option Folder) → after ≡ with_files files before → ChangesOnlyFiles before files after
all_made keeps files before after is = subst (ChangesOnlyFiles before files) (sym is) (keeps.left before files files (own_fronts files))
