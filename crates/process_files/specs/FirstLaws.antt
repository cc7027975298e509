-- What follows of several files of which the first are made.
use Rattle.std.proofs.Common.{◌≡◌, ◌∙◌, ◌++◌, ℕ, zero, suc, List, [], ◌∷◌, take, Option, refl, ap, append-nil, sym}
use Rattle.fri_outside.specs.Outside.{Folder, with_file}
use Rattle.fri_outside.specs.Several.{AreFirstMade, with_files}

abbrev no_files : List (List ℕ × List ℕ)
no_files = []

pub files_after : (xs ys : List (List ℕ × List ℕ)) (told : Option Folder) → with_files (xs ++ ys) told ≡ with_files ys (with_files xs told)
files_after [] ys told = refl
files_after (x ∷ xs) ys told = files_after xs ys (with_file x.0 x.1 told)

-- of no files there are no first
no_first : (n : ℕ) → take n [] ≡ no_files
no_first zero = refl
no_first (suc n) = refl

pub after_none : (files : List (List ℕ × List ℕ)) (n : ℕ) → files ++ take n [] ≡ files
after_none files n = ap (λ fs. files ++ fs) (no_first n) ∙ append-nil files

-- the first of some files are the first of more
front_cut : (xs ys : List (List ℕ × List ℕ)) (n : ℕ) → (k : ℕ) × (take k (xs ++ ys) ≡ take n xs)
front_cut xs ys zero = (0, refl)
front_cut [] ys (suc n) = (0, refl)
front_cut (x ∷ xs) ys (suc n) =
    let rest = front_cut xs ys n in
    (suc rest.0, ap (λ fs. x ∷ fs) rest.1)

pub first_of_more : (xs ys : List (List ℕ × List ℕ)) (before after : Option Folder) → AreFirstMade xs before after → AreFirstMade (xs ++ ys) before after
first_of_more xs ys before after (n, is) =
    let cut = front_cut xs ys n in
    (cut.0, is ∙ ap (λ fs. with_files fs before) (sym cut.1))

-- some files, and the first of those after them
after_cut : (xs ys : List (List ℕ × List ℕ)) (n : ℕ) → (k : ℕ) × (take k (xs ++ ys) ≡ xs ++ take n ys)
after_cut [] ys n = (n, refl)
after_cut (x ∷ xs) ys n =
    let rest = after_cut xs ys n in
    (suc rest.0, ap (λ fs. x ∷ fs) rest.1)

pub first_after : (xs ys : List (List ℕ × List ℕ)) (before now after : Option Folder) → now ≡ with_files xs before → AreFirstMade ys now after → AreFirstMade (xs ++ ys) before after
first_after xs ys before now after made (n, is) =
    let cut = after_cut xs ys n in
    (cut.0, is ∙ ap (with_files (take n ys)) made ∙ sym (files_after xs (take n ys) before) ∙ ap (λ fs. with_files fs before) (sym cut.1))
