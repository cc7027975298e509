-- No file that a recording names or makes has the name of an image of a replay.
use Rattle.std.proofs.Common.{◌≡◌, ◌⊎◌, ◌∙◌, ◌<◌, ◌-◌, ℕ, zero, suc, Bool, true, false, List, [], ◌∷◌, ◌++◌, length, drop, map, ap, arith, inl, inr, refl, subst, sym}
use Rattle.std.specs.Prelude.{Contains, slice_index_or, if◌then◌else◌}
use Rattle.std.specs.List.{AllByRecursion}
use Rattle.std.proofs.Math.Seq.{drop-append_seam}
use Rattle.std.proofs.lemmas.List.{length-append}
use Rattle.process_files.specs.Images.{mem_name, out_name}
use Rattle.schedule_text.specs.Schedule.{IsWellFormed, Schedule}
use Rattle.group_record.specs.Logs.{log_name}
use Rattle.log_pairs.specs.Pairs.{names_of_pairs}
use Rattle.record_command.specs.Expected.{module_name}
use Rattle.headline.specs.Shown.{RecordedRun, recorded_images}
use Rattle.friday_app.specs.TwoCalls.{pairs_of_processes}
use Rattle.command_run.specs.Apart.{AreApart}
use Rattle.friday_app.proofs.LeftByRecording.{module_is_not_made, module_named}

-- ---- the name of an image

abbrev IsImage : List ℕ → Type 0
IsImage name = (before : List ℕ) × ((name ≡ mem_name before) ⊎ (name ≡ out_name before))

-- the last four bytes of a name that ends so
last_four : (name : List ℕ) (a b c d : ℕ) → drop (length (name ++ (a ∷ b ∷ c ∷ d ∷ [])) - 4) (name ++ (a ∷ b ∷ c ∷ d ∷ [])) ≡ a ∷ b ∷ c ∷ d ∷ []
last_four name a b c d =
    let ending = a ∷ b ∷ c ∷ d ∷ [] in
    let place : length (name ++ ending) - 4 ≡ length name = omega (arith, length-append name ending) in
    ap (λ (n : ℕ). drop n (name ++ ending)) place ∙ drop-append_seam name ending

abbrev LastFour : List ℕ → List ℕ
LastFour name = drop (length name - 4) name

log_is_no_image : (name : List ℕ) → IsImage (log_name name) → ⊥
log_is_no_image name (before, inl same) =
    let second : 108 ≡ 109 = ap (λ (l : List ℕ). slice_index_or l 1 0) (sym (last_four name 46 108 111 103) ∙ ap LastFour same ∙ last_four before 46 109 101 109) in
    absurd (omega (arith, second))
log_is_no_image name (before, inr same) =
    let second : 108 ≡ 111 = ap (λ (l : List ℕ). slice_index_or l 1 0) (sym (last_four name 46 108 111 103) ∙ ap LastFour same ∙ last_four before 46 111 117 116) in
    absurd (omega (arith, second))

-- ---- the names of the pairs

abbrev NoImage : List ℕ → Type 0
NoImage name = IsImage name → ⊥

no_images : (schedule : Schedule) → IsWellFormed schedule → (ps : List ℕ) → AllByRecursion (λ p. p < length schedule.processes) ps → AllByRecursion NoImage (names_of_pairs (pairs_of_processes schedule ps))
no_images schedule formed [] below = tt
no_images schedule formed (p ∷ ps) below =
    (module_is_none, (log_is_no_image _, no_images schedule formed ps below.1)) where
      module_is_none : NoImage (module_name schedule p)
      module_is_none (before, made) =
          module_is_not_made _ (module_named schedule.processes p (λ d. (formed.lines p d below.0).file) below.0) (before, inr made)

-- ---- the names of the images

are_images : (run : RecordedRun) (ps : List ℕ) → AllByRecursion IsImage (map (λ file. file.0) (recorded_images run ps))
are_images run [] = tt
are_images run (p ∷ ps) = ((_, inl refl), ((_, inr refl), are_images run ps))

each_of : (P : List ℕ → Type 0) (names : List (List ℕ)) (name : List ℕ) → AllByRecursion P names → Contains names name → P name
each_of P [] name all (k, below, at) = absurd (omega (arith, below))
each_of P (first ∷ names) name all (zero, below, at) = subst P at all.0
each_of P (first ∷ names) name all (suc k, below, at) = each_of P names name all.1 (k, omega (arith, below), at)

none_there : (name : List ℕ) → Contains [] name → ⊥
none_there name (k, below, at) = omega (arith, below)

pub images_apart : (images : Bool) (run : RecordedRun) (sorted : List ℕ) (schedule : Schedule) → IsWellFormed schedule → (ps : List ℕ) → AllByRecursion (λ p. p < length schedule.processes) ps
    → AreApart (names_of_pairs (pairs_of_processes schedule ps)) (map (λ file. file.0) (if images then recorded_images run sorted else []))
images_apart false run sorted schedule formed ps below = λ name here there. absurd (none_there name there)
images_apart true run sorted schedule formed ps below = λ name here there.
    each_of NoImage (names_of_pairs (pairs_of_processes schedule ps)) name (no_images schedule formed ps below) here
    (each_of IsImage (map (λ file. file.0) (recorded_images run sorted)) name (are_images run sorted) there)
