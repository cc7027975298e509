-- Where a recording was stopped, its logs stand at a moment of its run.
use Rattle.std.proofs.Common.{◌≡◌, ◌⊎◌, ◌∙◌, Contains, inl, inr, ◌<◌, ℕ, zero, suc, List, [], ◌∷◌, ◌++◌, length, take, slice_get, Some, refl, sym, ap, subst, arith, append_assoc, append-nil}
use Rattle.std.specs.FinMap.{get}
use Rattle.std.proofs.lemmas.Option.{same_Some, slice_get-get_or}
use Rattle.fri_outside.specs.Laws.{KeepsFiles}
use Rattle.fri_outside.specs.Outside.{Folder}
use Rattle.fri_outside.specs.Several.{AreApartNames, files_with_grown_piece, with_files}
use Rattle.guest_process.specs.Live.{Event}
use Rattle.schedule_text.specs.Laws.{GivesSchedules}
use Rattle.group_record.specs.Files.{IsStoppedRecording, InHeads, Between, InEntry, InImages}
use Rattle.group_record.specs.Images.{images_of}
use Rattle.group_record.specs.Logs.{log_name, logs_of_steps}
use Rattle.group_record.specs.Run.{GroupStart, Had, IsMoment, RunStep, entry_bytes, log_of, name_of_process, processes_in_group}
use Rattle.record_command.specs.Agreement.{IsAtMomentOfRun, IsStoppedInHeads, IsPartialEntry, Front, Nothing, group_in, run_in, steps_in}
use Rattle.record_command.specs.ExpectedLaws.{schedule_is}
use Rattle.record_command.specs.Laws.{RecordingsStand}
use Rattle.record_command.proofs.FolderRecordings.{schedule_formed}
use Rattle.record_command.proofs.StoppedFiles.{files_stand, images_are_no_logs, log_at, logs_apart, logs_stand, first_fronts}

-- ---- one of the logs has more

-- the piece at its place, and nothing at the others
abbrev piece_at : ℕ → List ℕ → ℕ → List ℕ
piece_at zero piece zero = piece
piece_at zero piece (suc q) = []
piece_at (suc p) piece zero = []
piece_at (suc p) piece (suc q) = piece_at p piece q

here_or_nothing : (p : ℕ) (piece : List ℕ) (q : ℕ) → ((p ≡ q) × (piece_at p piece q ≡ piece)) ⊎ (piece_at p piece q ≡ [])
here_or_nothing zero piece zero = inl (refl, refl)
here_or_nothing zero piece (suc q) = inr refl
here_or_nothing (suc p) piece zero = inr refl
here_or_nothing (suc p) piece (suc q) = further (here_or_nothing p piece q) where
  further : ((p ≡ q) × (piece_at p piece q ≡ piece)) ⊎ (piece_at p piece q ≡ []) → ((suc p ≡ suc q) × (piece_at p piece q ≡ piece)) ⊎ (piece_at p piece q ≡ [])
  further (inl here) = inl (ap suc here.0, here.1)
  further (inr nothing) = inr nothing

grown_at : (files : List (List ℕ × List ℕ)) (p : ℕ) (piece : List ℕ) (q : ℕ) (name bytes : List ℕ) → slice_get files q ≡ Some (name, bytes) → slice_get (files_with_grown_piece files p piece) q ≡ Some (name, bytes ++ piece_at p piece q)
grown_at [] p piece q name bytes at = cc
grown_at (file ∷ files) zero piece zero name bytes at = ap (λ (f : List ℕ × List ℕ). Some (f.0, f.1 ++ piece)) (same_Some file (name, bytes) at)
grown_at (file ∷ files) zero piece (suc q) name bytes at = at ∙ ap (λ (b : List ℕ). Some (name, b)) (sym (append-nil bytes))
grown_at (file ∷ files) (suc p) piece zero name bytes at = at ∙ ap (λ (b : List ℕ). Some (name, b)) (sym (append-nil bytes))
grown_at (file ∷ files) (suc p) piece (suc q) name bytes at = grown_at files p piece q name bytes at

-- ---- the first of the images

held_at : {A : Type 0} (xs : List A) (k : ℕ) (x : A) → slice_get xs k ≡ Some x → Contains xs x
held_at [] k x at = cc
held_at (y ∷ xs) zero x at = (0, omega arith, same_Some y x at)
held_at (y ∷ xs) (suc k) x at = let rest = held_at xs k x at in (suc rest.0, omega (arith, rest.1), rest.2)

first_are_no_logs : (images : List (List ℕ × List ℕ)) (n : ℕ) → ((name bytes : List ℕ) → Contains images (log_name name, bytes) → ⊥) → (name bytes : List ℕ) → Contains (take n images) (log_name name, bytes) → ⊥
first_are_no_logs images n none name bytes (k, inside, at) =
    let front = first_fronts images n k (log_name name) bytes (slice_get-get_or (take n images) k (log_name name, bytes) inside ∙ ap Some at) in
    none name (bytes ++ front.0) (held_at images k (log_name name, bytes ++ front.0) front.1)

nothing_more : (name bytes : List ℕ) → Contains {X = List ℕ × List ℕ} [] (log_name name, bytes) → ⊥
nothing_more name bytes (k, inside, at) = omega (arith, inside)

-- ---- the logs

-- whole logs have nothing more
uncut : (group : GroupStart) (all steps : List RunStep) (after : Folder) → IsMoment steps all → ((p : ℕ) → p < processes_in_group group → get after (log_name (name_of_process group p)) ≡ Some (log_of group steps p)) → IsAtMomentOfRun group all after
uncut group all steps after moment stand = record {
  steps = steps;
  is_moment = moment;
  cut = λ p. [];
  may_follow = λ p below. Nothing refl;
  logs = λ p below. stand p below ∙ ap (λ (bytes : List ℕ). Some bytes) (sym (append-nil (log_of group steps p)));
}

follows_entry : (group : GroupStart) (all later early : List RunStep) (p n : ℕ) (e : Event) → all ≡ later ++ (Had p e ∷ early) → n < length (entry_bytes group early p e)
    → (q : ℕ) → IsPartialEntry group all early q (piece_at p (take n (entry_bytes group early p e)) q)
follows_entry group all later early p n e split short q = by_place (here_or_nothing p piece q) where
  piece : List ℕ
  piece = take n (entry_bytes group early p e)

  by_place : ((p ≡ q) × (piece_at p piece q ≡ piece)) ⊎ (piece_at p piece q ≡ []) → IsPartialEntry group all early q (piece_at p piece q)
  by_place (inr nothing) = Nothing nothing
  by_place (inl here) = subst (λ (cut : List ℕ). IsPartialEntry group all early q cut) (sym here.1) (subst (λ (q : ℕ). IsPartialEntry group all early q piece) here.0 (Front later early e n split refl short refl))

pub recordings_stand_so : KeepsFiles → GivesSchedules → RecordingsStand
recordings_stand_so keeps gives images name before after r stopped = by_case stopped where
  apart : (steps : List RunStep) → AreApartNames (logs_of_steps (group_in r) steps)
  apart steps = logs_apart r.schedule.processes 0 (log_of (group_in r) steps) (schedule_formed gives before name r.schedule (schedule_is r)).names

  alone : (files : List (List ℕ × List ℕ)) → Some after ≡ with_files files (Some before) → with_files (files ++ []) (Some before) ≡ Some after
  alone files is = ap (λ (fs : List (List ℕ × List ℕ)). with_files fs (Some before)) (append-nil files) ∙ sym is

  by_case : IsStoppedRecording (group_in r) (steps_in r) (images_of images (group_in r) (run_in r)) (Some before) (Some after) → IsStoppedInHeads (group_in r) before after ⊎ IsAtMomentOfRun (group_in r) (steps_in r) after
  by_case (InHeads many cut is) = inl (many, cut, is)
  by_case (Between early front is) =
      inr (uncut (group_in r) (steps_in r) early after front (logs_stand keeps (group_in r) early [] before after (apart early) nothing_more (alone (logs_of_steps (group_in r) early) is)))
  by_case (InEntry early later p n e split short is) =
      let piece = take n (entry_bytes (group_in r) early p e) in
      inr (record {
        steps = early;
        is_moment = (later ++ (Had p e ∷ []), split ∙ sym (append_assoc later (Had p e ∷ []) early));
        cut = piece_at p piece;
        may_follow = λ q below. follows_entry (group_in r) (steps_in r) later early p n e split short q;
        logs = λ q below.
            files_stand keeps (group_in r) (files_with_grown_piece (logs_of_steps (group_in r) early) p piece) (λ q. log_of (group_in r) early q ++ piece_at p piece q) [] before after
            (keeps.apart (logs_of_steps (group_in r) early) p piece (apart early))
            (λ q below. grown_at (logs_of_steps (group_in r) early) p piece q (log_name (name_of_process (group_in r) q)) (log_of (group_in r) early q) (log_at (group_in r) early q below))
            nothing_more (alone (files_with_grown_piece (logs_of_steps (group_in r) early) p piece) is) q below;
      })
  by_case (InImages n is) =
      let files = images_of images (group_in r) (run_in r) in
      inr (uncut (group_in r) (steps_in r) (steps_in r) after ([], refl)
      (logs_stand keeps (group_in r) (steps_in r) (take n files) before after (apart (steps_in r))
      (first_are_no_logs files n (images_are_no_logs images (group_in r) (run_in r))) (sym is)))
