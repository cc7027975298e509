-- What a recording leaves is shown.
use Rattle.std.proofs.Common.{◌⊎◌, ◌∙◌, ◌<◌, ℕ, List, [], ◌∷◌, Some, ap, append-nil, inl, inr, refl, subst, sym}
use Rattle.std.specs.List.{AllByRecursion, AllZip}
use Rattle.fri_outside.specs.Outside.{Folder}
use Rattle.group_record.specs.Run.{IsMoment, RunStep, log_of, processes_in_group}
use Rattle.record_command.specs.Agreement.{IsAtMomentOfRun, IsStoppedInHeads, IsRecordable, LeavesTruncatedLogs, IsPartialEntry, Nothing, group_in, steps_in}
use Rattle.command_run.specs.Call.{IsAnswerStatus}
use Rattle.record_command.specs.Expected.{KeepsSchedule}
use Rattle.record_command.specs.ExpectedLaws.{done_is_kept}
use Rattle.record_command.specs.Laws.{RecordingsLeaveLogs, RecordingsStand}
use Rattle.log_pairs.specs.Pairs.{Pair}
use Rattle.headline.specs.Headline.{Headline, LeftIsShown, ShowsMoment, ShowsSteps, logs_in, run_to, HoldsPair}
use Rattle.headline.specs.Shown.{no_cut}
use Rattle.headline.proofs.RecordedGroup.{logs_of_run}

module _ {before : Folder} {name : List ℕ} (r : IsRecordable before name) (steps : List RunStep) (cut : ℕ → List ℕ) (after folder : Folder) where
  abbrev Below : List ℕ → Type 0
  Below ps = AllByRecursion (λ p. p < processes_in_group (group_in r)) ps

  -- a folder that has the logs that were left has those of the run
  holds : LeavesTruncatedLogs (group_in r) steps cut after → (ps : List ℕ) (pairs : List Pair) → Below ps → AllZip (HoldsPair r (logs_in (group_in r) after) folder) ps pairs → AllZip (HoldsPair r (logs_of_run (run_to r steps) cut) folder) ps pairs
  holds left [] [] below has = tt
  holds left (p ∷ ps) (pair ∷ pairs) below has = (record { «module» = has.0.«module»; log = has.0.log ∙ left p below.0 }, holds left ps pairs below.1 has.1)
  holds left [] (pair ∷ pairs) below has = absurd has
  holds left (p ∷ ps) [] below has = absurd has

  all_follow : ((p : ℕ) → p < processes_in_group (group_in r) → IsPartialEntry (group_in r) (steps_in r) steps p (cut p)) → (ps : List ℕ) → Below ps
      → AllByRecursion (λ p. IsPartialEntry (group_in r) (steps_in r) steps p (cut p)) ps
  all_follow follows [] below = tt
  all_follow follows (p ∷ ps) below = (follows p below.0, all_follow follows ps below.1)

shows_steps : Headline → {before : Folder} {name : List ℕ} (r : IsRecordable before name) (steps : List RunStep) → IsMoment steps (steps_in r) → (cut : ℕ → List ℕ) (after : Folder)
    → ((p : ℕ) → p < processes_in_group (group_in r) → IsPartialEntry (group_in r) (steps_in r) steps p (cut p)) → LeavesTruncatedLogs (group_in r) steps cut after → ShowsSteps r steps cut after
shows_steps law {before} {name} r steps moment cut after follows left ps are folder pairs has =
    law before name r steps moment cut ps are (all_follow r steps cut after folder follows ps are.within) folder pairs (holds r steps cut after folder left ps pairs are.within has)

pub left_is_shown_so : Headline → RecordingsLeaveLogs → RecordingsStand → LeftIsShown
left_is_shown_so law leave stand images name answer before after status made moment r = record {
  done = λ done.
      let answers : IsAnswerStatus answer = subst IsAnswerStatus (sym done) tt in
      whole answers (done_is_kept images r (sym (status answers) ∙ done));
  whole = whole;
  stopped = by_place (stand images name before after r (moment r));
} where
  by_place : IsStoppedInHeads (group_in r) before after ⊎ IsAtMomentOfRun (group_in r) (steps_in r) after → IsStoppedInHeads (group_in r) before after ⊎ ShowsMoment r after
  by_place (inl heads) = inl heads
  by_place (inr at) = inr (record { at = at; shown = shows_steps law r at.steps at.is_moment at.cut after at.may_follow at.logs })

  whole : IsAnswerStatus answer → KeepsSchedule images name r.schedule → ShowsSteps r (steps_in r) no_cut after
  whole answers kept =
      shows_steps law r (steps_in r) ([], refl) no_cut after (λ p below. Nothing refl)
      (λ p below. leave images name before after r kept (made answers) p below ∙ ap (λ (bytes : List ℕ). Some bytes) (sym (append-nil (log_of (group_in r) (steps_in r) p))))
