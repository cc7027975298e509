-- The outcome of `replay`, from what it read and made.
use Rattle.std.proofs.Common.{◌≡◌, ◌∙◌, ℕ, Bool, List, map, Option, Some, option_map, Ok, Err, Result, ap, refl, subst, sym}
use Rattle.std.specs.List.{list_any}
use Rattle.fri_outside.specs.Outside.{Folder, WhenTold}
use Rattle.fri_outside.specs.Several.{with_files}
use Rattle.proc_replay.specs.Replaying.{Replaying}
use Rattle.group_state.specs.declared.report.Report.{Report}
use Rattle.group_state.specs.declared.report.ReportLine.{ReportLine}
use Rattle.group_state.specs.declared.tally.GroupCounts.{GroupCounts}
use Rattle.group_state.specs.Place.{group_count}
use Rattle.group_state.specs.Report.{IsReport, all_accepted_events, counts_in, reporting}
use Rattle.group_state.specs.Tally.{tally_of_events}
use Rattle.command_run.specs.declared.refusal.WorkText.{WorkText}
use Rattle.command_run.specs.declared.refusal.WorkText.TheVariants as answered
use Rattle.command_run.specs.declared.refusal.StopCause.{StopCause}
use Rattle.command_run.specs.Call.{MakesWholeFiles, MakesAllFiles, StopsAsCause, TellsOutcome}
use Rattle.replay_command.specs.Report.{is_divergence, replay_outcome, replay_work}
use Rattle.replay_command.specs.Texts.{report_text}
use Rattle.command_run.specs.Apart.{apart_work, unless_over_input}
use Rattle.command_run.specs.ApartLaws.{apart_works, clash_stops}
use Rattle.command_run.specs.Outcome.{CommandOutcome, CommandStop, and_then, writes_of}
use Rattle.log_pairs.specs.Pairs.{RefusesPairs, Pair, OpensReplays, names_of_pairs, replays_of_pairs}
use Rattle.replay_command.specs.inside.Ending.{PrintsAtEnd}
use Rattle.command_run.specs.OutcomeLaws.{outcome_when_told, stops_before_next}

-- the names of the files that are made
abbrev pub made_of : Bool → List Replaying → List (List ℕ)
made_of images start = map (λ file. file.0) (replay_work images start).writes

-- ---- the files were refused

pub opening_stops : (images : Bool) (pairs : List Pair) (told : Option Folder) (e : StopCause) → RefusesPairs pairs told e → WhenTold told (λ folder. StopsAsCause (replay_outcome images pairs folder) e)
opening_stops images pairs told e stops folder is = stops_before_next (replays_of_pairs folder pairs) _ e (stops folder is)

-- ---- the replays began

module _ (images : Bool) (pairs : List Pair) (told : Option Folder) (start : List Replaying) (opens : OpensReplays pairs told start) where
  begun : (folder : Folder) → told ≡ Some folder → replay_outcome images pairs folder ≡ apart_work (names_of_pairs pairs) (replay_work images start)
  begun folder is = ap (λ (r : Result (List Replaying) CommandStop). and_then r (λ start. apart_work (names_of_pairs pairs) (replay_work images start))) (opens folder is)

  -- a file that was read would be made
  pub clash_refused : (slice : List Replaying) (e : StopCause) → slice ≡ start → StopsAsCause (unless_over_input (names_of_pairs pairs) (made_of images slice)) e → WhenTold told (λ folder. StopsAsCause (replay_outcome images pairs folder) e)
  clash_refused slice e same stops folder is =
      subst (λ (o : CommandOutcome). StopsAsCause o e) (sym (begun folder is))
      (clash_stops (names_of_pairs pairs) (Ok (replay_work images start)) (replay_work images start) e refl
      (subst (λ (rs : List Replaying). StopsAsCause (unless_over_input (names_of_pairs pairs) (made_of images rs)) e) same stops))

-- the replays began, and no file that was read would be made
pub record CanWork (images : Bool) (pairs : List Pair) (told : Option Folder) (start : List Replaying) : Type 0 where
  pub opens : OpensReplays pairs told start
  pub kept : unless_over_input (names_of_pairs pairs) (made_of images start) ≡ Ok tt

pub can_work : (images : Bool) (pairs : List Pair) (told : Option Folder) (slice start : List Replaying) → slice ≡ start → OpensReplays pairs told start → unless_over_input (names_of_pairs pairs) (made_of images slice) ≡ Ok tt → CanWork images pairs told start
can_work images pairs told slice start same opens kept = record { opens = opens; kept = ap (λ (rs : List Replaying). unless_over_input (names_of_pairs pairs) (made_of images rs)) (sym same) ∙ kept }

pub opened_works : (images : Bool) (pairs : List Pair) (told : Option Folder) (start : List Replaying) → CanWork images pairs told start
    → (o : CommandOutcome) → option_map (replay_outcome images pairs) told ≡ Some o → o ≡ Ok (replay_work images start)
opened_works images pairs told start can o is =
    let h = outcome_when_told (replay_outcome images pairs) told o is in
    h.2 ∙ begun images pairs told start can.opens h.0 h.1 ∙ apart_works (names_of_pairs pairs) (Ok (replay_work images start)) (replay_work images start) refl can.kept

-- ---- what is made

-- by their replays in a slice, of the files as they were found
pub images_made : (images : Bool) (slice start : List Replaying) (told mid after : Option Folder) → slice ≡ start → mid ≡ told → after ≡ with_files (replay_work images slice).writes mid → after ≡ with_files (replay_work images start).writes told
images_made images slice start told mid after same kept made =
    made ∙ ap (with_files (replay_work images slice).writes) kept ∙ ap (λ (rs : List Replaying). with_files (replay_work images rs).writes told) same

pub images_begun : (images : Bool) (slice start : List Replaying) (told mid after : Option Folder) (e : StopCause) → slice ≡ start → mid ≡ told → MakesAllFiles (Err e) (replay_work images slice).writes mid after
    → MakesAllFiles (Err e) (replay_work images start).writes told after
images_begun images slice start told mid after e same kept made =
    subst (λ (rs : List Replaying). MakesAllFiles (Err e) (replay_work images rs).writes told after) same
    (subst (λ (t : Option Folder). MakesAllFiles (Err e) (replay_work images slice).writes t after) kept made)

-- the images were made, and whatever comes then
pub replay_makes : (images : Bool) (pairs : List Pair) (told after : Option Folder) (start : List Replaying) (result : Result WorkText StopCause) → CanWork images pairs told start
    → MakesWholeFiles result (replay_work images start).writes told after → (o : CommandOutcome) → option_map (replay_outcome images pairs) told ≡ Some o → MakesWholeFiles result (writes_of o) told after
replay_makes images pairs told after start result opens makes o here =
    subst (λ (o : CommandOutcome). MakesWholeFiles result (writes_of o) told after) (sym (opened_works images pairs told start opens o here)) makes

-- ---- what is said

says_of : (images : Bool) (start : List Replaying) (o : CommandOutcome) (answer : WorkText) → o ≡ Ok (replay_work images start)
    → PrintsAtEnd (replay_work images start).text (replay_work images start).diverged answer → TellsOutcome o (Ok answer)
says_of images start o (answered.Done text) is says = (replay_work images start, is, says.0, says.1)
says_of images start o (answered.Diverged text) is says = (replay_work images start, is, says.0, says.1)

-- the report was printed
pub report_tells : (images : Bool) (pairs : List Pair) (told : Option Folder) (start : List Replaying) (report : Report) (answer : WorkText) → CanWork images pairs told start → IsReport (reporting start) report
    → PrintsAtEnd (report_text report.lines.items (counts_in report)) (list_any (λ line. is_divergence line.verdict) report.lines.items) answer
    → (o : CommandOutcome) → option_map (replay_outcome images pairs) told ≡ Some o → TellsOutcome o (Ok answer)
report_tells images pairs told start report answer opens is says o here =
    says_of images start o answer (opened_works images pairs told start opens o here)
    (subst (λ (lines : List ReportLine). PrintsAtEnd (report_text lines (tally_of_events (group_count start) (all_accepted_events start))) (list_any (λ line. is_divergence line.verdict) lines) answer) is.lines
    (subst (λ (counts : GroupCounts). PrintsAtEnd (report_text report.lines.items counts) (list_any (λ line. is_divergence line.verdict) report.lines.items) answer) is.counts says))
