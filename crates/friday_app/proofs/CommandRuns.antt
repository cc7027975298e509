-- The run of each command, from what its crate says of it.
use Rattle.std.proofs.Common.{◌≡◌, ◌≢◌, ◌∙◌, ◌++◌, ℕ, Bool, false, true, List, [], Option, Some, None, option_map, Result, Ok, Err, IfErr, IfOk, OnOk, refl, sym, ap, subst, inl, inr}
use Rattle.std.specs.Io.KnownBytes.{append_known}
use Rattle.std.specs.Result.{IsOk}
use Rattle.std.proofs.lemmas.Option.{same_Some}
use Rattle.fri_outside.specs.Outside.{Folder, Counts, WhenTold}
use Rattle.fri_outside.specs.Laws.{KeepsFiles}
use Rattle.fri_outside.specs.Several.{AreFirstMade, with_files}
use Rattle.command_run.specs.declared.status.Status.{Status}
use Rattle.command_run.specs.declared.status.Status.TheVariants as ends
use Rattle.command_run.specs.declared.refusal.WorkText.{WorkText}
use Rattle.command_run.specs.declared.refusal.WorkText.TheVariants as answered
use Rattle.command_run.specs.declared.refusal.StopCause.{StopCause}
use Rattle.command_run.specs.Asked.{AsksAll, AsksFirst}
use Rattle.command_run.specs.AskedLaws.{all_are_first, asks_none, begins_asking}
use Rattle.command_run.specs.Call.{CountsFaults, DivergesOnlyIf, IsAnswerStatus, KeepsFolder, MakesWholeFiles, MakesWorkFiles, RaisesCount, TellsOutcome}
use Rattle.command_run.specs.FileLaws.{whole_first, whole_makes}
use Rattle.command_run.specs.Outcome.{CommandOutcome, NotACommand, outcome_status, outcome_text, writes_of}
use Rattle.command_run.specs.Run.{CallEnds, FinishedCommand, LeavesInput, LeavesWholeFiles, Outside, PerformedCommand, expected_by_folder, file_state}
use Rattle.record_command.specs.Agreement.{IsRecordable, LeavesMoment}
use Rattle.record_command.specs.Expected.{record_outcome}
use Rattle.record_command.specs.Laws.{RecordingsAgree, UntouchedFolderIsMoment}
use Rattle.log_pairs.specs.Pairs.{Pair}
use Rattle.debug_command.specs.Run.{DebugRun}
use Rattle.headline.specs.Headline.{LeftIsShown, ShowsRun}
use Rattle.headline.specs.Promises.{RecordPromises}
use Rattle.cut_command.specs.Cut.{cut_outcome}
use Rattle.cut_command.specs.Laws.{CutsToPast}
use Rattle.cut_command.specs.Promises.{CutPromises}
use Rattle.schedule_command.specs.Schedule.{schedule_outcome}
use Rattle.schedule_command.specs.Meanings.{AnswerRecordsBack}
use Rattle.schedule_command.specs.Promises.{PrintsConverse, SchedulePromises}
use Rattle.play_command.specs.Laws.{PlayedIsRecorded}
use Rattle.play_command.specs.Run.{PlayRun}
use Rattle.friday_app.specs.Command.{Command, Cut, Debug, Drill, Migrate, Play, Record, Replay, Schedule, Streams}
use Rattle.friday_app.specs.Expected.{expected}
use Rattle.friday_app.specs.Promises.{Promises}
use Rattle.friday_app.specs.Run.{CommandRun}

-- the same of words that come to that
pub run_same : {command said : Option Command} {old new : Outside} {answer : Status} → command ≡ said → CommandRun command old new answer → CommandRun said old new answer
run_same {old = old} {new = new} {answer = answer} is run = subst (λ k. CommandRun k old new answer) is run

-- ---- a command that prints once, at its end

-- what it did, where its outcome depends on the folder alone
pub performed : (f : Folder → CommandOutcome) (inputs : Folder → List (List ℕ)) (may_diverge : Bool) (before after : Option Folder) (counts counts_after : Counts) (ended : Result WorkText StopCause)
    → ((o : CommandOutcome) → option_map f before ≡ Some o → TellsOutcome o ended)
    → ((o : CommandOutcome) → option_map f before ≡ Some o → MakesWorkFiles ended (writes_of o) before after)
    → KeepsFolder ended before after → DivergesOnlyIf may_diverge ended → CountsFaults counts counts_after ended
    → WhenTold before (λ folder. AsksFirst (inputs folder) counts counts_after)
    → WhenTold before (λ folder. OnOk ended (AsksAll (inputs folder) counts counts_after))
    → IfErr ended (RaisesCount counts counts_after)
    → PerformedCommand (expected_by_folder f before inputs may_diverge) (file_state before counts) (file_state after counts_after) ended
performed f inputs may_diverge before after counts counts_after ended tells makes keeps diverges counted asks asks_all cause = record {
  tells = tells;
  makes = makes;
  names = λ folder is. inr (f folder, ap (option_map f) is, refl);
  keeps = keeps;
  diverges = diverges;
  counted = counted;
  asks = asks;
  asks_all = asks_all;
  cause = cause;
}

-- the same of files that are made whole
abbrev pub MakesWholeOf : (Folder → CommandOutcome) → Result WorkText StopCause → Option Folder → Option Folder → Type 0
MakesWholeOf f ended before after = (o : CommandOutcome) → option_map f before ≡ Some o → MakesWholeFiles ended (writes_of o) before after

pub performed_whole : KeepsFiles → (f : Folder → CommandOutcome) (inputs : Folder → List (List ℕ)) (may_diverge : Bool) (before after : Option Folder) (counts counts_after : Counts) (ended : Result WorkText StopCause)
    → ((o : CommandOutcome) → option_map f before ≡ Some o → TellsOutcome o ended)
    → MakesWholeOf f ended before after
    → KeepsFolder ended before after → DivergesOnlyIf may_diverge ended → CountsFaults counts counts_after ended
    → WhenTold before (λ folder. AsksFirst (inputs folder) counts counts_after)
    → WhenTold before (λ folder. OnOk ended (AsksAll (inputs folder) counts counts_after))
    → IfErr ended (RaisesCount counts counts_after)
    → PerformedCommand (expected_by_folder f before inputs may_diverge) (file_state before counts) (file_state after counts_after) ended
performed_whole files f inputs may_diverge before after counts counts_after ended tells makes keeps diverges counted asks asks_all cause =
    performed f inputs may_diverge before after counts counts_after ended tells (λ o is. whole_makes files ended (writes_of o) before after (makes o is)) keeps diverges counted asks asks_all cause

-- a replay may tell that a log diverged
pub may_diverge : (ended : Result WorkText StopCause) → DivergesOnlyIf true ended
may_diverge (Ok (answered.Done text)) = tt
may_diverge (Ok (answered.Diverged text)) = refl
may_diverge (Err e) = tt

-- its run, with what it promises of its own
pub run_finished : (command : Command) (ended : Result WorkText StopCause) (answer : Status) (old new : Outside) → FinishedCommand (expected (Some command) old.told old.hearing.left) ended old new answer
    → Promises (Some command) old new answer → CommandRun (Some command) old new answer
run_finished command ended answer old new f promised = record {
  call = f.call;
  usage = record { only = λ is. absurd (f.is_command is); always = λ none h. cc };
  asks = f.asks;
  diverged = f.diverged;
  promises = promised;
}

-- ---- what it promises of its own

-- what a recording left is shown
left_shown : LeftIsShown → (images : Bool) (name : List ℕ) (answer : Status) (old new : Outside)
    → WhenTold old.told (λ before. IsAnswerStatus answer → answer ≡ outcome_status (record_outcome images name before))
    → (IsAnswerStatus answer → WhenTold old.told (λ before. new.told ≡ with_files (writes_of (record_outcome images name before)) old.told))
    → WhenTold old.told (λ before. LeavesMoment images name before new.told)
    → WhenTold old.told (λ before. WhenTold new.told (λ after. (r : IsRecordable before name) → ShowsRun images r answer after))
left_shown law images name answer old new status made moment before is after here =
    law images name answer before after (status before is) (λ answers. sym here ∙ made answers before is ∙ ap (with_files (writes_of (record_outcome images name before))) is)
    (subst (LeavesMoment images name before) here (moment before is))

pub record_promises : RecordingsAgree → LeftIsShown → (images : Bool) (name : List ℕ) (ended : Result WorkText StopCause) (answer : Status) (old new : Outside)
    → FinishedCommand (expected (Some (Record images name)) old.told old.hearing.left) ended old new answer
    → WhenTold old.told (λ before. LeavesMoment images name before new.told) → RecordPromises images name old new answer
record_promises agree law images name ended answer old new f moment = record {
  input = f.input;
  recorded = λ before told. agree before name;
  moment = moment;
  shown = left_shown law images name answer old new (λ before told. f.call.status (record_outcome images name before) (ap (option_map (record_outcome images name)) told))
      (λ answers before told. (f.call.files (record_outcome images name before) (ap (option_map (record_outcome images name)) told)).whole answers) moment;
}

-- the first of the files were made
first_made : (f : Folder → CommandOutcome) (ended : Result WorkText StopCause) (before after : Option Folder) → MakesWholeOf f ended before after → WhenTold before (λ folder. AreFirstMade (writes_of (f folder)) before after)
first_made f ended before after makes folder told = whole_first ended (writes_of (f folder)) before after (makes (f folder) (ap (option_map f) told))

pub whole_files : (f : Folder → CommandOutcome) (ended : Result WorkText StopCause) (answer : Status) (old new : Outside) → LeavesInput old new answer → MakesWholeOf f ended old.told new.told
    → LeavesWholeFiles f old new answer
whole_files f ended answer old new input makes = record { input = input; whole = first_made f ended old.told new.told makes }

never_ok : false ≡ true → ⊥
never_ok e = cc

-- what was printed records to the logs
again : (pairs : List Pair) (folder : Folder) (ended : Result WorkText StopCause) (before after : List ℕ) → IsOk ended → TellsOutcome (schedule_outcome pairs folder) ended
    → IfOk ended (AnswerRecordsBack pairs folder) → after ≡ before ++ outcome_text (schedule_outcome pairs folder) → PrintsConverse pairs folder before after
again pairs folder (Ok (answered.Done text)) before after ok tells records is = (text, is ∙ ap (λ t. before ++ t) (ap outcome_text tells.1 ∙ sym tells.2), records)
again pairs folder (Ok (answered.Diverged text)) before after ok tells records is = (text, is ∙ ap (λ t. before ++ t) (ap outcome_text tells.1 ∙ sym tells.2), records)
again pairs folder (Err e) before after ok tells records is = absurd (never_ok ok)

pub schedule_promises : (pairs : List Pair) (ended : Result WorkText StopCause) (answer : Status) (old new : Outside)
    → FinishedCommand (expected (Some (Schedule pairs)) old.told old.hearing.left) ended old new answer
    → ((o : CommandOutcome) → option_map (schedule_outcome pairs) old.told ≡ Some o → TellsOutcome o ended)
    → WhenTold old.told (λ folder. IfOk ended (AnswerRecordsBack pairs folder))
    → SchedulePromises pairs old new answer
schedule_promises pairs ended answer old new f tells records = record {
  input = f.input;
  converse = λ is folder told before here after there.
      let known : option_map (schedule_outcome pairs) old.told ≡ Some (schedule_outcome pairs folder) = ap (option_map (schedule_outcome pairs)) told in
      let whole = (f.call.text (schedule_outcome pairs folder) known).whole (subst IsAnswerStatus (sym is) tt) in
      again pairs folder ended before after (f.done is) (tells (schedule_outcome pairs folder) known) (records folder told)
      (same_Some _ _ (sym there ∙ whole ∙ ap (λ taken. append_known taken (outcome_text (schedule_outcome pairs folder))) here));
}

-- what was cut has the least past
kept_past : (process event : ℕ) (pairs : List Pair) (folder : Folder) (ended : Result WorkText StopCause) → IsOk ended → IfOk ended (λ _. CutsToPast process event pairs folder) → CutsToPast process event pairs folder
kept_past process event pairs folder (Ok answer) ok cuts = cuts
kept_past process event pairs folder (Err e) ok cuts = absurd (never_ok ok)

pub cut_promises : (process event : ℕ) (pairs : List Pair) (ended : Result WorkText StopCause) (answer : Status) (old new : Outside)
    → FinishedCommand (expected (Some (Cut process event pairs)) old.told old.hearing.left) ended old new answer
    → MakesWholeOf (cut_outcome process event pairs) ended old.told new.told
    → WhenTold old.told (λ folder. IfOk ended (λ _. CutsToPast process event pairs folder))
    → CutPromises process event pairs old new answer
cut_promises process event pairs ended answer old new f makes cuts = record {
  input = f.input;
  whole = first_made (cut_outcome process event pairs) ended old.told new.told makes;
  past = λ is folder told. kept_past process event pairs folder ended (f.done is) (cuts folder told);
}

-- ---- a session, a play, and no command

pub run_debugged : (pairs : List Pair) (answer : Status) (old new : Outside) → DebugRun pairs old new answer → CommandRun (Some (Debug pairs)) old new answer
run_debugged pairs answer old new r = record {
  call = r.call;
  usage = record { only = λ is. absurd (r.is_command is); always = λ none h. cc };
  asks = r.asks;
  diverged = λ is. absurd (r.no_divergence is);
  promises = r.promises;
}

pub run_played : PlayedIsRecorded → (schedule_name : List ℕ) (answer : Status) (old new : Outside) → PlayRun schedule_name old new answer → CommandRun (Some (Play schedule_name)) old new answer
run_played law schedule_name answer old new r = record {
  call = r.call;
  usage = record { only = λ is. absurd (r.is_command is); always = λ none h. cc };
  asks = r.asks;
  diverged = λ is. absurd (r.no_divergence is);
  promises = record { session = r.promises; played = λ folder is. law schedule_name folder };
}

pub run_none : (answer : Status) (old new : Outside) → CallEnds (Some (Err NotACommand)) (λ folder. []) old new answer
    → (IsAnswerStatus answer → answer ≡ ends.Usage) → (answer ≢ ends.ReadFault) → new.hearing ≡ old.hearing → new.counts ≡ old.counts → CommandRun None old new answer
run_none answer old new call usage reads unheard counts = record {
  call = call;
  usage = record { only = λ _. refl; always = λ _ h. usage h };
  asks = λ folder told. let none = asks_none old.counts new.counts (ap (λ (c : Counts). c.asked) counts) in record { first = all_are_first _ _ _ none; all = λ work. none };
  diverged = λ is. let e : ends.Diverged ≡ ends.Usage = sym is ∙ usage (subst IsAnswerStatus (sym is) tt) in absurd (never_diverged e);
  promises = record {
    unheard = unheard;
    read = λ is. absurd (reads is);
    refused = λ is. let e : ends.Refused ≡ ends.Usage = sym is ∙ usage (subst IsAnswerStatus (sym is) tt) in absurd (never_refused e);
  };
} where
  never_diverged : ends.Diverged ≡ ends.Usage → ⊥
  never_diverged e = cc

  never_refused : ends.Refused ≡ ends.Usage → ⊥
  never_refused e = cc

-- ---- want of memory, before anything was read

pub run_stopped : RecordingsAgree → UntouchedFolderIsMoment → LeftIsShown → PlayedIsRecorded → (command : Option Command) (o : Outside) (answer : Status) → answer ≡ ends.NoMemory
    → CallEnds (expected command o.told o.hearing.left).outcome (expected command o.told o.hearing.left).written o o answer → CommandRun command o o answer
run_stopped agree rest law plays command o answer is call = subst (λ (a : Status). CommandRun command o o a) (sym is) (record {
  call = subst (λ (a : Status). CallEnds (expected command o.told o.hearing.left).outcome (expected command o.told o.hearing.left).written o o a) is call;
  usage = record { only = λ e. absurd cc; always = λ none h. absurd h };
  asks = λ folder told. record { first = begins_asking _ o.counts o.counts refl; all = λ work. absurd work };
  diverged = λ e. absurd cc;
  promises = promised command;
}) where
  unread : LeavesInput o o ends.NoMemory
  unread = record { unheard = refl; read = λ e. absurd cc; refused = λ e. absurd cc }

  untouched : (images : Bool) (name : List ℕ) → WhenTold o.told (λ before. LeavesMoment images name before o.told)
  untouched images name before told = subst (λ (after : Option Folder). LeavesMoment images name before after) (sym told) (rest images name before)

  not_done : ends.NoMemory ≡ ends.Done → ⊥
  not_done e = cc

  promised : (command : Option Command) → Promises command o o ends.NoMemory
  promised None = unread
  promised (Some (Record images name)) = record {
    input = unread;
    recorded = λ before told. agree before name;
    moment = untouched images name;
    shown = left_shown law images name ends.NoMemory o o (λ before told h. absurd h) (λ h. absurd h) (untouched images name);
  }
  promised (Some (Replay images pairs)) = record { input = unread; whole = λ folder told. (0, refl) }
  promised (Some (Debug pairs)) = record { input = inl (refl, not_done); answered = λ e. absurd cc; refused = λ e. absurd cc }
  promised (Some (Drill rounds)) = unread
  promised (Some (Migrate log_name new_name)) = record { input = unread; whole = λ folder told. (0, refl) }
  promised (Some (Schedule pairs)) = record { input = unread; converse = λ e. absurd cc }
  promised (Some (Cut process event pairs)) = record { input = unread; whole = λ folder told. (0, refl); past = λ e. absurd cc }
  promised (Some (Streams pairs)) = unread
  promised (Some (Play schedule_name)) = record {
    session = record { input = inl (refl, not_done); answered = λ e. absurd cc; refused = λ e. absurd cc };
    played = λ folder is. plays schedule_name folder;
  }
