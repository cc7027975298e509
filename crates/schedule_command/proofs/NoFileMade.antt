-- What a command that makes no file did, from the outcome of its schedule.
use Rattle.std.proofs.Common.{◌≡◌, ◌∙◌, false, List, [], Option, option_map, Result, Ok, Err, IfErr, OnOk, ap, refl, subst, sym, inl}
use Rattle.std.specs.Prelude.{MatchResult}
use Rattle.fri_outside.specs.Outside.{Counts, Folder, WhenTold}
use Rattle.proc_replay.specs.Replaying.{Replaying}
use Rattle.command_run.specs.declared.refusal.WorkText.{WorkText}
use Rattle.command_run.specs.declared.refusal.WorkText.TheVariants as answered
use Rattle.command_run.specs.declared.refusal.StopCause.{StopCause}
use Rattle.command_run.specs.declared.refusal.StopCause.TheVariants as refusal
use Rattle.command_run.specs.Call.{CountsFaults, DivergesOnlyIf, KeepsFolder, MakesWorkFiles, RaisesCount, StopsAsCause, TellsOutcome}
use Rattle.command_run.specs.Outcome.{CommandOutcome, CommandStop, and_then, writes_of}
use Rattle.command_run.specs.OutcomeLaws.{result_follows, outcome_when_told, same_Ok_value, stops_make_files, stops_tell_outcome}
use Rattle.command_run.specs.Asked.{AsksAll, AsksFirst}
use Rattle.command_run.specs.Run.{PerformedCommand, expectation, file_state}
use Rattle.log_pairs.specs.declared.pairs.Loaded.{Loaded as LoadedFiles}
use Rattle.log_pairs.specs.Pairs.{Loaded, RefusesPairs, Pair, OpensReplays, loaded_pairs, pair_inputs, replays_of, replays_of_pairs, sort_replays}
use Rattle.log_pairs.specs.Meanings.{AreLoadedPairs, LoadsFiles}
use Rattle.schedule_command.specs.Schedule.{prints_text, schedule_outcome, unless_incomplete}
use Rattle.schedule_command.specs.inside.Meanings.{IsScheduleText}

-- ---- what was read decides

-- the outcome of pairs that were read to these replays is what is made of these
pub record Opened (folder : Folder) (pairs : List Pair) (ls : List Loaded) (start : List Replaying) : Type 0 where
  pub rs : List Replaying
  pub loaded : loaded_pairs folder [] pairs ≡ Ok ls
  pub begun : replays_of ls ≡ Ok rs
  pub sorted : sort_replays [] rs ≡ start
  pub outcome : schedule_outcome pairs folder ≡ unless_incomplete pairs ls start

pub opened : (folder : Folder) (pairs : List Pair) (ls : List Loaded) (start : List Replaying) → loaded_pairs folder [] pairs ≡ Ok ls → replays_of_pairs folder pairs ≡ Ok start → Opened folder pairs ls start
opened folder pairs ls start loaded is =
    let after : and_then (replays_of ls) (λ rs. Ok (sort_replays [] rs)) ≡ Ok start =
    ap (λ (r : Result (List Loaded) CommandStop). and_then r (λ ls. and_then (replays_of ls) (λ rs. Ok (sort_replays [] rs)))) (sym loaded) ∙ is in
    let f = result_follows (replays_of ls) (λ rs. Ok (sort_replays [] rs)) start after in
    let sorted : sort_replays [] f.given ≡ start = same_Ok_value (Ok (sort_replays [] f.given)) (sort_replays [] f.given) start refl f.comes in
    record {
      rs = f.given;
      loaded = loaded;
      begun = f.is_given;
      sorted = sorted;
      outcome = ap (λ (r : Result (List Loaded) CommandStop). and_then r (λ ls. and_then (replays_of ls) (λ rs. unless_incomplete pairs ls (sort_replays [] rs)))) loaded
          ∙ ap (λ (r : Result (List Replaying) CommandStop). and_then r (λ rs. unless_incomplete pairs ls (sort_replays [] rs))) f.is_given
          ∙ ap (unless_incomplete pairs ls) sorted;
    }

stop_or : {A : Type 0} → CommandStop → Result A CommandStop → CommandStop
stop_or default (Ok value) = default
stop_or default (Err stop) = stop

abbrev Stopped : (A : Type 0) → CommandStop → Result A CommandStop
Stopped A s = Err s

same_stop : {A B : Type 0} (s stop : CommandStop) → Stopped A s ≡ Stopped A stop → Stopped B s ≡ Stopped B stop
unfolding stop_or
same_stop s stop is = ap (λ (s : CommandStop). Err s) (ap (stop_or s) is)

stop_too : (pairs : List Pair) (a : Result (List Loaded) CommandStop) (stop : CommandStop) → and_then a (λ ls. and_then (replays_of ls) (λ rs. Ok (sort_replays [] rs))) ≡ Err stop
    → and_then a (λ ls. and_then (replays_of ls) (λ rs. unless_incomplete pairs ls (sort_replays [] rs))) ≡ Err stop
stop_too pairs (Err s) stop is = same_stop s stop is
stop_too pairs (Ok ls) stop is = by_replays (replays_of ls) is where
  by_replays : (b : Result (List Replaying) CommandStop) → and_then b (λ rs. Ok (sort_replays [] rs)) ≡ Err stop → and_then b (λ rs. unless_incomplete pairs ls (sort_replays [] rs)) ≡ Err stop
  by_replays (Ok rs) is = absurd (cc)
  by_replays (Err s) is = same_stop s stop is

-- pairs that stop a replay stop the schedule
pub stops_too : (folder : Folder) (pairs : List Pair) (e : StopCause) → StopsAsCause (replays_of_pairs folder pairs) e → StopsAsCause (schedule_outcome pairs folder) e
stops_too folder pairs (refusal.Refused file why) is = stop_too pairs (loaded_pairs folder [] pairs) _ is
stops_too folder pairs (refusal.Absent file) is = stop_too pairs (loaded_pairs folder [] pairs) _ is
stops_too folder pairs refusal.ReadFault is = tt
stops_too folder pairs refusal.WriteFault is = tt
stops_too folder pairs refusal.NoMemory is = tt

-- ---- what was done

-- the schedule was made, or why not
abbrev pub Ends : List Pair → Folder → Result WorkText StopCause → Type 0
Ends pairs folder (Ok (answered.Done text)) = schedule_outcome pairs folder ≡ Ok (prints_text text)
Ends pairs folder (Ok (answered.Diverged text)) = ⊥
Ends pairs folder (Err e) = StopsAsCause (schedule_outcome pairs folder) e

tells : (pairs : List Pair) (folder : Folder) (ended : Result WorkText StopCause) → Ends pairs folder ended → TellsOutcome (schedule_outcome pairs folder) ended
tells pairs folder (Ok (answered.Done text)) is = (prints_text text, is, refl, refl)
tells pairs folder (Ok (answered.Diverged text)) is = absurd is
tells pairs folder (Err e) is = stops_tell_outcome (schedule_outcome pairs folder) e is

makes : (pairs : List Pair) (folder : Folder) (before after : Option Folder) (ended : Result WorkText StopCause) → Ends pairs folder ended → after ≡ before → MakesWorkFiles ended (writes_of (schedule_outcome pairs folder)) before after
makes pairs folder before after (Ok (answered.Done text)) is same =
    subst (λ (o : CommandOutcome). MakesWorkFiles (Ok (answered.Done text)) (writes_of o) before after) (sym is) same
makes pairs folder before after (Ok (answered.Diverged text)) is same = absurd is
makes pairs folder before after (Err e) is same = stops_make_files (schedule_outcome pairs folder) e before after is same

keeps : (before after : Option Folder) (ended : Result WorkText StopCause) → after ≡ before → KeepsFolder ended before after
keeps before after (Err (refusal.Absent file)) same = same
keeps before after (Err refusal.ReadFault) same = same
keeps before after (Ok answer) same = tt
keeps before after (Err (refusal.Refused file why)) same = tt
keeps before after (Err refusal.WriteFault) same = tt
keeps before after (Err refusal.NoMemory) same = tt

pub performed : (pairs : List Pair) (told after : Option Folder) (counts counts_after : Counts) (ended : Result WorkText StopCause) → WhenTold told (λ folder. Ends pairs folder ended) → after ≡ told
    → DivergesOnlyIf false ended → CountsFaults counts counts_after ended → AsksFirst (pair_inputs pairs) counts counts_after → OnOk ended (AsksAll (pair_inputs pairs) counts counts_after) → IfErr ended (RaisesCount counts counts_after)
    → PerformedCommand (expectation (option_map (schedule_outcome pairs) told) (λ folder. []) (λ folder. pair_inputs pairs) false) (file_state told counts) (file_state after counts_after) ended
performed pairs told after counts counts_after ended ends same done counted asks asks_all cause = record {
  tells = λ o is. let h = outcome_when_told (schedule_outcome pairs) told o is in subst (λ (o : CommandOutcome). TellsOutcome o ended) (sym h.2) (tells pairs h.0 ended (ends h.0 h.1));
  makes = λ o is. let h = outcome_when_told (schedule_outcome pairs) told o is in subst (λ (o : CommandOutcome). MakesWorkFiles ended (writes_of o) told after) (sym h.2) (makes pairs h.0 told after ended (ends h.0 h.1) same);
  names = λ folder is. inl same;
  keeps = keeps told after ended same;
  diverges = done;
  counted = counted;
  asks = λ folder is. asks;
  asks_all = λ folder is. asks_all;
  cause = cause;
}

-- ---- the parts of the call

pub not_read : (pairs : List Pair) (told : Option Folder) (e : StopCause) → RefusesPairs pairs told e → WhenTold told (λ folder. Ends pairs folder (Err e))
not_read pairs told e none folder is = stops_too folder pairs e (none folder is)

made_ends : (pairs : List Pair) (folder : Folder) (ls : List Loaded) (start : List Replaying) (ended : Result WorkText StopCause) → schedule_outcome pairs folder ≡ unless_incomplete pairs ls start
    → MatchResult ended (IsScheduleText pairs ls start) (StopsAsCause (unless_incomplete pairs ls start)) → Ends pairs folder ended
made_ends pairs folder ls start (Ok (answered.Done text)) same is = same ∙ is
made_ends pairs folder ls start (Ok (answered.Diverged text)) same is = is
made_ends pairs folder ls start (Err e) same is = subst (λ (o : CommandOutcome). StopsAsCause o e) (sym same) is

pub was_made : (pairs : List Pair) (told : Option Folder) (all : List LoadedFiles) (start : List Replaying) (ended : Result WorkText StopCause) → LoadsFiles pairs told all → OpensReplays pairs told start
    → ((ls : List Loaded) → AreLoadedPairs all ls → MatchResult ended (IsScheduleText pairs ls start) (StopsAsCause (unless_incomplete pairs ls start))) → WhenTold told (λ folder. Ends pairs folder ended)
was_made pairs told all start ended loaded begun made folder is =
    let l = loaded folder is in
    let o = opened folder pairs l.0 start l.1.0 (begun folder is) in
    made_ends pairs folder l.0 start ended o.outcome (made l.0 l.1.1)

pub not_diverged : (pairs : List Pair) (all : List LoadedFiles) (start : List Replaying) (ended : Result WorkText StopCause) → (ls : List Loaded) → AreLoadedPairs all ls
    → MatchResult ended (IsScheduleText pairs ls start) (StopsAsCause (unless_incomplete pairs ls start)) → DivergesOnlyIf false ended
not_diverged pairs all start (Ok (answered.Done text)) ls are is = tt
not_diverged pairs all start (Ok (answered.Diverged text)) ls are is = absurd is
not_diverged pairs all start (Err e) ls are is = tt
