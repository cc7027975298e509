-- What a command that makes no file did, from what it read and printed.
use Rattle.std.proofs.Common.{◌≡◌, ◌∙◌, ℕ, false, List, [], Option, Some, option_map, Result, Ok, Err, ap, inl, refl, subst, sym}
use Rattle.fri_outside.specs.Outside.{Counts, Folder, WhenTold}
use Rattle.proc_replay.specs.Replaying.{Replaying}
use Rattle.command_run.specs.declared.refusal.WorkText.{WorkText}
use Rattle.command_run.specs.declared.refusal.WorkText.TheVariants as answered
use Rattle.command_run.specs.declared.refusal.StopCause.{StopCause}
use Rattle.command_run.specs.declared.refusal.StopCause.TheVariants as refusal
use Rattle.command_run.specs.Call.{CountsFaults, KeepsFolder, MakesWorkFiles, RaisesCount, StopsAsCause}
use Rattle.command_run.specs.Outcome.{CommandOutcome, CommandStop, and_then, writes_of}
use Rattle.command_run.specs.OutcomeLaws.{outcome_when_told, refused_makes, refused_tells, stops_before_next}
use Rattle.command_run.specs.Asked.{AsksAll, AsksFirst}
use Rattle.command_run.specs.AskedLaws.{all_are_first}
use Rattle.command_run.specs.Run.{PerformedCommand, expectation, file_state}
use Rattle.log_pairs.specs.Pairs.{RefusesPairs, Pair, OpensReplays, pair_inputs, replays_of_pairs}
use Rattle.streams_command.specs.Streams.{streams_outcome, work_of_streams}

-- ---- no text

keeps : (before after : Option Folder) (e : StopCause) → after ≡ before → KeepsFolder (Err e) before after
keeps before after (refusal.Absent file) same = same
keeps before after refusal.ReadFault same = same
keeps before after (refusal.Refused file why) same = tt
keeps before after refusal.WriteFault same = tt
keeps before after refusal.NoMemory same = tt

-- no replays, no streams
pub stops_too : (pairs : List Pair) (told : Option Folder) (e : StopCause) → RefusesPairs pairs told e → WhenTold told (λ folder. StopsAsCause (streams_outcome pairs folder) e)
stops_too pairs told e none folder is = stops_before_next (replays_of_pairs folder pairs) _ e (none folder is)

pub stopped : (pairs : List Pair) (told after : Option Folder) (counts counts_after : Counts) (e : StopCause) → WhenTold told (λ folder. StopsAsCause (streams_outcome pairs folder) e) → after ≡ told
    → CountsFaults {T = WorkText} counts counts_after (Err e) → AsksFirst (pair_inputs pairs) counts counts_after → RaisesCount counts counts_after e
    → PerformedCommand (expectation (option_map (streams_outcome pairs) told) (λ folder. []) (λ folder. pair_inputs pairs) false) (file_state told counts) (file_state after counts_after) (Err e)
stopped pairs told after counts counts_after e stops same counted asks cause = record {
  tells = refused_tells (streams_outcome pairs) told e stops;
  makes = refused_makes (streams_outcome pairs) told after e stops same;
  names = λ folder is. inl same;
  keeps = keeps told after e same;
  diverges = tt;
  counted = counted;
  asks = λ folder is. asks;
  asks_all = λ folder is. tt;
  cause = cause;
}

-- ---- the text

works : (pairs : List Pair) (told : Option Folder) (start : List Replaying) → OpensReplays pairs told start → (o : CommandOutcome) → option_map (streams_outcome pairs) told ≡ Some o → o ≡ Ok (work_of_streams start)
works pairs told start opened o is =
    let h = outcome_when_told (streams_outcome pairs) told o is in
    h.2 ∙ ap (λ (r : Result (List Replaying) CommandStop). and_then r (λ start. Ok (work_of_streams start))) (opened h.0 h.1)

pub finished : (pairs : List Pair) (told after : Option Folder) (counts counts_after : Counts) (start : List Replaying) (text : List ℕ) → OpensReplays pairs told start → text ≡ (work_of_streams start).text → after ≡ told
    → CountsFaults {T = WorkText} counts counts_after (Ok (answered.Done text)) → AsksAll (pair_inputs pairs) counts counts_after
    → PerformedCommand (expectation (option_map (streams_outcome pairs) told) (λ folder. []) (λ folder. pair_inputs pairs) false) (file_state told counts) (file_state after counts_after) (Ok (answered.Done text))
finished pairs told after counts counts_after start text opened is same counted asks = record {
  tells = λ o at. (work_of_streams start, works pairs told start opened o at, is, refl);
  makes = λ o at. subst (λ (o : CommandOutcome). MakesWorkFiles (Ok (answered.Done text)) (writes_of o) told after) (sym (works pairs told start opened o at)) same;
  names = λ folder at. inl same;
  keeps = tt;
  diverges = tt;
  counted = counted;
  asks = λ folder at. all_are_first _ _ _ asks;
  asks_all = λ folder at. asks;
  cause = tt;
}
