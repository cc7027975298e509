-- The outcome of the drill, where its work is done and where memory runs out.
use Rattle.std.proofs.Common.{◌≡◌, ℕ, false, List, [], Option, Some, Result, Ok, Err, refl, subst, sym, inl}
use Rattle.std.specs.Prelude.{IsErrAnd}
use Rattle.std.proofs.lemmas.Option.{same_Some}
use Rattle.fri_outside.specs.Outside.{Counts, Folder}
use Rattle.command_run.specs.declared.refusal.WorkText.{WorkText}
use Rattle.command_run.specs.declared.refusal.WorkText.TheVariants as answered
use Rattle.command_run.specs.declared.refusal.StopCause.{StopCause}
use Rattle.command_run.specs.declared.refusal.StopCause.TheVariants as refusal
use Rattle.command_run.specs.AskedLaws.{asks_none, begins_asking}
use Rattle.command_run.specs.Call.{MakesWorkFiles, TellsOutcome}
use Rattle.command_run.specs.Outcome.{CommandOutcome, writes_of}
use Rattle.command_run.specs.OutcomeLaws.{stops_make_files, stops_tell_outcome}
use Rattle.command_run.specs.Run.{PerformedCommand, expectation, file_state}
use Rattle.drill_command.specs.Drill.{drill_outcome, drill_run, drill_work}

abbrev pub Performs : ℕ → Result WorkText StopCause → Type 0
Performs rounds ended = (told : Option Folder) (counts : Counts) → PerformedCommand (expectation (Some (drill_outcome rounds)) (λ folder. []) (λ folder. []) false) (file_state told counts) (file_state told counts) ended

-- what is said of its outcome is said of the one that is expected
at_outcome : (rounds : ℕ) (P : CommandOutcome → Type 0) → P (drill_outcome rounds) → (o : CommandOutcome) → Some (drill_outcome rounds) ≡ Some o → P o
at_outcome rounds P so o is = subst P (same_Some (drill_outcome rounds) o is) so

pub done_performs : (rounds : ℕ) (text : List ℕ) → text ≡ (drill_work rounds (drill_run rounds)).text → Performs rounds (Ok (answered.Done text))
done_performs rounds text is told counts = record {
  tells = at_outcome rounds (λ o. TellsOutcome o (Ok (answered.Done text))) (drill_work rounds (drill_run rounds), refl, is, refl);
  makes = at_outcome rounds (λ o. MakesWorkFiles (Ok (answered.Done text)) (writes_of o) told told) refl;
  names = λ folder here. inl refl;
  keeps = tt;
  diverges = tt;
  counted = record { reads = refl; writes = refl; misses = refl };
  asks = λ folder here. begins_asking _ counts counts refl;
  asks_all = λ folder here. asks_none counts counts refl;
  cause = tt;
}

stop_performs : (rounds : ℕ) → Performs rounds (Err refusal.NoMemory)
stop_performs rounds told counts = record {
  tells = at_outcome rounds (λ o. TellsOutcome o (Err refusal.NoMemory)) (stops_tell_outcome (drill_outcome rounds) refusal.NoMemory tt);
  makes = at_outcome rounds (λ o. MakesWorkFiles (Err refusal.NoMemory) (writes_of o) told told) (stops_make_files (drill_outcome rounds) refusal.NoMemory told told tt refl);
  names = λ folder here. inl refl;
  keeps = tt;
  diverges = tt;
  counted = record { reads = refl; writes = refl; misses = inl refl };
  asks = λ folder here. begins_asking _ counts counts refl;
  asks_all = λ folder here. tt;
  cause = tt;
}

pub stops_perform : (rounds : ℕ) (ended : Result WorkText StopCause) → IsErrAnd ended (λ e. e ≡ refusal.NoMemory) → Performs rounds ended
stops_perform rounds (Ok text) none = absurd none
stops_perform rounds (Err e) none = subst (λ (stop : StopCause). Performs rounds (Err stop)) (sym none) (stop_performs rounds)
