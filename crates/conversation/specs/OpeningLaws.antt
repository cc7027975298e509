-- What follows for a command that opens a conversation, from what it read and what its session said: crates above need it.
use Rattle.std.specs.Prelude.{⊤, ◌≡◌, ◌⊎◌, ℕ, Bool, true, false, List, [], Option, Some, None, option_and_then, option_map, Result, Ok, Err}
use Rattle.std.proofs.Common.{cond, refl, sym, ap, subst, ◌∙◌, inl, inr}
use Rattle.std.proofs.lemmas.Option.{same_Some}
use Rattle.fri_outside.specs.Outside.{CountRose, Folder, WhenTold}
use Rattle.fri_outside.specs.Several.{with_files}
use Rattle.fri_text.specs.Line.{lines_of}
use Rattle.command_run.specs.declared.status.Status.{Status}
use Rattle.command_run.specs.declared.status.Status.TheVariants as ends
use Rattle.command_run.specs.declared.refusal.Reason.{Reason}
use Rattle.command_run.specs.declared.refusal.Reason.TheVariants as reason
use Rattle.command_run.specs.declared.refusal.StopCause.{StopCause}
use Rattle.command_run.specs.declared.refusal.StopCause.TheVariants as refusal
use Rattle.command_run.specs.Call.{CountsFaults, IsAnswerStatus, KeepsFolder, PrintsText, PrintsRefusal, RaisesCount, StopsAsCause, failed_says_after, misses_of_refusal}
use Rattle.command_run.specs.Asked.{AsksAll, AsksFirst}
use Rattle.command_run.specs.AskedLaws.{all_are_first}
use Rattle.command_run.specs.CountLaws.{counted_faults, counts_of_part, unmissed}
use Rattle.command_run.specs.FileLaws.{same_others}
use Rattle.command_run.specs.Outcome.{CommandOutcome, CommandStop, CommandWork, Refuses, outcome_status, outcome_text, writes_of}
use Rattle.command_run.specs.OutcomeLaws.{no_file_left, stops_make_files, stops_tell_outcome}
use Rattle.command_run.specs.Run.{TellsFaults, FinishedCommand, Outside, PerformedCommand, expectation, file_state}
use Rattle.conversation.specs.Conversing.{Converses, IsNoSessionStatus, TerminalState, heard_after}
use Rattle.conversation.specs.Lines.{early_lines}
use Rattle.conversation.specs.Opening.{Opener, OpenedRun, OpensAs, opened_expected, opened_outcome}
use Rattle.conversation.specs.Outcome.{conversation_outcome, input_name, is_large_input, spoken_work}
use Rattle.conversation.specs.Talker.{Talker, spoken_text}

-- by whether the input is too large
abbrev pub spoken_if : Bool → List ℕ → List ℕ → CommandOutcome
spoken_if large early whole = cond large (Err (Refuses input_name reason.TooLarge (spoken_work early))) (Ok (spoken_work whole))

makes_none : (large : Bool) (early whole : List ℕ) → writes_of (spoken_if large early whole) ≡ []
makes_none true early whole = refl
makes_none false early whole = refl

was_large : (large : Bool) (early whole : List ℕ) → ends.Refused ≡ outcome_status (spoken_if large early whole) → large ≡ true
was_large true early whole is = refl
was_large false early whole is = cc

-- an input that is not too large is answered whole
pub within_input : {S : Type 0} (talker : Talker S) (input : List ℕ) → is_large_input talker input ≡ false → conversation_outcome talker input ≡ Ok (spoken_work (spoken_text talker (lines_of input)))
within_input talker input within = ap (λ (large : Bool). spoken_if large (spoken_text talker (early_lines input)) (spoken_text talker (lines_of input))) within

-- what opens, over an input within the limit, has an outcome that is work
pub opened_works : {A S : Type 0} (opener : Opener A S) (folder : Folder) (opened : A) (left : Option (List ℕ)) (input : List ℕ) → opener.opens folder ≡ Ok opened → left ≡ Some input → is_large_input (opener.talker opened) input ≡ false
    → (work : CommandWork) × (opened_outcome opener (opener.opens folder) left ≡ Some (Ok work))
opened_works {A = A} opener folder opened left input opens told within = (
  spoken_work (spoken_text (opener.talker opened) (lines_of input)),
  ap (λ (r : Result A CommandStop). opened_outcome opener r left) opens
      ∙ ap (option_map (λ input. conversation_outcome (opener.talker opened) input)) told
      ∙ ap (λ (o : CommandOutcome). Some o) (within_input (opener.talker opened) input within),
)

-- ---- nothing was opened

-- the outcome is the stop in its place
stop_is : {A S : Type 0} (opener : Opener A S) (r : Result A CommandStop) (left : Option (List ℕ)) (o : CommandOutcome) (stop : CommandStop) → r ≡ Err stop → opened_outcome opener r left ≡ Some o → o ≡ Err stop
stop_is {A = A} opener r left o stop is here = sym (same_Some _ _ (sym (ap (λ (r : Result A CommandStop). opened_outcome opener r left) is) ∙ here))

stops_as : {A S : Type 0} (opener : Opener A S) (r : Result A CommandStop) (left : Option (List ℕ)) (o : CommandOutcome) (e : StopCause) → StopsAsCause r e → opened_outcome opener r left ≡ Some o → StopsAsCause o e
stops_as opener r left o (refusal.Refused file why) is here = stop_is opener r left o _ is here
stops_as opener r left o (refusal.Absent file) is here = stop_is opener r left o _ is here
stops_as opener r left o refusal.ReadFault is here = tt
stops_as opener r left o refusal.WriteFault is here = tt
stops_as opener r left o refusal.NoMemory is here = tt

refused_stops : {A S : Type 0} (opener : Opener A S) (told : Option Folder) (left : Option (List ℕ)) (e : StopCause) → WhenTold told (λ folder. StopsAsCause (opener.opens folder) e)
    → (o : CommandOutcome) → option_and_then (λ folder. opened_outcome opener (opener.opens folder) left) told ≡ Some o → StopsAsCause o e
refused_stops opener None left e stops o here = cc
refused_stops opener (Some folder) left e stops o here = stops_as opener (opener.opens folder) left o e (stops folder refl) here

-- its result is told so
pub opening_performed : {A S : Type 0} (opener : Opener A S) (e : StopCause) (old new : Outside) → WhenTold old.told (λ folder. StopsAsCause (opener.opens folder) e) → RaisesCount old.counts new.counts e
    → CountsFaults {T = ⊤} old.counts new.counts (Err e)
    → WhenTold old.told (λ folder. AsksFirst (opener.inputs folder) old.counts new.counts)
    → new.told ≡ old.told
    → PerformedCommand (expectation (opened_expected opener old) (λ folder. []) opener.inputs false) (file_state old.told old.counts) (file_state new.told new.counts) (Err e)
opening_performed opener e old new stops cause counts asks same = record {
  tells = λ o here. stops_tell_outcome o e (refused_stops opener old.told old.hearing.left e stops o here);
  makes = λ o here. stops_make_files o e old.told new.told (refused_stops opener old.told old.hearing.left e stops o here) same;
  names = λ folder here. inl same;
  keeps = keeps e;
  diverges = tt;
  counted = counts_of_part old.counts new.counts e counts;
  asks = asks;
  asks_all = λ folder here. tt;
  cause = cause;
} where
  keeps : (e : StopCause) → KeepsFolder (Err e) old.told new.told
  keeps (refusal.Refused file why) = tt
  keeps (refusal.Absent file) = same
  keeps refusal.ReadFault = same
  keeps refusal.WriteFault = tt
  keeps refusal.NoMemory = tt

-- an input is not what is too large
other_refusal : {Large : List ℕ → Reason → Type 0} (old new : Outside) → PrintsRefusal old.taken new.taken (λ file why. new.counts.misses ≡ misses_of_refusal why old.counts.misses)
    → PrintsRefusal old.taken new.taken (λ file why. (new.counts.misses ≡ misses_of_refusal why old.counts.misses) ⊎ Large file why)
other_refusal old new (earlier, file, (why, is, cause)) = (earlier, file, (why, is, inl cause))

pub run_unopened : {A S : Type 0} (opener : Opener A S) (e : StopCause) (answer : Status) (old new : Outside)
    → FinishedCommand (expectation (opened_expected opener old) (λ folder. []) opener.inputs false) (Err e) old new answer → OpenedRun opener old new answer
run_unopened opener e answer old new f = record {
  call = f.call;
  is_command = f.is_command;
  no_divergence = λ is. let never = f.diverged is in cc;
  asks = f.asks;
  promises = record {
    input = inl (f.input.unheard, λ is. let never = f.done is in cc);
    answered = λ is quiet. absurd (quiet (f.input.read is));
    refused = λ is. other_refusal old new (f.input.refused is);
  };
}

-- ---- a session was held

-- its outcome, if the input is told
record IsSpoken {S : Type 0} (talker : Talker S) (left : Option (List ℕ)) (o : CommandOutcome) : Type 0 where
  input : List ℕ
  told : left ≡ Some input
  outcome : o ≡ conversation_outcome talker input

spoken_by : {S : Type 0} (talker : Talker S) (left : Option (List ℕ)) (o : CommandOutcome) → option_map (λ input. conversation_outcome talker input) left ≡ Some o → IsSpoken talker left o
spoken_by talker None o here = cc
spoken_by talker (Some input) o here = record { input = input; told = refl; outcome = sym (same_Some _ _ here) }

is_spoken : {A S : Type 0} (opener : Opener A S) (told : Option Folder) (left : Option (List ℕ)) (opened : A) → OpensAs opener told opened
    → (o : CommandOutcome) → option_and_then (λ folder. opened_outcome opener (opener.opens folder) left) told ≡ Some o → IsSpoken (opener.talker opened) left o
is_spoken opener None left opened was o here = cc
is_spoken {A = A} opener (Some folder) left opened was o here =
    spoken_by (opener.talker opened) left o (sym (ap (λ (r : Result A CommandStop). opened_outcome opener r left) (was folder refl)) ∙ here)

speech_makes_none : {S : Type 0} (talker : Talker S) (left : Option (List ℕ)) (o : CommandOutcome) → IsSpoken talker left o → writes_of o ≡ []
speech_makes_none talker left o s = ap writes_of s.outcome ∙ makes_none (is_large_input talker s.input) (spoken_text talker (early_lines s.input)) (spoken_text talker (lines_of s.input))

conversed_faults : (answer : Status) (old new : Outside) → new.counts.reads ≡ old.counts.reads → new.counts.writes ≡ old.counts.writes
    → new.hearing.faults ≡ heard_after old.hearing.faults answer → new.out_faults ≡ failed_says_after old.out_faults answer → TellsFaults answer old new
conversed_faults ends.Done old new reads writes h s = counted_faults new _ _ _ _ reads writes h s
conversed_faults ends.Diverged old new reads writes h s = counted_faults new _ _ _ _ reads writes h s
conversed_faults ends.Usage old new reads writes h s = counted_faults new _ _ _ _ reads writes h s
conversed_faults ends.Refused old new reads writes h s = counted_faults new _ _ _ _ reads writes h s
conversed_faults ends.Absent old new reads writes h s = counted_faults new _ _ _ _ reads writes h s
conversed_faults ends.ReadFault old new reads writes h s = inr (counted_faults new _ _ _ _ reads writes h s)
conversed_faults ends.WriteFault old new reads writes h s = inr (counted_faults new _ _ _ _ reads writes h s)
conversed_faults ends.NoMemory old new reads writes h s = counted_faults new _ _ _ _ reads writes h s

-- the terminal of what is handed in
abbrev pub terminal_of : Outside → TerminalState
terminal_of o = record { hearing = o.hearing; taken = o.taken; faults = o.out_faults }

pub run_conversed : {A S : Type 0} (opener : Opener A S) (opened : A) (answer : Status) (old new : Outside) → OpensAs opener old.told opened
    → Converses (opener.talker opened) (terminal_of old) (terminal_of new) answer
    → new.told ≡ old.told → CountsFaults {T = ⊤} old.counts new.counts (Ok tt)
    → WhenTold old.told (λ folder. AsksAll (opener.inputs folder) old.counts new.counts)
    → OpenedRun opener old new answer
run_conversed {S = S} opener opened answer old new was c same counts asks = record {
  call = record {
    status = λ o e h. let s = said o e in c.ended s.input s.told h ∙ ap outcome_status (sym s.outcome);
    text = λ o e. let s = said o e in subst (λ (o : CommandOutcome). PrintsText answer (outcome_text o) old.taken new.taken) (sym s.outcome) (c.text s.input s.told);
    files = λ o e. no_file_left answer o old.told new.told (speech_makes_none talker old.hearing.left o (said o e)) same;
    others = same_others _ _ _ same;
    idle = λ _. same;
    prints_last = λ o e. inr (made o e);
    faults = conversed_faults answer old new counts.reads counts.writes c.reads c.writes;
    misses = unmissed old.counts.misses new.counts.misses answer counts.misses (λ is. absurd (c.other (subst IsNoSessionStatus (sym is) tt)));
    absent_text = λ is. absurd (c.other (subst IsNoSessionStatus (sym is) tt));
    out_fault = λ o e is. inr (made o e);
  };
  is_command = λ is. absurd (c.other (subst IsNoSessionStatus (sym is) tt));
  no_divergence = λ is. absurd (c.other (subst IsNoSessionStatus (sym is) tt));
  asks = λ folder told. record { first = all_are_first _ _ _ (asks folder told); all = λ work. asks folder told };
  promises = record {
    input = inr (record { opened = opened; opens_as = was; read = c.input; turns = c.turns });
    answered = λ is quiet. (opened, (was, c.answered is));
    refused = λ is. let s = c.refused is in (s.0, input_name, (reason.TooLarge, s.1, inr (refl, (counts.misses, (refl, (opened, (was, large is)))))));
  };
} where
  talker : Talker S
  talker = opener.talker opened

  said : (o : CommandOutcome) → opened_expected opener old ≡ Some o → IsSpoken talker old.hearing.left o
  said o e = is_spoken opener old.told old.hearing.left opened was o e

  made : (o : CommandOutcome) → opened_expected opener old ≡ Some o → new.told ≡ with_files (writes_of o) old.told
  made o e = same ∙ ap (λ (files : List (List ℕ × List ℕ)). with_files files old.told) (sym (speech_makes_none talker old.hearing.left o (said o e)))

  large : answer ≡ ends.Refused → WhenTold old.hearing.left (λ input. is_large_input talker input ≡ true)
  large is input told =
      was_large (is_large_input talker input) (spoken_text talker (early_lines input)) (spoken_text talker (lines_of input)) (sym is ∙ c.ended input told (subst IsAnswerStatus (sym is) tt))
