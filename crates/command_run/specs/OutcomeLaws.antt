-- What follows from an outcome by computing, which crates above need too.
use Rattle.std.specs.Prelude.{◌≡◌, ℕ, List, [], length, option_map, Option, Some, None, IfSome, Result, Ok, Err, IfErr, false}
use Rattle.std.specs.Io.KnownBytes.{append_known}
use Rattle.std.proofs.Common.{refl, sym, ap, subst, ◌∙◌}
use Rattle.std.proofs.Math.Seq.{take-length}
use Rattle.std.proofs.lemmas.Option.{same_Some}
use Rattle.fri_outside.specs.Outside.{Folder, WhenTold}
use Rattle.fri_outside.specs.Several.{with_files}
use Rattle.command_run.specs.declared.status.Status.{Status}
use Rattle.command_run.specs.declared.refusal.StopCause.{StopCause}
use Rattle.command_run.specs.declared.refusal.StopCause.TheVariants as refusal
use Rattle.command_run.specs.Call.{LeavesFiles, MakesWholeFiles, MakesWorkFiles, PrintsText, StopsAsCause, TellsOutcome}
use Rattle.command_run.specs.FileLaws.{same_changes}
use Rattle.command_run.specs.Outcome.{CommandOutcome, CommandStop, and_then, writes_of}

-- ---- values of results

abbrev pub ok_value_or : {A E : Type 0} → A → Result A E → A
ok_value_or default (Ok value) = value
ok_value_or default (Err e) = default

pub same_Ok_value : {A E : Type 0} (r : Result A E) (x y : A) → r ≡ Ok x → r ≡ Ok y → x ≡ y
same_Ok_value r x y one other = ap (ok_value_or x) (sym one ∙ other)

-- a value came of a first value
pub record ComesOfResult {A B : Type 0} (first : Result A CommandStop) (next : A → Result B CommandStop) (value : B) : Type 0 where
  pub given : A
  pub is_given : first ≡ Ok given
  pub comes : next given ≡ Ok value

pub result_follows : {A B : Type 0} (first : Result A CommandStop) (next : A → Result B CommandStop) (value : B) → and_then first next ≡ Ok value → ComesOfResult first next value
result_follows (Ok given) next value is = record { given = given; is_given = refl; comes = is }
result_follows {B = B} (Err stop) next value is = absurd (subst (λ (r : Result B CommandStop). IfErr r (λ _. ⊥)) (sym is) tt)

-- what stops at first stops
pub stops_before_next : {A B : Type 0} (r : Result A CommandStop) (next : A → Result B CommandStop) (e : StopCause) → StopsAsCause r e → StopsAsCause (and_then r next) e
stops_before_next r next (refusal.Refused file why) is = ap (λ r. and_then r next) is
stops_before_next r next (refusal.Absent file) is = ap (λ r. and_then r next) is
stops_before_next r next refusal.ReadFault is = tt
stops_before_next r next refusal.WriteFault is = tt
stops_before_next r next refusal.NoMemory is = tt

-- ---- what a refusal tells

-- a refusal that a command stops at tells its outcome, and no file was to be made
pub stops_tell_outcome : (o : CommandOutcome) (e : StopCause) → StopsAsCause o e → TellsOutcome o (Err e)
stops_tell_outcome o (refusal.Refused file why) is = (record { text = []; writes = []; diverged = false }, is, refl)
stops_tell_outcome o (refusal.Absent file) is = is
stops_tell_outcome o refusal.ReadFault is = tt
stops_tell_outcome o refusal.WriteFault is = tt
stops_tell_outcome o refusal.NoMemory is = tt

pub stops_make_files : (o : CommandOutcome) (e : StopCause) (before after : Option Folder) → StopsAsCause o e → after ≡ before → MakesWorkFiles (Err e) (writes_of o) before after
stops_make_files o (refusal.Refused file why) before after is same = same ∙ sym (ap (λ f. with_files f before) (ap writes_of is))
stops_make_files o (refusal.Absent file) before after is same = same ∙ sym (ap (λ f. with_files f before) (ap writes_of is))
stops_make_files o refusal.ReadFault before after is same = same_changes before after (writes_of o) same
stops_make_files o refusal.WriteFault before after is same = same_changes before after (writes_of o) same
stops_make_files o refusal.NoMemory before after is same = same_changes before after (writes_of o) same

-- the outcome of a command over a folder that is told
pub outcome_when_told : (f : Folder → CommandOutcome) (told : Option Folder) (o : CommandOutcome) → option_map f told ≡ Some o → (folder : Folder) × (told ≡ Some folder) × (o ≡ f folder)
outcome_when_told f None o e = absurd (subst (λ (t : Option CommandOutcome). IfSome t (λ _. ⊥)) e tt)
outcome_when_told f (Some folder) o e = (folder, refl, sym (same_Some _ _ e))

-- the same of what is refused over a folder that may be told
pub refused_tells : (f : Folder → CommandOutcome) (told : Option Folder) (e : StopCause) → WhenTold told (λ folder. StopsAsCause (f folder) e) → (o : CommandOutcome) → option_map f told ≡ Some o → TellsOutcome o (Err e)
refused_tells f told e stops o is =
    let h = outcome_when_told f told o is in
    subst (λ (o : CommandOutcome). TellsOutcome o (Err e)) (sym h.2) (stops_tell_outcome (f h.0) e (stops h.0 h.1))

pub refused_makes : (f : Folder → CommandOutcome) (told after : Option Folder) (e : StopCause) → WhenTold told (λ folder. StopsAsCause (f folder) e) → after ≡ told → (o : CommandOutcome) → option_map f told ≡ Some o → MakesWorkFiles (Err e) (writes_of o) told after
refused_makes f told after e stops same o is =
    let h = outcome_when_told f told o is in
    subst (λ (o : CommandOutcome). MakesWorkFiles (Err e) (writes_of o) told after) (sym h.2) (stops_make_files (f h.0) e told after (stops h.0 h.1) same)

-- the same where each file is made whole
stops_make_whole : (o : CommandOutcome) (e : StopCause) (before after : Option Folder) → StopsAsCause o e → after ≡ before → MakesWholeFiles (Err e) (writes_of o) before after
stops_make_whole o (refusal.Refused file why) before after is same = same ∙ sym (ap (λ f. with_files f before) (ap writes_of is))
stops_make_whole o (refusal.Absent file) before after is same = same ∙ sym (ap (λ f. with_files f before) (ap writes_of is))
stops_make_whole o refusal.ReadFault before after is same = (0, same)
stops_make_whole o refusal.WriteFault before after is same = (0, same)
stops_make_whole o refusal.NoMemory before after is same = (0, same)

pub refused_makes_whole : (f : Folder → CommandOutcome) (told after : Option Folder) (e : StopCause) → WhenTold told (λ folder. StopsAsCause (f folder) e) → after ≡ told → (o : CommandOutcome) → option_map f told ≡ Some o → MakesWholeFiles (Err e) (writes_of o) told after
refused_makes_whole f told after e stops same o is =
    let h = outcome_when_told f told o is in
    subst (λ (o : CommandOutcome). MakesWholeFiles (Err e) (writes_of o) told after) (sym h.2) (stops_make_whole (f h.0) e told after (stops h.0 h.1) same)

-- ---- texts

-- the whole text, which is also its longest front
pub prints_all : (answer : Status) (text given : List ℕ) (before after : Option (List ℕ)) → given ≡ text → after ≡ append_known before given → PrintsText answer text before after
prints_all answer text given before after same e =
    let whole : after ≡ append_known before text = e ∙ ap (append_known before) same in
    record { whole = λ _. whole; part = (length text, whole ∙ ap (append_known before) (sym (take-length text))) }

-- ---- files

-- the files, where none of them was made and none was to be made
pub no_file_left : (answer : Status) (outcome : CommandOutcome) (before after : Option Folder) → writes_of outcome ≡ [] → after ≡ before → LeavesFiles answer (writes_of outcome) before after
no_file_left answer outcome before after none same = record {
  whole = λ _. same ∙ ap (λ w. with_files w before) (sym none);
  part = same_changes before after (writes_of outcome) same;
}
