-- The outcome of a command's result, once its text is printed.
use Rattle.std.proofs.Common.{◌≡◌, ◌≢◌, ◌⊎◌, ◌++◌, OnOk, ℕ, List, [], Bool, IsTrue, Option, Some, Result, Ok, Err, IfSome, IfNone, refl, sym, ap, subst, ◌∙◌, inl, inr, IfErr, arith, cond, string_bytes}
use Rattle.std.specs.Result.{IsOk}
use Rattle.std.proofs.lemmas.Grind.{common_steps}
use Rattle.std.proofs.lemmas.Option.{same_Some}
use Rattle.fri_outside.specs.Outside.{Folder, Counts, CountRose, raised_count}
use Rattle.fri_outside.specs.Terminal.{Hearing}
use Rattle.fri_outside.specs.Several.{with_files}
use Rattle.command_run.specs.declared.status.Status.{Status}
use Rattle.command_run.specs.declared.status.Status.TheVariants as ends
use Rattle.command_run.specs.declared.refusal.WorkText.{WorkText}
use Rattle.command_run.specs.declared.refusal.WorkText.TheVariants as answered
use Rattle.command_run.specs.declared.refusal.StopCause.{StopCause}
use Rattle.command_run.specs.declared.refusal.StopCause.TheVariants as refusal
use Rattle.command_run.specs.Outcome.{CommandOutcome, NotACommand, refused_line, usage_line, outcome_status, outcome_text, writes_of}
use Rattle.command_run.specs.Asked.{IsWorkStatus}
use Rattle.command_run.specs.declared.refusal.Reason.TheVariants as reason
use Rattle.command_run.specs.Run.{CallEnds, TellsFaults, TellsMisses, FinishedCommand, Outside, PerformedCommand, expectation, file_state}
use Rattle.command_run.specs.Call.{CountsFaults, DivergesOnlyIf, IsAnswerResult, IsAnswerStatus, LeavesFiles, MakesWorkFiles, PrintsText, PrintsAbsent, PrintsAfterFiles, PrintsRefusal, RaisesCount, TellsOutcome, failed_says_after, misses_of_refusal}
use Rattle.command_run.specs.inside.Finishing.{FaultStatus, FinishesCall, status_and_text, output_state, prints_none}
use Rattle.command_run.specs.CountLaws.{counted_faults, unmissed}
use Rattle.command_run.specs.FileLaws.{same_changes, same_others}
use Rattle.command_run.specs.OutcomeLaws.{no_file_left}
use Rattle.command_run.proofs.MadeFiles.{all_changes, makes_others}

text_ends : (ended : Result WorkText StopCause) (answer : Status) (outcome : CommandOutcome) (before after : Option (List ℕ))
    → TellsOutcome outcome ended
    → IfSome (status_and_text ended) (λ a. PrintsText answer a.1 before after)
    → IfNone (status_and_text ended) (after ≡ before)
    → FaultStatus ended answer
    → PrintsText answer (outcome_text outcome) before after
text_ends (Ok (answered.Done text)) answer outcome before after (work, is, same, diverged) prints silent fault =
    subst (λ t. PrintsText answer t before after) (same ∙ sym (ap outcome_text is)) prints
text_ends (Ok (answered.Diverged text)) answer outcome before after (work, is, same, diverged) prints silent fault =
    subst (λ t. PrintsText answer t before after) (same ∙ sym (ap outcome_text is)) prints
text_ends (Err (refusal.Refused file why)) answer outcome before after (done, is, none) prints silent fault =
    subst (λ t. PrintsText answer t before after) (ap (λ t. t ++ refused_line (string_bytes file) why) (sym none) ∙ sym (ap outcome_text is)) prints
text_ends (Err (refusal.Absent file)) answer outcome before after is prints silent fault =
    subst (λ o. PrintsText answer (outcome_text o) before after) (sym is) prints
text_ends (Err refusal.ReadFault) answer outcome before after is prints silent fault =
    prints_none answer _ before after (λ h. subst IsAnswerStatus fault h) silent
text_ends (Err refusal.WriteFault) answer outcome before after is prints silent fault =
    prints_none answer _ before after (λ h. subst IsAnswerStatus fault h) silent
text_ends (Err refusal.NoMemory) answer outcome before after is prints silent fault =
    prints_none answer _ before after (λ h. subst IsAnswerStatus fault h) silent

files_end : (ended : Result WorkText StopCause) (answer : Status) (files : List (List ℕ × List ℕ)) (before after : Option Folder)
    → MakesWorkFiles ended files before after
    → FaultStatus ended answer
    → LeavesFiles answer files before after
files_end (Ok given) answer files before after makes fault = record { whole = λ _. makes; part = all_changes files before after makes }
files_end (Err (refusal.Refused file why)) answer files before after makes fault = record { whole = λ _. makes; part = all_changes files before after makes }
files_end (Err (refusal.Absent file)) answer files before after makes fault = record { whole = λ _. makes; part = all_changes files before after makes }
files_end (Err refusal.ReadFault) answer files before after makes fault = record { whole = λ h. absurd (subst IsAnswerStatus fault h); part = makes }
files_end (Err refusal.WriteFault) answer files before after makes fault = record { whole = λ h. absurd (subst IsAnswerStatus fault h); part = makes }
files_end (Err refusal.NoMemory) answer files before after makes fault = record { whole = λ h. absurd (subst IsAnswerStatus fault h); part = makes }

refusal_ends : (ended : Result WorkText StopCause) (answer : Status) (before after : Option (List ℕ)) (old new : Counts)
    → IfSome (status_and_text ended) (λ a. IsAnswerStatus answer → answer ≡ a.0)
    → IfSome (status_and_text ended) (λ a. PrintsText answer a.1 before after)
    → FaultStatus ended answer
    → CountsFaults old new ended
    → answer ≡ ends.Refused
    → PrintsRefusal before after (λ file why. new.misses ≡ misses_of_refusal why old.misses)
refusal_ends (Ok (answered.Done text)) answer before after old new answers prints fault cause is =
    let e : ends.Refused ≡ ends.Done = sym is ∙ answers (subst IsAnswerStatus (sym is) tt) in cc
refusal_ends (Ok (answered.Diverged text)) answer before after old new answers prints fault cause is =
    let e : ends.Refused ≡ ends.Diverged = sym is ∙ answers (subst IsAnswerStatus (sym is) tt) in cc
refusal_ends (Err (refusal.Refused file why)) answer before after old new answers prints fault cause is =
    ([], (string_bytes file), (why, prints.whole (subst IsAnswerStatus (sym is) tt), cause.misses))
refusal_ends (Err (refusal.Absent file)) answer before after old new answers prints fault cause is =
    let e : ends.Refused ≡ ends.Absent = sym is ∙ answers (subst IsAnswerStatus (sym is) tt) in cc
refusal_ends (Err refusal.ReadFault) answer before after old new answers prints fault cause is = let e = sym is ∙ fault in cc
refusal_ends (Err refusal.WriteFault) answer before after old new answers prints fault cause is = let e = sym is ∙ fault in cc
refusal_ends (Err refusal.NoMemory) answer before after old new answers prints fault cause is = let e = sym is ∙ fault in cc

-- the status of a finished result
status_ends : (ended : Result WorkText StopCause) (answer : Status) (outcome : CommandOutcome)
    → TellsOutcome outcome ended
    → IfSome (status_and_text ended) (λ a. IsAnswerStatus answer → answer ≡ a.0)
    → FaultStatus ended answer
    → IsAnswerStatus answer
    → answer ≡ outcome_status outcome
status_ends (Ok (answered.Done text)) answer outcome (work, is, same, diverged) answers fault h =
    answers h ∙ ap (λ b. cond b ends.Diverged ends.Done) (sym diverged) ∙ sym (ap outcome_status is)
status_ends (Ok (answered.Diverged text)) answer outcome (work, is, same, diverged) answers fault h =
    answers h ∙ ap (λ b. cond b ends.Diverged ends.Done) (sym diverged) ∙ sym (ap outcome_status is)
status_ends (Err (refusal.Refused file why)) answer outcome (done, is, none) answers fault h = answers h ∙ sym (ap outcome_status is)
status_ends (Err (refusal.Absent file)) answer outcome is answers fault h = answers h ∙ sym (ap outcome_status is)
status_ends (Err refusal.ReadFault) answer outcome is answers fault h = absurd (subst IsAnswerStatus fault h)
status_ends (Err refusal.WriteFault) answer outcome is answers fault h = absurd (subst IsAnswerStatus fault h)
status_ends (Err refusal.NoMemory) answer outcome is answers fault h = absurd (subst IsAnswerStatus fault h)

-- at an answer a command reached its end
is_end : (ended : Result WorkText StopCause) (answer : Status) → FaultStatus ended answer → IsAnswerStatus answer → IsAnswerResult ended
is_end (Ok given) answer fault is = tt
is_end (Err (refusal.Refused file why)) answer fault is = tt
is_end (Err (refusal.Absent file)) answer fault is = tt
is_end (Err refusal.ReadFault) answer fault is = subst IsAnswerStatus fault is
is_end (Err refusal.WriteFault) answer fault is = subst IsAnswerStatus fault is
is_end (Err refusal.NoMemory) answer fault is = subst IsAnswerStatus fault is

-- the text of an absent file
absent_ends : (ended : Result WorkText StopCause) (answer : Status) (before after : Option (List ℕ))
    → IfSome (status_and_text ended) (λ a. IsAnswerStatus answer → answer ≡ a.0)
    → IfSome (status_and_text ended) (λ a. PrintsText answer a.1 before after)
    → FaultStatus ended answer
    → answer ≡ ends.Absent
    → PrintsAbsent before after
absent_ends (Ok (answered.Done text)) answer before after answers prints fault is = let e : ends.Absent ≡ ends.Done = sym is ∙ answers (subst IsAnswerStatus (sym is) tt) in cc
absent_ends (Ok (answered.Diverged text)) answer before after answers prints fault is = let e : ends.Absent ≡ ends.Diverged = sym is ∙ answers (subst IsAnswerStatus (sym is) tt) in cc
absent_ends (Err (refusal.Refused file why)) answer before after answers prints fault is = let e : ends.Absent ≡ ends.Refused = sym is ∙ answers (subst IsAnswerStatus (sym is) tt) in cc
absent_ends (Err (refusal.Absent file)) answer before after answers prints fault is = (string_bytes file, prints.whole (subst IsAnswerStatus (sym is) tt))
absent_ends (Err refusal.ReadFault) answer before after answers prints fault is = let e = sym is ∙ fault in cc
absent_ends (Err refusal.WriteFault) answer before after answers prints fault is = let e = sym is ∙ fault in cc
absent_ends (Err refusal.NoMemory) answer before after answers prints fault is = let e = sym is ∙ fault in cc

-- a text is printed where all files were made, and none where some were not
last_ends : (ended : Result WorkText StopCause) (files : List (List ℕ × List ℕ)) (printed printed_after : Option (List ℕ)) (before after : Option Folder)
    → MakesWorkFiles ended files before after
    → IfNone (status_and_text ended) (printed_after ≡ printed)
    → PrintsAfterFiles files printed printed_after before after
last_ends (Ok (answered.Done text)) files printed printed_after before after makes silent = inr makes
last_ends (Ok (answered.Diverged text)) files printed printed_after before after makes silent = inr makes
last_ends (Err (refusal.Refused file why)) files printed printed_after before after makes silent = inr makes
last_ends (Err (refusal.Absent file)) files printed printed_after before after makes silent = inr makes
last_ends (Err refusal.ReadFault) files printed printed_after before after makes silent = inl silent
last_ends (Err refusal.WriteFault) files printed printed_after before after makes silent = inl silent
last_ends (Err refusal.NoMemory) files printed printed_after before after makes silent = inl silent

-- a failed read was one of a file
reads_end : (ended : Result WorkText StopCause) (answer : Status) (old new : Counts)
    → IfSome (status_and_text ended) (λ _. answer ≢ ends.ReadFault)
    → FaultStatus ended answer
    → IfErr ended (RaisesCount old new)
    → answer ≡ ends.ReadFault
    → CountRose old.reads new.reads
reads_end (Ok (answered.Done text)) answer old new other fault cause is = absurd (other is)
reads_end (Ok (answered.Diverged text)) answer old new other fault cause is = absurd (other is)
reads_end (Err (refusal.Refused file why)) answer old new other fault cause is = absurd (other is)
reads_end (Err (refusal.Absent file)) answer old new other fault cause is = absurd (other is)
reads_end (Err refusal.ReadFault) answer old new other fault cause is = cause
reads_end (Err refusal.WriteFault) answer old new other fault cause is = let e = sym is ∙ fault in cc
reads_end (Err refusal.NoMemory) answer old new other fault cause is = let e = sym is ∙ fault in cc

-- ---- the counts of faults

-- a text was written, or its write failed, or memory ran out
pub said_faults : (answer : Status) (old new : Outside) → new.counts.reads ≡ old.counts.reads → new.counts.writes ≡ old.counts.writes → new.hearing ≡ old.hearing
    → new.out_faults ≡ failed_says_after old.out_faults answer → (answer ≢ ends.ReadFault) → TellsFaults answer old new
said_faults ends.Done old new r w h s other = counted_faults new _ _ _ _ r w (ap (λ (n : Hearing). n.faults) h) s
said_faults ends.Diverged old new r w h s other = counted_faults new _ _ _ _ r w (ap (λ (n : Hearing). n.faults) h) s
said_faults ends.Usage old new r w h s other = counted_faults new _ _ _ _ r w (ap (λ (n : Hearing). n.faults) h) s
said_faults ends.Refused old new r w h s other = counted_faults new _ _ _ _ r w (ap (λ (n : Hearing). n.faults) h) s
said_faults ends.Absent old new r w h s other = counted_faults new _ _ _ _ r w (ap (λ (n : Hearing). n.faults) h) s
said_faults ends.ReadFault old new r w h s other = absurd (other refl)
said_faults ends.WriteFault old new r w h s other = inr (counted_faults new _ _ _ _ r w (ap (λ (n : Hearing). n.faults) h) s)
said_faults ends.NoMemory old new r w h s other = counted_faults new _ _ _ _ r w (ap (λ (n : Hearing). n.faults) h) s

ended_faults : (ended : Result WorkText StopCause) (answer : Status) (old new : Outside) → CountsFaults old.counts new.counts ended → FinishesCall ended answer (output_state old.taken old.out_faults) (output_state new.taken new.out_faults)
    → new.hearing ≡ old.hearing → TellsFaults answer old new
ended_faults (Ok (answered.Done text)) answer old new c f h = said_faults answer old new c.reads c.writes h f.counted f.read_fault
ended_faults (Ok (answered.Diverged text)) answer old new c f h = said_faults answer old new c.reads c.writes h f.counted f.read_fault
ended_faults (Err (refusal.Refused file why)) answer old new c f h = said_faults answer old new c.reads c.writes h f.counted f.read_fault
ended_faults (Err (refusal.Absent file)) answer old new c f h = said_faults answer old new c.reads c.writes h f.counted f.read_fault
ended_faults (Err refusal.ReadFault) answer old new c f h = subst (λ (a : Status). TellsFaults a old new) (sym f.fault) (inl (counted_faults new _ _ _ _ c.reads c.writes (ap (λ (n : Hearing). n.faults) h) f.quiet))
ended_faults (Err refusal.WriteFault) answer old new c f h = subst (λ (a : Status). TellsFaults a old new) (sym f.fault) (inl (counted_faults new _ _ _ _ c.reads c.writes (ap (λ (n : Hearing). n.faults) h) f.quiet))
ended_faults (Err refusal.NoMemory) answer old new c f h = subst (λ (a : Status). TellsFaults a old new) (sym f.fault) (counted_faults new _ _ _ _ c.reads c.writes (ap (λ (n : Hearing). n.faults) h) f.quiet)

-- ---- the misses

-- one was, and its file is told, unless that could not be
missed_once : (old new : ℕ) (told answer : Status) → new ≡ raised_count old → (told ≡ ends.Absent ⊎ told ≡ ends.Refused) → (IsAnswerStatus answer → answer ≡ told) → (answer ≢ ends.ReadFault) → TellsMisses answer old new
missed_once old new told ends.Done raised is answers other = absurd (by_cause is (answers tt)) where
  by_cause : (told ≡ ends.Absent ⊎ told ≡ ends.Refused) → ends.Done ≡ told → ⊥
  by_cause (inl e) h = let both : ends.Done ≡ ends.Absent = h ∙ e in cc
  by_cause (inr e) h = let both : ends.Done ≡ ends.Refused = h ∙ e in cc
missed_once old new told ends.Diverged raised is answers other = absurd (by_cause is (answers tt)) where
  by_cause : (told ≡ ends.Absent ⊎ told ≡ ends.Refused) → ends.Diverged ≡ told → ⊥
  by_cause (inl e) h = let both : ends.Diverged ≡ ends.Absent = h ∙ e in cc
  by_cause (inr e) h = let both : ends.Diverged ≡ ends.Refused = h ∙ e in cc
missed_once old new told ends.Usage raised is answers other = absurd (by_cause is (answers tt)) where
  by_cause : (told ≡ ends.Absent ⊎ told ≡ ends.Refused) → ends.Usage ≡ told → ⊥
  by_cause (inl e) h = let both : ends.Usage ≡ ends.Absent = h ∙ e in cc
  by_cause (inr e) h = let both : ends.Usage ≡ ends.Refused = h ∙ e in cc
missed_once old new told ends.Refused raised is answers other = inr raised
missed_once old new told ends.Absent raised is answers other = raised
missed_once old new told ends.ReadFault raised is answers other = absurd (other refl)
missed_once old new told ends.WriteFault raised is answers other = inr raised
missed_once old new told ends.NoMemory raised is answers other = inr raised

ended_misses : (ended : Result WorkText StopCause) (answer : Status) (old new : Counts) → CountsFaults old new ended
    → IfSome (status_and_text ended) (λ a. IsAnswerStatus answer → answer ≡ a.0)
    → IfSome (status_and_text ended) (λ _. answer ≢ ends.ReadFault)
    → FaultStatus ended answer
    → TellsMisses answer old.misses new.misses
ended_misses (Ok (answered.Done text)) answer old new c answers other fault = unmissed _ _ answer c.misses (λ is. let e : ends.Absent ≡ ends.Done = sym is ∙ answers (subst IsAnswerStatus (sym is) tt) in cc)
ended_misses (Ok (answered.Diverged text)) answer old new c answers other fault = unmissed _ _ answer c.misses (λ is. let e : ends.Absent ≡ ends.Diverged = sym is ∙ answers (subst IsAnswerStatus (sym is) tt) in cc)
ended_misses (Err (refusal.Refused file reason.TooLarge)) answer old new c answers other fault = missed_once _ _ ends.Refused answer c.misses (inr refl) answers other
ended_misses (Err (refusal.Refused file why)) answer old new c answers other fault = unmissed _ _ answer c.misses (λ is. let e : ends.Absent ≡ ends.Refused = sym is ∙ answers (subst IsAnswerStatus (sym is) tt) in cc)
ended_misses (Err (refusal.Absent file)) answer old new c answers other fault = missed_once _ _ ends.Absent answer c.misses (inl refl) answers other
ended_misses (Err refusal.ReadFault) answer old new c answers other fault = subst (λ (a : Status). TellsMisses a old.misses new.misses) (sym fault) c.misses
ended_misses (Err refusal.WriteFault) answer old new c answers other fault = subst (λ (a : Status). TellsMisses a old.misses new.misses) (sym fault) (inl c.misses)
ended_misses (Err refusal.NoMemory) answer old new c answers other fault = subst (λ (a : Status). TellsMisses a old.misses new.misses) (sym fault) c.misses

-- ---- which statuses never come

-- a command's result is never that the words are none
not_usage : (ended : Result WorkText StopCause) (answer : Status)
    → IfSome (status_and_text ended) (λ a. IsAnswerStatus answer → answer ≡ a.0)
    → FaultStatus ended answer
    → answer ≡ ends.Usage → ⊥
not_usage (Ok (answered.Done text)) answer answers fault is = let e : ends.Usage ≡ ends.Done = sym is ∙ answers (subst IsAnswerStatus (sym is) tt) in cc
not_usage (Ok (answered.Diverged text)) answer answers fault is = let e : ends.Usage ≡ ends.Diverged = sym is ∙ answers (subst IsAnswerStatus (sym is) tt) in cc
not_usage (Err (refusal.Refused file why)) answer answers fault is = let e : ends.Usage ≡ ends.Refused = sym is ∙ answers (subst IsAnswerStatus (sym is) tt) in cc
not_usage (Err (refusal.Absent file)) answer answers fault is = let e : ends.Usage ≡ ends.Absent = sym is ∙ answers (subst IsAnswerStatus (sym is) tt) in cc
not_usage (Err refusal.ReadFault) answer answers fault is = let e = sym is ∙ fault in cc
not_usage (Err refusal.WriteFault) answer answers fault is = let e = sym is ∙ fault in cc
not_usage (Err refusal.NoMemory) answer answers fault is = let e = sym is ∙ fault in cc

-- nor a divergence, where none may be told
diverged_ends : (may_diverge : Bool) (ended : Result WorkText StopCause) (answer : Status) → DivergesOnlyIf may_diverge ended
    → IfSome (status_and_text ended) (λ a. IsAnswerStatus answer → answer ≡ a.0)
    → FaultStatus ended answer
    → answer ≡ ends.Diverged → IsTrue may_diverge
diverged_ends may_diverge (Ok (answered.Done text)) answer only answers fault is = let e : ends.Diverged ≡ ends.Done = sym is ∙ answers (subst IsAnswerStatus (sym is) tt) in cc
diverged_ends may_diverge (Ok (answered.Diverged text)) answer only answers fault is = only
diverged_ends may_diverge (Err (refusal.Refused file why)) answer only answers fault is = let e : ends.Diverged ≡ ends.Refused = sym is ∙ answers (subst IsAnswerStatus (sym is) tt) in cc
diverged_ends may_diverge (Err (refusal.Absent file)) answer only answers fault is = let e : ends.Diverged ≡ ends.Absent = sym is ∙ answers (subst IsAnswerStatus (sym is) tt) in cc
diverged_ends may_diverge (Err refusal.ReadFault) answer only answers fault is = let e = sym is ∙ fault in cc
diverged_ends may_diverge (Err refusal.WriteFault) answer only answers fault is = let e = sym is ∙ fault in cc
diverged_ends may_diverge (Err refusal.NoMemory) answer only answers fault is = let e = sym is ∙ fault in cc

-- nor that a stop is work that is done
done_ends : (ended : Result WorkText StopCause) (answer : Status)
    → IfSome (status_and_text ended) (λ a. IsAnswerStatus answer → answer ≡ a.0)
    → FaultStatus ended answer
    → answer ≡ ends.Done → IsOk ended
done_ends (Ok given) answer answers fault is = refl
done_ends (Err (refusal.Refused file why)) answer answers fault is = let e : ends.Done ≡ ends.Refused = sym is ∙ answers (subst IsAnswerStatus (sym is) tt) in cc
done_ends (Err (refusal.Absent file)) answer answers fault is = let e : ends.Done ≡ ends.Absent = sym is ∙ answers (subst IsAnswerStatus (sym is) tt) in cc
done_ends (Err refusal.ReadFault) answer answers fault is = let e = sym is ∙ fault in cc
done_ends (Err refusal.WriteFault) answer answers fault is = let e = sym is ∙ fault in cc
done_ends (Err refusal.NoMemory) answer answers fault is = let e = sym is ∙ fault in cc

-- ---- the names that were asked for

diverged_is_ok : (ended : Result WorkText StopCause)
    → IfSome (status_and_text ended) (λ a. IsAnswerStatus ends.Diverged → ends.Diverged ≡ a.0)
    → FaultStatus ended ends.Diverged
    → IsOk ended
diverged_is_ok (Ok given) answers fault = refl
diverged_is_ok (Err (refusal.Refused file why)) answers fault = let e : ends.Diverged ≡ ends.Refused = answers tt in cc
diverged_is_ok (Err (refusal.Absent file)) answers fault = let e : ends.Diverged ≡ ends.Absent = answers tt in cc
diverged_is_ok (Err refusal.ReadFault) answers fault = cc
diverged_is_ok (Err refusal.WriteFault) answers fault = cc
diverged_is_ok (Err refusal.NoMemory) answers fault = cc

work_is_ok : (ended : Result WorkText StopCause) (answer : Status)
    → IfSome (status_and_text ended) (λ a. IsAnswerStatus answer → answer ≡ a.0)
    → FaultStatus ended answer
    → IsWorkStatus answer → IsOk ended
work_is_ok ended ends.Done answers fault work = done_ends ended ends.Done answers fault refl
work_is_ok ended ends.Diverged answers fault work = diverged_is_ok ended answers fault
work_is_ok ended ends.Usage answers fault work = absurd work
work_is_ok ended ends.Refused answers fault work = absurd work
work_is_ok ended ends.Absent answers fault work = absurd work
work_is_ok ended ends.ReadFault answers fault work = absurd work
work_is_ok ended ends.WriteFault answers fault work = absurd work
work_is_ok ended ends.NoMemory answers fault work = absurd work

of_ok : {P : Type 0} (ended : Result WorkText StopCause) → OnOk ended P → IsOk ended → P
of_ok (Ok given) holds is = holds
of_ok (Err e) holds is = cc

-- ---- the whole end of a call

module _ (expected : Option CommandOutcome) (written inputs : Folder → List (List ℕ)) where
  call_ends : (may_diverge : Bool) (ended : Result WorkText StopCause) (answer : Status) (old new : Outside)
      → PerformedCommand (expectation expected written inputs may_diverge) (file_state old.told old.counts) (file_state new.told new.counts) ended
      → FinishesCall ended answer (output_state old.taken old.out_faults) (output_state new.taken new.out_faults)
      → new.hearing ≡ old.hearing
      → CallEnds expected written old new answer
  call_ends may_diverge ended answer old new p f unheard =
      let makes = p.makes in
      let keeps = p.keeps in
      let cause = p.cause in
      record {
        status = λ o e h. status_ends ended answer o (p.tells o e) f.status f.fault h;
        text = λ o e. text_ends ended answer o _ _ (p.tells o e) f.text f.silent f.fault;
        files = λ o e. files_end ended answer (writes_of o) _ _ (makes o e) f.fault;
        others = makes_others written expected old.told new.told ended makes p.names;
        idle = grind (arith, common_steps);
        prints_last = λ o e. last_ends ended (writes_of o) _ _ _ _ (makes o e) f.silent;
        faults = ended_faults ended answer old new p.counted f unheard;
        misses = ended_misses ended answer old.counts new.counts p.counted f.status f.read_fault f.fault;
        absent_text = absent_ends ended answer _ _ f.status f.text f.fault;
        out_fault = λ o e. let m = makes o e in grind (arith, common_steps);
      }

  -- a result whose text was printed
  pub finishes : (may_diverge : Bool) (ended : Result WorkText StopCause) (answer : Status) (old new : Outside)
      → PerformedCommand (expectation expected written inputs may_diverge) (file_state old.told old.counts) (file_state new.told new.counts) ended
      → FinishesCall ended answer (output_state old.taken old.out_faults) (output_state new.taken new.out_faults)
      → new.hearing ≡ old.hearing
      → FinishedCommand (expectation expected written inputs may_diverge) ended old new answer
  finishes may_diverge ended answer old new p f unheard = record {
    call = call_ends may_diverge ended answer old new p f unheard;
    is_command = not_usage ended answer f.status f.fault;
    diverged = diverged_ends may_diverge ended answer p.diverges f.status f.fault;
    done = done_ends ended answer f.status f.fault;
    came_to_end = is_end ended answer f.fault;
    asks = λ folder told. record {
      first = p.asks folder told;
      all = λ work. of_ok ended (p.asks_all folder told) (work_is_ok ended answer f.status f.fault work);
    };
    input = record {
      unheard = unheard;
      read = reads_end ended answer old.counts new.counts f.read_fault f.fault p.cause;
      refused = refusal_ends ended answer _ _ old.counts new.counts f.status f.text f.fault p.counted;
    };
  }

  -- for want of memory, before anything was read
  pub nothing_begun : (o : Outside) → CallEnds expected written o o ends.NoMemory
  nothing_begun o = record {
    status = λ o e h. absurd h;
    text = λ e here. prints_none ends.NoMemory _ _ _ (λ h. h) refl;
    files = λ e here. record { whole = λ h. absurd h; part = same_changes _ _ (writes_of e) refl };
    others = same_others _ _ _ refl;
    idle = λ h. absurd h;
    prints_last = λ e here. inl refl;
    faults = refl;
    misses = inl refl;
    absent_text = λ is. absurd cc;
    out_fault = λ e here is. absurd cc;
  }

-- words that are no command
pub words_end : (answer : Status) (old new : Outside) → new.told ≡ old.told
    → (IsAnswerStatus answer → answer ≡ ends.Usage)
    → PrintsText answer usage_line old.taken new.taken
    → (answer ≢ ends.ReadFault)
    → new.counts ≡ old.counts
    → new.out_faults ≡ failed_says_after old.out_faults answer
    → new.hearing ≡ old.hearing
    → CallEnds (Some (Err NotACommand)) (λ folder. []) old new answer
words_end answer old new same usage prints reads counts writes unheard = record {
  status = λ o e h. usage h ∙ ap outcome_status (same_Some _ _ e);
  text = λ o e. subst (λ o. PrintsText answer (outcome_text o) old.taken new.taken) (same_Some _ _ e) prints;
  files = λ o e. no_file_left answer o _ _ (sym (ap writes_of (same_Some _ _ e))) same;
  others = same_others _ _ _ same;
  idle = λ _. same;
  prints_last = λ o e. inr (same ∙ ap (λ w. with_files w old.told) (ap writes_of (same_Some _ _ e)));
  faults = said_faults answer old new (ap (λ (c : Counts). c.reads) counts) (ap (λ (c : Counts). c.writes) counts) unheard writes reads;
  misses = unmissed _ _ answer (ap (λ (c : Counts). c.misses) counts) (λ is. let e : ends.Absent ≡ ends.Usage = sym is ∙ usage (subst IsAnswerStatus (sym is) tt) in usage_not_absent e);
  absent_text = λ is. let e : ends.Absent ≡ ends.Usage = sym is ∙ usage (subst IsAnswerStatus (sym is) tt) in absurd (usage_not_absent e);
  out_fault = λ o e is. inr (same ∙ ap (λ w. with_files w old.told) (ap writes_of (same_Some _ _ e)));
} where
  usage_not_absent : ends.Absent ≡ ends.Usage → ⊥
  usage_not_absent e = cc
