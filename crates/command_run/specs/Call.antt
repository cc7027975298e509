-- What a call says of its status, of what it printed, and of the files after it.
use Rattle.std.specs.Prelude.{⊤, ◌≡◌, ◌⊎◌, ℕ, List, [], ◌++◌, string_bytes, Bool, IsTrue, Option, take, MatchResult, Result, Ok, Err, true, false}
use Rattle.std.specs.Io.KnownBytes.{append_known}
use Rattle.fri_outside.specs.Outside.{Folder, Counts, CountRose, raised_count}
use Rattle.fri_outside.specs.Several.{with_files, AreFirstMade, ChangesOnlyFiles}
use Rattle.fri_outside.specs.declared.files.WriteError.{WriteError}
use Rattle.fri_outside.specs.declared.files.WriteError.TheVariants as writing
use Rattle.command_run.specs.declared.status.Status.{Status}
use Rattle.command_run.specs.declared.status.Status.TheVariants as ends
use Rattle.command_run.specs.declared.refusal.WorkText.{WorkText}
use Rattle.command_run.specs.declared.refusal.WorkText.TheVariants as answered
use Rattle.command_run.specs.declared.refusal.Reason.{Reason}
use Rattle.command_run.specs.declared.refusal.Reason.TheVariants as reason
use Rattle.command_run.specs.declared.refusal.StopCause.{StopCause}
use Rattle.command_run.specs.declared.refusal.StopCause.TheVariants as refusal
use Rattle.command_run.specs.Outcome.{CommandOutcome, CommandWork, CommandStop, Refuses, Lacks, refuses_at_once, refused_line, absent_line}

-- statuses 0 to 4: the call reached its end, with no fault and no want of memory
abbrev pub IsAnswerStatus : Status → Type 0
IsAnswerStatus ends.ReadFault = ⊥
IsAnswerStatus ends.WriteFault = ⊥
IsAnswerStatus ends.NoMemory = ⊥
IsAnswerStatus answer = Unit {0}

-- after an answer the sink took the whole text, and else some of its front
pub record PrintsText (answer : Status) (text : List ℕ) (before after : Option (List ℕ)) : Type 0 where
  pub whole : IsAnswerStatus answer → after ≡ append_known before text
  pub part : (n : ℕ) × (after ≡ append_known before (take n text))

-- after an answer the files of the work are made; at any status they alone change, each to some of its front
pub record LeavesFiles (answer : Status) (files : List (List ℕ × List ℕ)) (before after : Option Folder) : Type 0 where
  pub whole : IsAnswerStatus answer → after ≡ with_files files before
  pub part : ChangesOnlyFiles before files after

-- statuses 2, 4 and 5, after which no file has changed. After status 3 the files are those of the refusal
abbrev pub IsIdleStatus : Status → Type 0
IsIdleStatus ends.Usage = Unit {0}
IsIdleStatus ends.Absent = Unit {0}
IsIdleStatus ends.ReadFault = Unit {0}
IsIdleStatus answer = ⊥

-- a sink took the line that refuses a file for this reason, of which this holds
abbrev pub PrintsRefusal : Option (List ℕ) → Option (List ℕ) → (List ℕ → Reason → Type 0) → Type 0
PrintsRefusal before after cause =
    (earlier file : List ℕ) × ((why : Reason) × (after ≡ append_known before (earlier ++ refused_line file why)) × cause file why)

-- a sink took the line that says of some file that it is absent
abbrev pub PrintsAbsent : Option (List ℕ) → Option (List ℕ) → Type 0
PrintsAbsent before after = (file : List ℕ) × (after ≡ append_known before (absent_line file))

-- nothing was printed, or all files that were to be made were made before
abbrev pub PrintsAfterFiles : List (List ℕ × List ℕ) → Option (List ℕ) → Option (List ℕ) → Option Folder → Option Folder → Type 0
PrintsAfterFiles files printed printed_after before after = (printed_after ≡ printed) ⊎ (after ≡ with_files files before)

-- A COMMAND'S RESULT, before its text is written

-- a command gave an answer: its work, or a refusal
abbrev pub IsAnswerResult : Result WorkText StopCause → Type 0
IsAnswerResult (Ok answer) = Unit {0}
IsAnswerResult (Err (refusal.Refused file why)) = Unit {0}
IsAnswerResult (Err (refusal.Absent file)) = Unit {0}
IsAnswerResult (Err refusal.ReadFault) = ⊥
IsAnswerResult (Err refusal.WriteFault) = ⊥
IsAnswerResult (Err refusal.NoMemory) = ⊥

-- a refusal tells the stop at which this comes to no value
abbrev pub StopsAsCause : {A : Type 0} → Result A CommandStop → StopCause → Type 0
StopsAsCause wanted (refusal.Refused file why) = wanted ≡ Err (refuses_at_once (string_bytes file) why)
StopsAsCause wanted (refusal.Absent file) = wanted ≡ Err (Lacks (string_bytes file))
StopsAsCause wanted refusal.ReadFault = Unit {0}
StopsAsCause wanted refusal.WriteFault = Unit {0}
StopsAsCause wanted refusal.NoMemory = Unit {0}

-- a result tells what is wanted: the value that it shows, or the stop
abbrev pub TellsResult : {A B : Type 0} → (A → B) → Result B CommandStop → Result A StopCause → Type 0
TellsResult shown wanted result = MatchResult result (λ value. wanted ≡ Ok (shown value)) (StopsAsCause wanted)

-- a refusal that came before anything was printed
abbrev pub RefusesWith : CommandOutcome → List ℕ → Reason → Type 0
RefusesWith outcome file why = (done : CommandWork) × (outcome ≡ Err (Refuses file why done)) × (done.text ≡ [])

-- the result of a failed write
abbrev pub write_refusal : WriteError → StopCause
write_refusal writing.Failed = refusal.WriteFault
write_refusal writing.NoMemory = refusal.NoMemory

-- this refusal of this file, or want of memory
abbrev pub RefusesFile : List ℕ → Reason → StopCause → Type 0
RefusesFile name why (refusal.Refused file reason) = (string_bytes file ≡ name) × (reason ≡ why)
RefusesFile name why refusal.NoMemory = Unit {0}
RefusesFile name why other = ⊥

-- that this file is absent, or want of memory
abbrev pub NamesAbsent : List ℕ → StopCause → Type 0
NamesAbsent name (refusal.Absent file) = string_bytes file ≡ name
NamesAbsent name refusal.NoMemory = Unit {0}
NamesAbsent name other = ⊥

-- a command's result tells this outcome
abbrev pub TellsOutcome : CommandOutcome → Result WorkText StopCause → Type 0
TellsOutcome outcome (Ok (answered.Done text)) = (work : CommandWork) × (outcome ≡ Ok work) × (text ≡ work.text) × (work.diverged ≡ false)
TellsOutcome outcome (Ok (answered.Diverged text)) = (work : CommandWork) × (outcome ≡ Ok work) × (text ≡ work.text) × (work.diverged ≡ true)
TellsOutcome outcome (Err (refusal.Refused file why)) = RefusesWith outcome (string_bytes file) why
TellsOutcome outcome (Err (refusal.Absent file)) = outcome ≡ Err (Lacks (string_bytes file))
TellsOutcome outcome (Err refusal.ReadFault) = Unit {0}
TellsOutcome outcome (Err refusal.WriteFault) = Unit {0}
TellsOutcome outcome (Err refusal.NoMemory) = Unit {0}

-- a refusal has its cause in the counts
abbrev pub RaisesCount : Counts → Counts → StopCause → Type 0
RaisesCount old new (refusal.Refused file why) = why ≡ reason.TooLarge → CountRose old.misses new.misses
RaisesCount old new (refusal.Absent file) = CountRose old.misses new.misses
RaisesCount old new refusal.ReadFault = CountRose old.reads new.reads
RaisesCount old new refusal.WriteFault = CountRose old.writes new.writes
RaisesCount old new refusal.NoMemory = Unit {0}

-- how many reads failed once a command, or a part of one, came to this: a fault that ended it was counted once, and no
-- other was
abbrev pub reads_after : {T : Type 0} → ℕ → Result T StopCause → ℕ
reads_after count (Err refusal.ReadFault) = raised_count count
reads_after count result = count

-- how many writes failed, alike
abbrev pub writes_after : {T : Type 0} → ℕ → Result T StopCause → ℕ
writes_after count (Err refusal.WriteFault) = raised_count count
writes_after count result = count

-- how many reads found no file, or one too large: a file that is refused for its size was one
abbrev pub misses_of_refusal : Reason → ℕ → ℕ
misses_of_refusal reason.TooLarge count = raised_count count
misses_of_refusal why count = count

-- and so was a file that is absent
abbrev pub misses_after : {T : Type 0} → ℕ → Result T StopCause → ℕ
misses_after count (Err (refusal.Refused file why)) = misses_of_refusal why count
misses_after count (Err (refusal.Absent file)) = raised_count count
misses_after count result = count

-- want of memory may come in the place of such a refusal, once it was counted
abbrev pub CountsMisses : {T : Type 0} → ℕ → ℕ → Result T StopCause → Type 0
CountsMisses old new (Err refusal.NoMemory) = (new ≡ old) ⊎ (new ≡ raised_count old)
CountsMisses old new result = new ≡ misses_after old result

-- the counts of files, once it came to this
pub record CountsFaults {T : Type 0} (old new : Counts) (result : Result T StopCause) : Type 0 where
  pub reads : new.reads ≡ reads_after old.reads result
  pub writes : new.writes ≡ writes_after old.writes result
  pub misses : CountsMisses old.misses new.misses result

-- nothing was counted that this could tell of
abbrev pub CountsNothing : {T : Type 0} → Result T StopCause → Type 0
CountsNothing result = (n : ℕ) → (reads_after n result ≡ n) × ((writes_after n result ≡ n) × (misses_after n result ≡ n))

-- no file changed where a command found no file or could not read, whatever the folder
abbrev pub KeepsFolder : Result WorkText StopCause → Option Folder → Option Folder → Type 0
KeepsFolder (Err (refusal.Absent file)) before after = after ≡ before
KeepsFolder (Err refusal.ReadFault) before after = after ≡ before
KeepsFolder result before after = Unit {0}

-- the files that were to be made are made at an answer, and some of them in part where a write or memory failed
abbrev pub MakesWorkFiles : Result WorkText StopCause → List (List ℕ × List ℕ) → Option Folder → Option Folder → Type 0
MakesWorkFiles (Ok answer) files before after = after ≡ with_files files before
MakesWorkFiles (Err (refusal.Refused file why)) files before after = after ≡ with_files files before
MakesWorkFiles (Err (refusal.Absent file)) files before after = after ≡ with_files files before
MakesWorkFiles (Err refusal.ReadFault) files before after = ChangesOnlyFiles before files after
MakesWorkFiles (Err refusal.WriteFault) files before after = ChangesOnlyFiles before files after
MakesWorkFiles (Err refusal.NoMemory) files before after = ChangesOnlyFiles before files after

-- each of the files that were to be made is the old one or the new one, whole: at an answer they are all made, and the
-- first of them where a write or memory failed
abbrev pub MakesWholeFiles : Result WorkText StopCause → List (List ℕ × List ℕ) → Option Folder → Option Folder → Type 0
MakesWholeFiles (Ok answer) files before after = after ≡ with_files files before
MakesWholeFiles (Err (refusal.Refused file why)) files before after = after ≡ with_files files before
MakesWholeFiles (Err (refusal.Absent file)) files before after = after ≡ with_files files before
MakesWholeFiles (Err refusal.ReadFault) files before after = AreFirstMade files before after
MakesWholeFiles (Err refusal.WriteFault) files before after = AreFirstMade files before after
MakesWholeFiles (Err refusal.NoMemory) files before after = AreFirstMade files before after

-- these files were to be made, each whole. The first of them are made where a write or memory failed
abbrev pub MakesAllFiles : Result ⊤ StopCause → List (List ℕ × List ℕ) → Option Folder → Option Folder → Type 0
MakesAllFiles (Ok _) files before after = after ≡ with_files files before
MakesAllFiles (Err refusal.WriteFault) files before after = AreFirstMade files before after
MakesAllFiles (Err refusal.NoMemory) files before after = AreFirstMade files before after
MakesAllFiles (Err refusal.ReadFault) files before after = ⊥
MakesAllFiles (Err (refusal.Refused file why)) files before after = ⊥
MakesAllFiles (Err (refusal.Absent file)) files before after = ⊥

-- a divergence is told only where it may be
abbrev pub DivergesOnlyIf : Bool → Result WorkText StopCause → Type 0
DivergesOnlyIf may_diverge (Ok (answered.Diverged text)) = IsTrue may_diverge
DivergesOnlyIf may_diverge result = Unit {0}

-- how many writes of a sink failed by a call that ended so: one, exactly where it ended for that
abbrev pub failed_says_after : ℕ → Status → ℕ
failed_says_after count ends.WriteFault = raised_count count
failed_says_after count answer = count
