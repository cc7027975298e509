-- How a session stands between the bytes that it takes, and how it stops.
use Rattle.std.specs.Prelude.{◌≡◌, ◌⊎◌, ◌≤◌, ℕ, Bool, true, false, List, [], ◌∷◌, ◌++◌, length, take, ⊤, Option, Some, Result, Ok, Err}
use Rattle.std.specs.List.{list_any}
use Rattle.std.specs.Io.KnownBytes.{append_known}
use Rattle.fri_outside.specs.Outside.{WhenTold, raised_count}
use Rattle.fri_outside.specs.Terminal.{Asking, given_in_askings, with_asking}
use Rattle.fri_outside.specs.declared.files.WriteError.{WriteError}
use Rattle.fri_outside.specs.declared.files.WriteError.TheVariants as writing
use Rattle.fri_text.specs.Line.{is_line_feed, lines_of}
use Rattle.command_run.specs.Outcome.{outcome_text}
use Rattle.conversation.specs.declared.conversing.Ended.{Ended}
use Rattle.conversation.specs.declared.conversing.Ended.TheVariants as cause
use Rattle.conversation.specs.declared.conversing.LineReader.{LineReader}
use Rattle.conversation.specs.Conversing.{TerminalState}
use Rattle.conversation.specs.Input.{AreAskedInTurn, AsksAtTerminal, TakesOfInput}
use Rattle.conversation.specs.Limits.{most_input}
use Rattle.conversation.specs.Lines.{early_lines, whole_lines, whole_part}
use Rattle.conversation.specs.Outcome.{conversation_outcome, is_large_input}
use Rattle.conversation.specs.Talker.{Answered, Talker, answers_of_lines, ends_in_lines, ends_session, spoken_text, talker_of}

-- between two bytes: the session, the bytes of the line that has begun, and how many were taken
pub record SessionReader (X : Type 0) : Type 0 where
  pub session : X
  pub begun : List ℕ
  pub count : ℕ

abbrev pub session_reader_of : {X : Type 0} → LineReader X → SessionReader X
session_reader_of reader = record { session = reader.session; begun = reader.begun.items; count = reader.count }

-- how many writes failed once a session, or a part of one, came to this
abbrev pub failed_says_of_session : {T : Type 0} → ℕ → Result T Ended → ℕ
failed_says_of_session count (Err cause.WriteFault) = raised_count count
failed_says_of_session count result = count

-- how many reads of the input failed, alike
abbrev pub listened_after : {T : Type 0} → ℕ → Result T Ended → ℕ
listened_after count (Err cause.ReadFault) = raised_count count
listened_after count result = count

-- how a failed write ends a session
abbrev pub ended_by : WriteError → Ended
ended_by writing.Failed = cause.WriteFault
ended_by writing.NoMemory = cause.NoMemory

-- a session that did not begin failed to print, or ran out of memory
abbrev pub FailsAtOpening : Ended → Type 0
FailsAtOpening cause.Done = ⊥
FailsAtOpening cause.TooLarge = ⊥
FailsAtOpening cause.ReadFault = ⊥
FailsAtOpening cause.WriteFault = Unit {0}
FailsAtOpening cause.NoMemory = Unit {0}

-- the state of a session after these lines
abbrev pub state_after_lines : {S : Type 0} → (S → List ℕ → Answered S) → S → List (List ℕ) → S
state_after_lines answer state [] = state
state_after_lines answer state (line ∷ lines) = state_after_lines answer (answer state line).state lines

-- some of the front of these lines' answers was printed
abbrev pub PrintsPart : {S : Type 0} → (S → List ℕ → Answered S) → S → List (List ℕ) → Option (List ℕ) → Option (List ℕ) → Type 0
PrintsPart answer state lines printed printed_after = (n : ℕ) × (printed_after ≡ append_known printed (take n (answers_of_lines answer state lines)))

-- a session in this state was told these lines: it goes on, or ends, or could not say all
abbrev pub AnsweredLines : {X S : Type 0} → (X → S → Type 0) → (S → List ℕ → Answered S) → S → List (List ℕ) → Option (List ℕ) → Option (List ℕ) → Result X Ended → Type 0
AnsweredLines stands answer state lines printed printed_after (Ok session) =
    (printed_after ≡ append_known printed (answers_of_lines answer state lines))
    × ((ends_in_lines answer state lines ≡ false) × stands session (state_after_lines answer state lines))
AnsweredLines stands answer state lines printed printed_after (Err cause.Done) =
    (printed_after ≡ append_known printed (answers_of_lines answer state lines)) × (ends_in_lines answer state lines ≡ true)
AnsweredLines stands answer state lines printed printed_after (Err cause.TooLarge) = ⊥
AnsweredLines stands answer state lines printed printed_after (Err cause.ReadFault) = ⊥
AnsweredLines stands answer state lines printed printed_after (Err cause.WriteFault) = PrintsPart answer state lines printed printed_after
AnsweredLines stands answer state lines printed printed_after (Err cause.NoMemory) = PrintsPart answer state lines printed printed_after

-- this session was told them, in whatever state it stood
unfoldable pub WasTold : {X S : Type 0} → (X → S → Type 0) → (S → List ℕ → Answered S) → X → List (List ℕ) → Option (List ℕ) → Option (List ℕ) → Result X Ended → Type 0
WasTold {X} {S} stands answer session lines printed printed_after result =
    (state : S) → stands session state → AnsweredLines stands answer state lines printed printed_after result

-- a session that began so took these bytes, and answered each whole line of them; none of them ends it
pub record SessionStands {X S : Type 0} (stands : X → S → Type 0) (talker : Talker S) (printed now : Option (List ℕ)) (reader : SessionReader X) (taken : List ℕ) : Type 0 where
  pub whole : taken ≡ whole_part taken ++ reader.begun
  pub open_line : list_any is_line_feed reader.begun ≡ false
  pub stands_in : stands reader.session (state_after_lines talker.answer talker.state (whole_lines taken))
  pub goes_on : ends_session talker (whole_lines taken) ≡ false
  pub text : now ≡ append_known printed (spoken_text talker (whole_lines taken))
  pub count_is : reader.count ≡ length taken
  pub within : reader.count ≤ most_input

-- some of the front of what is to be printed was printed, whatever comes after the bytes that were taken
abbrev pub SaysPart : {S : Type 0} → Talker S → Option (List ℕ) → Option (List ℕ) → List ℕ → Type 0
SaysPart talker printed now taken = (rest : List ℕ) → (n : ℕ) × (now ≡ append_known printed (take n (outcome_text (conversation_outcome talker (taken ++ rest)))))

-- a line ended the session, whatever comes after it
pub record SessionQuits {S : Type 0} (talker : Talker S) (printed now : Option (List ℕ)) (taken : List ℕ) : Type 0 where
  pub ended : ends_session talker (whole_lines taken) ≡ true
  pub fits : (rest : List ℕ) → is_large_input talker (taken ++ rest) ≡ false
  pub text : (rest : List ℕ) → now ≡ append_known printed (spoken_text talker (lines_of (taken ++ rest)))

-- there are too many bytes, and all lines before the limit are answered
pub record InputOverruns {S : Type 0} (talker : Talker S) (printed now : Option (List ℕ)) (taken : List ℕ) : Type 0 where
  pub large : (rest : List ℕ) → is_large_input talker (taken ++ rest) ≡ true
  pub text : (rest : List ℕ) → now ≡ append_known printed (spoken_text talker (early_lines (taken ++ rest)))

-- why a session stopped in these bytes
abbrev pub SessionStops : {S : Type 0} → Talker S → Option (List ℕ) → Option (List ℕ) → List ℕ → Ended → Type 0
SessionStops talker printed now taken cause.Done = SessionQuits talker printed now taken
SessionStops talker printed now taken cause.TooLarge = InputOverruns talker printed now taken
SessionStops talker printed now taken cause.ReadFault = ⊥
SessionStops talker printed now taken cause.WriteFault = SaysPart talker printed now taken
SessionStops talker printed now taken cause.NoMemory = SaysPart talker printed now taken

-- from where a session stood on, it stands so after more bytes
unfoldable pub SessionGoesOn : {X S : Type 0} → (X → S → Type 0) → (S → List ℕ → Answered S) → List ℕ → Option (List ℕ) → Option (List ℕ) → SessionReader X → SessionReader X → Type 0
SessionGoesOn {X} {S} stands answer bytes before now reader next =
    (opening : List ℕ) (state : S) (printed : Option (List ℕ)) (taken : List ℕ)
    → SessionStands stands (talker_of opening state answer) printed before reader taken
    → SessionStands stands (talker_of opening state answer) printed now next (taken ++ bytes)

-- no read failed
abbrev pub InputReadsOn : Ended → Type 0
InputReadsOn cause.Done = Unit {0}
InputReadsOn cause.TooLarge = Unit {0}
InputReadsOn cause.ReadFault = ⊥
InputReadsOn cause.WriteFault = Unit {0}
InputReadsOn cause.NoMemory = Unit {0}

-- from where a session stood on, it stopped in these bytes
unfoldable pub SessionStopsIn : {X S : Type 0} → (X → S → Type 0) → (S → List ℕ → Answered S) → List ℕ → Option (List ℕ) → Option (List ℕ) → SessionReader X → Ended → Type 0
SessionStopsIn {X} {S} stands answer bytes before now reader why =
    InputReadsOn why × ((opening : List ℕ) (state : S) (printed : Option (List ℕ)) (taken : List ℕ)
    → SessionStands stands (talker_of opening state answer) printed before reader taken
    → SessionStops (talker_of opening state answer) printed now (taken ++ bytes) why)

-- ---- a piece of the input

-- a piece of at most so many bytes is asked for and answered, from one state of the terminal to another
pub record InputExchange : Type 0 where
  pub room : ℕ
  pub old : TerminalState
  pub new : TerminalState

abbrev pub exchange_of : ℕ → TerminalState → TerminalState → InputExchange
exchange_of room old new = record { room = room; old = old; new = new }

-- where a session stands after an exchange, and whether a piece came in it
pub record HeardPiece (X : Type 0) : Type 0 where
  pub reader : SessionReader X
  pub more : Bool

abbrev pub heard_of : {X : Type 0} → LineReader X × Bool → HeardPiece X
heard_of heard = record { reader = session_reader_of heard.0; more = heard.1 }

-- a piece was read and taken, or there was none left. What had been printed before was noted with it
pub record HearsPiece {X S : Type 0} (stands : X → S → Type 0) (talker : Talker S) (printed : Option (List ℕ)) (taken : List ℕ) (exchange : InputExchange) (heard : HeardPiece X) : Type 0 where
  pub piece : List ℕ
  pub short : length piece ≤ exchange.room
  pub stands_so : SessionStands stands talker printed exchange.new.taken heard.reader (taken ++ piece)
  pub read : WhenTold exchange.old.hearing.left (λ input. TakesOfInput input exchange.new.hearing.left piece)
  pub noted : exchange.new.hearing.asked ≡ with_asking exchange.old.taken piece exchange.old.hearing.asked
  pub at_end : heard.more ≡ false → (piece ≡ []) × WhenTold exchange.old.hearing.left (λ input. input ≡ [])

-- all whole lines of these bytes are answered
pub record SessionPauses {S : Type 0} (talker : Talker S) (printed now : Option (List ℕ)) (taken : List ℕ) : Type 0 where
  pub text : now ≡ append_known printed (spoken_text talker (whole_lines taken))
  pub goes_on : ends_session talker (whole_lines taken) ≡ false
  pub within : length taken ≤ most_input

-- why a session stopped at a piece
abbrev pub StopsAtPiece : {S : Type 0} → Talker S → Option (List ℕ) → Option (List ℕ) → List ℕ → Ended → Type 0
StopsAtPiece talker printed now taken cause.Done = SessionQuits talker printed now taken
StopsAtPiece talker printed now taken cause.TooLarge = InputOverruns talker printed now taken
StopsAtPiece talker printed now taken cause.ReadFault = SessionPauses talker printed now taken
StopsAtPiece talker printed now taken cause.WriteFault = SaysPart talker printed now taken
StopsAtPiece talker printed now taken cause.NoMemory = SaysPart talker printed now taken

-- this piece came and was noted, or none came
abbrev pub NotesPiece : Option (List ℕ) → List ℕ → Option (List Asking) → Option (List Asking) → Type 0
NotesPiece before piece asked asked_after = (asked_after ≡ with_asking before piece asked) ⊎ ((piece ≡ []) × (asked_after ≡ asked))

-- no piece was read, or the session stopped in it
pub record SessionBreaks {S : Type 0} (talker : Talker S) (printed : Option (List ℕ)) (taken : List ℕ) (exchange : InputExchange) (why : Ended) : Type 0 where
  pub piece : List ℕ
  pub short : length piece ≤ exchange.room
  pub read : WhenTold exchange.old.hearing.left (λ input. TakesOfInput input exchange.new.hearing.left piece)
  pub noted : NotesPiece exchange.old.taken piece exchange.old.hearing.asked exchange.new.hearing.asked
  pub stops : StopsAtPiece talker printed exchange.new.taken (taken ++ piece) why

-- from where a session stood on, it hears so
unfoldable pub SessionHearsFrom : {X S : Type 0} → (X → S → Type 0) → (S → List ℕ → Answered S) → InputExchange → SessionReader X → HeardPiece X → Type 0
SessionHearsFrom {X} {S} stands answer exchange reader heard =
    (opening : List ℕ) (state : S) (printed : Option (List ℕ)) (taken : List ℕ)
    → SessionStands stands (talker_of opening state answer) printed exchange.old.taken reader taken
    → HearsPiece stands (talker_of opening state answer) printed taken exchange heard

-- from where a session stood on, it breaks so
unfoldable pub SessionBreaksFrom : {X S : Type 0} → (X → S → Type 0) → (S → List ℕ → Answered S) → InputExchange → SessionReader X → Ended → Type 0
SessionBreaksFrom {X} {S} stands answer exchange reader why =
    (opening : List ℕ) (state : S) (printed : Option (List ℕ)) (taken : List ℕ)
    → SessionStands stands (talker_of opening state answer) printed exchange.old.taken reader taken
    → SessionBreaks (talker_of opening state answer) printed taken exchange why

-- ---- the whole session

-- why a session is over, where nothing went wrong at its end
abbrev pub why_session_ended : Result ⊤ Ended → Ended
why_session_ended (Ok _) = cause.Done
why_session_ended (Err why) = why

-- a session is done: it printed the whole text, at the end of the input or after a line that ends it
pub record SessionConcludes {S : Type 0} (talker : Talker S) (printed now : Option (List ℕ)) (taken input : List ℕ) : Type 0 where
  pub fits : is_large_input talker input ≡ false
  pub text : now ≡ append_known printed (spoken_text talker (lines_of input))
  pub at_end : (input ≡ taken) ⊎ (ends_session talker (whole_lines taken) ≡ true)

-- some of the front of what was to be printed
abbrev pub SaysSome : {S : Type 0} → Talker S → Option (List ℕ) → Option (List ℕ) → List ℕ → Type 0
SaysSome talker printed now input = (n : ℕ) × (now ≡ append_known printed (take n (outcome_text (conversation_outcome talker input))))

-- what was said of an input of which these bytes were taken: what had been printed before, and what then was
abbrev pub SessionEndedAs : {S : Type 0} → Talker S → Option (List ℕ) × Option (List ℕ) → List ℕ → List ℕ → Ended → Type 0
SessionEndedAs talker printed taken input cause.Done = SessionConcludes talker printed.0 printed.1 taken input
SessionEndedAs talker printed taken input cause.TooLarge =
    (is_large_input talker input ≡ true) × (printed.1 ≡ append_known printed.0 (spoken_text talker (early_lines input)))
SessionEndedAs talker printed taken input cause.ReadFault = SessionPauses talker printed.0 printed.1 taken
SessionEndedAs talker printed taken input cause.WriteFault = SaysSome talker printed.0 printed.1 input
SessionEndedAs talker printed taken input cause.NoMemory = SaysSome talker printed.0 printed.1 input

-- these bytes came in turn, each piece once all whole lines before it were answered
pub record ReadLineByLine {S : Type 0} (talker : Talker S) (printed : Option (List ℕ)) (taken : List ℕ) (earlier : List Asking) (asked_after : Option (List Asking)) : Type 0 where
  pub askings : List Asking
  pub noted : asked_after ≡ Some (earlier ++ askings)
  pub in_turn : AreAskedInTurn talker printed [] askings
  pub given : given_in_askings askings ≡ taken

-- a session over these replays read some of an input, and is over
pub record SessionHolds {S : Type 0} (talker : Talker S) (old new : TerminalState) (why : Ended) : Type 0 where
  pub taken : List ℕ
  pub asks : AsksAtTerminal talker taken
  pub read : WhenTold old.hearing.left (λ input. TakesOfInput input new.hearing.left taken)
  pub turns : WhenTold old.hearing.asked (λ earlier. ReadLineByLine talker old.taken taken earlier new.hearing.asked)
  pub said : WhenTold old.hearing.left (λ input. SessionEndedAs talker (old.taken, new.taken) taken input why)
  pub large : why ≡ cause.TooLarge → (earlier : List ℕ) × (new.taken ≡ append_known old.taken earlier)

-- from its opening on, a session is held so
unfoldable pub SessionHoldsFrom : {X S : Type 0} → (X → S → Type 0) → (S → List ℕ → Answered S) → TerminalState → TerminalState → SessionReader X → Ended → Type 0
SessionHoldsFrom {X} {S} stands answer old new reader why =
    (opening : List ℕ) (state : S) (printed : Option (List ℕ))
    → SessionStands stands (talker_of opening state answer) printed old.taken reader []
    → SessionHolds (talker_of opening state answer) (record old { taken = printed }) new why

-- a session and its opening, in whatever state it stands
pub record SessionBegun (X : Type 0) : Type 0 where
  pub session : X
  pub opening : List ℕ

abbrev pub session_begun : {X : Type 0} → X → List ℕ → SessionBegun X
session_begun session opening = record { session = session; opening = opening }

-- it is open, and no byte was taken
unfoldable pub SessionOpens : {X S : Type 0} → (X → S → Type 0) → (S → List ℕ → Answered S) → SessionBegun X → Option (List ℕ) → Option (List ℕ) → SessionReader X → Type 0
SessionOpens {X} {S} stands answer begun printed now reader =
    (state : S) → stands begun.session state → SessionStands stands (talker_of begun.opening state answer) printed now reader []

-- it did not open
unfoldable pub SessionOpensPart : {X S : Type 0} → (X → S → Type 0) → (S → List ℕ → Answered S) → SessionBegun X → Option (List ℕ) → Option (List ℕ) → Ended → Type 0
SessionOpensPart {X} {S} stands answer begun printed now why =
    FailsAtOpening why × ((state : S) → stands begun.session state → SaysPart (talker_of begun.opening state answer) printed now [])

-- it was held
unfoldable pub HeldSession : {X S : Type 0} → (X → S → Type 0) → (S → List ℕ → Answered S) → SessionBegun X → TerminalState → TerminalState → Ended → Type 0
HeldSession {X} {S} stands answer begun old new why =
    (state : S) → stands begun.session state → SessionHolds (talker_of begun.opening state answer) old new why
