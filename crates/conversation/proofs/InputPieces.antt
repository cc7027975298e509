-- Bytes after bytes, and the pieces of an input, as a session takes them.
use Rattle.std.proofs.Common.{◌≡◌, ℕ, ◌+◌, ◌≤◌, ◌||◌, Bool, true, false, List, [], ◌∷◌, ◌++◌, length, take, Option, None, Some, refl, sym, ap, subst, ◌∙◌, append_assoc, append-nil, length-append, arith, inl, inr}
use Rattle.std.specs.Prelude.{Err, Ok, Result, if◌then◌else◌}
use Rattle.std.specs.Io.KnownBytes.{append_known}
use Rattle.std.proofs.Math.Seq.{take-append-add}
use Rattle.fri_outside.specs.Outside.{WhenTold}
use Rattle.fri_outside.specs.Terminal.{Asking, Hearing, given_in_askings, with_asking}
use Rattle.fri_outside.specs.declared.files.WriteError.{WriteError}
use Rattle.fri_outside.specs.declared.files.WriteError.TheVariants as writing
use Rattle.fri_text.specs.Line.{lines_of}
use Rattle.conversation.specs.declared.conversing.Ended.{Ended}
use Rattle.conversation.specs.declared.conversing.Ended.TheVariants as cause
use Rattle.conversation.specs.declared.session.Go.{Go}
use Rattle.conversation.specs.Input.{AreAskedInTurn, AsksAtTerminal, IsAskedInTurn, TakesOfInput}
use Rattle.conversation.specs.Conversing.{TerminalState}
use Rattle.command_run.specs.Outcome.{outcome_text}
use Rattle.conversation.specs.Limits.{most_input}
use Rattle.conversation.specs.Lines.{early_lines, whole_lines}
use Rattle.conversation.specs.Outcome.{conversation_outcome, is_large_input}
use Rattle.conversation.specs.Talker.{Answered, AnswersSo, Talker, answers_of_lines, ends_in_lines, ends_session, is_quit, spoken_text, talker_of}
use Rattle.conversation.specs.inside.Reader.{ReadLineByLine, NotesPiece, PrintsPart, SessionEndedAs, SaysSome, SessionBreaks, SessionConcludes, SessionGoesOn, SessionHolds, SessionReader, SessionStands, SessionStops, SessionStopsIn, AnsweredLines, StopsAtPiece, WasTold, ended_by, exchange_of, state_after_lines}
use Rattle.conversation.proofs.WholeLines.{FrontsText, after-append, answers-append, answers-ended, answers_front, ends-append, ends-front, lines_of-open, session_more}
use Rattle.conversation.proofs.PrintedSoFar.{append_none, append_twice, fits_short, overruns_more, part_more, quits_more, take_front}

-- ---- bytes after bytes

pub stops_more : {S : Type 0} (talker : Talker S) (printed now : Option (List ℕ)) (taken more : List ℕ) (why : Ended) → SessionStops talker printed now taken why → SessionStops talker printed now (taken ++ more) why
stops_more talker printed now taken more cause.Done s = quits_more talker printed now taken more s
stops_more talker printed now taken more cause.TooLarge s = overruns_more talker printed now taken more s
stops_more talker printed now taken more cause.ReadFault s = absurd s
stops_more talker printed now taken more cause.WriteFault s = part_more talker printed now taken more s
stops_more talker printed now taken more cause.NoMemory s = part_more talker printed now taken more s

module _ {X S : Type 0} (stands : X → S → Type 0) (answer : S → List ℕ → Answered S) where
  pub goes_on_none : (now : Option (List ℕ)) (reader : SessionReader X) → SessionGoesOn stands answer [] now now reader reader
  unfolding SessionGoesOn
  goes_on_none now reader = λ opening state printed taken s. subst (SessionStands stands (talker_of opening state answer) printed now reader) (sym (append-nil taken)) s

  pub goes_on_more : (a b : List ℕ) (before mid now : Option (List ℕ)) (reader here next : SessionReader X)
      → SessionGoesOn stands answer a before mid reader here → SessionGoesOn stands answer b mid now here next → SessionGoesOn stands answer (a ++ b) before now reader next
  unfolding SessionGoesOn
  goes_on_more a b before mid now reader here next first second = λ opening state printed taken s.
      subst (SessionStands stands (talker_of opening state answer) printed now next) (append_assoc taken a b) (second opening state printed (taken ++ a) (first opening state printed taken s))

  -- it stops in bytes after others, or in others before them
  pub stops_after : (a b : List ℕ) (before mid now : Option (List ℕ)) (reader here : SessionReader X) (why : Ended)
      → SessionGoesOn stands answer a before mid reader here → SessionStopsIn stands answer b mid now here why → SessionStopsIn stands answer (a ++ b) before now reader why
  unfolding SessionGoesOn SessionStopsIn
  stops_after a b before mid now reader here why first second = (
    second.0,
    λ opening state printed taken s.
        subst (λ (l : List ℕ). SessionStops (talker_of opening state answer) printed now l why) (append_assoc taken a b) (second.1 opening state printed (taken ++ a) (first opening state printed taken s)),
  )

  pub stops_before : (a b : List ℕ) (before now : Option (List ℕ)) (reader : SessionReader X) (why : Ended)
      → SessionStopsIn stands answer a before now reader why → SessionStopsIn stands answer (a ++ b) before now reader why
  unfolding SessionStopsIn
  stops_before a b before now reader why first = (
    first.0,
    λ opening state printed taken s.
        let talker = talker_of opening state answer in
        let longer = stops_more talker printed now (taken ++ a) b why (first.1 opening state printed taken s) in
        subst (λ (l : List ℕ). SessionStops talker printed now l why) (append_assoc taken a b) longer,
  )

-- ---- pieces

pub taken_more : (left mid after : Option (List ℕ)) (a b : List ℕ) → WhenTold left (λ input. TakesOfInput input mid a) → WhenTold mid (λ input. TakesOfInput input after b) → WhenTold left (λ input. TakesOfInput input after (a ++ b))
taken_more left mid after a b first second = λ input told.
    let f = first input told in
    let s = second f.rest f.left in
    record { rest = s.rest; left = s.left; whole = f.whole ∙ ap (λ (l : List ℕ). a ++ l) s.whole ∙ sym (append_assoc a b s.rest) }

pub taken_none : (left : Option (List ℕ)) → WhenTold left (λ input. TakesOfInput input left [])
taken_none left = λ input told. record { rest = input; left = told; whole = refl }

pub stops_at : {S : Type 0} (talker : Talker S) (printed now : Option (List ℕ)) (taken : List ℕ) (why : Ended) → SessionStops talker printed now taken why → StopsAtPiece talker printed now taken why
stops_at talker printed now taken cause.Done s = s
stops_at talker printed now taken cause.TooLarge s = s
stops_at talker printed now taken cause.ReadFault s = absurd s
stops_at talker printed now taken cause.WriteFault s = s
stops_at talker printed now taken cause.NoMemory s = s

-- ---- turns

in_turn_more : {S : Type 0} (talker : Talker S) (printed : Option (List ℕ)) (typed : List ℕ) (askings : List Asking) (asking : Asking) → AreAskedInTurn talker printed typed askings → IsAskedInTurn talker printed (typed ++ given_in_askings askings) asking
    → AreAskedInTurn talker printed typed (askings ++ asking ∷ [])
in_turn_more talker printed typed [] asking are is = (subst (λ (t : List ℕ). IsAskedInTurn talker printed t asking) (append-nil typed) is, tt)
in_turn_more talker printed typed (a ∷ later) asking are is = (are.0, in_turn_more talker printed (typed ++ a.given) later asking are.1 (subst (λ (t : List ℕ). IsAskedInTurn talker printed t asking) (sym (append_assoc typed a.given (given_in_askings later))) is))

given_more : (askings : List Asking) (asking : Asking) → given_in_askings (askings ++ asking ∷ []) ≡ given_in_askings askings ++ asking.given
given_more [] asking = append-nil asking.given
given_more (a ∷ later) asking = ap (λ (l : List ℕ). a.given ++ l) (given_more later asking) ∙ sym (append_assoc a.given (given_in_askings later) asking.given)

-- before anything came
pub turns_none : {S : Type 0} (talker : Talker S) (printed : Option (List ℕ)) (asked : Option (List Asking)) → WhenTold asked (λ earlier. ReadLineByLine talker printed [] earlier asked)
turns_none talker printed asked = λ earlier told. record { askings = []; noted = told ∙ ap Some (sym (append-nil earlier)); in_turn = tt; given = refl }

module _ {X S : Type 0} (stands : X → S → Type 0) (talker : Talker S) (printed before : Option (List ℕ)) (reader : SessionReader X) (taken piece : List ℕ) (s : SessionStands stands talker printed before reader taken) (short : length piece ≤ 4096) where
  turn_noted : (earlier : List Asking) (asked asked_after : Option (List Asking)) → ReadLineByLine talker printed taken earlier asked → asked_after ≡ with_asking before piece asked → ReadLineByLine talker printed (taken ++ piece) earlier asked_after
  turn_noted earlier asked asked_after came noted =
      let asking : Asking = record { said = before; given = piece } in
      let here : IsAskedInTurn talker printed taken asking = record { answered = s.text; goes_on = s.goes_on; short = short } in
      record {
        askings = came.askings ++ asking ∷ [];
        noted = noted ∙ ap (with_asking before piece) came.noted ∙ ap Some (append_assoc earlier came.askings (asking ∷ []));
        in_turn = in_turn_more talker printed [] came.askings asking came.in_turn (subst (λ (t : List ℕ). IsAskedInTurn talker printed t asking) (sym came.given) here);
        given = given_more came.askings asking ∙ ap (λ (l : List ℕ). l ++ piece) came.given;
      }

  pub turns_noted : (old mid after : Option (List Asking)) → WhenTold old (λ earlier. ReadLineByLine talker printed taken earlier mid) → after ≡ with_asking before piece mid → WhenTold old (λ earlier. ReadLineByLine talker printed (taken ++ piece) earlier after)
  turns_noted old mid after came noted = λ earlier told. turn_noted earlier mid after (came earlier told) noted

  turn_piece : (earlier : List Asking) (asked asked_after : Option (List Asking)) → ReadLineByLine talker printed taken earlier asked → NotesPiece before piece asked asked_after → ReadLineByLine talker printed (taken ++ piece) earlier asked_after
  turn_piece earlier asked asked_after came (inl noted) = turn_noted earlier asked asked_after came noted
  turn_piece earlier asked asked_after came (inr (none, same)) =
      let whole : taken ≡ taken ++ piece = sym (append-nil taken) ∙ ap (λ (l : List ℕ). taken ++ l) (sym none) in
      subst (λ (l : List ℕ). ReadLineByLine talker printed l earlier asked_after) whole (subst (ReadLineByLine talker printed taken earlier) (sym same) came)

  pub turns_piece : (old mid after : Option (List Asking)) → WhenTold old (λ earlier. ReadLineByLine talker printed taken earlier mid) → NotesPiece before piece mid after → WhenTold old (λ earlier. ReadLineByLine talker printed (taken ++ piece) earlier after)
  turns_piece old mid after came notes = λ earlier told. turn_piece earlier mid after (came earlier told) notes

-- ---- a session that stopped at a piece

-- what was said is said of the input that the source told
pub said_of : {S : Type 0} (talker : Talker S) (printed now : Option (List ℕ)) (taken rest input : List ℕ) (why : Ended) → input ≡ taken ++ rest → StopsAtPiece talker printed now taken why → SessionEndedAs talker (printed, now) taken input why
said_of talker printed now taken rest input cause.Done e q = record {
  fits = ap (is_large_input talker) e ∙ q.fits rest;
  text = q.text rest ∙ ap (λ (l : List ℕ). append_known printed (spoken_text talker (lines_of l))) (sym e);
  at_end = inr q.ended;
}
said_of talker printed now taken rest input cause.TooLarge e o =
    (ap (is_large_input talker) e ∙ o.large rest, o.text rest ∙ ap (λ (l : List ℕ). append_known printed (spoken_text talker (early_lines l))) (sym e))
said_of talker printed now taken rest input cause.ReadFault e p = p
said_of talker printed now taken rest input cause.WriteFault e p =
    let f = p rest in (f.0, f.1 ∙ ap (λ (l : List ℕ). append_known printed (take f.0 (outcome_text (conversation_outcome talker l)))) (sym e))
said_of talker printed now taken rest input cause.NoMemory e p =
    let f = p rest in (f.0, f.1 ∙ ap (λ (l : List ℕ). append_known printed (take f.0 (outcome_text (conversation_outcome talker l)))) (sym e))

large_said : {S : Type 0} (talker : Talker S) (printed now : Option (List ℕ)) (taken : List ℕ) (why : Ended) → StopsAtPiece talker printed now taken why → why ≡ cause.TooLarge → (earlier : List ℕ) × (now ≡ append_known printed earlier)
large_said talker printed now taken cause.Done s is = absurd cc
large_said talker printed now taken cause.TooLarge s is = (spoken_text talker (early_lines (taken ++ [])), s.text [])
large_said talker printed now taken cause.ReadFault s is = absurd cc
large_said talker printed now taken cause.WriteFault s is = absurd cc
large_said talker printed now taken cause.NoMemory s is = absurd cc

pub holds_broken : {S : Type 0} (talker : Talker S) (earlier : List ℕ) (old mid new : TerminalState) (size : ℕ) (why : Ended)
    → WhenTold old.hearing.left (λ input. TakesOfInput input mid.hearing.left earlier) → ends_session talker (whole_lines earlier) ≡ false → size ≤ 4096 → length earlier + size ≤ most_input + 1
    → (b : SessionBreaks talker old.taken earlier (exchange_of size mid new) why) → WhenTold old.hearing.asked (λ asked. ReadLineByLine talker old.taken (earlier ++ b.piece) asked new.hearing.asked)
    → SessionHolds talker old new why
holds_broken talker earlier old mid new size why read on short within b turns =
    let whole = taken_more old.hearing.left mid.hearing.left new.hearing.left earlier b.piece read b.read in
    let few : length b.piece ≤ size = b.short in
    record {
      turns = turns;
      taken = earlier ++ b.piece;
      asks = record { earlier = earlier; piece = b.piece; parts = refl; short = omega (arith, few); within = rw length-append (omega (arith, few)); goes_on = on };
      read = whole;
      said = λ input told. let w = whole input told in said_of talker old.taken new.taken (earlier ++ b.piece) w.rest input why w.whole b.stops;
      large = large_said talker old.taken new.taken (earlier ++ b.piece) why b.stops;
    }

-- ---- a session at the end of its input

module _ {X S : Type 0} (stands : X → S → Type 0) (talker : Talker S) (printed mid now : Option (List ℕ)) (reader : SessionReader X) (taken : List ℕ) (s : SessionStands stands talker printed mid reader taken) where
  -- the state in which the session is told the line that was not ended
  abbrev pub last_state : S
  last_state = state_after_lines talker.answer talker.state (whole_lines taken)

  abbrev pub last_lines : List (List ℕ)
  last_lines = lines_of reader.begun

  within : length taken ≤ most_input
  within = omega (arith, s.count_is, s.within)

  fits : is_large_input talker taken ≡ false
  fits = fits_short most_input talker taken within

  lines : lines_of taken ≡ whole_lines taken ++ last_lines
  lines = lines_of-open taken reader.begun s.whole

  text_is : spoken_text talker (lines_of taken) ≡ spoken_text talker (whole_lines taken) ++ answers_of_lines talker.answer last_state last_lines
  text_is = ap (spoken_text talker) lines ∙ session_more talker (whole_lines taken) last_lines s.goes_on

  whole_is : outcome_text (conversation_outcome talker taken) ≡ spoken_text talker (lines_of taken)
  whole_is = rw fits refl

  concludes : (input : List ℕ) → input ≡ taken → now ≡ append_known mid (answers_of_lines talker.answer last_state last_lines) → SessionConcludes talker printed now taken input
  concludes input e said = record {
    fits = ap (is_large_input talker) e ∙ fits;
    text = said ∙ ap (λ (k : Option (List ℕ)). append_known k (answers_of_lines talker.answer last_state last_lines)) s.text
        ∙ append_twice printed (spoken_text talker (whole_lines taken)) (answers_of_lines talker.answer last_state last_lines)
        ∙ ap (append_known printed) (sym text_is) ∙ ap (λ (l : List ℕ). append_known printed (spoken_text talker (lines_of l))) (sym e);
    at_end = inl e;
  }

  some : (input : List ℕ) → input ≡ taken → PrintsPart talker.answer last_state last_lines mid now → SaysSome talker printed now input
  some input e p =
      let said = spoken_text talker (whole_lines taken) in
      let told = answers_of_lines talker.answer last_state last_lines in (
        length said + p.0,
        p.1 ∙ ap (λ (k : Option (List ℕ)). append_known k (take p.0 told)) s.text
            ∙ append_twice printed said (take p.0 told)
            ∙ ap (append_known printed) (sym (take-append-add said told p.0) ∙ ap (take (length said + p.0)) (sym (whole_is ∙ text_is)))
            ∙ ap (λ (l : List ℕ). append_known printed (take (length said + p.0) (outcome_text (conversation_outcome talker l)))) (sym e),
      )

  said_error : (input : List ℕ) (why : Ended) → input ≡ taken → AnsweredLines stands talker.answer last_state last_lines mid now (Err why) → SessionEndedAs talker (printed, now) taken input why
  said_error input cause.Done e spoke = concludes input e spoke.0
  said_error input cause.TooLarge e spoke = absurd spoke
  said_error input cause.ReadFault e spoke = absurd spoke
  said_error input cause.WriteFault e spoke = some input e spoke
  said_error input cause.NoMemory e spoke = some input e spoke

  never_large : (why : Ended) → AnsweredLines stands talker.answer last_state last_lines mid now (Err why) → why ≡ cause.TooLarge → ⊥
  never_large cause.Done spoke is = absurd cc
  never_large cause.TooLarge spoke is = spoke
  never_large cause.ReadFault spoke is = spoke
  never_large cause.WriteFault spoke is = absurd cc
  never_large cause.NoMemory spoke is = absurd cc

  module _ (old new : Hearing) (faults faults_after : ℕ) (read : WhenTold old.left (λ input. TakesOfInput input new.left taken)) (last : WhenTold old.left (λ input. input ≡ taken)) (turns : WhenTold old.asked (λ earlier. ReadLineByLine talker printed taken earlier new.asked)) where
    asks : AsksAtTerminal talker taken
    asks = record { earlier = taken; piece = []; parts = sym (append-nil taken); short = omega arith; within = omega (arith, within); goes_on = s.goes_on }

    pub holds_all : now ≡ append_known mid (answers_of_lines talker.answer last_state last_lines) → SessionHolds talker (record { hearing = old; taken = printed; faults = faults }) (record { hearing = new; taken = now; faults = faults_after }) cause.Done
    holds_all spoke = record {
      taken = taken;
      asks = asks;
      turns = turns;
      read = read;
      said = λ input told. concludes input (last input told) spoke;
      large = λ is. absurd cc;
    }

    pub holds_error : (why : Ended) → AnsweredLines stands talker.answer last_state last_lines mid now (Err why) → SessionHolds talker (record { hearing = old; taken = printed; faults = faults }) (record { hearing = new; taken = now; faults = faults_after }) why
    holds_error why spoke = record {
      taken = taken;
      asks = asks;
      turns = turns;
      read = read;
      said = λ input told. said_error input why (last input told) spoke;
      large = λ is. absurd (never_large why spoke is);
    }

-- ---- a line that was answered

module _ {X S : Type 0} (stands : X → S → Type 0) (answer : S → List ℕ → Answered S) (session : X) (line : List ℕ) (old new : Option (List ℕ)) where
  whole_answer : (state : S) (quits : Bool) → (answer state line).quits ≡ quits → answers_of_lines answer state (line ∷ []) ≡ (answer state line).text
  whole_answer state true quits = ap (λ (q : Bool). (answer state line).text ++ (if q then [] else [])) quits ∙ append-nil (answer state line).text
  whole_answer state false quits = ap (λ (q : Bool). (answer state line).text ++ (if q then [] else [])) quits ∙ append-nil (answer state line).text

  -- the session goes on
  pub told_on : (next : X) (text : List ℕ) (goes : Go) → ((state : S) → stands session state → AnswersSo (answer state line) (stands next) text goes) → is_quit goes ≡ false → new ≡ append_known old text
      → WasTold stands answer session (line ∷ []) old new (Ok next)
  unfolding WasTold
  told_on next text goes said on printed = λ state stood.
      let a = said state stood in
      let quits : (answer state line).quits ≡ false = sym a.quits_is ∙ on in
      (printed ∙ ap (append_known old) (a.text_is ∙ sym (whole_answer state false quits)), (ap (λ (q : Bool). q || false) quits, a.stands_in))

  -- it ends
  pub told_last : (next : X) (text : List ℕ) (goes : Go) → ((state : S) → stands session state → AnswersSo (answer state line) (stands next) text goes) → is_quit goes ≡ true → new ≡ append_known old text
      → WasTold stands answer session (line ∷ []) old new (Err cause.Done)
  unfolding WasTold
  told_last next text goes said over printed = λ state stood.
      let a = said state stood in
      let quits : (answer state line).quits ≡ true = sym a.quits_is ∙ over in
      (printed ∙ ap (append_known old) (a.text_is ∙ sym (whole_answer state true quits)), ap (λ (q : Bool). q || false) quits)

  spoke_part : (state : S) (n : ℕ) (text : List ℕ) → text ≡ (answer state line).text → new ≡ append_known old (take n text) → PrintsPart answer state (line ∷ []) old new
  spoke_part state n text said e =
      let f = take_front n (answer state line).text (answers_of_lines answer state (line ∷ [])) (if (answer state line).quits then [] else [], refl) in
      (f.0, e ∙ ap (λ (t : List ℕ). append_known old (take n t)) said ∙ ap (append_known old) f.1)

  spoke_by : (state : S) (e : WriteError) → PrintsPart answer state (line ∷ []) old new → AnsweredLines stands answer state (line ∷ []) old new (Err (ended_by e))
  spoke_by state writing.Failed part = part
  spoke_by state writing.NoMemory part = part

  -- the answer could not be said whole
  pub told_part : (next : X) (text : List ℕ) (goes : Go) (n : ℕ) (e : WriteError) → ((state : S) → stands session state → AnswersSo (answer state line) (stands next) text goes) → new ≡ append_known old (take n text)
      → WasTold stands answer session (line ∷ []) old new (Err (ended_by e))
  unfolding WasTold
  told_part next text goes n e said printed = λ state stood.
      let a = said state stood in spoke_by state e (spoke_part state n text a.text_is printed)

module _ {X S : Type 0} (stands : X → S → Type 0) (answer : S → List ℕ → Answered S) (session : X) where
  spoke_nothing : (state : S) (told : List (List ℕ)) (printed : Option (List ℕ)) → PrintsPart answer state told printed printed
  spoke_nothing state told None = (0, refl)
  spoke_nothing state told (Some text) = (0, ap Some (sym (append-nil text)))

  -- of lines that there was no memory to answer nothing was said
  pub told_nothing : (lines : List (List ℕ)) (printed : Option (List ℕ)) → WasTold stands answer session lines printed printed (Err cause.NoMemory)
  unfolding WasTold
  told_nothing lines printed = λ state stood. spoke_nothing state lines printed

  -- there was no line
  pub told_none : (printed : Option (List ℕ)) → WasTold stands answer session [] printed printed (Ok session)
  unfolding WasTold
  told_none printed = λ state stood. (sym (append_none printed), (refl, stood))

-- ---- lines that were answered

module _ {X S : Type 0} (stands : X → S → Type 0) (answer : S → List ℕ → Answered S) (session : X) (front behind : List (List ℕ)) (old mid : Option (List ℕ)) where
  -- a part of the answers, of which these are the front
  front_part : (state : S) (whole : List (List ℕ)) (now : Option (List ℕ)) → FrontsText (answers_of_lines answer state front) (answers_of_lines answer state whole) → PrintsPart answer state front old now → PrintsPart answer state whole old now
  front_part state whole now f p =
      let k = take_front p.0 (answers_of_lines answer state front) (answers_of_lines answer state whole) f in
      (k.0, p.1 ∙ ap (append_known old) k.1)

  later_part : (state : S) (now : Option (List ℕ)) → ends_in_lines answer state front ≡ false → mid ≡ append_known old (answers_of_lines answer state front)
      → PrintsPart answer (state_after_lines answer state front) behind mid now → PrintsPart answer state (front ++ behind) old now
  later_part state now on said p =
      let first = answers_of_lines answer state front in
      let later = answers_of_lines answer (state_after_lines answer state front) behind in (
        length first + p.0,
        p.1 ∙ ap (λ (k : Option (List ℕ)). append_known k (take p.0 later)) said
            ∙ append_twice old first (take p.0 later)
            ∙ ap (append_known old) (sym (take-append-add first later p.0) ∙ ap (take (length first + p.0)) (sym (answers-append answer state front behind on))),
      )

  later_text : (state : S) (now : Option (List ℕ)) → ends_in_lines answer state front ≡ false → mid ≡ append_known old (answers_of_lines answer state front)
      → now ≡ append_known mid (answers_of_lines answer (state_after_lines answer state front) behind) → now ≡ append_known old (answers_of_lines answer state (front ++ behind))
  later_text state now on said e =
      let first = answers_of_lines answer state front in
      let later = answers_of_lines answer (state_after_lines answer state front) behind in
      e ∙ ap (λ (k : Option (List ℕ)). append_known k later) said ∙ append_twice old first later ∙ ap (append_known old) (sym (answers-append answer state front behind on))

  spoke_more : (state : S) (now : Option (List ℕ)) (result : Result X Ended) → ends_in_lines answer state front ≡ false → mid ≡ append_known old (answers_of_lines answer state front)
      → AnsweredLines stands answer (state_after_lines answer state front) behind mid now result → AnsweredLines stands answer state (front ++ behind) old now result
  spoke_more state now (Ok next) on said spoke = (
    later_text state now on said spoke.0,
    (ends-append answer state front behind on ∙ spoke.1.0, subst (stands next) (sym (after-append answer state front behind)) spoke.1.1),
  )
  spoke_more state now (Err cause.Done) on said spoke = (later_text state now on said spoke.0, ends-append answer state front behind on ∙ spoke.1)
  spoke_more state now (Err cause.TooLarge) on said spoke = spoke
  spoke_more state now (Err cause.ReadFault) on said spoke = spoke
  spoke_more state now (Err cause.WriteFault) on said spoke = later_part state now on said spoke
  spoke_more state now (Err cause.NoMemory) on said spoke = later_part state now on said spoke

  -- lines were answered after these
  pub told_more : (here : X) (now : Option (List ℕ)) (result : Result X Ended) → WasTold stands answer session front old mid (Ok here) → WasTold stands answer here behind mid now result
      → WasTold stands answer session (front ++ behind) old now result
  unfolding WasTold
  told_more here now result first second = λ state stood.
      let f = first state stood in
      spoke_more state now result f.1.0 f.0 (second (state_after_lines answer state front) f.1.1)

  spoke_ended : (state : S) (why : Ended) → AnsweredLines stands answer state front old mid (Err why) → AnsweredLines stands answer state (front ++ behind) old mid (Err why)
  spoke_ended state cause.Done spoke =
      (spoke.0 ∙ ap (append_known old) (sym (answers-ended answer state front behind spoke.1)), ends-front answer state front behind spoke.1)
  spoke_ended state cause.TooLarge spoke = spoke
  spoke_ended state cause.ReadFault spoke = spoke
  spoke_ended state cause.WriteFault spoke = front_part state (front ++ behind) mid (answers_front answer state front behind) spoke
  spoke_ended state cause.NoMemory spoke = front_part state (front ++ behind) mid (answers_front answer state front behind) spoke

  -- the session stopped in these
  pub told_stopped : (why : Ended) → WasTold stands answer session front old mid (Err why) → WasTold stands answer session (front ++ behind) old mid (Err why)
  unfolding WasTold
  told_stopped why first = λ state stood. spoke_ended state why (first state stood)
