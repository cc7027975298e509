-- A session from its opening to its end.
use Rattle.std.proofs.Common.{◌≡◌, ℕ, ◌+◌, ◌≤◌, false, List, [], ◌++◌, length, take, Option, refl, sym, ap, subst, ◌∙◌, append-nil, arith, inl, inr}
use Rattle.std.specs.Prelude.{Result, Ok, Err}
use Rattle.std.specs.Io.KnownBytes.{append_known}
use Rattle.fri_outside.specs.Outside.{WhenTold}
use Rattle.fri_outside.specs.Terminal.{Hearing, with_asking}
use Rattle.fri_outside.specs.declared.files.WriteError.{WriteError}
use Rattle.fri_outside.specs.declared.files.WriteError.TheVariants as writing
use Rattle.fri_text.specs.Line.{lines_of}
use Rattle.conversation.specs.declared.conversing.Ended.{Ended}
use Rattle.conversation.specs.declared.conversing.Ended.TheVariants as cause
use Rattle.conversation.specs.Input.{TakesOfInput}
use Rattle.conversation.specs.Conversing.{TerminalState}
use Rattle.conversation.specs.Limits.{most_input}
use Rattle.conversation.specs.Lines.{whole_lines}
use Rattle.conversation.specs.Talker.{Answered, Talker, talker_of}
use Rattle.conversation.specs.inside.Reader.{ReadLineByLine, FailsAtOpening, HeardPiece, HearsPiece, HeldSession, InputExchange, InputReadsOn, SaysPart, SessionBegun, SessionBreaksFrom, SessionGoesOn, SessionHearsFrom, SessionHolds, SessionHoldsFrom, SessionOpens, SessionOpensPart, SessionReader, SessionStands, SessionStopsIn, StopsAtPiece, WasTold, ended_by, exchange_of, listened_after, state_after_lines}
use Rattle.conversation.proofs.InputPieces.{holds_all, holds_broken, holds_error, stops_at, taken_more, taken_none, turns_none, turns_noted, turns_piece}
use Rattle.conversation.proofs.PrintedSoFar.{append_none, part_of}

-- ---- one piece

pub err_read : {T : Type 0} (why : Ended) → ◌≡◌ {A = Result T Ended} (Err why) (Err cause.ReadFault) → why ≡ cause.ReadFault
err_read why is = cc

-- a piece that was read and taken
pub hears : {X S : Type 0} (stands : X → S → Type 0) (answer : S → List ℕ → Answered S) (exchange : InputExchange) (reader : SessionReader X) (heard : HeardPiece X) (piece : List ℕ)
    → length piece ≤ exchange.room → WhenTold exchange.old.hearing.left (λ input. TakesOfInput input exchange.new.hearing.left piece)
    → exchange.new.hearing.asked ≡ with_asking exchange.old.taken piece exchange.old.hearing.asked → SessionGoesOn stands answer piece exchange.old.taken exchange.new.taken reader heard.reader
    → (heard.more ≡ false → (piece ≡ []) × WhenTold exchange.old.hearing.left (λ input. input ≡ [])) → SessionHearsFrom stands answer exchange reader heard
unfolding SessionGoesOn SessionHearsFrom
hears stands answer exchange reader heard piece short read noted goes last = λ opening state printed taken s.
    record { piece = piece; short = short; stands_so = goes opening state printed taken s; read = read; noted = noted; at_end = last }

-- a session that stopped in the piece
pub breaks_in : {X S : Type 0} (stands : X → S → Type 0) (answer : S → List ℕ → Answered S) (exchange : InputExchange) (reader : SessionReader X) (piece : List ℕ) (why : Ended)
    → length piece ≤ exchange.room → WhenTold exchange.old.hearing.left (λ input. TakesOfInput input exchange.new.hearing.left piece)
    → exchange.new.hearing.asked ≡ with_asking exchange.old.taken piece exchange.old.hearing.asked → SessionStopsIn stands answer piece exchange.old.taken exchange.new.taken reader why
    → SessionBreaksFrom stands answer exchange reader why
unfolding SessionStopsIn SessionBreaksFrom
breaks_in stands answer exchange reader piece why short read noted stops = λ opening state printed taken s.
    record { piece = piece; short = short; read = read; noted = inl noted; stops = stops_at (talker_of opening state answer) printed exchange.new.taken (taken ++ piece) why (stops.1 opening state printed taken s) }

pub stops_read : {X S : Type 0} (stands : X → S → Type 0) (answer : S → List ℕ → Answered S) (before now : Option (List ℕ)) (reader : SessionReader X) (piece : List ℕ) (why : Ended) → SessionStopsIn stands answer piece before now reader why → why ≡ cause.ReadFault → ⊥
unfolding SessionStopsIn
stops_read stands answer before now reader piece why stops is = subst InputReadsOn is stops.0

-- another end than by a failed read counts none
pub none_counted : (T : Type 0) (count : ℕ) (why : Ended) → (why ≡ cause.ReadFault → ⊥) → listened_after {T = T} count (Err why) ≡ count
none_counted T count cause.Done other = refl
none_counted T count cause.TooLarge other = refl
none_counted T count cause.ReadFault other = absurd (other refl)
none_counted T count cause.WriteFault other = refl
none_counted T count cause.NoMemory other = refl

pub reads_on : (why : Ended) → InputReadsOn why → why ≡ cause.ReadFault → ⊥
reads_on why reads is = subst InputReadsOn is reads

-- a read that failed
pub breaks_read : {X S : Type 0} (stands : X → S → Type 0) (answer : S → List ℕ → Answered S) (exchange : InputExchange) (reader : SessionReader X) → exchange.new.hearing.left ≡ exchange.old.hearing.left → exchange.new.hearing.asked ≡ exchange.old.hearing.asked
    → exchange.new.taken ≡ exchange.old.taken → SessionBreaksFrom stands answer exchange reader cause.ReadFault
unfolding SessionBreaksFrom
breaks_read stands answer exchange reader same unasked silent = λ opening state printed taken s.
    record {
      piece = [];
      short = omega arith;
      read = subst (λ (l : Option (List ℕ)). WhenTold exchange.old.hearing.left (λ input. TakesOfInput input l [])) (sym same) (taken_none exchange.old.hearing.left);
      noted = inr (refl, unasked);
      stops = subst (λ (l : List ℕ). StopsAtPiece (talker_of opening state answer) printed exchange.new.taken l cause.ReadFault) (sym (append-nil taken))
          (record { text = silent ∙ s.text; goes_on = s.goes_on; within = omega (arith, s.count_is, s.within) });
    }

-- ---- piece after piece

-- a session took these bytes, and is after them
pub record Listens {X S : Type 0} (stands : X → S → Type 0) (talker : Talker S) (printed : Option (List ℕ)) (old here : TerminalState) (reader : SessionReader X) : Type 0 where
  pub taken : List ℕ
  pub stands_so : SessionStands stands talker printed here.taken reader taken
  pub read : WhenTold old.hearing.left (λ input. TakesOfInput input here.hearing.left taken)
  pub turns : WhenTold old.hearing.asked (λ earlier. ReadLineByLine talker printed taken earlier here.hearing.asked)

unfoldable pub ListensFrom : {X S : Type 0} → (X → S → Type 0) → (S → List ℕ → Answered S) → TerminalState → TerminalState → SessionReader X → SessionReader X → Type 0
ListensFrom {X} {S} stands answer old here reader next =
    (opening : List ℕ) (state : S) (printed : Option (List ℕ))
    → SessionStands stands (talker_of opening state answer) printed old.taken reader [] → Listens stands (talker_of opening state answer) printed old here next

pub listens_none : {X S : Type 0} (stands : X → S → Type 0) (answer : S → List ℕ → Answered S) (old : TerminalState) (reader : SessionReader X) → ListensFrom stands answer old old reader reader
unfolding ListensFrom
listens_none stands answer old reader = λ opening state printed s.
    record { taken = []; stands_so = s; read = taken_none old.hearing.left; turns = turns_none (talker_of opening state answer) printed old.hearing.asked }

module _ {X S : Type 0} (stands : X → S → Type 0) (answer : S → List ℕ → Answered S) (old here : TerminalState) (reader next : SessionReader X) (so_far : ListensFrom stands answer old here reader next) where
  -- what a piece adds
  adds : (talker : Talker S) (printed : Option (List ℕ)) (new : TerminalState) (heard : HeardPiece X) (size : ℕ) → size ≤ 4096
      → (t : Listens stands talker printed old here next) → HearsPiece stands talker printed t.taken (exchange_of size here new) heard → Listens stands talker printed old new heard.reader
  adds talker printed new heard size small t h =
      let short : length h.piece ≤ size = h.short in
      record {
        taken = t.taken ++ h.piece;
        stands_so = h.stands_so;
        read = taken_more old.hearing.left here.hearing.left new.hearing.left t.taken h.piece t.read h.read;
        turns = turns_noted stands talker printed here.taken next t.taken h.piece t.stands_so (omega (arith, small, short)) old.hearing.asked here.hearing.asked new.hearing.asked t.turns h.noted;
      }

  pub listens_more : (new : TerminalState) (heard : HeardPiece X) (size : ℕ) → size ≤ 4096 → SessionHearsFrom stands answer (exchange_of size here new) next heard → ListensFrom stands answer old new reader heard.reader
  unfolding ListensFrom SessionHearsFrom
  listens_more new heard size small hears = λ opening state printed s.
      let t = so_far opening state printed s in
      adds (talker_of opening state answer) printed new heard size small t (hears opening state printed t.taken t.stands_so)

  pub listens_broken : (new : TerminalState) (size : ℕ) (why : Ended) → size ≤ 4096 → next.count + size ≤ most_input + 1
      → SessionBreaksFrom stands answer (exchange_of size here new) next why → SessionHoldsFrom stands answer old new reader why
  unfolding ListensFrom SessionBreaksFrom SessionHoldsFrom
  listens_broken new size why small room broke = λ opening state printed s.
      let talker = talker_of opening state answer in
      let t = so_far opening state printed s in
      let b = broke opening state printed t.taken t.stands_so in
      let q = t.stands_so in
      let short : length b.piece ≤ size = b.short in
      holds_broken talker t.taken (record old { taken = printed }) here new size why t.read q.goes_on small (omega (arith, q.count_is, room)) b
      (turns_piece stands talker printed here.taken next t.taken b.piece t.stands_so (omega (arith, small, short)) old.hearing.asked here.hearing.asked new.hearing.asked t.turns b.noted)

  module _ (new : TerminalState) (heard : HeardPiece X) (size : ℕ) (small : size ≤ 4096) (none : heard.more ≡ false) (hears : SessionHearsFrom stands answer (exchange_of size here new) next heard) (end : TerminalState) where
    last_told : (taken piece : List ℕ) → WhenTold old.hearing.left (λ input. TakesOfInput input here.hearing.left taken) → (piece ≡ []) × WhenTold here.hearing.left (λ input. input ≡ [])
        → WhenTold old.hearing.left (λ input. input ≡ taken ++ piece)
    last_told taken piece read last = λ input told.
        let f = read input told in
        f.whole ∙ ap (λ (l : List ℕ). taken ++ l) (last.1 f.rest f.left ∙ sym last.0)

    pub listens_all : (session : X) → end.hearing ≡ new.hearing → WasTold stands answer heard.reader.session (lines_of heard.reader.begun) new.taken end.taken (Ok session)
        → SessionHoldsFrom stands answer old end reader cause.Done
    unfolding ListensFrom SessionHearsFrom SessionHoldsFrom WasTold adds
    listens_all session same told = λ opening state printed s.
        let talker = talker_of opening state answer in
        let t = so_far opening state printed s in
        let h = hears opening state printed t.taken t.stands_so in
        let all = adds talker printed new heard size small t h in
        let q = h.stands_so in
        let spoke = told (state_after_lines answer state (whole_lines (t.taken ++ h.piece))) q.stands_in in
        subst (λ (n : Hearing). SessionHolds talker (record old { taken = printed }) (record end { hearing = n }) cause.Done) (sym same)
        (holds_all stands talker printed new.taken end.taken heard.reader (t.taken ++ h.piece) h.stands_so old.hearing new.hearing old.faults end.faults all.read (last_told t.taken h.piece t.read (h.at_end none)) all.turns spoke.0)

    pub listens_error : (why : Ended) → end.hearing ≡ new.hearing → WasTold stands answer heard.reader.session (lines_of heard.reader.begun) new.taken end.taken (Err why)
        → SessionHoldsFrom stands answer old end reader why
    unfolding ListensFrom SessionHearsFrom SessionHoldsFrom WasTold adds
    listens_error why same told = λ opening state printed s.
        let talker = talker_of opening state answer in
        let t = so_far opening state printed s in
        let h = hears opening state printed t.taken t.stands_so in
        let all = adds talker printed new heard size small t h in
        let q = h.stands_so in
        let spoke = told (state_after_lines answer state (whole_lines (t.taken ++ h.piece))) q.stands_in in
        subst (λ (n : Hearing). SessionHolds talker (record old { taken = printed }) (record end { hearing = n }) why) (sym same)
        (holds_error stands talker printed new.taken end.taken heard.reader (t.taken ++ h.piece) h.stands_so old.hearing new.hearing old.faults end.faults all.read (last_told t.taken h.piece t.read (h.at_end none)) all.turns why spoke)

-- ---- the opening

module _ {X S : Type 0} (stands : X → S → Type 0) (answer : S → List ℕ → Answered S) (begun : SessionBegun X) (printed now : Option (List ℕ)) where
  pub opens : now ≡ append_known printed begun.opening → SessionOpens stands answer begun printed now (record { session = begun.session; begun = []; count = 0 })
  unfolding SessionOpens
  opens e = λ state stood. record {
    whole = refl;
    open_line = refl;
    stands_in = stood;
    goes_on = refl;
    text = e ∙ ap (append_known printed) (sym (append-nil begun.opening));
    count_is = refl;
    within = omega arith;
  }

  part_opened : (state : S) (n : ℕ) → now ≡ append_known printed (take n begun.opening) → SaysPart (talker_of begun.opening state answer) printed now []
  part_opened state n e = part_of (talker_of begun.opening state answer) printed now [] n (omega arith) (e ∙ ap (λ (l : List ℕ). append_known printed (take n l)) (sym (append-nil begun.opening)))

  pub opens_failed : (n : ℕ) (e : WriteError) → now ≡ append_known printed (take n begun.opening) → SessionOpensPart stands answer begun printed now (ended_by e)
  unfolding SessionOpensPart
  opens_failed n writing.Failed is = (tt, λ state stood. part_opened state n is)
  opens_failed n writing.NoMemory is = (tt, λ state stood. part_opened state n is)

  pub opens_read : (why : Ended) → SessionOpensPart stands answer begun printed now why → why ≡ cause.ReadFault → ⊥
  unfolding SessionOpensPart
  opens_read why part is = subst FailsAtOpening is part.0

-- ---- the whole session

module _ {X S : Type 0} (stands : X → S → Type 0) (answer : S → List ℕ → Answered S) (begun : SessionBegun X) where
  pub held : (old here new : TerminalState) (reader : SessionReader X) (why : Ended)
      → here.hearing ≡ old.hearing → SessionOpens stands answer begun old.taken here.taken reader → SessionHoldsFrom stands answer here new reader why → HeldSession stands answer begun old new why
  unfolding SessionOpens SessionHoldsFrom HeldSession
  held old here new reader why same opened holds = λ state stood.
      let h = subst (λ (o : Hearing). SessionHolds (talker_of begun.opening state answer) (record { hearing = o; taken = old.taken; faults = here.faults }) new why) same (holds begun.opening state old.taken (opened state stood)) in
      record { taken = h.taken; asks = h.asks; read = h.read; turns = h.turns; said = h.said; large = h.large }

stops_unopened : {S : Type 0} (talker : Talker S) (printed now : Option (List ℕ)) (why : Ended) → SaysPart talker printed now [] → FailsAtOpening why → StopsAtPiece talker printed now [] why
stops_unopened talker printed now cause.Done part fails = absurd fails
stops_unopened talker printed now cause.TooLarge part fails = absurd fails
stops_unopened talker printed now cause.ReadFault part fails = absurd fails
stops_unopened talker printed now cause.WriteFault part fails = part
stops_unopened talker printed now cause.NoMemory part fails = part

-- a session that said only some of its opening
pub unopened_holds : {S : Type 0} (talker : Talker S) (old new : TerminalState) (why : Ended) → new.hearing ≡ old.hearing → SaysPart talker old.taken new.taken [] → FailsAtOpening why → SessionHolds talker old new why
unopened_holds talker old new why same part fails =
    let none : 0 ≤ 0 = omega arith in
    subst (λ (n : Hearing). SessionHolds talker old (record new { hearing = n }) why) (sym same)
    (holds_broken talker [] old old (record new { hearing = old.hearing }) 0 why (taken_none old.hearing.left) refl (omega arith) (omega arith)
    (record { piece = []; short = none; read = taken_none old.hearing.left; noted = inr (refl, refl); stops = stops_unopened talker old.taken new.taken why part fails })
    (turns_none talker old.taken old.hearing.asked))

pub held_unopened : {X S : Type 0} (stands : X → S → Type 0) (answer : S → List ℕ → Answered S) (begun : SessionBegun X) (old new : TerminalState) (why : Ended)
    → new.hearing ≡ old.hearing → SessionOpensPart stands answer begun old.taken new.taken why → HeldSession stands answer begun old new why
unfolding SessionOpensPart HeldSession
held_unopened stands answer begun old new why same part = λ state stood. unopened_holds (talker_of begun.opening state answer) old new why same (part.1 state stood) part.0

-- a session that did not begin
pub unbegun : {S : Type 0} (talker : Talker S) (terminal : TerminalState) → SessionHolds talker terminal terminal cause.NoMemory
unbegun talker terminal = unopened_holds talker terminal terminal cause.NoMemory refl (part_of talker terminal.taken terminal.taken [] 0 (omega arith) (sym (append_none terminal.taken))) tt
