-- The status and the text with which a session ends.
use Rattle.std.proofs.Common.{◌≡◌, ℕ, ◌+◌, List, ◌++◌, length, take, Option, refl, sym, ap, subst, ◌∙◌}
use Rattle.std.specs.Io.KnownBytes.{append_known}
use Rattle.std.proofs.Math.Seq.{take-append-add, take-length}
use Rattle.fri_outside.specs.Outside.{WhenTold, raised_count}
use Rattle.fri_outside.specs.Terminal.{Hearing}
use Rattle.conversation.specs.declared.conversing.Ended.{Ended}
use Rattle.conversation.specs.declared.conversing.Ended.TheVariants as cause
use Rattle.command_run.specs.declared.refusal.Reason.TheVariants as reason
use Rattle.command_run.specs.declared.status.Status.{Status}
use Rattle.command_run.specs.declared.status.Status.TheVariants as status
use Rattle.command_run.specs.Call.{IsAnswerStatus, PrintsText, failed_says_after}
use Rattle.conversation.specs.Conversing.{Converses, IsNoSessionStatus, TerminalState, heard_after}
use Rattle.conversation.specs.Input.{TakesOfInput, TakesTurns}
use Rattle.conversation.specs.Lines.{whole_lines}
use Rattle.conversation.specs.Outcome.{conversation_outcome, input_name}
use Rattle.conversation.specs.Talker.{Answered, Talker, spoken_text, talker_of}
use Rattle.command_run.specs.Outcome.{outcome_text, refused_line}
use Rattle.conversation.specs.inside.Reader.{HeldSession, SessionBegun, SessionHolds}
use Rattle.command_run.specs.OutcomeLaws.{prints_all}
use Rattle.conversation.proofs.PrintedSoFar.{append_twice, part_of}

prints_behind : (answer : Status) (earlier line : List ℕ) (before mid after : Option (List ℕ)) → mid ≡ append_known before earlier → PrintsText answer line mid after → PrintsText answer (earlier ++ line) before after
prints_behind answer earlier line before mid after e p = record {
  whole = λ is. p.whole is ∙ ap (λ (k : Option (List ℕ)). append_known k line) e ∙ append_twice before earlier line;
  part = (
    length earlier + p.part.0,
    p.part.1 ∙ ap (λ (k : Option (List ℕ)). append_known k (take p.part.0 line)) e ∙ append_twice before earlier (take p.part.0 line)
        ∙ ap (append_known before) (sym (take-append-add earlier line p.part.0)),
  );
}

is_refused : (answer : Status) → (IsAnswerStatus answer → answer ≡ status.Refused) → IsNoSessionStatus answer → ⊥
is_refused status.Done only none = none
is_refused status.Diverged only none = let e = only tt in absurd cc
is_refused status.Usage only none = let e = only tt in absurd cc
is_refused status.Refused only none = none
is_refused status.Absent only none = let e = only tt in absurd cc
is_refused status.ReadFault only none = none
is_refused status.WriteFault only none = none
is_refused status.NoMemory only none = none

never_done : (answer : Status) → (IsAnswerStatus answer → answer ≡ status.Refused) → answer ≡ status.Done → ⊥
never_done answer only is = let e : answer ≡ status.Refused = only (subst IsAnswerStatus (sym is) tt) in absurd cc

-- no read failed
none_heard : (count : ℕ) (answer : Status) → (answer ≡ status.ReadFault → ⊥) → heard_after count answer ≡ count
none_heard count status.Done other = refl
none_heard count status.Diverged other = refl
none_heard count status.Usage other = refl
none_heard count status.Refused other = refl
none_heard count status.Absent other = refl
none_heard count status.ReadFault other = absurd (other refl)
none_heard count status.WriteFault other = refl
none_heard count status.NoMemory other = refl

-- the turns of a session that was held
turns_held : {S : Type 0} (talker : Talker S) (old new : TerminalState) (why : Ended) → SessionHolds talker old new why → WhenTold old.hearing.asked (TakesTurns talker old.hearing new.hearing old.taken)
turns_held talker old new why h = λ earlier told.
    let c = h.turns earlier told in
    record { askings = c.askings; noted = c.noted; in_turn = c.in_turn; taken = subst (λ (l : List ℕ). WhenTold old.hearing.left (λ input. TakesOfInput input new.hearing.left l)) (sym c.given) h.read }

module _ {S : Type 0} (talker : Talker S) (old new : TerminalState) where
  pub conversed_done : SessionHolds talker old new cause.Done → new.hearing.faults ≡ old.hearing.faults → new.faults ≡ old.faults → Converses talker old new status.Done
  conversed_done h reads writes = record {
    ended = λ input told answer. let s = h.said input told in (let fits = s.fits in rw fits refl);
    text = λ input told. let s = h.said input told in (let fits = s.fits in rw fits (prints_all _ _ _ _ _ refl s.text));
    turns = turns_held talker old new cause.Done h;
    input = λ input told. record { taken = h.taken; is_taken = h.read input told; asks = h.asks; at_end = λ is. (let s = h.said input told in s.at_end) };
    answered = λ is. absurd cc;
    other = λ none. none;
    refused = λ is. absurd cc;
    reads = reads;
    writes = writes;
  }

  pub conversed_read : SessionHolds talker old new cause.ReadFault → new.hearing.faults ≡ raised_count old.hearing.faults → new.faults ≡ old.faults → Converses talker old new status.ReadFault
  conversed_read h reads writes = record {
    ended = λ input told answer. absurd answer;
    text = λ input told. (let s = h.said input told in let r = h.read input told in
        let p = part_of talker old.taken new.taken h.taken (length (spoken_text talker (whole_lines h.taken))) s.within (s.text ∙ ap (append_known old.taken) (sym (take-length (spoken_text talker (whole_lines h.taken))))) r.rest in
        record { whole = λ answer. absurd answer; part = (p.0, p.1 ∙ ap (λ (l : List ℕ). append_known old.taken (take p.0 (outcome_text (conversation_outcome talker l)))) (sym r.whole)) });
    turns = turns_held talker old new cause.ReadFault h;
    input = λ input told. record { taken = h.taken; is_taken = h.read input told; asks = h.asks; at_end = λ is. absurd cc };
    answered = λ is input told. (let s = h.said input told in record { taken = h.taken; is_taken = h.read input told; text = s.text; goes_on = s.goes_on });
    other = λ none. none;
    refused = λ is. absurd cc;
    reads = reads;
    writes = writes;
  }

  pub conversed_write : SessionHolds talker old new cause.WriteFault → new.hearing.faults ≡ old.hearing.faults → new.faults ≡ raised_count old.faults → Converses talker old new status.WriteFault
  conversed_write h reads writes = record {
    ended = λ input told answer. absurd answer;
    text = λ input told. record { whole = λ answer. absurd answer; part = h.said input told };
    turns = turns_held talker old new cause.WriteFault h;
    input = λ input told. record { taken = h.taken; is_taken = h.read input told; asks = h.asks; at_end = λ is. absurd cc };
    answered = λ is. absurd cc;
    other = λ none. none;
    refused = λ is. absurd cc;
    reads = reads;
    writes = writes;
  }

  pub conversed_memory : SessionHolds talker old new cause.NoMemory → new.hearing.faults ≡ old.hearing.faults → new.faults ≡ old.faults → Converses talker old new status.NoMemory
  conversed_memory h reads writes = record {
    ended = λ input told answer. absurd answer;
    text = λ input told. record { whole = λ answer. absurd answer; part = h.said input told };
    turns = turns_held talker old new cause.NoMemory h;
    input = λ input told. record { taken = h.taken; is_taken = h.read input told; asks = h.asks; at_end = λ is. absurd cc };
    answered = λ is. absurd cc;
    other = λ none. none;
    refused = λ is. absurd cc;
    reads = reads;
    writes = writes;
  }

  -- the refusal was said, or could not be said
  pub conversed_large : (here : TerminalState) (answer : Status) → SessionHolds talker old here cause.TooLarge → new.hearing ≡ here.hearing → here.hearing.faults ≡ old.hearing.faults
      → (IsAnswerStatus answer → answer ≡ status.Refused) → PrintsText answer (refused_line input_name reason.TooLarge) here.taken new.taken → (answer ≡ status.ReadFault → ⊥)
      → new.faults ≡ failed_says_after old.faults answer → Converses talker old new answer
  conversed_large here answer h same reads only prints not_read writes = record {
    ended = λ input told is. (let s = h.said input told in let large = s.0 in rw large (only is));
    text = λ input told. (let s = h.said input told in let large = s.0 in rw large (prints_behind answer _ _ old.taken here.taken new.taken s.1 prints));
    turns = subst (λ (n : Hearing). WhenTold old.hearing.asked (TakesTurns talker old.hearing n old.taken)) (sym same) (turns_held talker old here cause.TooLarge h);
    input = λ input told. record {
      taken = h.taken;
      is_taken = subst (λ (n : Hearing). TakesOfInput input n.left h.taken) (sym same) (h.read input told);
      asks = h.asks;
      at_end = λ is. absurd (never_done answer only is);
    };
    answered = λ is. absurd (not_read is);
    other = is_refused answer only;
    refused = λ is. (let l = h.large refl in let w = prints_behind answer l.0 (refused_line input_name reason.TooLarge) old.taken here.taken new.taken l.1 prints in (l.0, w.whole (subst IsAnswerStatus (sym is) tt)));
    reads = ap (λ (n : Hearing). n.faults) same ∙ reads ∙ sym (none_heard old.hearing.faults answer not_read);
    writes = writes;
  }

-- ---- in whatever state it stood

module _ {X S : Type 0} (stands : X → S → Type 0) (answer : S → List ℕ → Answered S) (begun : SessionBegun X) (old new : TerminalState) where
  pub ends_done : HeldSession stands answer begun old new cause.Done → new.hearing.faults ≡ old.hearing.faults → new.faults ≡ old.faults
      → (state : S) → stands begun.session state → Converses (talker_of begun.opening state answer) old new status.Done
  unfolding HeldSession
  ends_done h reads writes = λ state stood. conversed_done (talker_of begun.opening state answer) old new (h state stood) reads writes

  pub ends_read : HeldSession stands answer begun old new cause.ReadFault → new.hearing.faults ≡ raised_count old.hearing.faults → new.faults ≡ old.faults
      → (state : S) → stands begun.session state → Converses (talker_of begun.opening state answer) old new status.ReadFault
  unfolding HeldSession
  ends_read h reads writes = λ state stood. conversed_read (talker_of begun.opening state answer) old new (h state stood) reads writes

  pub ends_write : HeldSession stands answer begun old new cause.WriteFault → new.hearing.faults ≡ old.hearing.faults → new.faults ≡ raised_count old.faults
      → (state : S) → stands begun.session state → Converses (talker_of begun.opening state answer) old new status.WriteFault
  unfolding HeldSession
  ends_write h reads writes = λ state stood. conversed_write (talker_of begun.opening state answer) old new (h state stood) reads writes

  pub ends_memory : HeldSession stands answer begun old new cause.NoMemory → new.hearing.faults ≡ old.hearing.faults → new.faults ≡ old.faults
      → (state : S) → stands begun.session state → Converses (talker_of begun.opening state answer) old new status.NoMemory
  unfolding HeldSession
  ends_memory h reads writes = λ state stood. conversed_memory (talker_of begun.opening state answer) old new (h state stood) reads writes

  pub ends_large : (here : TerminalState) (answered : Status) → HeldSession stands answer begun old here cause.TooLarge → new.hearing ≡ here.hearing → here.hearing.faults ≡ old.hearing.faults
      → (IsAnswerStatus answered → answered ≡ status.Refused) → PrintsText answered (refused_line input_name reason.TooLarge) here.taken new.taken → (answered ≡ status.ReadFault → ⊥)
      → new.faults ≡ failed_says_after old.faults answered → (state : S) → stands begun.session state → Converses (talker_of begun.opening state answer) old new answered
  unfolding HeldSession
  ends_large here answered h same reads only prints not_read writes = λ state stood.
      conversed_large (talker_of begun.opening state answer) old new here answered (h state stood) same reads only prints not_read writes
