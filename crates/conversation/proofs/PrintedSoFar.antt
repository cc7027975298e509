-- What a session has printed where bytes are taken, and its outcome then.
use Rattle.std.proofs.Common.{◌≡◌, ℕ, ◌+◌, ◌-◌, ◌≤◌, ◌<◌, Bool, true, false, List, [], ◌++◌, length, take, Option, Some, None, refl, sym, ap, subst, ◌∙◌, append_assoc, append-nil, length-append, arith, inl, inr}
use Rattle.std.specs.Prelude.{◌&&◌, not, nat_lt, if◌then◌else◌, Ok, Err}
use Rattle.std.specs.List.{list_any}
use Rattle.std.specs.Io.KnownBytes.{append_known}
use Rattle.std.proofs.lemmas.Bool.{cases_Bool, ltb-true, ltb-false}
use Rattle.std.proofs.lemmas.List.{take-append-le, take_all}
use Rattle.std.proofs.Math.Seq.{take-append-add, take-append_seam, take-length}
use Rattle.fri_text.specs.Line.{is_line_feed, lines_of}
use Rattle.command_run.specs.declared.refusal.Reason.TheVariants as reason
use Rattle.command_run.specs.Outcome.{CommandOutcome, Refuses, outcome_text, refused_line}
use Rattle.conversation.specs.Limits.{most_input}
use Rattle.conversation.specs.Lines.{early_lines, whole_lines, whole_part}
use Rattle.conversation.specs.Outcome.{conversation_outcome, input_name, is_large_input, spoken_work}
use Rattle.conversation.specs.Talker.{Talker, answers_of_lines, ends_in_lines, ends_session, spoken_text}
use Rattle.conversation.specs.inside.Reader.{PrintsPart, InputOverruns, SessionQuits, SaysPart, SessionStands, SessionReader, state_after_lines}
use Rattle.conversation.proofs.WholeLines.{Fronts, FrontsText, IsWhole, after-append, ends-append, has_feed-append, ends_fronts, lines_front, session_ended, session_front, session_more, whole_lines-ended, whole_lines-same, whole_lines_front, whole_part-append_none, whole_part-append_some}

-- ---- what a sink took

pub append_twice : (known : Option (List ℕ)) (a b : List ℕ) → append_known (append_known known a) b ≡ append_known known (a ++ b)
append_twice None a b = refl
append_twice (Some xs) a b = ap Some (append_assoc xs a b)

pub append_none : (known : Option (List ℕ)) → append_known known [] ≡ known
append_none None = refl
append_none (Some xs) = ap Some (append-nil xs)

-- so much of a text that is the front of another is so much of the other, or the whole front
pub take_front : (n : ℕ) (front whole : List ℕ) → FrontsText front whole → (k : ℕ) × (take n front ≡ take k whole)
take_front n front whole f =
    elim (cases_Bool (nat_lt (length front) n)) [
      | inl past ↦ (length front, take_all n front (omega (arith, ltb-true)) ∙ sym (ap (take (length front)) f.1 ∙ take-append_seam front f.0))
      | inr within ↦ (n, sym (ap (take n) f.1 ∙ take-append-le n front f.0 (omega (arith, ltb-false))))
    ]

-- ---- the limit, as a variable

abbrev pub is_large_at : {S : Type 0} → ℕ → Talker S → List ℕ → Bool
is_large_at m talker input = nat_lt m (length input) && not (ends_session talker (whole_lines (take m input)))

abbrev pub outcome_at : {S : Type 0} → ℕ → Talker S → List ℕ → CommandOutcome
outcome_at m talker input =
    if is_large_at m talker input then Err (Refuses input_name reason.TooLarge (spoken_work (spoken_text talker (whole_lines (take m input)))))
    else Ok (spoken_work (spoken_text talker (lines_of input)))

take_past : (m : ℕ) (got rest : List ℕ) → length got ≤ m → take m (got ++ rest) ≡ got ++ take (m - length got) rest
take_past m got rest within =
    let e : length got + (m - length got) ≡ m = omega arith in
    ap (λ (k : ℕ). take k (got ++ rest)) (sym e) ∙ take-append-add got rest (m - length got)

-- the lines that end within the limit begin with these
early_front : (m : ℕ) (got rest : List ℕ) → length got ≤ m → Fronts (whole_lines got) (whole_lines (take m (got ++ rest)))
early_front m got rest within =
    let f = whole_lines_front got (take (m - length got) rest) in
    (f.0, ap whole_lines (take_past m got rest within) ∙ f.1)

pub fits_ended : (m : ℕ) {S : Type 0} (talker : Talker S) (got rest : List ℕ) → length got ≤ m → ends_session talker (whole_lines got) ≡ true → is_large_at m talker (got ++ rest) ≡ false
fits_ended m talker got rest within ended =
    let e = ends_fronts talker (whole_lines got) (whole_lines (take m (got ++ rest))) (early_front m got rest within) ended in
    rw e (grind (arith))

pub fits_short : (m : ℕ) {S : Type 0} (talker : Talker S) (input : List ℕ) → length input ≤ m → is_large_at m talker input ≡ false
fits_short m talker input within =
    let e : nat_lt m (length input) ≡ false = grind (arith) in
    rw e refl

pub large_past : (m : ℕ) {S : Type 0} (talker : Talker S) (got more : List ℕ) → length got ≡ m → 0 < length more → ends_session talker (whole_lines got) ≡ false → is_large_at m talker (got ++ more) ≡ true
large_past m talker got more at some on =
    let e : take m (got ++ more) ≡ got = ap (λ (k : ℕ). take k (got ++ more)) (sym at) ∙ take-append_seam got more in
    let longer : nat_lt m (length (got ++ more)) ≡ true = rw length-append (grind (arith)) in
    rw (longer, e, on) refl

pub early_at : (m : ℕ) (got more : List ℕ) → length got ≡ m → whole_lines (take m (got ++ more)) ≡ whole_lines got
early_at m got more at = ap whole_lines (ap (λ (k : ℕ). take k (got ++ more)) (sym at) ∙ take-append_seam got more)

-- what is said to the whole lines within the limit is a front of all that is printed
pub outcome_front : (m : ℕ) {S : Type 0} (talker : Talker S) (got rest : List ℕ) → length got ≤ m → FrontsText (spoken_text talker (whole_lines got)) (outcome_text (outcome_at m talker (got ++ rest)))
outcome_front m talker got rest within =
    elim (cases_Bool (is_large_at m talker (got ++ rest))) [
      | inl large ↦ (let f = session_front talker (whole_lines got) (whole_lines (take m (got ++ rest))) (early_front m got rest within) in
          let refusal : List ℕ = refused_line input_name reason.TooLarge in (
            f.0 ++ refusal,
            ap (λ (b : Bool). outcome_text (if b then Err (Refuses input_name reason.TooLarge (spoken_work (spoken_text talker (whole_lines (take m (got ++ rest)))))) else Ok (spoken_work (spoken_text talker (lines_of (got ++ rest)))))) large
                ∙ ap (λ (l : List ℕ). l ++ refusal) f.1 ∙ append_assoc (spoken_text talker (whole_lines got)) f.0 refusal,
          ))
      | inr fits ↦ (let f = session_front talker (whole_lines got) (lines_of (got ++ rest)) (lines_front got rest) in
          (f.0, ap (λ (b : Bool). outcome_text (if b then Err (Refuses input_name reason.TooLarge (spoken_work (spoken_text talker (whole_lines (take m (got ++ rest)))))) else Ok (spoken_work (spoken_text talker (lines_of (got ++ rest)))))) fits ∙ f.1))
    ]

-- ---- a part of what is to be printed

pub part_of : {S : Type 0} (talker : Talker S) (printed now : Option (List ℕ)) (got : List ℕ) (n : ℕ) → length got ≤ most_input → now ≡ append_known printed (take n (spoken_text talker (whole_lines got))) → SaysPart talker printed now got
part_of talker printed now got n within e = λ rest.
    let f = take_front n (spoken_text talker (whole_lines got)) (outcome_text (conversation_outcome talker (got ++ rest))) (outcome_front most_input talker got rest within) in
    (f.0, e ∙ ap (append_known printed) f.1)

-- the same where more bytes were taken
pub part_more : {S : Type 0} (talker : Talker S) (printed now : Option (List ℕ)) (got more : List ℕ) → SaysPart talker printed now got → SaysPart talker printed now (got ++ more)
part_more talker printed now got more part = λ rest.
    let p = part (more ++ rest) in
    (p.0, p.1 ∙ ap (λ (l : List ℕ). append_known printed (take p.0 (outcome_text (conversation_outcome talker l)))) (sym (append_assoc got more rest)))

pub quits_more : {S : Type 0} (talker : Talker S) (printed now : Option (List ℕ)) (got more : List ℕ) → SessionQuits talker printed now got → SessionQuits talker printed now (got ++ more)
quits_more talker printed now got more q = record {
  ended = ends_fronts talker (whole_lines got) (whole_lines (got ++ more)) (whole_lines_front got more) q.ended;
  fits = λ rest. ap (is_large_input talker) (append_assoc got more rest) ∙ q.fits (more ++ rest);
  text = λ rest. q.text (more ++ rest) ∙ ap (λ (l : List ℕ). append_known printed (spoken_text talker (lines_of l))) (sym (append_assoc got more rest));
}

pub overruns_more : {S : Type 0} (talker : Talker S) (printed now : Option (List ℕ)) (got more : List ℕ) → InputOverruns talker printed now got → InputOverruns talker printed now (got ++ more)
overruns_more talker printed now got more o = record {
  large = λ rest. ap (is_large_input talker) (append_assoc got more rest) ∙ o.large (more ++ rest);
  text = λ rest. o.text (more ++ rest) ∙ ap (λ (l : List ℕ). append_known printed (spoken_text talker (early_lines l))) (sym (append_assoc got more rest));
}

-- ---- bytes are taken

-- more bytes of the line that has begun
abbrev pub with_bytes : {X : Type 0} → SessionReader X → List ℕ → SessionReader X
with_bytes reader bytes = record { session = reader.session; begun = reader.begun ++ bytes; count = reader.count + length bytes }

-- bytes that end it, and what answered the lines that they end
abbrev pub at_line_end : {X : Type 0} → SessionReader X → List ℕ → X → SessionReader X
at_line_end reader bytes next = record { session = next; begun = []; count = reader.count + length bytes }

-- what was printed so far
pub part_so_far : {X S : Type 0} (stands : X → S → Type 0) (talker : Talker S) (printed now : Option (List ℕ)) (reader : SessionReader X) (taken : List ℕ) → SessionStands stands talker printed now reader taken → SaysPart talker printed now taken
part_so_far stands talker printed now reader taken s = part_of talker printed now taken (length (spoken_text talker (whole_lines taken))) (omega (arith, s.count_is, s.within))
    (s.text ∙ ap (append_known printed) (sym (take-length (spoken_text talker (whole_lines taken)))))

module _ {X S : Type 0} (stands : X → S → Type 0) (talker : Talker S) (printed now : Option (List ℕ)) (reader : SessionReader X) (taken : List ℕ) (s : SessionStands stands talker printed now reader taken) (bytes : List ℕ) where
  counted : reader.count + length bytes ≡ length (taken ++ bytes)
  counted = rw length-append (ap (λ (n : ℕ). n + length bytes) s.count_is)

  -- bytes that end no line
  pub stands_open : list_any is_line_feed bytes ≡ false → reader.count + length bytes ≤ most_input → SessionStands stands talker printed now (with_bytes reader bytes) (taken ++ bytes)
  stands_open none room =
      let part = whole_part-append_none taken bytes none in
      let lines = whole_lines-same taken bytes none in
      record {
        whole = ap (λ (l : List ℕ). l ++ bytes) s.whole ∙ append_assoc (whole_part taken) reader.begun bytes ∙ ap (λ (l : List ℕ). l ++ (reader.begun ++ bytes)) (sym part);
        open_line = has_feed-append reader.begun bytes ∙ (rw (s.open_line, none) refl);
        stands_in = subst (λ (l : List (List ℕ)). stands reader.session (state_after_lines talker.answer talker.state l)) (sym lines) s.stands_in;
        goes_on = ap (ends_session talker) lines ∙ s.goes_on;
        text = s.text ∙ ap (λ (l : List (List ℕ)). append_known printed (spoken_text talker l)) (sym lines);
        count_is = counted;
        within = room;
      }

  -- the state in which the session is told the lines that they end
  abbrev pub there : S
  there = state_after_lines talker.answer talker.state (whole_lines taken)

  abbrev pub told : List (List ℕ)
  told = lines_of (reader.begun ++ bytes)

  -- bytes that end with a line feed
  module _ (new : Option (List ℕ)) (whole : IsWhole bytes) (some : list_any is_line_feed bytes ≡ true) (room : reader.count + length bytes ≤ most_input) where
    lines : whole_lines (taken ++ bytes) ≡ whole_lines taken ++ told
    lines = whole_lines-ended taken reader.begun bytes s.whole whole some

    fits : length (taken ++ bytes) ≤ most_input
    fits = omega (arith, room, counted)

    ends_is : ends_session talker (whole_lines (taken ++ bytes)) ≡ ends_in_lines talker.answer there told
    ends_is = ap (ends_session talker) lines ∙ ends-append talker.answer talker.state (whole_lines taken) told s.goes_on

    text_is : spoken_text talker (whole_lines (taken ++ bytes)) ≡ spoken_text talker (whole_lines taken) ++ answers_of_lines talker.answer there told
    text_is = ap (spoken_text talker) lines ∙ session_more talker (whole_lines taken) told s.goes_on

    printed_is : new ≡ append_known now (answers_of_lines talker.answer there told) → new ≡ append_known printed (spoken_text talker (whole_lines (taken ++ bytes)))
    printed_is e = e ∙ ap (λ (k : Option (List ℕ)). append_known k (answers_of_lines talker.answer there told)) s.text
        ∙ append_twice printed (spoken_text talker (whole_lines taken)) (answers_of_lines talker.answer there told)
        ∙ ap (append_known printed) (sym text_is)

    pub stands_ended : (next : X) → new ≡ append_known now (answers_of_lines talker.answer there told) → ends_in_lines talker.answer there told ≡ false
        → stands next (state_after_lines talker.answer there told) → SessionStands stands talker printed new (at_line_end reader bytes next) (taken ++ bytes)
    stands_ended next e on after = record {
      whole = sym (append-nil _ ∙ whole_part-append_some taken bytes some ∙ ap (λ (l : List ℕ). taken ++ l) whole);
      open_line = refl;
      stands_in = subst (stands next) (sym (ap (state_after_lines talker.answer talker.state) lines ∙ after-append talker.answer talker.state (whole_lines taken) told)) after;
      goes_on = ends_is ∙ on;
      text = printed_is e;
      count_is = counted;
      within = room;
    }

    pub quits_ended : new ≡ append_known now (answers_of_lines talker.answer there told) → ends_in_lines talker.answer there told ≡ true → SessionQuits talker printed new (taken ++ bytes)
    quits_ended e ended =
        let over = ends_is ∙ ended in
        record {
          ended = over;
          fits = λ rest. fits_ended most_input talker (taken ++ bytes) rest fits over;
          text = λ rest. printed_is e ∙ ap (append_known printed) (sym (session_ended talker (whole_lines (taken ++ bytes)) (lines_of ((taken ++ bytes) ++ rest)) (lines_front (taken ++ bytes) rest) over));
        }

    pub part_ended : PrintsPart talker.answer there told now new → SaysPart talker printed new (taken ++ bytes)
    part_ended p =
        let said = spoken_text talker (whole_lines taken) in
        let more = answers_of_lines talker.answer there told in
        part_of talker printed new (taken ++ bytes) (length said + p.0) fits
        (p.1 ∙ ap (λ (k : Option (List ℕ)). append_known k (take p.0 more)) s.text
        ∙ append_twice printed said (take p.0 more)
        ∙ ap (append_known printed) (sym (take-append-add said more p.0) ∙ ap (take (length said + p.0)) (sym text_is)))

  -- nothing more was printed
  pub part_kept : SaysPart talker printed now (taken ++ bytes)
  part_kept = part_more talker printed now taken bytes (part_so_far stands talker printed now reader taken s)

  pub overruns : most_input ≤ reader.count → 0 < length bytes → InputOverruns talker printed now (taken ++ bytes)
  overruns full some =
      let at : length taken ≡ most_input = omega (arith, s.count_is, s.within) in
      record {
        large = λ rest. ap (is_large_input talker) (append_assoc taken bytes rest) ∙ large_past most_input talker taken (bytes ++ rest) at (rw length-append (omega (arith, some))) s.goes_on;
        text = λ rest. s.text ∙ ap (λ (l : List (List ℕ)). append_known printed (spoken_text talker l)) (sym (ap early_lines (append_assoc taken bytes rest) ∙ early_at most_input taken (bytes ++ rest) at));
      }
