-- An answer that is the line of a refusal leaves the session as it was.
use Rattle.std.proofs.Common.{◌≡◌, ℕ, zero, suc, ◌+◌, ◌/◌, ◌%◌, ◌<◌, Bool, true, false, cond, ◌&&◌, ◌||◌, nat_eq, nat_le, nat_lt, List, [], ◌∷◌, ◌++◌, length, take, drop, Option, Some, None, bytes_eq, codes, decimal, ℤ, inl, inr, refl, sym, ap, ◌∙◌, arith}
use Rattle.std.proofs.lemmas.Bool.{cases_Bool, eqb-true, ltb-true, ltb-false, lt-ltb}
use Rattle.std.specs.Fmt.{digit_glyph, digits, digits_onto}
use Rattle.std.specs.Prelude.{slice_get}
use Rattle.call_table.specs.declared.kind.Kind.{Kind}
use Rattle.group_state.specs.Moves.{last_event_of}
use Rattle.guest_process.specs.State.{State}
use Rattle.group_state.specs.Place.{GroupPlace, events_of_replays, node_names, states_of_nodes}
use Rattle.group_text.specs.Texts.{event_ending, position_line}
use Rattle.point_programs.specs.Faulty.{set_names}
use Rattle.expression_text.specs.Expression.{Expression}
use Rattle.point_programs.specs.Tree.{Statements}
use Rattle.point_programs.specs.Variables.{is_mentioned, mention_all}
use Rattle.shell_lines.specs.Lines.{At, Back, Break, LineCommand, Continue, Delete, Do, Events, Everywhere, Frames, Goto, ListPoints, ListVariables, Mem, Print, Quit, Rcontinue, WhichNodes, SetTo, Step, Threads, Watch}
use Rattle.shell_lines.specs.Meaning.{Does, LineMeaning, Refuses, Silent, line_meaning, trimmed}
use Rattle.shell_lines.specs.Refusals.{refusal_line}
use Rattle.shell_lines.specs.declared.refusal.LineRefusal.{LineRefusal}
use Rattle.shell_lines.specs.declared.refusal.LineRefusal.TheVariants as refusal
use Rattle.shell_points.specs.Firing.{place_at}
use Rattle.shell_points.specs.Points.{Trigger, has_point, index_of_point}
use Rattle.shell_points.specs.Returning.{return_from}
use Rattle.shell_points.specs.Walking.{Walk, walk_from}
use Rattle.friday_shell.specs.Answer.{LineAnswer, adds_point, answer_of_meaning, arrives_at_position, attaches_at, breaks_at, command_answer, deletes_point, frames_in, shows_frames, most_points, most_variables, says_text, sets_variable, walks_on}
use Rattle.friday_shell.specs.Laws.{RefusedStays}
use Rattle.friday_shell.specs.Points.{SessionState}

-- ---- decimal digits

-- each byte stands below the letters
abbrev Low : List ℕ → Type 0
Low [] = Unit {0}
Low (b ∷ bytes) = (b < 97) × Low bytes

-- there is one, too
abbrev LowSome : List ℕ → Type 0
LowSome [] = ⊥
LowSome (b ∷ bytes) = (b < 97) × Low bytes

low_cond : (b : Bool) (xs ys : List ℕ) → LowSome xs → LowSome ys → LowSome (cond b xs ys)
low_cond true xs ys h k = h
low_cond false xs ys h k = k

all_low : (xs : List ℕ) → LowSome xs → Low xs
all_low [] h = absurd h
all_low (b ∷ bytes) h = h

glyph_low : (n : ℕ) → digit_glyph false (n % 10) < 97
glyph_low n = elim (cases_Bool (nat_lt (n % 10) 10)) [
  | inl t ↦
      let is : digit_glyph false (n % 10) ≡ 48 + n % 10 = ap (λ (b : Bool). cond b (48 + n % 10) (87 + n % 10)) t in
      omega (arith, is, ltb-true (n % 10) 10 t)
  | inr f ↦ absurd (omega (arith, ltb-false (n % 10) 10 f))
]

digits_low : (k n : ℕ) (ds : List ℕ) → LowSome ds → LowSome (digits_onto k 10 false n ds)
digits_low zero n ds h = h
digits_low (suc k) n ds h =
    let more = digit_glyph false (n % 10) ∷ ds in
    let low : LowSome more = (glyph_low n, all_low ds h) in
    low_cond (nat_eq (n / 10) 0) more (digits_onto k 10 false (n / 10) more) low (digits_low k (n / 10) more low)

decimal_low : (n : ℕ) → LowSome (decimal n)
unfolding digits
decimal_low n =
    let one = digit_glyph false (n % 10) ∷ [] in
    let low : LowSome one = (glyph_low n, tt) in
    low_cond (nat_eq (n / 10) 0) one (digits_onto 63 10 false (n / 10) one) low (digits_low 63 (n / 10) one low)

-- ---- what no refusal says

abbrev head : List ℕ → ℕ
head [] = 0
head (b ∷ bytes) = b

-- "at ", and then no small letter
abbrev begins_at : List ℕ → Bool
begins_at bytes = bytes_eq (take 3 bytes) (codes "at ") && nat_lt (head (drop 3 bytes)) 97

-- the same somewhere
abbrev says_at : List ℕ → Bool
says_at [] = false
says_at (b ∷ bytes) = begins_at (b ∷ bytes) || says_at bytes

or_first : (a b : Bool) → a ≡ true → (a || b) ≡ true
or_first true b e = refl
or_first false b e = absurd cc

or_second : (a b : Bool) → b ≡ true → (a || b) ≡ true
or_second true b e = refl
or_second false b e = e

or_none : (a b : Bool) → a ≡ false → b ≡ false → (a || b) ≡ false
or_none true b e f = e
or_none false b e f = f

said_at : (front rest : List ℕ) → begins_at rest ≡ true → says_at (front ++ rest) ≡ true
said_at [] [] h = h
said_at [] (b ∷ rest) h = or_first (begins_at (b ∷ rest)) (says_at rest) h
said_at (b ∷ front) rest h = or_second (begins_at (b ∷ (front ++ rest))) (says_at (front ++ rest)) (said_at front rest h)

low_head : (ds rest : List ℕ) → LowSome ds → nat_lt (head (ds ++ rest)) 97 ≡ true
low_head [] rest h = absurd h
low_head (d ∷ ds) rest h = lt-ltb d 97 h.0

position_begins : (place : GroupPlace) → begins_at (position_line place) ≡ true
position_begins place = low_head (decimal place.at) (event_ending place.start (last_event_of place)) (decimal_low place.at)

other_byte : (d : ℕ) → d < 97 → nat_eq d 97 ≡ false
other_byte d low = elim (cases_Bool (nat_eq d 97)) [ inl t ↦ absurd (omega (arith, low, eqb-true d 97 t)) | inr f ↦ f ]

digits_say_none : (ds : List ℕ) → Low ds → says_at (ds ++ codes "\n") ≡ false
digits_say_none [] h = refl
digits_say_none (d ∷ ds) h =
    let rest = ds ++ codes "\n" in
    let not_here : begins_at (d ∷ rest) ≡ false = ap (λ (b : Bool). (b && bytes_eq (take 2 rest) (codes "t ")) && nat_lt (head (drop 3 (d ∷ rest))) 97) (other_byte d h.0) in
    or_none (begins_at (d ∷ rest)) (says_at rest) not_here (digits_say_none ds h.1)

refusal_says_none : (why : LineRefusal) → says_at (refusal_line why) ≡ false
refusal_says_none (refusal.Syntax column) = digits_say_none (decimal column) (all_low (decimal column) (decimal_low column))
refusal_says_none refusal.NoNode = refl
refusal_says_none refusal.TooDeep = refl
refusal_says_none refusal.Nested = refl
refusal_says_none refusal.NamesVariable = refl
refusal_says_none refusal.NoPoint = refl
refusal_says_none refusal.NoPosition = refl
refusal_says_none refusal.TooLong = refl
refusal_says_none refusal.TooMany = refl
refusal_says_none refusal.NoThread = refl

-- no refusal ends with a position
no_position : (front : List ℕ) (place : GroupPlace) (why : LineRefusal) → front ++ position_line place ≡ refusal_line why → ⊥
no_position front place why e =
    let never : ◌≡◌ {A = Bool} true false = sym (said_at front (position_line place) (position_begins place)) ∙ ap says_at e ∙ refusal_says_none why in
    cc

-- each begins with a question mark
first_byte : (why : LineRefusal) → head (refusal_line why) ≡ 63
first_byte (refusal.Syntax column) = refl
first_byte refusal.NoNode = refl
first_byte refusal.TooDeep = refl
first_byte refusal.Nested = refl
first_byte refusal.NamesVariable = refl
first_byte refusal.NoPoint = refl
first_byte refusal.NoPosition = refl
first_byte refusal.TooLong = refl
first_byte refusal.TooMany = refl
first_byte refusal.NoThread = refl

other_text : (text : List ℕ) (why : LineRefusal) → (head text ≡ 63 → ⊥) → text ≡ refusal_line why → ⊥
other_text text why other e = other (ap head e ∙ first_byte why)

-- ---- answers

module _ (state : SessionState) where
  -- where it is a refusal's line, nothing changed
  abbrev Stays : LineAnswer → Type 0
  Stays a = (why : LineRefusal) → a.text ≡ refusal_line why → (a.state ≡ state) × (a.quits ≡ false)

  either : (b : Bool) (a c : LineAnswer) → Stays a → Stays c → Stays (cond b a c)
  either true a c h k = h
  either false a c h k = k

  same : (text : List ℕ) → Stays (says_text state text)
  same text why e = (refl, refl)

  -- an answer with a text that no refusal has
  apart : (a : LineAnswer) → ((why : LineRefusal) → a.text ≡ refusal_line why → ⊥) → Stays a
  apart a never why e = absurd (never why e)

  other_byte_first : (a : LineAnswer) → (head a.text ≡ 63 → ⊥) → Stays a
  other_byte_first a other = apart a (λ why. other_text a.text why other)

  arriving : (lines : List ℕ) (k : ℕ) → Stays (arrives_at_position state lines k)
  arriving lines k = apart (arrives_at_position state lines k) (no_position lines (place_at state.place.start k))

  walking : (w : Walk) → Stays (walks_on state w)
  walking w = apart (walks_on state w) (no_position w.text (place_at state.place.start w.at))

  adding : (line : List ℕ) (trigger : Trigger) (condition : Option Expression) → Stays (adds_point state line trigger condition)
  adding line trigger condition = either (nat_lt (length state.points) most_points) _ _ (other_byte_first _ (λ e. absurd (omega (arith, e)))) (same _)

  deleting : (n : ℕ) → Stays (deletes_point state n)
  deleting n = either (has_point state.points n) _ _ (other_byte_first _ (λ e. absurd (omega (arith, e)))) (same _)

  attaching : (body : Statements) (place : Option ℕ) → Stays (attaches_at state body place)
  attaching body None = same _
  attaching body (Some place) = either (nat_le (length (mention_all state.variables (set_names body))) most_variables) _ _ (other_byte_first _ (λ e. absurd (omega (arith, e)))) (same _)

  setting : (name : List ℕ) (value : Option ℤ) → Stays (sets_variable state name value)
  setting name value = either (is_mentioned state.variables name || nat_lt (length state.variables) most_variables) _ _ (other_byte_first _ (λ e. absurd (omega (arith, e)))) (same _)

  breaking : (line : List ℕ) (kind : Option Kind) (condition : Option Expression) (scope : WhichNodes) → Stays (breaks_at state line kind condition scope)
  breaking line kind condition Everywhere = adding line _ condition
  breaking line kind condition (At None) = same []
  breaking line kind condition (At (Some n)) = adding line _ condition

  framing : (t : ℕ) (node : Option ℕ) → Stays (shows_frames state node t)
  framing t None = same []
  framing t (Some n) = by (slice_get (states_of_nodes state.place.start state.place.at) n)
    where
      by : (S : Option State) → Stays (frames_in state t S)
      by None = same []
      by (Some S) = either (nat_lt t (length S.crew.threads)) _ _ (same _) (same _)

  commanding : (line : List ℕ) (c : LineCommand) → Stays (command_answer state line c)
  commanding line (Goto k) = either (nat_le k (length (events_of_replays state.place.start))) _ _ (arriving [] k) (same _)
  commanding line (Step n) = arriving [] _
  commanding line (Back n) = arriving [] _
  commanding line (Print x) = same _
  commanding line (Mem n addr len) = same _
  commanding line (Threads n) = same _
  commanding line (Frames n t) = framing t n
  commanding line (Events n) = same _
  commanding line (Watch x condition) = adding line _ condition
  commanding line (Break scope kind condition) = breaking line kind condition scope
  commanding line (Delete n) = deleting n
  commanding line (Do n body) = attaching body (index_of_point state.points n)
  commanding line ListPoints = same _
  commanding line (SetTo name x) = setting name _
  commanding line ListVariables = same _
  commanding line (Continue most) = walking (walk_from state.place state.points state.variables most)
  commanding line Rcontinue = let r = return_from state.place state.points in arriving r.text r.at
  commanding line Quit = other_byte_first _ (λ e. absurd (omega (arith, e)))

  answering : (line : List ℕ) (m : LineMeaning) → Stays (answer_of_meaning state line m)
  answering line Silent = same []
  answering line (Refuses why) = same _
  answering line (Does c) = commanding line c

pub stays : RefusedStays
stays state line why e = answering state (trimmed line) (line_meaning (node_names state.place.start) line) why e
