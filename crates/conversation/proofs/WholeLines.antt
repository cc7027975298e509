-- The whole lines of bytes to which more are added, and what a session answers to them.
use Rattle.std.proofs.Common.{◌≡◌, ℕ, zero, suc, ◌+◌, ◌<◌, ◌≤◌, Bool, true, false, ◌||◌, List, [], ◌∷◌, ◌++◌, length, get_or, take, refl, sym, ap, ◌∙◌, append_assoc, append-nil, arith, inl, inr}
use Rattle.std.specs.Prelude.{map, if◌then◌else◌}
use Rattle.std.specs.List.{list_any, onto_first}
use Rattle.std.specs.Str.Lines.{strip_carriage_return}
use Rattle.std.proofs.lemmas.Bool.{cases_Bool}
use Rattle.std.proofs.lemmas.List.{append_cancel_left}
use Rattle.fri_text.specs.Line.{is_line_feed, pieces_of, lines_of}
use Rattle.conversation.specs.Lines.{whole_lines, whole_part}
use Rattle.conversation.specs.Talker.{Answered, Talker, answers_of_lines, ends_in_lines, ends_session, spoken_text}
use Rattle.conversation.specs.inside.Reader.{state_after_lines}

-- ---- the bytes up to the last line feed

pub has_feed-append : (a b : List ℕ) → list_any is_line_feed (a ++ b) ≡ (list_any is_line_feed a || list_any is_line_feed b)
has_feed-append [] b = refl
has_feed-append (c ∷ a) b =
    let ih = has_feed-append a b in
    elim (cases_Bool (is_line_feed c)) [
      | inl feed ↦ rw feed refl
      | inr other ↦ rw other ih
    ]

-- bytes with no line feed have no whole line
pub whole_part-none : (b : List ℕ) → list_any is_line_feed b ≡ false → whole_part b ≡ []
whole_part-none [] none = refl
whole_part-none (c ∷ b) none = rw none refl

pub whole_part-append_none : (a b : List ℕ) → list_any is_line_feed b ≡ false → whole_part (a ++ b) ≡ whole_part a
whole_part-append_none [] b none = whole_part-none b none
whole_part-append_none (c ∷ a) b none =
    let ih = whole_part-append_none a b none in
    let same : list_any is_line_feed (c ∷ (a ++ b)) ≡ list_any is_line_feed (c ∷ a) = has_feed-append (c ∷ a) b ∙ (rw none (grind (arith))) in
    rw (same, ih) refl

pub whole_part-append_some : (a b : List ℕ) → list_any is_line_feed b ≡ true → whole_part (a ++ b) ≡ a ++ whole_part b
whole_part-append_some [] b some = refl
whole_part-append_some (c ∷ a) b some =
    let ih = whole_part-append_some a b some in
    let there : list_any is_line_feed (c ∷ (a ++ b)) ≡ true = has_feed-append (c ∷ a) b ∙ (rw some (grind (arith))) in
    rw (there, ih) refl

whole_part-kept : (c : ℕ) (t : List ℕ) → list_any is_line_feed (c ∷ t) ≡ true → (open_line : List ℕ) → t ≡ whole_part t ++ open_line → c ∷ t ≡ whole_part (c ∷ t) ++ open_line
whole_part-kept c t some open_line e = rw some (ap (λ (l : List ℕ). c ∷ l) e)

-- after them there is no line feed
pub whole_part-front : (t : List ℕ) → (open_line : List ℕ) × ((t ≡ whole_part t ++ open_line) × (list_any is_line_feed open_line ≡ false))
whole_part-front [] = ([], (refl, refl))
whole_part-front (c ∷ t) =
    let ih = whole_part-front t in
    elim (cases_Bool (list_any is_line_feed (c ∷ t))) [
      | inl some ↦ (ih.0, (whole_part-kept c t some (ih.0) ih.1.0, ih.1.1))
      | inr none ↦ (c ∷ t, (ap (λ (l : List ℕ). l ++ (c ∷ t)) (sym (whole_part-none (c ∷ t) none)), none))
    ]

pub open_behind : (bytes front behind : List ℕ) → front ≡ whole_part bytes → bytes ≡ front ++ behind → list_any is_line_feed behind ≡ false
open_behind bytes front behind is parts =
    let f = whole_part-front bytes in
    let same : front ++ behind ≡ front ++ f.0 = sym parts ∙ f.1.0 ∙ ap (λ (l : List ℕ). l ++ f.0) (sym is) in
    ap (list_any is_line_feed) (append_cancel_left front behind f.0 same) ∙ f.1.1

-- ---- the lines of bytes that end with a line feed, or have none, and of more

-- bytes that are empty or end with a line feed
abbrev pub IsWhole : List ℕ → Type 0
IsWhole w = whole_part w ≡ w

pub whole_part-whole : (t : List ℕ) → IsWhole (whole_part t)
whole_part-whole t =
    let front = whole_part-front t in
    sym (whole_part-append_none (whole_part t) front.0 front.1.1) ∙ ap whole_part (sym front.1.0)

onto_first-append : (b : ℕ) (xs ys : List (List ℕ)) → 0 < length xs → onto_first b (xs ++ ys) ≡ onto_first b xs ++ ys
onto_first-append b [] ys some = absurd (omega arith)
onto_first-append b (x ∷ xs) ys some = refl

onto_first-some : (b : ℕ) (xs : List (List ℕ)) → 0 < length (onto_first b xs)
onto_first-some b [] = omega arith
onto_first-some b (x ∷ xs) = omega arith

pieces_of-some : (b : ℕ) (bytes : List ℕ) → 0 < length (pieces_of (b ∷ bytes))
pieces_of-some b bytes =
    elim (cases_Bool (is_line_feed b)) [
      | inl feed ↦ rw feed (omega arith)
      | inr other ↦ rw other (onto_first-some b (pieces_of bytes))
    ]

whole-more : (b : ℕ) (w : List ℕ) → IsWhole (b ∷ w) → IsWhole w
whole-more b w whole =
    elim (cases_Bool (list_any is_line_feed (b ∷ w))) [
      | inl some ↦ (let e : b ∷ whole_part w ≡ b ∷ w = rw some at whole in cc)
      | inr none ↦ (let e : [] ≡ b ∷ w = rw none at whole in absurd cc)
    ]

-- a byte that is no line feed is not the last of them
whole-last : (b : ℕ) → is_line_feed b ≡ false → IsWhole (b ∷ []) → ⊥
whole-last b other whole = let e : [] ≡ b ∷ [] = rw other at whole in absurd cc

pub pieces_of-append : (w v : List ℕ) → IsWhole w → pieces_of (w ++ v) ≡ pieces_of w ++ pieces_of v
pieces_of-append [] v whole = refl
pieces_of-append (b ∷ []) v whole =
    elim (cases_Bool (is_line_feed b)) [
      | inl feed ↦ rw feed refl
      | inr other ↦ absurd (whole-last b other whole)
    ]
pieces_of-append (b ∷ (c ∷ w)) v whole =
    let ih = pieces_of-append (c ∷ w) v (whole-more b (c ∷ w) whole) in
    elim (cases_Bool (is_line_feed b)) [
      | inl feed ↦ rw feed (ap (λ (l : List (List ℕ)). [] ∷ l) ih)
      | inr other ↦ rw other (ap (onto_first b) ih ∙ onto_first-append b (pieces_of (c ∷ w)) (pieces_of v) (pieces_of-some c w))
    ]

map-append : (f : List ℕ → List ℕ) (xs ys : List (List ℕ)) → map f (xs ++ ys) ≡ map f xs ++ map f ys
map-append f [] ys = refl
map-append f (x ∷ xs) ys = ap (λ (l : List (List ℕ)). f x ∷ l) (map-append f xs ys)

pub lines_of-append : (w v : List ℕ) → IsWhole w → lines_of (w ++ v) ≡ lines_of w ++ lines_of v
lines_of-append w v whole =
    ap (map strip_carriage_return) (pieces_of-append w v whole) ∙ map-append strip_carriage_return (pieces_of w) (pieces_of v)

-- the lines of bytes whose last line is open
pub lines_of-open : (t begun : List ℕ) → t ≡ whole_part t ++ begun → lines_of t ≡ whole_lines t ++ lines_of begun
lines_of-open t begun e = ap lines_of e ∙ lines_of-append (whole_part t) begun (whole_part-whole t)

-- ---- the whole lines where bytes are added

pub whole_lines-same : (t b : List ℕ) → list_any is_line_feed b ≡ false → whole_lines (t ++ b) ≡ whole_lines t
whole_lines-same t b none = ap lines_of (whole_part-append_none t b none)

-- if there are any such bytes, one is a line feed
pub whole-has_feed : (w : List ℕ) → IsWhole w → 0 < length w → list_any is_line_feed w ≡ true
whole-has_feed w whole some =
    elim (cases_Bool (list_any is_line_feed w)) [
      | inl feed ↦ feed
      | inr none ↦ (let e : w ≡ [] = sym whole ∙ whole_part-none w none in absurd (omega (arith, some, ap length e)))
    ]

-- bytes that end with a line feed end the line that has begun, and more of their own
pub whole_lines-ended : (t begun w : List ℕ) → t ≡ whole_part t ++ begun → IsWhole w → list_any is_line_feed w ≡ true → whole_lines (t ++ w) ≡ whole_lines t ++ lines_of (begun ++ w)
whole_lines-ended t begun w e whole some =
    ap lines_of (whole_part-append_some t w some ∙ ap (λ (l : List ℕ). t ++ l) whole)
    ∙ ap (λ (l : List ℕ). lines_of (l ++ w)) e
    ∙ ap lines_of (append_assoc (whole_part t) begun w)
    ∙ lines_of-append (whole_part t) (begun ++ w) (whole_part-whole t)

-- ---- the place of the last line feed

has_feed-none : (bytes : List ℕ) → ((k : ℕ) → k < length bytes → is_line_feed (get_or bytes k 0) ≡ false) → list_any is_line_feed bytes ≡ false
has_feed-none [] other = refl
has_feed-none (b ∷ bytes) other =
    let first : is_line_feed b ≡ false = other 0 (omega arith) in
    rw first (has_feed-none bytes (λ k lt. other (suc k) (omega (arith, lt))))

has_feed-some : (bytes : List ℕ) (n : ℕ) → n < length bytes → is_line_feed (get_or bytes n 0) ≡ true → list_any is_line_feed bytes ≡ true
has_feed-some [] n within here = absurd (omega (arith, within))
has_feed-some (b ∷ bytes) zero within here = rw here refl
has_feed-some (b ∷ bytes) (suc n) within here =
    let later = has_feed-some bytes n (omega (arith, within)) here in
    elim (cases_Bool (is_line_feed b)) [
      | inl feed ↦ rw feed refl
      | inr other ↦ rw other later
    ]

pub whole_part-nowhere : (bytes : List ℕ) → ((k : ℕ) → k < length bytes → is_line_feed (get_or bytes k 0) ≡ false) → whole_part bytes ≡ []
whole_part-nowhere bytes other = whole_part-none bytes (has_feed-none bytes other)

pub whole_part-at : (bytes : List ℕ) (n : ℕ) → n < length bytes → is_line_feed (get_or bytes n 0) ≡ true
    → ((k : ℕ) → n + 1 ≤ k → k < length bytes → is_line_feed (get_or bytes k 0) ≡ false) → whole_part bytes ≡ take (suc n) bytes
whole_part-at [] n within here after = absurd (omega (arith, within))
whole_part-at (b ∷ bytes) zero within here after =
    let some = has_feed-some (b ∷ bytes) zero within here in
    rw some (ap (λ (rest : List ℕ). b ∷ rest) (whole_part-nowhere bytes (λ k lt. after (suc k) (omega arith) (omega (arith, lt)))))
whole_part-at (b ∷ bytes) (suc n) within here after =
    let some = has_feed-some (b ∷ bytes) (suc n) within here in
    rw some (ap (λ (rest : List ℕ). b ∷ rest) (whole_part-at bytes n (omega (arith, within)) here (λ k le lt. after (suc k) (omega (arith, le)) (omega (arith, lt)))))

-- ---- a front of bytes has a front of the lines

abbrev pub Fronts : List (List ℕ) → List (List ℕ) → Type 0
Fronts front whole = (more : List (List ℕ)) × (whole ≡ front ++ more)

pub lines_front : (a b : List ℕ) → Fronts (whole_lines a) (lines_of (a ++ b))
lines_front a b =
    let f = whole_part-front a in (
      lines_of (f.0 ++ b),
      ap (λ (l : List ℕ). lines_of (l ++ b)) f.1.0
          ∙ ap lines_of (append_assoc (whole_part a) f.0 b)
          ∙ lines_of-append (whole_part a) (f.0 ++ b) (whole_part-whole a),
    )

pub whole_lines_front : (a b : List ℕ) → Fronts (whole_lines a) (whole_lines (a ++ b))
whole_lines_front a b =
    elim (cases_Bool (list_any is_line_feed b)) [
      | inl some ↦ (let f = lines_front a (whole_part b) in (f.0, ap lines_of (whole_part-append_some a b some) ∙ f.1))
      | inr none ↦ ([], whole_lines-same a b none ∙ sym (append-nil (whole_lines a)))
    ]

-- ---- what a session answers

or_on : (quits x y z : Bool) → (quits || x) ≡ false → (x ≡ false → y ≡ z) → (quits || y) ≡ z
or_on true x y z on same = absurd cc
or_on false x y z on same = same on

or_ended : (quits x y : Bool) → (quits || x) ≡ true → (x ≡ true → y ≡ true) → (quits || y) ≡ true
or_ended true x y ended same = refl
or_ended false x y ended same = same ended

said_on : (quits x : Bool) (text front more whole : List ℕ) → (quits || x) ≡ false → (x ≡ false → whole ≡ front ++ more) → text ++ (if quits then [] else whole) ≡ (text ++ (if quits then [] else front)) ++ more
said_on true x text front more whole on same = absurd cc
said_on false x text front more whole on same = ap (λ (l : List ℕ). text ++ l) (same on) ∙ sym (append_assoc text front more)

said_ended : (quits x : Bool) (text front whole : List ℕ) → (quits || x) ≡ true → (x ≡ true → whole ≡ front) → text ++ (if quits then [] else whole) ≡ text ++ (if quits then [] else front)
said_ended true x text front whole ended same = refl
said_ended false x text front whole ended same = ap (λ (l : List ℕ). text ++ l) (same ended)

abbrev pub FrontsText : List ℕ → List ℕ → Type 0
FrontsText front whole = (more : List ℕ) × (whole ≡ front ++ more)

module _ {S : Type 0} (answer : S → List ℕ → Answered S) where
  pub after-append : (state : S) (a b : List (List ℕ)) → state_after_lines answer state (a ++ b) ≡ state_after_lines answer (state_after_lines answer state a) b
  after-append state [] b = refl
  after-append state (line ∷ a) b = after-append (answer state line).state a b

  pub ends-append : (state : S) (a b : List (List ℕ)) → ends_in_lines answer state a ≡ false → ends_in_lines answer state (a ++ b) ≡ ends_in_lines answer (state_after_lines answer state a) b
  ends-append state [] b on = refl
  ends-append state (line ∷ a) b on =
      let next = (answer state line).state in
      or_on (answer state line).quits (ends_in_lines answer next a) (ends_in_lines answer next (a ++ b)) (ends_in_lines answer (state_after_lines answer next a) b) on (λ more. ends-append next a b more)

  pub ends-front : (state : S) (a b : List (List ℕ)) → ends_in_lines answer state a ≡ true → ends_in_lines answer state (a ++ b) ≡ true
  ends-front state [] b ended = absurd cc
  ends-front state (line ∷ a) b ended =
      let next = (answer state line).state in
      or_ended (answer state line).quits (ends_in_lines answer next a) (ends_in_lines answer next (a ++ b)) ended (λ more. ends-front next a b more)

  pub answers-append : (state : S) (a b : List (List ℕ)) → ends_in_lines answer state a ≡ false → answers_of_lines answer state (a ++ b) ≡ answers_of_lines answer state a ++ answers_of_lines answer (state_after_lines answer state a) b
  answers-append state [] b on = refl
  answers-append state (line ∷ a) b on =
      let next = (answer state line).state in
      said_on (answer state line).quits (ends_in_lines answer next a) (answer state line).text (answers_of_lines answer next a) (answers_of_lines answer (state_after_lines answer next a) b) (answers_of_lines answer next (a ++ b)) on (λ more. answers-append next a b more)

  pub answers-ended : (state : S) (a b : List (List ℕ)) → ends_in_lines answer state a ≡ true → answers_of_lines answer state (a ++ b) ≡ answers_of_lines answer state a
  answers-ended state [] b ended = absurd cc
  answers-ended state (line ∷ a) b ended =
      let next = (answer state line).state in
      said_ended (answer state line).quits (ends_in_lines answer next a) (answer state line).text (answers_of_lines answer next a) (answers_of_lines answer next (a ++ b)) ended (λ more. answers-ended next a b more)

  pub answers_front : (state : S) (a b : List (List ℕ)) → FrontsText (answers_of_lines answer state a) (answers_of_lines answer state (a ++ b))
  answers_front state a b =
      elim (cases_Bool (ends_in_lines answer state a)) [
        | inl ended ↦ ([], answers-ended state a b ended ∙ sym (append-nil (answers_of_lines answer state a)))
        | inr on ↦ (answers_of_lines answer (state_after_lines answer state a) b, answers-append state a b on)
      ]

module _ {S : Type 0} (talker : Talker S) where
  -- the text of a front of the lines is a front of the text
  pub session_front : (front whole : List (List ℕ)) → Fronts front whole → FrontsText (spoken_text talker front) (spoken_text talker whole)
  session_front front whole f =
      let g = answers_front talker.answer talker.state front f.0 in
      (g.0, ap (spoken_text talker) f.1 ∙ ap (λ (l : List ℕ). talker.opening ++ l) g.1 ∙ sym (append_assoc talker.opening (answers_of_lines talker.answer talker.state front) g.0))

  pub session_more : (a b : List (List ℕ)) → ends_session talker a ≡ false
      → spoken_text talker (a ++ b) ≡ spoken_text talker a ++ answers_of_lines talker.answer (state_after_lines talker.answer talker.state a) b
  session_more a b on =
      ap (λ (l : List ℕ). talker.opening ++ l) (answers-append talker.answer talker.state a b on)
      ∙ sym (append_assoc talker.opening (answers_of_lines talker.answer talker.state a) (answers_of_lines talker.answer (state_after_lines talker.answer talker.state a) b))

  pub session_ended : (a whole : List (List ℕ)) → Fronts a whole → ends_session talker a ≡ true → spoken_text talker whole ≡ spoken_text talker a
  session_ended a whole f ended =
      ap (spoken_text talker) f.1 ∙ ap (λ (l : List ℕ). talker.opening ++ l) (answers-ended talker.answer talker.state a f.0 ended)

  pub ends_fronts : (a whole : List (List ℕ)) → Fronts a whole → ends_session talker a ≡ true → ends_session talker whole ≡ true
  ends_fronts a whole f ended = ap (ends_session talker) f.1 ∙ ends-front talker.answer talker.state a f.0 ended
