-- What is read with a sign between, one after the other.
use Rattle.std.proofs.Common.{◌≡◌, ℕ, zero, suc, ◌+◌, ◌<◌, ◌≤◌, if◌then◌else◌, Bool, true, false, List, [], ◌∷◌, ◌++◌, length, drop, map, Ok, Err, refl, sym, ap, ◌∙◌, arith, subst, append_assoc, length-drop}
use Rattle.std.proofs.lemmas.List.{map-append}
use Rattle.std.specs.Result.{is_ok}
use Rattle.expression_text.specs.declared.error.ExprError.{ExprError}
use Rattle.expression_text.specs.declared.error.ExprError.TheVariants.{Syntax, NoNode, TooDeep, Nested, NoMemory}
use Rattle.expression_text.specs.Lexing.{LexedLine}
use Rattle.point_programs.specs.inside.Parsed.{ReadAsTokens}
use Rattle.point_programs.specs.Reading.{LeftTokens, ReadOfTokens, after_token, separated_items, separated_in, then_more_items, then_reads}
use Rattle.point_programs.proofs.ReadTokens.{drop_one, first_is}

-- what was read so far, in front of what the rest gives
abbrev pub in_front : {A : Type 0} → List A → ReadOfTokens (List A) → ReadOfTokens (List A)
in_front front (Ok r) = Ok (front ++ r.0, r.1)
in_front front (Err left) = Err left

-- these were read of all tokens, and here is where to go on
pub record Reached {A : Type 0} (sign : List ℕ) (one : LeftTokens → ReadOfTokens A) (all : LeftTokens) (front : List A) (here : LeftTokens) : Type 0 where
  pub most : ℕ
  pub enough : length here ≤ most
  pub same : separated_items sign one all ≡ in_front front (separated_in sign one most here)

short : (ts : LeftTokens) → length ts ≤ 0 → ts ≡ []
short [] le = refl
short (t ∷ ts) le = absurd (omega arith)

-- tokens that are left are the same whatever was to be read
retyped : {A B : Type 0} (left : LeftTokens) → ◌≡◌ {A = ReadOfTokens A} (Err []) (Err left) → ◌≡◌ {A = ReadOfTokens B} (Err []) (Err left)
retyped left same = let is : [] ≡ left = cc in ap (λ (ts : LeftTokens). Err ts) is

refused_in : {A : Type 0} (sign : List ℕ) (one : LeftTokens → ReadOfTokens A) (most : ℕ) (here left : LeftTokens) → length here ≤ most → one [] ≡ Err [] → one here ≡ Err left → separated_in sign one most here ≡ Err left
refused_in {A} sign one zero here left le nothing e =
    let is = short here le in
    let same : ◌≡◌ {A = ReadOfTokens A} (Err []) (Err left) = sym nothing ∙ (ap one (sym is) ∙ e) in
    ap (λ (ts : LeftTokens). Err ts) is ∙ retyped left same
refused_in sign one (suc most) here left le nothing e = ap (λ (r : ReadOfTokens _). then_reads r (then_more_items sign (separated_in sign one most))) e

-- where the next one is refused, all are
pub refuses : {A : Type 0} (sign : List ℕ) (one : LeftTokens → ReadOfTokens A) (all : LeftTokens) (front : List A) (here left : LeftTokens) → Reached sign one all front here → one [] ≡ Err [] → one here ≡ Err left → separated_items sign one all ≡ Err left
refuses sign one all front here left h nothing e = h.same ∙ ap (in_front front) (refused_in sign one h.most here left h.enough nothing e)

-- after the sign, what the rest gives, with this in front
abbrev onto : {A : Type 0} → A → ReadOfTokens (List A) → ReadOfTokens (List A)
onto a more = then_reads more (λ more left. Ok (a ∷ more, left))

-- the rest where a test holds, and this alone where it does not
abbrev going : {A : Type 0} → Bool → A → ReadOfTokens (List A) → LeftTokens → ReadOfTokens (List A)
going b a more left = if b then onto a more else Ok (a ∷ [], left)

more_stops : {A : Type 0} (sign : List ℕ) (rest : LeftTokens → ReadOfTokens (List A)) (a : A) (left : LeftTokens) → is_ok (after_token sign left) ≡ false → then_more_items sign rest a left ≡ Ok (a ∷ [], left)
more_stops sign rest a [] e = refl
more_stops sign rest a (t ∷ left) e = ap (λ (b : Bool). going b a (rest left) (t ∷ left)) (sym (first_is sign t left) ∙ e)

more_goes : {A : Type 0} (sign : List ℕ) (rest : LeftTokens → ReadOfTokens (List A)) (a : A) (left : LeftTokens) → is_ok (after_token sign left) ≡ true → then_more_items sign rest a left ≡ onto a (rest (drop 1 left))
more_goes sign rest a [] e = absurd (cc)
more_goes sign rest a (t ∷ left) e = ap (λ (b : Bool). going b a (rest left) (t ∷ left)) (sym (first_is sign t left) ∙ e)

-- something stands where a sign does
some_there : (sign : List ℕ) (left : LeftTokens) → is_ok (after_token sign left) ≡ true → 0 < length left
some_there sign [] e = absurd (cc)
some_there sign (t ∷ left) e = omega arith

in_front_onto : {A : Type 0} (front : List A) (a : A) (r : ReadOfTokens (List A)) → in_front front (onto a r) ≡ in_front (front ++ a ∷ []) r
in_front_onto front a (Ok r) = ap (λ (all : List _). Ok (all, r.1)) (sym (append_assoc front (a ∷ []) r.0))
in_front_onto front a (Err left) = refl

read_first : {A : Type 0} (sign : List ℕ) (one : LeftTokens → ReadOfTokens A) (most : ℕ) (here left : LeftTokens) (a : A) → length here ≤ most → one [] ≡ Err [] → one here ≡ Ok (a, left) → (rest : ℕ) × (most ≡ suc rest) × (separated_in sign one most here ≡ then_more_items sign (separated_in sign one rest) a left)
read_first sign one zero here left a le nothing e = let is = short here le in absurd (cc (nothing, e, ap one is))
read_first sign one (suc most) here left a le nothing e = (most, refl, ap (λ (r : ReadOfTokens _). then_reads r (then_more_items sign (separated_in sign one most))) e)

-- where no sign follows what was read last, all was read
pub ends : {A : Type 0} (sign : List ℕ) (one : LeftTokens → ReadOfTokens A) (all : LeftTokens) (front : List A) (here left : LeftTokens) (a : A) → Reached sign one all front here → one [] ≡ Err [] → one here ≡ Ok (a, left) → is_ok (after_token sign left) ≡ false → separated_items sign one all ≡ Ok (front ++ a ∷ [], left)
ends sign one all front here left a h nothing e none =
    let p = read_first sign one h.most here left a h.enough nothing e in
    h.same ∙ ap (in_front front) (p.2 ∙ more_stops sign (separated_in sign one p.0) a left none)

-- where one does, reading goes on after it
pub goes_on : {A : Type 0} (sign : List ℕ) (one : LeftTokens → ReadOfTokens A) (all : LeftTokens) (front : List A) (here left : LeftTokens) (a : A) → Reached sign one all front here → one [] ≡ Err [] → one here ≡ Ok (a, left) → is_ok (after_token sign left) ≡ true → length left ≤ length here → Reached sign one all (front ++ a ∷ []) (drop 1 left)
goes_on sign one all front here left a h nothing e some shorter =
    let p = read_first sign one h.most here left a h.enough nothing e in
    record {
      most = p.0;
      enough = omega (arith, p.1, h.enough, length-drop 1 left, some_there sign left some);
      same = h.same ∙ (ap (in_front front) (p.2 ∙ more_goes sign (separated_in sign one p.0) a left some) ∙ in_front_onto front a (separated_in sign one p.0 (drop 1 left)));
    }

map_push : {X A : Type 0} (f : X → A) (items more : List X) (x : X) → more ≡ items ++ x ∷ [] → map f items ++ f x ∷ [] ≡ map f more
map_push f items more x e = sym (ap (map f) e ∙ map-append f items (x ∷ []))

-- Below, `items` are those that the code has, and `more` are the same with one more.

-- all are refused where the next one is
pub refused_among : {X Y A : Type 0} (f : X → A) (g : Y → List A) (line : LexedLine) (sign : List ℕ) (one : LeftTokens → ReadOfTokens A) (all : LeftTokens) (front : List A) (here : LeftTokens) (e : ExprError) → Reached sign one all front here → one [] ≡ Err [] → ReadAsTokens f line (one here) (Err e) → ReadAsTokens g line (separated_items sign one all) (Err e)
refused_among f g line sign one all front here (Syntax column) reached nothing h = (h.0, refuses sign one all front here h.0 reached nothing h.1, h.2)
refused_among f g line sign one all front here NoMemory reached nothing h = tt
refused_among f g line sign one all front here NoNode reached nothing h = h
refused_among f g line sign one all front here TooDeep reached nothing h = h
refused_among f g line sign one all front here Nested reached nothing h = h

-- all were read
pub ended : {X A : Type 0} (f : X → A) (sign : List ℕ) (one : LeftTokens → ReadOfTokens A) (ts all : LeftTokens) (items more : List X) (x : X) (at next : ℕ) → Reached sign one all (map f items) (drop at ts) → one [] ≡ Err [] → one (drop at ts) ≡ Ok (f x, drop next ts) → more ≡ items ++ x ∷ [] → is_ok (after_token sign (drop next ts)) ≡ false → separated_items sign one all ≡ Ok (map f more, drop next ts)
ended f sign one ts all items more x at next reached nothing e pushed none =
    ends sign one all (map f items) (drop at ts) (drop next ts) (f x) reached nothing e none ∙ ap (λ (list : List _). Ok (list, drop next ts)) (map_push f items more x pushed)

-- one more was read, and a sign follows it
pub went_on : {X A : Type 0} (f : X → A) (sign : List ℕ) (one : LeftTokens → ReadOfTokens A) (ts all : LeftTokens) (items more : List X) (x : X) (at next : ℕ) → Reached sign one all (map f items) (drop at ts) → one [] ≡ Err [] → one (drop at ts) ≡ Ok (f x, drop next ts) → more ≡ items ++ x ∷ [] → is_ok (after_token sign (drop next ts)) ≡ true → at ≤ next → Reached sign one all (map f more) (drop (next + 1) ts)
went_on f sign one ts all items more x at next reached nothing e pushed some onward =
    let shorter : length (drop next ts) ≤ length (drop at ts) = omega (arith, length-drop next ts, length-drop at ts) in
    let went = goes_on sign one all (map f items) (drop at ts) (drop next ts) (f x) reached nothing e some shorter in
    subst (λ (here : LeftTokens). Reached sign one all (map f more) here) (drop_one ts next) (subst (λ (list : List _). Reached sign one all list (drop 1 (drop next ts))) (map_push f items more x pushed) went)
