-- What follows of names that are apart, which crates above need too.
use Rattle.std.specs.Prelude.{⊤, ◌≡◌, ℕ, suc, zero, List, [], ◌∷◌, map, Bool, true, false, ◌||◌, bytes_eq, Contains, Some, None, Result, Ok}
use Rattle.std.proofs.Common.{refl, sym, ap, ◌∙◌, arith, cond, subst}
use Rattle.std.proofs.lemmas.Slice.Eq.{bytes_eq-Decides}
use Rattle.command_run.specs.declared.refusal.StopCause.{StopCause}
use Rattle.command_run.specs.Apart.{AreApart, apart_work, first_clash, refused_over_input, unless_over_input, was_read}
use Rattle.command_run.specs.Call.{StopsAsCause}
use Rattle.command_run.specs.Outcome.{CommandOutcome, CommandStop, CommandWork, and_then}
use Rattle.command_run.specs.OutcomeLaws.{stops_before_next}

read_later : (file name : List ℕ) (read : List (List ℕ)) → Contains read name → Contains (file ∷ read) name
read_later file name read (k, below, at) = (suc k, omega (arith, below), at)

-- a name that the test finds is one of those that were read
found_by : (file name : List ℕ) (read : List (List ℕ)) (b : Bool) → (was_read read name ≡ true → Contains read name) → bytes_eq name file ≡ b → (b || was_read read name) ≡ true → Contains (file ∷ read) name
found_by file name read true rest same is = (0, omega arith, sym ((bytes_eq-Decides name file).0 same))
found_by file name read false rest other is = read_later file name read (rest is)

is_read : (read : List (List ℕ)) (name : List ℕ) → was_read read name ≡ true → Contains read name
is_read [] name is = cc
is_read (file ∷ read) name is = found_by file name read (bytes_eq name file) (is_read read name) refl is

-- and one that it does not find is none of them
neither : (b c : Bool) → (b || c) ≡ false → (b ≡ false) × (c ≡ false)
neither true c is = cc
neither false c is = (refl, is)

false_or_true : (b : Bool) → b ≡ false → b ≡ true → ⊥
false_or_true true none some = cc
false_or_true false none some = cc

read_not : (read : List (List ℕ)) (name : List ℕ) → was_read read name ≡ false → Contains read name → ⊥
read_not [] name is (k, below, at) = absurd (omega (arith, below))
read_not (file ∷ read) name is (zero, below, at) = false_or_true (bytes_eq name file) (neither (bytes_eq name file) (was_read read name) is).0 ((bytes_eq-Decides name file).1 (sym at))
read_not (file ∷ read) name is (suc k, below, at) = read_not read name (neither (bytes_eq name file) (was_read read name) is).1 (k, omega (arith, below), at)

-- ---- what is apart is not refused

first_apart : (read made : List (List ℕ)) (name : List ℕ) (b : Bool) → first_clash read made ≡ None → (Contains read name → ⊥) → was_read read name ≡ b → cond b (Some name) (first_clash read made) ≡ None
first_apart read made name true rest apart is = absurd (apart (is_read read name is))
first_apart read made name false rest apart is = rest

none_clashes : (read made : List (List ℕ)) → AreApart read made → first_clash read made ≡ None
none_clashes read [] apart = refl
none_clashes read (name ∷ made) apart =
    first_apart read made name (was_read read name) (none_clashes read made (λ other here there. apart other here (read_later name other made there)))
    (λ here. apart name here (0, omega arith, refl)) refl

pub apart_goes_on : (read made : List (List ℕ)) → AreApart read made → unless_over_input read made ≡ Ok tt
apart_goes_on read made apart = ap refused_over_input (none_clashes read made apart)

-- ---- what is not refused is apart

clash_refused : (name : List ℕ) → refused_over_input (Some name) ≡ Ok tt → ⊥
clash_refused name is = cc

none_first : (read made : List (List ℕ)) (name : List ℕ) (b : Bool) → refused_over_input (cond b (Some name) (first_clash read made)) ≡ Ok tt → (b ≡ false) × (unless_over_input read made ≡ Ok tt)
none_first read made name true is = absurd (clash_refused name is)
none_first read made name false is = (refl, is)

pub free_is_apart : (read made : List (List ℕ)) → unless_over_input read made ≡ Ok tt → AreApart read made
free_is_apart read [] is name here (k, below, at) = absurd (omega (arith, below))
free_is_apart read (first ∷ made) is name here (zero, below, at) = read_not read first (none_first read made first (was_read read first) is).0 (subst (Contains read) (sym at) here)
free_is_apart read (first ∷ made) is name here (suc k, below, at) = free_is_apart read made (none_first read made first (was_read read first) is).1 name here (k, omega (arith, below), at)

-- ---- the work of a command

abbrev made_of : CommandWork → List (List ℕ)
made_of work = map (λ file. file.0) work.writes

pub apart_works : (read : List (List ℕ)) (o : CommandOutcome) (work : CommandWork) → o ≡ Ok work → unless_over_input read (made_of work) ≡ Ok tt → and_then o (apart_work read) ≡ Ok work
apart_works read o work is kept = ap (λ (o : CommandOutcome). and_then o (apart_work read)) is ∙ ap (λ (r : Result ⊤ CommandStop). and_then r (λ _. Ok work)) kept

pub clash_stops : (read : List (List ℕ)) (o : CommandOutcome) (work : CommandWork) (e : StopCause) → o ≡ Ok work → StopsAsCause (unless_over_input read (made_of work)) e → StopsAsCause (and_then o (apart_work read)) e
clash_stops read o work e is stops =
    subst (λ (o : CommandOutcome). StopsAsCause (and_then o (apart_work read)) e) (sym is) (stops_before_next (unless_over_input read (made_of work)) (λ _. Ok work) e stops)
