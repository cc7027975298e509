-- The table is read by a number or by a name and back.
use Rattle.std.proofs.Common.{◌≡◌, ℕ, zero, suc, ◌<◌, length, true, false, Bool, List, [], ◌∷◌, slice_get, cond, ◌+◌, Option, Some, ◌↔◌, ◌∙◌, refl, sym, ap, arith}
use Rattle.std.specs.List.{find}
use Rattle.std.specs.Prelude.{bytes_eq}
use Rattle.std.proofs.lemmas.Slice.Eq.{bytes_eq-Decides}
use Rattle.call_table.specs.declared.kind.Kind.{Kind}
use Rattle.call_table.specs.declared.kind.Kind.TheVariants.{Begin, Exit, Note, Print, Now, SleepUntil, Random, Me, Send, Recv, TryRecv, Spawn, Yield, Join, Lock, Unlock, OnSignal, Thread}
use Rattle.call_table.specs.Numbers.{numbered}
use Rattle.call_table.specs.Table.{row, kinds, kind_numbered, kind_named}

-- ---- by number

-- these kinds have the numbers from n on
abbrev Counts : ℕ → List Kind → Type 0
Counts n [] = Unit {0}
Counts n (kind ∷ kinds) = ((row kind).number ≡ n) × Counts (suc n) kinds

counted : (n : ℕ) (kinds : List Kind) (place : ℕ) (kind : Kind) → Counts n kinds → slice_get kinds place ≡ Some kind → (row kind).number ≡ n + place
counted n [] place kind c e = cc
counted n (first ∷ kinds) zero kind c e =
    let same : first ≡ kind = cc in
    let number : (row first).number ≡ (row kind).number = ap (λ kind. (row kind).number) same in
    omega (arith, number, c.0)
counted n (first ∷ kinds) (suc place) kind c e = omega (arith, counted (suc n) kinds place kind c.1 e)

all_counted : Counts 0 kinds
all_counted =
    (refl, (refl, (refl, (refl, (refl, (refl, (refl, (refl, (refl, (refl, (refl, (refl, (refl, (refl, (refl, (refl, (refl, (refl, tt))))))))))))))))))

-- what is at a number has it
pub number_of : (number : ℕ) (kind : Kind) → kind_numbered number ≡ Some kind → (row kind).number ≡ number
unfolding kind_numbered
number_of number kind e = omega (arith, counted 0 kinds number kind all_counted e)

pub by_number : (number : ℕ) (kind : Kind) → (kind_numbered number ≡ Some kind) ↔ ((row kind).number ≡ number)
by_number number kind = (number_of number kind, λ is. ap kind_numbered (sym is) ∙ numbered kind)

-- ---- by name

-- a kind is found by its name
pub named : (kind : Kind) → kind_named (row kind).name ≡ Some kind
unfolding kind_named
named Begin = refl
named Exit = refl
named Note = refl
named Print = refl
named Now = refl
named SleepUntil = refl
named Random = refl
named Me = refl
named Send = refl
named Recv = refl
named TryRecv = refl
named Spawn = refl
named Yield = refl
named Join = refl
named Lock = refl
named Unlock = refl
named OnSignal = refl
named Thread = refl

-- what is found passes the test
passes_by : (test : Kind → Bool) (first kind : Kind) (rest : Option Kind) → (rest ≡ Some kind → test kind ≡ true) → (b : Bool) → test first ≡ b → cond b (Some first) rest ≡ Some kind → test kind ≡ true
passes_by test first kind rest later true is e = let same : first ≡ kind = cc in ap test (sym same) ∙ is
passes_by test first kind rest later false is e = later e

found_passes : (test : Kind → Bool) (kinds : List Kind) (kind : Kind) → find test kinds ≡ Some kind → test kind ≡ true
found_passes test [] kind e = cc
found_passes test (first ∷ kinds) kind e = passes_by test first kind (find test kinds) (found_passes test kinds kind) (test first) refl e

pub name_of : (name : List ℕ) (kind : Kind) → kind_named name ≡ Some kind → (row kind).name ≡ name
unfolding kind_named
name_of name kind e =
    (bytes_eq-Decides (row kind).name name).0 (found_passes (λ kind. bytes_eq (row kind).name name) kinds kind e)

pub by_name : (name : List ℕ) (kind : Kind) → (kind_named name ≡ Some kind) ↔ ((row kind).name ≡ name)
by_name name kind = (name_of name kind, λ is. ap kind_named (sym is) ∙ named kind)
