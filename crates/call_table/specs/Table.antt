-- The calls of the library: a line for each kind.
use Rattle.std.specs.Prelude.{ℕ, Bool, true, false, List, [], ◌∷◌, Option, codes, bytes_eq, slice_get}
use Rattle.std.specs.List.{find}
use Rattle.call_table.specs.declared.kind.Kind.{Kind}
use Rattle.call_table.specs.declared.kind.Kind.TheVariants.{Begin, Exit, Note, Print, Now, SleepUntil, Random, Me, Send, Recv, TryRecv, Spawn, Yield, Join, Lock, Unlock, OnSignal, Thread}
use Rattle.call_table.specs.declared.signature.Signature.{Signature}

-- which of the fields that not every entry has an entry of the kind has: the bytes that went out, those
-- that came in, and the tag of a datagram that was taken
pub record Fields : Type 0 where
  pub outgoing : Bool
  pub incoming : Bool
  pub tag : Bool

-- what is said of a kind: its number in logs, its name as an import, what its calls take and give, and
-- what an entry tells of one
pub record Row : Type 0 where
  pub number : ℕ
  pub name : List ℕ
  pub signature : Signature
  pub entry : Fields

abbrev line : ℕ → List ℕ → Signature → Fields → Row
line number name signature entry = record { number = number; name = name; signature = signature; entry = entry }

-- so many i32 parameters, and a result of this width in bits, or none
abbrev narrow : ℕ → ℕ → Signature
narrow params result = record { params = params; wide_param = false; result = result }

-- one i64 parameter
abbrev wide : ℕ → Signature
wide result = record { params = 1; wide_param = true; result = result }

-- none of these fields, or bytes that go out, or bytes that come in, or a datagram that comes in
abbrev nothing : Fields
nothing = record { outgoing = false; incoming = false; tag = false }

abbrev bytes_out : Fields
bytes_out = record { outgoing = true; incoming = false; tag = false }

abbrev bytes_in : Fields
bytes_in = record { outgoing = false; incoming = true; tag = false }

abbrev datagram_in : Fields
datagram_in = record { outgoing = false; incoming = true; tag = true }

-- the table
abbrev pub row : Kind → Row
row Begin = line 0 (codes "begin") (narrow 0 0) nothing
row Exit = line 1 (codes "exit") (narrow 1 0) nothing
row Note = line 2 (codes "note") (wide 0) nothing
row Print = line 3 (codes "print") (narrow 2 32) bytes_out
row Now = line 4 (codes "now") (narrow 0 64) nothing
row SleepUntil = line 5 (codes "sleep_until") (wide 64) nothing
row Random = line 6 (codes "random") (narrow 2 32) bytes_in
row Me = line 7 (codes "me") (narrow 0 32) nothing
row Send = line 8 (codes "send") (narrow 3 32) bytes_out
row Recv = line 9 (codes "recv") (narrow 3 32) datagram_in
row TryRecv = line 10 (codes "try_recv") (narrow 3 32) datagram_in
row Spawn = line 11 (codes "spawn") (narrow 2 32) nothing
row Yield = line 12 (codes "yield") (narrow 0 0) nothing
row Join = line 13 (codes "join") (narrow 1 32) nothing
row Lock = line 14 (codes "lock") (narrow 1 32) nothing
row Unlock = line 15 (codes "unlock") (narrow 1 32) nothing
row OnSignal = line 16 (codes "on_signal") (narrow 2 32) nothing
row Thread = line 17 (codes "thread") (narrow 0 32) nothing

-- the kinds in the order of their numbers
abbrev pub kinds : List Kind
kinds =
    Begin ∷ Exit ∷ Note ∷ Print ∷ Now ∷ SleepUntil ∷ Random ∷ Me ∷ Send ∷ Recv ∷ TryRecv ∷ Spawn ∷ Yield ∷ Join ∷ Lock
    ∷ Unlock ∷ OnSignal ∷ Thread ∷ []

-- the kind with this number, if there is one
unfoldable pub kind_numbered : ℕ → Option Kind
kind_numbered number = slice_get kinds number

-- the kind with this name, if there is one
unfoldable pub kind_named : List ℕ → Option Kind
kind_named name = find (λ kind. bytes_eq (row kind).name name) kinds
