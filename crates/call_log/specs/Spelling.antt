-- An entry that is spelled while its outgoing bytes are elsewhere, and where its bytes stand once they are there.
use Rattle.std.specs.Prelude.{◌≡◌, ℕ, ◌<◌, ◌^◌, ◌++◌, Bool, true, false, List, length}
use Rattle.lib_calls.specs.declared.entry.Entry.{Entry}
use Rattle.lib_calls.specs.Entry.{IsShaped}
use Rattle.call_log.specs.declared.version.Version.{Version}
use Rattle.call_log.specs.Entry.{encoding}

-- a length of bytes below 2 GiB, which is 0 where the kind lacks them
abbrev pub IsLengthIf : Bool → ℕ → Type 0
IsLengthIf true n = n < 2 ^ 31
IsLengthIf false n = n ≡ 0

-- the entry that sends out these bytes, and is else the same
abbrev pub with_outgoing : Entry → List ℕ → Entry
with_outgoing e outgoing = record e { outgoing = outgoing }

-- once so many bytes are added behind the new ones, the entry that sends them out has been added to the old ones
abbrev pub AddsBeforeOutgoing : Version → ℕ → ℕ → Entry → List ℕ → List ℕ → Type 0
AddsBeforeOutgoing v last sent e old new =
    (outgoing : List ℕ) → length outgoing ≡ sent → new ++ outgoing ≡ old ++ encoding v last (with_outgoing e outgoing)

-- the bytes end with this entry, but for what it sends out
pub record EndsWithEntry (v : Version) (e : Entry) (bytes : List ℕ) : Type 0 where
  pub outgoing : List ℕ
  pub last : ℕ
  pub before : List ℕ
  pub shaped : IsShaped (with_outgoing e outgoing)
  pub is : bytes ≡ before ++ encoding v last (with_outgoing e outgoing)
