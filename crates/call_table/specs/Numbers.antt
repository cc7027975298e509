-- The numbers of the kinds are read back, for the crates that read entries.
use Rattle.std.proofs.Common.{◌≡◌, ℕ, ◌<◌, length, Some, refl}
use Rattle.std.proofs.lemmas.Option.{slice_get_within}
use Rattle.call_table.specs.declared.kind.Kind.{Kind}
use Rattle.call_table.specs.declared.kind.Kind.TheVariants.{Begin, Exit, Note, Print, Now, SleepUntil, Random, Me, Send, Recv, TryRecv, Spawn, Yield, Join, Lock, Unlock, OnSignal, Thread}
use Rattle.call_table.specs.Table.{row, kinds, kind_numbered}

-- a kind is at its number
pub numbered : (kind : Kind) → kind_numbered (row kind).number ≡ Some kind
unfolding kind_numbered
numbered Begin = refl
numbered Exit = refl
numbered Note = refl
numbered Print = refl
numbered Now = refl
numbered SleepUntil = refl
numbered Random = refl
numbered Me = refl
numbered Send = refl
numbered Recv = refl
numbered TryRecv = refl
numbered Spawn = refl
numbered Yield = refl
numbered Join = refl
numbered Lock = refl
numbered Unlock = refl
numbered OnSignal = refl
numbered Thread = refl

-- the number of a kind is below how many there are
pub number_within : (number : ℕ) (kind : Kind) → kind_numbered number ≡ Some kind → number < length kinds
unfolding kind_numbered
number_within number kind e = slice_get_within kinds number kind e
