-- Which thread holds each lock.
use Rattle.std.specs.Prelude.{ℕ, Option, Some, None, ◌==◌, if◌then◌else◌}
use Rattle.std.specs.Ordering.{nat_cmp}
use Rattle.std.specs.FinMap as map
use Rattle.coop_threads.specs.declared.grip.Grip.{Grip}
use Rattle.coop_threads.specs.declared.grip.Grip.TheVariants.{Got, Already, Held}

-- the number of the thread that holds a lock, at each lock that is held
abbrev pub LockHolders : Type 0
LockHolders = map.FinMap nat_cmp ℕ

-- what a thread finds that asks for a lock with this holder
abbrev pub grip_of : Option ℕ → ℕ → Grip
grip_of None thread = Got
grip_of (Some holder) thread = if holder == thread then Already else Held holder

-- the holders after a thread asked for the lock with this holder
abbrev pub holders_after : LockHolders → ℕ → ℕ → Option ℕ → LockHolders
holders_after holders lock thread None = map.insert holders lock thread
holders_after holders lock thread (Some holder) = holders
