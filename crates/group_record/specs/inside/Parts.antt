-- What a live group is made of, and what holds of it even where memory ran out.
use Rattle.std.specs.Prelude.{◌≡◌, ℕ, ◌+◌, ◌<◌, ◌≤◌, List, [], length, map, replicate, Some, slice_get, slice_set}
use Rattle.lib_calls.specs.declared.entry.Entry.{Entry}
use Rattle.lib_calls.specs.Entry.{entry_of}
use Rattle.lib_calls.specs.Traffic.{printed}
use Rattle.call_log.specs.Limits.{most_log}
use Rattle.guest_process.specs.Next.{next}
use Rattle.guest_process.specs.State.{State}
use Rattle.lamport_tag.specs.Limits.{most_processes}
use Rattle.group_world.specs.World.{World, after_event, new_world, process_count}
use Rattle.group_record.specs.declared.member.Member.{Member}
use Rattle.group_record.specs.declared.parts.Parts.{Parts}
use Rattle.group_record.specs.declared.tried.Tried.{Tried}
use Rattle.group_record.specs.declared.tried.Tried.TheVariants as tried
use Rattle.group_record.specs.inside.Members.{CanKeepEntry, LogHasRoom, live_member, member_after, spelled_entry}
use Rattle.group_record.specs.inside.Recorded.{with_print}
use Rattle.group_record.specs.Live.{LiveParts}

-- the parts as contracts see them
abbrev pub live_parts : Parts → LiveParts
live_parts parts = record { members = map live_member parts.members.items; world = parts.world; prints = parts.prints }

-- a process is there in a group of `count`, and its log, which is within the limit, has room for its events
pub record IsSoundMember (count : ℕ) (m : Member) : Type 0 where
  pub state : State
  pub process : m.process ≡ Some state
  pub count_is : state.count ≡ count
  pub events : state.events ≤ m.size
  pub room : m.size ≤ most_log

-- each process that is there is such, they are few, the world has a place for each, and what it prints is kept
pub record AreSound (members : List Member) (w : World) (prints : List (List ℕ)) : Type 0 where
  pub few : length members ≤ most_processes
  pub around : length members ≤ process_count w
  pub kept : length members ≤ length prints
  pub each : (p : ℕ) (m : Member) → slice_get members p ≡ Some m → IsSoundMember (process_count w) m

abbrev pub AreSoundParts : Parts → Type 0
AreSoundParts parts = AreSound parts.members.items parts.world parts.prints

-- process p made the event of an entry
pub record MadeEvent (old : Parts) (p : ℕ) (m : Member) (e : Entry) (new : Parts) : Type 0 where
  pub members : new.members.items ≡ slice_set old.members.items p (member_after m e)
  pub world : new.world ≡ after_event old.world p e
  pub prints : new.prints ≡ with_print old.prints p (printed e)

-- the event of an entry counts as one more, and its process stays in its group
pub record CountsEvent (m : Member) (e : Entry) : Type 0 where
  pub state : State
  pub process : m.process ≡ Some state
  pub events : (next state e).events ≡ state.events + 1
  pub count_is : (next state e).count ≡ state.count

-- a member can make the event of an entry that takes so many bytes, and the log has room for it
pub record CanMakeEvent (m : Member) (e : Entry) (size : ℕ) : Type 0 where
  pub keeps : CanKeepEntry m e
  pub counts : CountsEvent m e
  pub spelled : size ≡ length (spelled_entry m e)
  pub fits : LogHasRoom m (spelled_entry m e)

-- an entry was taken whose log had room for it, or had none, and then nothing changed
abbrev pub TakesEntry : Parts → ℕ → Member → Entry → Tried → Parts → Type 0
TakesEntry old p m e tried.Idle new = ⊥
TakesEntry old p m e (tried.Had entry) new = (entry_of entry ≡ e) × LogHasRoom m (spelled_entry m e) × MadeEvent old p m e new
TakesEntry old p m e tried.Full new = (most_log < m.size + length (spelled_entry m e)) × (live_parts new ≡ live_parts old)

-- nothing has happened around these members, and nothing is printed
pub record AreNewParts (own : List Member) (parts : Parts) : Type 0 where
  pub members : parts.members.items ≡ own
  pub world : parts.world ≡ new_world (length own)
  pub prints : parts.prints ≡ replicate (length own) []
