-- What a process with its log does by itself.
use Rattle.std.specs.Prelude.{◌≡◌, ◌⊎◌, ⊤, ℕ, ◌+◌, ◌<◌, ◌≤◌, ◌^◌, List, length, take, Option, Some, None, option_map, Result, Ok, Err, string_bytes}
use Rattle.fri_outside.specs.Outside.{Folder, with_piece_in_folder}
use Rattle.lib_calls.specs.declared.entry.Entry.{Entry}
use Rattle.call_log.specs.Entry.{encoding}
use Rattle.call_log.specs.Head.{head_bytes}
use Rattle.call_log.specs.Limits.{most_log}
use Rattle.call_log.specs.declared.version.Version.TheVariants.{Two}
use Rattle.guest_process.specs.Legal.{reason}
use Rattle.guest_process.specs.Next.{next}
use Rattle.guest_process.specs.State.{State}
use Rattle.group_record.specs.declared.error.RecordError.{RecordError}
use Rattle.group_record.specs.declared.error.RecordError.TheVariants as errors
use Rattle.group_record.specs.declared.member.Member.{Member}
use Rattle.group_record.specs.Files.{FolderChange}
use Rattle.group_record.specs.Logs.{log_name}
use Rattle.group_record.specs.Live.{LiveMember}

-- a member that has begun in this state as process p of a group of `count` and has had no event
pub record IsFreshMember (state : State) (name : List ℕ) (p count : ℕ) (m : Member) : Type 0 where
  pub process : m.process ≡ Some state
  pub events : state.events ≡ 0
  pub group : state.count ≡ count
  pub log : string_bytes m.log ≡ log_name name
  pub head : m.head.items ≡ head_bytes (record { version = Two; count = count; process = p; name = name })
  pub size : m.size ≡ length m.head.items
  pub last : m.last ≡ 0

-- a member began, or a segment of its module ends past the module's table or memory
abbrev pub StartsMember : Option State → List ℕ → ℕ → ℕ → Result Member RecordError → Type 0
StartsMember first name p count (Ok m) = (state : State) × (first ≡ Some state) × IsFreshMember state name p count m
StartsMember first name p count (Err (errors.BadSegment q)) = (q ≡ p) × (first ≡ None)
StartsMember first name p count (Err (errors.LogFull item)) = ⊥
StartsMember first name p count (Err errors.WriteFault) = ⊥
StartsMember first name p count (Err errors.NoMemory) = Unit {0}

-- its process is in a state where the entry is legal, and its log is within the limit
pub record CanKeepEntry (m : Member) (e : Entry) : Type 0 where
  pub state : State
  pub process : m.process ≡ Some state
  pub legal : reason state e ≡ None
  pub few : state.events < 2 ^ 61
  pub room : m.size ≤ most_log

-- an entry as it is spelled after those of the member
abbrev pub spelled_entry : Member → Entry → List ℕ
spelled_entry m e = encoding Two m.last e

-- the member after the event of an entry
abbrev pub member_after : Member → Entry → Member
member_after m e = record m { size = m.size + length (spelled_entry m e); last = e.clock; process = option_map (λ S. next S e) m.process }

-- after a file there may be a first part of these bytes
abbrev pub IsAppendedInPart : List ℕ → List ℕ → Option Folder → Option Folder → Type 0
IsAppendedInPart name bytes before after = (after ≡ before) ⊎ ((n : ℕ) × (after ≡ with_piece_in_folder name (take n bytes) before))

-- the log has room for these bytes
abbrev pub LogHasRoom : Member → List ℕ → Type 0
LogHasRoom m bytes = m.size + length bytes ≤ most_log

-- these bytes were written after the log, in the item with this number, or why they were not
abbrev pub WritesToLog : Member → ℕ → List ℕ → Result ⊤ RecordError → FolderChange → Type 0
WritesToLog m number bytes (Ok _) folder = LogHasRoom m bytes × (folder.after ≡ with_piece_in_folder (string_bytes m.log) bytes folder.before)
WritesToLog m number bytes (Err (errors.BadSegment p)) folder = ⊥
WritesToLog m number bytes (Err (errors.LogFull item)) folder = (item ≡ number) × (most_log < m.size + length bytes) × (folder.after ≡ folder.before)
WritesToLog m number bytes (Err errors.WriteFault) folder = LogHasRoom m bytes × IsAppendedInPart (string_bytes m.log) bytes folder.before folder.after
WritesToLog m number bytes (Err errors.NoMemory) folder =
    (folder.after ≡ folder.before) ⊎ (LogHasRoom m bytes × (folder.after ≡ with_piece_in_folder (string_bytes m.log) bytes folder.before))

-- a member as contracts see it
abbrev pub live_member : Member → LiveMember
live_member m = record { log = string_bytes m.log; size = m.size; last = m.last; process = m.process }
