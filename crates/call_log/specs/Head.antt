-- The head of a log: which process of which group the log is of, and the process's name.
use Rattle.std.specs.Prelude.{◌≡◌, ℕ, ◌<◌, ◌≤◌, true, List, [], ◌∷◌, ◌++◌, length, codes}
use Rattle.std.specs.List.{concat}
use Rattle.std.specs.Int.{w32, to_le_bytes}
use Rattle.fri_text.specs.Name.{is_name}
use Rattle.call_log.specs.declared.head.LogHead.{LogHead}
use Rattle.call_log.specs.declared.version.Version.{Version}
use Rattle.call_log.specs.Version.{version_number}
use Rattle.lamport_tag.specs.Limits.{most_processes}

-- the version of the log, the number of processes in the group, the process's own number, and its name
pub record Head : Type 0 where
  pub version : Version
  pub count : ℕ
  pub process : ℕ
  pub name : List ℕ

-- what a head that lies in a log says
abbrev pub head_of : LogHead → Head
head_of h = record { version = h.version; count = h.count; process = h.process; name = h.name.now }

-- a group has 1 to 16 processes, which are numbered from 0
pub record IsHead (h : Head) : Type 0 where
  pub some : 1 ≤ h.count
  pub few : h.count ≤ most_processes
  pub within : h.process < h.count
  pub named : is_name h.name ≡ true

-- the magic bytes, the version, the two numbers, the length of the name in one byte, and the name
unfoldable pub head_bytes : Head → List ℕ
head_bytes h = concat (
    codes "LLOG"
    ∷ to_le_bytes w32 (version_number h.version)
    ∷ to_le_bytes w32 h.count
    ∷ to_le_bytes w32 h.process
    ∷ (length h.name ∷ [])
    ∷ h.name
    ∷ [])

-- no head is at the front of the bytes
abbrev pub BeginsNoHead : List ℕ → Type 0
BeginsNoHead bytes = (h : Head) (rest : List ℕ) → IsHead h → bytes ≡ head_bytes h ++ rest → ⊥
