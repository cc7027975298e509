-- A log that keeps its bytes: where its head is among them.
use Rattle.std.specs.Prelude.{◌≡◌, ◌-◌, ◌++◌, ℕ, List, drop, length, take}
use Rattle.call_log.specs.declared.version.Version.{Version}
use Rattle.call_log.specs.Head.{IsHead, head_bytes}
use Rattle.call_log.specs.Log.{Log}

-- where the name begins, as the last part of the head
abbrev pub name_start : ℕ
name_start = 17

-- the log in these bytes, whose head has this version and these numbers, and ends at `head_end`
abbrev pub kept_log : List ℕ → Version → ℕ → ℕ → ℕ → Log
kept_log bytes version count process head_end = record {
  head = record { version = version; count = count; process = process; name = take (head_end - name_start) (drop name_start bytes) };
  left = record { version = version; last = 0; bytes = drop head_end bytes };
}

-- and they are that log
pub record AreLog (bytes : List ℕ) (log : Log) (head_end : ℕ) : Type 0 where
  pub head : IsHead log.head
  pub spelled : bytes ≡ head_bytes log.head ++ log.left.bytes
  pub ends : head_end ≡ length (head_bytes log.head)
