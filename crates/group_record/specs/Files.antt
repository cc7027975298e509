-- What a recording changes in the files, and how they stand where it was stopped.
use Rattle.std.specs.Prelude.{◌≡◌, ◌<◌, ℕ, length, List, ◌∷◌, ◌++◌, take, Option}
use Rattle.fri_outside.specs.Outside.{Folder}
use Rattle.fri_outside.specs.Several.{files_with_grown_piece, with_files}
use Rattle.call_log.specs.Head.{head_bytes}
use Rattle.guest_process.specs.Live.{Event}
use Rattle.group_record.specs.Run.{GroupStart, RunStep, Had, IsMoment, entry_bytes, head_of_log}
use Rattle.group_record.specs.Logs.{files_of, logs_of_steps}

-- what the files tell before something is done and after it
pub record FolderChange : Type 0 where
  pub before : Option Folder
  pub after : Option Folder

abbrev pub change : Option Folder → Option Folder → FolderChange
change before after = record { before = before; after = after }

-- a first part of each head
abbrev pub heads_cut : GroupStart → (ℕ → ℕ) → ℕ → List ℕ
heads_cut group cut p = take (cut p) (head_bytes (head_of_log group p))

-- Of a run with these steps, which leaves these images, the files are made up to a moment: the first of the
-- logs are there, each with a first part of its head; or all logs are those of the steps up to that moment,
-- and after the log of the process of the next event there may be a first part of that event's entry, but not all of
-- it; or the logs are those of all steps, and the first of the images are there, each of them whole
pub data IsStoppedRecording (group : GroupStart) (steps : List RunStep) (images : List (List ℕ × List ℕ)) (before after : Option Folder) : Type 0 where
  InHeads : (many : ℕ) → (cut : ℕ → ℕ) → after ≡ with_files (take many (files_of group (heads_cut group cut))) before
      → IsStoppedRecording group steps images before after
  Between : (early : List RunStep) → IsMoment early steps → after ≡ with_files (logs_of_steps group early) before → IsStoppedRecording group steps images before after
  InEntry : (early later : List RunStep) → (p n : ℕ) → (e : Event) → steps ≡ later ++ (Had p e ∷ early) → n < length (entry_bytes group early p e)
      → after ≡ with_files (files_with_grown_piece (logs_of_steps group early) p (take n (entry_bytes group early p e))) before → IsStoppedRecording group steps images before after
  InImages : (n : ℕ) → after ≡ with_files (logs_of_steps group steps ++ take n images) before → IsStoppedRecording group steps images before after
