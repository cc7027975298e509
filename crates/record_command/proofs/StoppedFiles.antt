-- The files of a recording that was stopped are first parts of those of its whole run, whose logs stand in the
-- folder that it leaves.
use Rattle.std.proofs.Common.{◌≡◌, ◌≢◌, ◌&&◌, Contains, cond, inl, inr, ◌<◌, ◌+◌, ◌==◌, ℕ, zero, suc, List, [], ◌∷◌, ◌++◌, Bool, true, false, length, map, take, drop, slice_get, slice_index_or, Option, Some, refl, sym, ap, subst, ◌∙◌, arith, append_assoc, append-nil}
use Rattle.std.specs.Prelude.{AllPairs, codes, is_none}
use Rattle.std.specs.FinMap.{get}
use Rattle.std.proofs.Math.ListN.{get_or-map}
use Rattle.std.proofs.lemmas.List.{append_cancel_right, drop_at, length-map, take-append-drop}
use Rattle.std.proofs.lemmas.Option.{same_Some}
use Rattle.fri_outside.specs.Laws.{KeepsFiles}
use Rattle.fri_outside.specs.Outside.{Folder, with_file}
use Rattle.fri_outside.specs.Several.{AreApartNames, AreFileFronts, ChangesOnlyFiles, IsLeftFile, files_with_grown_piece, with_files}
use Rattle.call_log.specs.declared.version.Version.{Version}
use Rattle.call_log.specs.declared.version.Version.TheVariants.{Two}
use Rattle.call_log.specs.Entry.{clock_after, encoding, encodings}
use Rattle.call_log.specs.Head.{head_bytes}
use Rattle.lib_calls.specs.declared.entry.Entry.{Entry}
use Rattle.guest_process.specs.Live.{Event}
use Rattle.schedule_text.specs.declared.process.ProcessLine.{ProcessLine}
use Rattle.group_world.specs.History.{Act, History}
use Rattle.group_world.specs.History as world
use Rattle.group_record.specs.Files.{IsStoppedRecording, InHeads, Between, InEntry, InImages, heads_cut}
use Rattle.group_record.specs.Images.{images, images_from, images_of}
use Rattle.process_files.specs.Images.{mem_name, out_name}
use Rattle.group_record.specs.Logs.{files_from, log_name, logs_of_steps}
use Rattle.group_record.specs.Run.{GroupStart, Had, IsMoment, RunProgress, RunStep, act_of, entries_of_steps, entry_bytes, head_of_log, history_of_steps, log_of, name_of_process, processes_in_group}
use Rattle.record_command.specs.Agreement.{LeavesLogs}
use Rattle.record_command.proofs.FileFronts.{all_made}

-- ---- logs grow

-- the bytes go on from a first part of them
IsGrown : List ℕ → List ℕ → Type 0
IsGrown whole part = (more : List ℕ) × (whole ≡ part ++ more)

one_more : (a : Act) (h : History) (p : ℕ) → (more : List Entry) × (world.process_entries (a ∷ h) p ≡ world.process_entries h p ++ more)
one_more (world.Event q e) h p =
    elim (q == p) as (λ b. (more : List Entry) × (world.put_last_if b (world.process_entries h p) e ≡ world.process_entries h p ++ more)) [
      | true ↦ (e ∷ [], refl)
      | false ↦ ([], sym (append-nil (world.process_entries h p)))
    ]
one_more (world.Deliver q n) h p = ([], sym (append-nil (world.process_entries h p)))
one_more (world.Inject q bytes) h p = ([], sym (append-nil (world.process_entries h p)))
one_more (world.Clock q time) h p = ([], sym (append-nil (world.process_entries h p)))
one_more (world.Random q bytes) h p = ([], sym (append-nil (world.process_entries h p)))
one_more (world.Signal q signal) h p = ([], sym (append-nil (world.process_entries h p)))
one_more (world.Kill q) h p = ([], sym (append-nil (world.process_entries h p)))

-- a log with some entries more
encodings-append : (v : Version) (last : ℕ) (es more : List Entry) → encodings v last (es ++ more) ≡ encodings v last es ++ encodings v (clock_after last es) more
encodings-append v last [] more = refl
encodings-append v last (e ∷ es) more =
    ap (λ (bytes : List ℕ). encoding v last e ++ bytes) (encodings-append v e.clock es more)
    ∙ sym (append_assoc (encoding v last e) (encodings v e.clock es) (encodings v (clock_after e.clock es) more))

log_with : (head : List ℕ) (es more : List Entry) → head ++ encodings Two 0 (es ++ more) ≡ (head ++ encodings Two 0 es) ++ encodings Two (clock_after 0 es) more
log_with head es more =
    ap (λ (bytes : List ℕ). head ++ bytes) (encodings-append Two 0 es more) ∙ sym (append_assoc head (encodings Two 0 es) (encodings Two (clock_after 0 es) more))

step_grows : (group : GroupStart) (step : RunStep) (steps : List RunStep) (p : ℕ) → IsGrown (log_of group (step ∷ steps) p) (log_of group steps p)
unfolding IsGrown
step_grows group step steps p =
    let m = one_more (act_of step) (history_of_steps steps) p in
    (encodings Two (clock_after 0 (entries_of_steps steps p)) m.0, ap (λ (es : List Entry). head_bytes (head_of_log group p) ++ encodings Two 0 es) m.1 ∙ log_with (head_bytes (head_of_log group p)) (entries_of_steps steps p) m.0)

steps_grow : (group : GroupStart) (later early : List RunStep) (p : ℕ) → IsGrown (log_of group (later ++ early) p) (log_of group early p)
unfolding IsGrown
steps_grow group [] early p = ([], sym (append-nil (log_of group early p)))
steps_grow group (step ∷ later) early p =
    let last = step_grows group step (later ++ early) p in
    let rest = steps_grow group later early p in
    (rest.0 ++ last.0, last.1 ∙ ap (λ (bytes : List ℕ). bytes ++ last.0) rest.1 ∙ append_assoc (log_of group early p) rest.0 last.0)

log_grows : (group : GroupStart) (early steps : List RunStep) → IsMoment early steps → (p : ℕ) → IsGrown (log_of group steps p) (log_of group early p)
log_grows group early steps (later, is) p = subst (λ (s : List RunStep). IsGrown (log_of group s p) (log_of group early p)) (sym is) (steps_grow group later early p)

-- the entry of an event follows the log
event_log : (group : GroupStart) (early : List RunStep) (p : ℕ) (e : Event) → log_of group (Had p e ∷ early) p ≡ log_of group early p ++ entry_bytes group early p e
unfolding IsGrown
event_log group early p e =
    let log = log_of group early p in
    let grown = step_grows group (Had p e) early p in
    grown.1 ∙ ap (λ (bytes : List ℕ). log ++ bytes) (sym (ap (drop (length log)) grown.1 ∙ drop_at log grown.0 (length log) refl))

-- after a first part of that entry comes the rest of it, and then what follows
entry_grows : (group : GroupStart) (steps later early : List RunStep) (p n : ℕ) (e : Event) → steps ≡ later ++ (Had p e ∷ early) → IsGrown (log_of group steps p) (log_of group early p ++ take n (entry_bytes group early p e))
unfolding IsGrown
entry_grows group steps later early p n e is =
    let rest = steps_grow group later (Had p e ∷ early) p in
    let log = log_of group early p in
    let more = entry_bytes group early p e in
    let cut = take-append-drop n more in (
      drop n more ++ rest.0,
      ap (λ (s : List RunStep). log_of group s p) is ∙ rest.1
          ∙ ap (λ (bytes : List ℕ). bytes ++ rest.0) (event_log group early p e ∙ ap (λ (bytes : List ℕ). log ++ bytes) (sym cut)
          ∙ sym (append_assoc log (take n more) (drop n more)))
          ∙ append_assoc (log ++ take n more) (drop n more) rest.0,
    )

-- a first part of a head
head_grows : (group : GroupStart) (steps : List RunStep) (cut : ℕ → ℕ) (p : ℕ) → IsGrown (log_of group steps p) (heads_cut group cut p)
unfolding IsGrown
head_grows group steps cut p =
    let head = head_bytes (head_of_log group p) in (
      drop (cut p) head ++ encodings Two 0 (entries_of_steps steps p),
      ap (λ (bytes : List ℕ). bytes ++ encodings Two 0 (entries_of_steps steps p)) (sym (take-append-drop (cut p) head))
          ∙ append_assoc (take (cut p) head) (drop (cut p) head) (encodings Two 0 (entries_of_steps steps p)),
    )

-- ---- the files of a part of the run

abbrev a_file : List ℕ → List ℕ → Option (List ℕ × List ℕ)
a_file name bytes = Some (name, bytes)

first_front : (name part whole : List ℕ) (n bytes : List ℕ) → IsGrown whole part → a_file name part ≡ a_file n bytes → (more : List ℕ) × (a_file name whole ≡ a_file n (bytes ++ more))
unfolding IsGrown
first_front name part whole n bytes (more, is) at =
    (more, ap (a_file name) is ∙ ap (λ (file : List ℕ × List ℕ). a_file file.0 (file.1 ++ more)) (same_Some _ _ at))

files_fronts : (q : ℕ) (names : List (List ℕ)) (parts wholes : ℕ → List ℕ) → ((p : ℕ) → IsGrown (wholes p) (parts p)) → AreFileFronts (files_from q names parts) (files_from q names wholes)
files_fronts q [] parts wholes grow place n bytes at = cc
files_fronts q (name ∷ names) parts wholes grow zero n bytes at = first_front (log_name name) (parts q) (wholes q) n bytes (grow q) at
files_fronts q (name ∷ names) parts wholes grow (suc place) n bytes at = files_fronts (suc q) names parts wholes grow place n bytes at

-- the same where one of the files has a piece more
grown_fronts : (q : ℕ) (names : List (List ℕ)) (parts wholes : ℕ → List ℕ) (p : ℕ) (piece : List ℕ) → ((p : ℕ) → IsGrown (wholes p) (parts p)) → IsGrown (wholes (q + p)) (parts (q + p) ++ piece)
    → AreFileFronts (files_with_grown_piece (files_from q names parts) p piece) (files_from q names wholes)
grown_fronts q [] parts wholes p piece grow more place n bytes at = cc
grown_fronts q (name ∷ names) parts wholes zero piece grow more zero n bytes at =
    let here : q + 0 ≡ q = omega arith in
    first_front (log_name name) (parts q ++ piece) (wholes q) n bytes (subst (λ (p : ℕ). IsGrown (wholes p) (parts p ++ piece)) here more) at
grown_fronts q (name ∷ names) parts wholes zero piece grow more (suc place) n bytes at = files_fronts (suc q) names parts wholes grow place n bytes at
grown_fronts q (name ∷ names) parts wholes (suc p) piece grow more zero n bytes at = first_front (log_name name) (parts q) (wholes q) n bytes (grow q) at
grown_fronts q (name ∷ names) parts wholes (suc p) piece grow more (suc place) n bytes at =
    let here : q + suc p ≡ suc q + p = omega arith in
    grown_fronts (suc q) names parts wholes p piece grow (subst (λ (p : ℕ). IsGrown (wholes p) (parts p ++ piece)) here more) place n bytes at

taken_at : {A : Type 0} (many : ℕ) (xs : List A) (k : ℕ) (x : A) → slice_get (take many xs) k ≡ Some x → slice_get xs k ≡ Some x
taken_at zero xs k x at = cc
taken_at (suc many) [] k x at = cc
taken_at (suc many) (y ∷ xs) zero x at = at
taken_at (suc many) (y ∷ xs) (suc k) x at = taken_at many xs k x at

taken_fronts : (many : ℕ) (files whole : List (List ℕ × List ℕ)) → AreFileFronts files whole → AreFileFronts (take many files) whole
taken_fronts many files whole fronts place n bytes at = fronts place n bytes (taken_at many files place (n, bytes) at)

-- with more files after the whole ones
further_at : (whole more : List (List ℕ × List ℕ)) (k : ℕ) (x : List ℕ × List ℕ) → slice_get whole k ≡ Some x → slice_get (whole ++ more) k ≡ Some x
further_at [] more k x at = cc
further_at (y ∷ whole) more zero x at = at
further_at (y ∷ whole) more (suc k) x at = further_at whole more k x at

pub fronts_of_more : (files whole more : List (List ℕ × List ℕ)) → AreFileFronts files whole → AreFileFronts files (whole ++ more)
fronts_of_more files whole more fronts place n bytes at =
    let f = fronts place n bytes at in (f.0, further_at whole more place (n, bytes ++ f.0) f.1)

-- after the same files
pub fronts_behind : (first files whole : List (List ℕ × List ℕ)) → AreFileFronts files whole → AreFileFronts (first ++ files) (first ++ whole)
fronts_behind [] files whole fronts place n bytes at = fronts place n bytes at
fronts_behind (file ∷ first) files whole fronts zero n bytes at = ([], at ∙ ap (a_file n) (sym (append-nil bytes)))
fronts_behind (file ∷ first) files whole fronts (suc place) n bytes at = fronts_behind first files whole fronts place n bytes at

-- the first of these files
pub first_fronts : (files : List (List ℕ × List ℕ)) (n : ℕ) → AreFileFronts (take n files) files
first_fronts files n place name bytes at = ([], taken_at n files place (name, bytes) at ∙ ap (a_file name) (sym (append-nil bytes)))

-- where a recording was stopped, each log and image is as before or has some of its front, and no other file changes
pub stopped_changes : KeepsFiles → (group : GroupStart) (steps : List RunStep) (images : List (List ℕ × List ℕ)) (before after : Option Folder) → IsStoppedRecording group steps images before after
    → ChangesOnlyFiles before (logs_of_steps group steps ++ images) after
stopped_changes keeps group steps images before after (InHeads many cut is) =
    subst (ChangesOnlyFiles before (logs_of_steps group steps ++ images)) (sym is)
    (keeps.left before _ _ (fronts_of_more _ (logs_of_steps group steps) images
    (taken_fronts many _ _ (files_fronts 0 group.names (heads_cut group cut) (log_of group steps) (head_grows group steps cut)))))
stopped_changes keeps group steps images before after (Between early front is) =
    subst (ChangesOnlyFiles before (logs_of_steps group steps ++ images)) (sym is)
    (keeps.left before _ _ (fronts_of_more _ (logs_of_steps group steps) images
    (files_fronts 0 group.names (log_of group early) (log_of group steps) (log_grows group early steps front))))
stopped_changes keeps group steps images before after (InEntry early later p n e at short is) =
    subst (ChangesOnlyFiles before (logs_of_steps group steps ++ images)) (sym is)
    (keeps.left before _ _ (fronts_of_more _ (logs_of_steps group steps) images
    (grown_fronts 0 group.names (log_of group early) (log_of group steps) p (take n (entry_bytes group early p e))
    (log_grows group early steps (later ++ (Had p e ∷ []), at ∙ sym (append_assoc later (Had p e ∷ []) early))) entry))) where
      here : p ≡ 0 + p
      here = omega arith

      entry : IsGrown (log_of group steps (0 + p)) (log_of group early (0 + p) ++ take n (entry_bytes group early p e))
      entry = subst (λ (k : ℕ). IsGrown (log_of group steps k) (log_of group early k ++ take n (entry_bytes group early p e))) here (entry_grows group steps later early p n e at)
stopped_changes keeps group steps images before after (InImages n is) =
    subst (ChangesOnlyFiles before (logs_of_steps group steps ++ images)) (sym is)
    (keeps.left before _ _ (fronts_behind (logs_of_steps group steps) (take n images) images (first_fronts images n)))

-- ---- the whole run's logs

files_count : (q : ℕ) (names : List (List ℕ)) (bytes : ℕ → List ℕ) → length (files_from q names bytes) ≡ length names
files_count q [] bytes = refl
files_count q (name ∷ names) bytes = ap suc (files_count (suc q) names bytes)

file_at : (q : ℕ) (names : List (List ℕ)) (bytes : ℕ → List ℕ) (p : ℕ) → p < length names → slice_get (files_from q names bytes) p ≡ Some (log_name (slice_index_or names p []), bytes (q + p))
file_at q [] bytes p below = absurd (omega (arith, below))
file_at q (name ∷ names) bytes zero below = let here : q ≡ q + 0 = omega arith in ap (λ (k : ℕ). Some (log_name name, bytes k)) here
file_at q (name ∷ names) bytes (suc p) below =
    let here : suc q + p ≡ q + suc p = omega arith in
    file_at (suc q) names bytes p (omega (arith, below)) ∙ ap (λ (k : ℕ). Some (log_name (slice_index_or names p []), bytes k)) here

name_at : (q : ℕ) (names : List (List ℕ)) (bytes : ℕ → List ℕ) (i : ℕ) (d : List ℕ × List ℕ) → i < length names → (slice_index_or (files_from q names bytes) i d).0 ≡ log_name (slice_index_or names i [])
name_at q [] bytes i d below = absurd (omega (arith, below))
name_at q (name ∷ names) bytes zero d below = refl
name_at q (name ∷ names) bytes (suc i) d below = name_at (suc q) names bytes i d (omega (arith, below))

-- processes with names that differ have logs of names that differ
pub logs_apart : (lines : List ProcessLine) (q : ℕ) (bytes : ℕ → List ℕ) → AllPairs (λ a b. a.name ≢ b.name) lines → AreApartNames (files_from q (map (λ line. line.name) lines) bytes)
logs_apart lines q bytes apart i j d before within same =
    let names = map (λ (line : ProcessLine). line.name) lines in
    let none : ProcessLine = record { name = []; «module» = [] } in
    let count = length-map lines (λ (line : ProcessLine). line.name) in
    let inside : j < length names = omega (arith, within, files_count q names bytes) in
    let logs_same = sym (name_at q names bytes i d (omega (arith, before, inside))) ∙ same ∙ name_at q names bytes j d inside in
    let names_same = append_cancel_right (slice_index_or names i []) (slice_index_or names j []) (codes ".log") logs_same in
    apart i j none before (omega (arith, inside, count))
    (sym (get_or-map (λ (line : ProcessLine). line.name) lines i none) ∙ names_same ∙ get_or-map (λ (line : ProcessLine). line.name) lines j none)

-- ---- images after the logs

-- some files are made after the others
pub with_more : (files more : List (List ℕ × List ℕ)) (told : Option Folder) → with_files (files ++ more) told ≡ with_files more (with_files files told)
with_more [] more told = refl
with_more (file ∷ files) more told = with_more files more (with_file file.0 file.1 told)

abbrev last_of : List ℕ → ℕ
last_of [] = 0
last_of (x ∷ []) = x
last_of (x ∷ y ∷ ys) = last_of (y ∷ ys)

ends_in : (name : List ℕ) (a b c d : ℕ) → last_of (name ++ (a ∷ b ∷ c ∷ d ∷ [])) ≡ d
ends_in [] a b c d = refl
ends_in (x ∷ []) a b c d = refl
ends_in (x ∷ y ∷ ys) a b c d = ends_in (y ∷ ys) a b c d

mem_is_no_log : (name other : List ℕ) → mem_name name ≡ log_name other → ⊥
mem_is_no_log name other same =
    let ends : 109 ≡ 103 = sym (ends_in name 46 109 101 109) ∙ ap last_of same ∙ ends_in other 46 108 111 103 in omega (arith, ends)

out_is_no_log : (name other : List ℕ) → out_name name ≡ log_name other → ⊥
out_is_no_log name other same =
    let ends : 116 ≡ 103 = sym (ends_in name 46 111 117 116) ∙ ap last_of same ∙ ends_in other 46 108 111 103 in omega (arith, ends)

image_is_no_log : (group : GroupStart) (steps : List RunStep) (p : ℕ) (names : List (List ℕ)) (name bytes : List ℕ) (k : ℕ) → k < length (images_from group steps p names)
    → slice_index_or (images_from group steps p names) k (log_name name, bytes) ≡ (log_name name, bytes) → ⊥
image_is_no_log group steps p [] name bytes k inside at = omega (arith, inside)
image_is_no_log group steps p (other ∷ names) name bytes zero inside at = mem_is_no_log other name (ap (λ (file : List ℕ × List ℕ). file.0) at)
image_is_no_log group steps p (other ∷ names) name bytes (suc zero) inside at = out_is_no_log other name (ap (λ (file : List ℕ × List ℕ). file.0) at)
image_is_no_log group steps p (other ∷ names) name bytes (suc (suc k)) inside at = image_is_no_log group steps (suc p) names name bytes k (omega (arith, inside)) at

among_if : (asked : Bool) (files : List (List ℕ × List ℕ)) (file : List ℕ × List ℕ) → Contains (cond asked files []) file → Contains files file
among_if true files file among = among
among_if false files file (k, inside, at) = absurd (omega (arith, inside))

-- no image has the name of a log
pub images_are_no_logs : (asked : Bool) (group : GroupStart) (done : RunProgress) (name bytes : List ℕ) → Contains (images_of asked group done) (log_name name, bytes) → ⊥
images_are_no_logs asked group done name bytes among = no_log (among_if (asked && is_none done.full) (images group done.steps) (log_name name, bytes) among) where
  no_log : Contains (images group done.steps) (log_name name, bytes) → ⊥
  no_log (k, inside, at) = image_is_no_log group done.steps 0 group.names name bytes k inside at

kept_behind : (old new : Folder) (more : List (List ℕ × List ℕ)) (name : List ℕ) → ((bytes : List ℕ) → Contains more (name, bytes) → ⊥) → IsLeftFile old more new name → get new name ≡ get old name
kept_behind old new more name others (inl same) = same
kept_behind old new more name others (inr (bytes, among, part)) = absurd (others bytes among)

-- files that have the names of the logs stand in the folder, whatever was made after them under other names
pub files_stand : KeepsFiles → (group : GroupStart) (files : List (List ℕ × List ℕ)) (bytes : ℕ → List ℕ) (more : List (List ℕ × List ℕ)) (before after : Folder) → AreApartNames files
    → ((p : ℕ) → p < processes_in_group group → slice_get files p ≡ Some (log_name (name_of_process group p), bytes p))
    → ((name bytes : List ℕ) → Contains more (log_name name, bytes) → ⊥) → with_files (files ++ more) (Some before) ≡ Some after
    → (p : ℕ) → p < processes_in_group group → get after (log_name (name_of_process group p)) ≡ Some (bytes p)
files_stand keeps group files bytes more before after apart have others made p below =
    let stands = keeps.stands before files apart in
    let name = log_name (name_of_process group p) in
    let behind : with_files more (Some stands.0) ≡ Some after = ap (with_files more) (sym stands.1) ∙ sym (with_more files more (Some before)) ∙ made in
    let changes = (all_made keeps more (Some stands.0) (Some after) (sym behind)).each stands.0 refl in
    ap (λ (s : Folder). get s name) (same_Some _ _ changes.1) ∙ kept_behind stands.0 changes.0 more name (others (name_of_process group p)) (changes.2 name)
    ∙ stands.2.held p _ _ (have p below)

pub log_at : (group : GroupStart) (steps : List RunStep) (p : ℕ) → p < processes_in_group group → slice_get (logs_of_steps group steps) p ≡ Some (log_name (name_of_process group p), log_of group steps p)
log_at group steps p below =
    let whole : 0 + p ≡ p = omega arith in
    file_at 0 group.names (log_of group steps) p below ∙ ap (λ (k : ℕ). a_file (log_name (name_of_process group p)) (log_of group steps k)) whole

-- so the logs that were made stand
pub logs_stand : KeepsFiles → (group : GroupStart) (steps : List RunStep) (more : List (List ℕ × List ℕ)) (before after : Folder) → AreApartNames (logs_of_steps group steps)
    → ((name bytes : List ℕ) → Contains more (log_name name, bytes) → ⊥) → with_files (logs_of_steps group steps ++ more) (Some before) ≡ Some after → LeavesLogs group steps after
logs_stand keeps group steps more before after apart others made p below =
    files_stand keeps group (logs_of_steps group steps) (log_of group steps) more before after apart (log_at group steps) others made p below
