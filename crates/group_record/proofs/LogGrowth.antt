-- Logs that grow: a piece after one of a group's files, and an entry more.
use Rattle.std.proofs.Common.{◌≡◌, ◌≢◌, drop, ℕ, zero, suc, ◌+◌, ◌<◌, ◌≤◌, ◌++◌, Bool, true, false, cond, eqb, List, [], ◌∷◌, length, slice_get, slice_index_or, Option, Some, refl, ap, sym, ◌∙◌, append_assoc, append-nil, length-append, arith}
use Rattle.std.specs.Prelude.{AllPairs, codes}
use Rattle.std.proofs.lemmas.Bool.{eq-eqb, eqb-true}
use Rattle.std.proofs.lemmas.Bool.Decides.{nat_tests}
use Rattle.std.proofs.lemmas.List.{append_cancel_right, drop_at}
use Rattle.std.proofs.lemmas.Option.{slice_get-get_or}
use Rattle.fri_outside.specs.Outside.{Folder, with_piece_in_folder}
use Rattle.fri_outside.specs.Several.{AreApartNames, files_with_grown_piece, with_files}
use Rattle.fri_outside.specs.Laws.{KeepsFiles}
use Rattle.call_table.specs.Table.{row}
use Rattle.lib_calls.specs.declared.entry.Entry.{Entry}
use Rattle.call_log.specs.declared.version.Version.{Version}
use Rattle.call_log.specs.declared.version.Version.TheVariants.{Two}
use Rattle.call_log.specs.Entry.{body_bytes, clock_after, encoding, encodings}
use Rattle.call_log.specs.Version.{clock_bytes, number_bytes}
use Rattle.std.specs.Int.{w16, w32}
use Rattle.call_log.specs.Head.{head_bytes}
use Rattle.guest_process.specs.Live.{Event}
use Rattle.group_world.specs.History.{put_last_if}
use Rattle.group_record.specs.Run.{GroupStart, RunStep, Had, entries_of_steps, entry_bytes, head_of_log, log_of, name_of_process, processes_in_group}
use Rattle.group_record.specs.Logs.{files_from, files_of, log_name, logs_of_steps}

-- the bytes at each place, with a piece after those at this one
abbrev pub grown_at : ℕ → List ℕ → (ℕ → List ℕ) → ℕ → List ℕ
grown_at place piece bytes p = cond (eqb place p) (bytes p ++ piece) (bytes p)

grown_here : (place p : ℕ) (piece : List ℕ) (bytes : ℕ → List ℕ) → place ≡ p → grown_at place piece bytes p ≡ bytes p ++ piece
grown_here place p piece bytes same = ap (λ b. cond b (bytes p ++ piece) (bytes p)) (eq-eqb place p same)

grown_there : (place p : ℕ) (piece : List ℕ) (bytes : ℕ → List ℕ) → place ≢ p → grown_at place piece bytes p ≡ bytes p
grown_there place p piece bytes apart =
    let other : eqb place p ≡ false = grind (arith, nat_tests) in
    ap (λ b. cond b (bytes p ++ piece) (bytes p)) other

-- files whose bytes are the same are the same
pub files_same : (from : ℕ) (names : List (List ℕ)) (f g : ℕ → List ℕ) → ((p : ℕ) → from ≤ p → p < from + length names → f p ≡ g p) → files_from from names f ≡ files_from from names g
files_same from [] f g same = refl
files_same from (name ∷ names) f g same =
    ap (λ bytes. (log_name name, bytes) ∷ files_from (suc from) names f) (same from (omega arith) (omega arith))
    ∙ ap (λ files. (log_name name, g from) ∷ files) (files_same (suc from) names f g (λ p above below. same p (omega arith) (omega arith)))

grown_from : (from : ℕ) (names : List (List ℕ)) (bytes : ℕ → List ℕ) (i place : ℕ) (piece : List ℕ) → place ≡ from + i → files_with_grown_piece (files_from from names bytes) i piece ≡ files_from from names (grown_at place piece bytes)
grown_from from [] bytes i place piece is = refl
grown_from from (name ∷ names) bytes zero place piece is =
    ap (λ b. (log_name name, b) ∷ files_from (suc from) names bytes) (sym (grown_here place from piece bytes (omega (arith, is))))
    ∙ ap (λ files. (log_name name, grown_at place piece bytes from) ∷ files)
    (files_same (suc from) names bytes (grown_at place piece bytes) (λ p above below. sym (grown_there place p piece bytes (omega (arith, is)))))
grown_from from (name ∷ names) bytes (suc i) place piece is =
    ap (λ b. (log_name name, b) ∷ files_with_grown_piece (files_from (suc from) names bytes) i piece) (sym (grown_there place from piece bytes (omega (arith, is))))
    ∙ ap (λ files. (log_name name, grown_at place piece bytes from) ∷ files) (grown_from (suc from) names bytes i place piece (omega (arith, is)))

-- a piece after one of a group's files
pub grown_files : (group : GroupStart) (bytes : ℕ → List ℕ) (place : ℕ) (piece : List ℕ) → files_with_grown_piece (files_of group bytes) place piece ≡ files_of group (grown_at place piece bytes)
grown_files group bytes place piece = grown_from 0 group.names bytes place place piece (omega arith)

file_at : (from : ℕ) (names : List (List ℕ)) (bytes : ℕ → List ℕ) (i : ℕ) (d : List ℕ × List ℕ) → i < length names
    → slice_index_or (files_from from names bytes) i d ≡ (log_name (slice_index_or names i []), bytes (from + i))
file_at from [] bytes i d within = absurd (omega (arith, within))
file_at from (name ∷ names) bytes zero d within =
    let here : from ≡ from + 0 = omega arith in
    ap (λ p. (log_name name, bytes p)) here
file_at from (name ∷ names) bytes (suc i) d within =
    let here : suc from + i ≡ from + suc i = omega arith in
    file_at (suc from) names bytes i d (omega (arith, within)) ∙ ap (λ p. (log_name (slice_index_or names i []), bytes p)) here

length_files : (from : ℕ) (names : List (List ℕ)) (bytes : ℕ → List ℕ) → length (files_from from names bytes) ≡ length names
length_files from [] bytes = refl
length_files from (name ∷ names) bytes = ap suc (length_files (suc from) names bytes)

abbrev AreDistinct : GroupStart → Type 0
AreDistinct group = AllPairs (λ name other. name ≢ other) group.names

-- the files of a group have names apart
pub files_apart : (group : GroupStart) (bytes : ℕ → List ℕ) → AllPairs (λ name other. name ≢ other) group.names → AreApartNames (files_of group bytes)
files_apart group bytes apart i j d before within same =
    let inside : j < length group.names = omega (arith, within, length_files 0 group.names bytes) in
    let one = ap (λ (f : List ℕ × List ℕ). f.0) (file_at 0 group.names bytes i d (omega arith)) in
    let other = ap (λ (f : List ℕ × List ℕ). f.0) (file_at 0 group.names bytes j d inside) in
    apart i j [] before inside (append_cancel_right _ _ (codes ".log") (sym one ∙ same ∙ other))

pub files_length : (group : GroupStart) (bytes : ℕ → List ℕ) → length (files_of group bytes) ≡ processes_in_group group
files_length group bytes = length_files 0 group.names bytes

pub file_in : (group : GroupStart) (bytes : ℕ → List ℕ) (p : ℕ) → p < processes_in_group group → slice_index_or (files_of group bytes) p ([], []) ≡ (log_name (name_of_process group p), bytes p)
file_in group bytes p within =
    let here : 0 + p ≡ p = omega arith in
    file_at 0 group.names bytes p ([], []) within ∙ ap (λ n. (log_name (name_of_process group p), bytes n)) here

pub file_of : (group : GroupStart) (bytes : ℕ → List ℕ) (p : ℕ) → p < processes_in_group group → slice_get (files_of group bytes) p ≡ Some (log_name (name_of_process group p), bytes p)
file_of group bytes p within =
    slice_get-get_or (files_of group bytes) p ([], []) (omega (arith, within, length_files 0 group.names bytes))
    ∙ ap Some (file_in group bytes p within)

-- a piece that is written after a log
pub piece_written : KeepsFiles → (group : GroupStart) (bytes : ℕ → List ℕ) (p : ℕ) (name piece : List ℕ) (before now : Option Folder) → AllPairs (λ name other. name ≢ other) group.names → p < processes_in_group group
    → name ≡ log_name (name_of_process group p) → now ≡ with_files (files_of group bytes) before → with_piece_in_folder name piece now ≡ with_files (files_with_grown_piece (files_of group bytes) p piece) before
piece_written keeps group bytes p name piece before now apart within named is =
    ap (λ n. with_piece_in_folder n piece now) named
    ∙ ap (λ told. with_piece_in_folder (log_name (name_of_process group p)) piece told) is
    ∙ keeps.grows before (files_of group bytes) p (log_name (name_of_process group p)) (bytes p) piece (files_apart group bytes apart) (file_of group bytes p within)

-- ---- one entry more

-- the clock of the last entry
pub clock_last : (last : ℕ) (es : List Entry) (e : Entry) → clock_after last (es ++ e ∷ []) ≡ e.clock
clock_last last [] e = refl
clock_last last (x ∷ es) e = clock_last x.clock es e

-- one entry more at the end
encodings-last : (v : Version) (last : ℕ) (es : List Entry) (e : Entry) → encodings v last (es ++ e ∷ []) ≡ encodings v last es ++ encoding v (clock_after last es) e
encodings-last v last [] e = append-nil (encoding v last e)
encodings-last v last (x ∷ es) e =
    ap (λ t. encoding v last x ++ t) (encodings-last v x.clock es e) ∙ sym (append_assoc (encoding v last x) (encodings v x.clock es) (encoding v (clock_after x.clock es) e))

log_last : (test : Bool) (head : List ℕ) (es : List Entry) (e : Entry) (piece : List ℕ) → (test ≡ true → piece ≡ encoding Two (clock_after 0 es) e)
    → cond test ((head ++ encodings Two 0 es) ++ piece) (head ++ encodings Two 0 es) ≡ head ++ encodings Two 0 (put_last_if test es e)
log_last true head es e piece is =
    append_assoc head (encodings Two 0 es) piece ∙ ap (λ t. head ++ (encodings Two 0 es ++ t)) (is refl) ∙ ap (λ t. head ++ t) (sym (encodings-last Two 0 es e))
log_last false head es e piece is = refl

-- an entry as it is spelled after those of a process
abbrev pub spelled_next : List RunStep → ℕ → Entry → List ℕ
spelled_next steps p e = encoding Two (clock_after 0 (entries_of_steps steps p)) e

-- the logs with the entry of an event more
pub logs_grown : (group : GroupStart) (steps : List RunStep) (p : ℕ) (e : Event) → files_with_grown_piece (logs_of_steps group steps) p (spelled_next steps p e.entry) ≡ logs_of_steps group (Had p e ∷ steps)
logs_grown group steps p e =
    grown_files group (log_of group steps) p (spelled_next steps p e.entry)
    ∙ files_same 0 group.names (grown_at p (spelled_next steps p e.entry) (log_of group steps)) (log_of group (Had p e ∷ steps))
    (λ r above below. log_last (eqb p r) (head_bytes (head_of_log group r)) (entries_of_steps steps r) e.entry (spelled_next steps p e.entry)
    (λ is. ap (λ (q : ℕ). spelled_next steps q e.entry) (eqb-true p r is)))

-- a log has no more entries than bytes
kind_there : (size clock thread : List ℕ) (kind : ℕ) (others : List ℕ) → 1 ≤ length (size ++ (clock ++ (thread ++ ((kind ∷ []) ++ others))))
kind_there size clock thread kind others =
    let fields = thread ++ ((kind ∷ []) ++ others) in
    omega (arith, length-append size (clock ++ fields), length-append clock fields, length-append thread ((kind ∷ []) ++ others))

pub entry_there : (v : Version) (last : ℕ) (e : Entry) → 1 ≤ length (encoding v last e)
unfolding encoding body_bytes
entry_there v last e = kind_there (number_bytes v w32 (length (body_bytes v last e))) (clock_bytes v last e.clock) (number_bytes v w16 e.thread) (row e.call.kind).number _

pub entries_few : (v : Version) (last : ℕ) (es : List Entry) → length es ≤ length (encodings v last es)
entries_few v last [] = omega arith
entries_few v last (e ∷ es) = omega (arith, entries_few v e.clock es, entry_there v last e, length-append (encoding v last e) (encodings v e.clock es))

-- a log with the entry of an event more
log_with : (group : GroupStart) (steps : List RunStep) (p : ℕ) (e : Event) → log_of group (Had p e ∷ steps) p ≡ log_of group steps p ++ spelled_next steps p e.entry
log_with group steps p e =
    sym (log_last (eqb p p) (head_bytes (head_of_log group p)) (entries_of_steps steps p) e.entry (spelled_next steps p e.entry) (λ is. refl)) ∙ grown_here p p (spelled_next steps p e.entry) (log_of group steps) refl

-- how long it is
pub log_longer : (group : GroupStart) (steps : List RunStep) (p : ℕ) (e : Event) → length (log_of group (Had p e ∷ steps) p) ≡ length (log_of group steps p) + length (spelled_next steps p e.entry)
log_longer group steps p e = ap length (log_with group steps p e) ∙ length-append (log_of group steps p) (spelled_next steps p e.entry)

-- and what it has more
pub entry_added : (group : GroupStart) (steps : List RunStep) (p : ℕ) (e : Event) → entry_bytes group steps p e ≡ spelled_next steps p e.entry
entry_added group steps p e =
    ap (drop (length (log_of group steps p))) (log_with group steps p e) ∙ drop_at (log_of group steps p) (spelled_next steps p e.entry) (length (log_of group steps p)) refl
