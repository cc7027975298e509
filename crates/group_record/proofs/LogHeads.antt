-- The files of the logs while they are begun.
use Rattle.std.proofs.Common.{◌≡◌, ◌⊎◌, ℕ, suc, ◌+◌, ◌<◌, ◌≤◌, ◌++◌, Bool, true, false, cond, eqb, ltb, List, [], ◌∷◌, length, slice_index_or, take, Option, inl, inr, refl, ap, sym, ◌∙◌, append-nil, arith}
use Rattle.std.specs.Prelude.{Err}
use Rattle.std.proofs.Math.Seq.{take-suc}
use Rattle.std.proofs.lemmas.Bool.{eqb-true}
use Rattle.std.proofs.lemmas.Bool.Decides.{nat_tests}
use Rattle.std.proofs.lemmas.List.{take_all}
use Rattle.fri_outside.specs.Outside.{Folder, with_file, with_piece_in_folder}
use Rattle.fri_outside.specs.Several.{with_files}
use Rattle.fri_outside.specs.Laws.{KeepsFiles}
use Rattle.fri_outside.specs.declared.files.WriteError.{WriteError}
use Rattle.fri_outside.specs.declared.files.WriteError.TheVariants as writing
use Rattle.group_record.specs.declared.member.Member.{Member}
use Rattle.group_record.specs.Run.{GroupStart, log_of, name_of_process, processes_in_group}
use Rattle.group_record.specs.Logs.{files_of, log_name, logs_of_steps}
use Rattle.group_record.specs.Files.{IsStoppedRecording, InHeads, heads_cut}
use Rattle.group_record.specs.Answer.{error_of}
use Rattle.group_record.specs.inside.Begun.{HaveHeads, MakeAll, heads_of_logs, no_bytes}
use Rattle.group_record.proofs.LogGrowth.{file_in, files_length, files_same, grown_at, grown_files, piece_written}

-- ---- files with no bytes

-- the cut at which no head has any byte
abbrev nothing : ℕ → ℕ
nothing p = 0

-- the first of the files were made
abbrev pub made_files : GroupStart → ℕ → List (List ℕ × List ℕ)
made_files group many = take many (files_of group no_bytes)

one_more_made : KeepsFiles → (group : GroupStart) (many : ℕ) (name : List ℕ) (before now : Option Folder) → many < processes_in_group group → name ≡ log_name (name_of_process group many)
    → now ≡ with_files (made_files group many) before → with_file name [] now ≡ with_files (made_files group (suc many)) before
one_more_made keeps group many name before now within named is =
    let inside : many < length (files_of group no_bytes) = omega (arith, within, files_length group no_bytes) in
    let file : slice_index_or (files_of group no_bytes) many ([], []) ≡ (log_name (name_of_process group many), []) = file_in group no_bytes many within in
    ap (λ told. with_file name [] told) is
    ∙ keeps.more before (made_files group many) name []
    ∙ ap (λ n. with_files (made_files group many ++ (n, []) ∷ []) before) named
    ∙ ap (λ f. with_files (made_files group many ++ f ∷ []) before) (sym file)
    ∙ ap (λ fs. with_files fs before) (sym (take-suc (files_of group no_bytes) many ([], []) inside))

made_cut : (group : GroupStart) (many : ℕ) → take many (files_of group (heads_cut group nothing)) ≡ made_files group many
made_cut group many = ap (take many) (files_same 0 group.names (heads_cut group nothing) no_bytes (λ p above below. refl))

-- a file was not made
create_stopped : KeepsFiles → (group : GroupStart) (many : ℕ) (name : List ℕ) (before now after : Option Folder) → many < processes_in_group group → name ≡ log_name (name_of_process group many)
    → now ≡ with_files (made_files group many) before → (after ≡ now) ⊎ (after ≡ with_file name [] now) → IsStoppedRecording group [] [] before after
create_stopped keeps group many name before now after within named is (inl same) =
    InHeads many nothing (same ∙ is ∙ ap (λ fs. with_files fs before) (sym (made_cut group many)))
create_stopped keeps group many name before now after within named is (inr made) =
    InHeads (suc many) nothing (made ∙ one_more_made keeps group many name before now within named is ∙ ap (λ fs. with_files fs before) (sym (made_cut group (suc many))))

pub create_stops : KeepsFiles → (group : GroupStart) (many : ℕ) (name : List ℕ) (before now after : Option Folder) (error : WriteError) → many < processes_in_group group → name ≡ log_name (name_of_process group many)
    → now ≡ with_files (made_files group many) before → (after ≡ now) ⊎ (after ≡ with_file name [] now) → MakeAll group no_bytes (Err (error_of error)) before after
create_stops keeps group many name before now after writing.Failed within named is left = create_stopped keeps group many name before now after within named is left
create_stops keeps group many name before now after writing.NoMemory within named is left = create_stopped keeps group many name before now after within named is left

pub create_goes_on : KeepsFiles → (group : GroupStart) (many : ℕ) (name : List ℕ) (before now after : Option Folder) → many < processes_in_group group → name ≡ log_name (name_of_process group many)
    → now ≡ with_files (made_files group many) before → after ≡ with_file name [] now → after ≡ with_files (made_files group (many + 1)) before
create_goes_on keeps group many name before now after within named is made =
    let next : suc many ≡ many + 1 = omega arith in
    made ∙ one_more_made keeps group many name before now within named is ∙ ap (λ n. with_files (made_files group n) before) next

pub all_made : (group : GroupStart) (many : ℕ) (before now : Option Folder) → processes_in_group group ≤ many → now ≡ with_files (made_files group many) before → now ≡ with_files (files_of group no_bytes) before
all_made group many before now past is = is ∙ ap (λ fs. with_files fs before) (take_all many (files_of group no_bytes) (omega (arith, past, files_length group no_bytes)))

-- ---- heads

-- the first of the heads were written
abbrev pub heads_to : GroupStart → ℕ → ℕ → List ℕ
heads_to group many p = cond (ltb p many) (heads_of_logs group p) []

next_head : (group : GroupStart) (many p : ℕ) → grown_at many (heads_of_logs group many) (heads_to group many) p ≡ heads_to group (many + 1) p
next_head group many p = by_same (eqb many p) refl
  where
    by_same : (same : Bool) → eqb many p ≡ same → cond same (heads_to group many p ++ heads_of_logs group many) (heads_to group many p) ≡ heads_to group (many + 1) p
    by_same true is =
        let here : many ≡ p = eqb-true many p is in
        let before : ltb p many ≡ false = grind (arith, nat_tests) in
        let now : ltb p (many + 1) ≡ true = grind (arith, nat_tests) in
        ap (λ b. cond b (heads_of_logs group p) [] ++ heads_of_logs group many) before ∙ ap (heads_of_logs group) here ∙ sym (ap (λ b. cond b (heads_of_logs group p) []) now)
    by_same false is =
        let both : ltb p many ≡ ltb p (many + 1) = grind (arith, nat_tests) in
        ap (λ b. cond b (heads_of_logs group p) []) both

-- a first part of the next head was written
abbrev cut_to : GroupStart → ℕ → ℕ → ℕ → ℕ
cut_to group many n p = cond (ltb p many) (length (heads_of_logs group p)) (cond (eqb many p) n 0)

cut_is : (group : GroupStart) (many n p : ℕ) → heads_cut group (cut_to group many n) p ≡ grown_at many (take n (heads_of_logs group many)) (heads_to group many) p
cut_is group many n p = by_before (ltb p many) refl
  where
    by_same : ltb p many ≡ false → (same : Bool) → eqb many p ≡ same → take (cond same n 0) (heads_of_logs group p) ≡ cond same ([] ++ take n (heads_of_logs group many)) []
    by_same past true is = ap (λ p. take n (heads_of_logs group p)) (sym (eqb-true many p is))
    by_same past false is = refl

    by_before : (before : Bool) → ltb p many ≡ before
        → take (cond before (length (heads_of_logs group p)) (cond (eqb many p) n 0)) (heads_of_logs group p) ≡ cond (eqb many p) (cond before (heads_of_logs group p) [] ++ take n (heads_of_logs group many)) (cond before (heads_of_logs group p) [])
    by_before true is =
        let other : eqb many p ≡ false = grind (arith, nat_tests) in
        take_all (length (heads_of_logs group p)) (heads_of_logs group p) (omega arith) ∙ sym (ap (λ b. cond b (heads_of_logs group p ++ take n (heads_of_logs group many)) (heads_of_logs group p)) other)
    by_before false is = by_same is (eqb many p) refl

no_piece : (place p : ℕ) (bytes : ℕ → List ℕ) → grown_at place [] bytes p ≡ bytes p
no_piece place p bytes = by_test (eqb place p)
  where
    by_test : (b : Bool) → cond b (bytes p ++ []) (bytes p) ≡ bytes p
    by_test true = append-nil (bytes p)
    by_test false = refl

heads_stopped : (group : GroupStart) (many n : ℕ) (before after : Option Folder) → after ≡ with_files (files_of group (grown_at many (take n (heads_of_logs group many)) (heads_to group many))) before → IsStoppedRecording group [] [] before after
heads_stopped group many n before after is =
    InHeads (processes_in_group group) (cut_to group many n)
    (is ∙ ap (λ fs. with_files fs before)
    (files_same 0 group.names (grown_at many (take n (heads_of_logs group many)) (heads_to group many)) (heads_cut group (cut_to group many n)) (λ p above below. sym (cut_is group many n p))
    ∙ sym (take_all (processes_in_group group) (files_of group (heads_cut group (cut_to group many n))) (omega (arith, files_length group (heads_cut group (cut_to group many n)))))))

piece_stands : KeepsFiles → (group : GroupStart) (members : List Member) (many : ℕ) (name piece : List ℕ) (before now after : Option Folder) → HaveHeads group members → many < processes_in_group group → name ≡ log_name (name_of_process group many)
    → now ≡ with_files (files_of group (heads_to group many)) before → after ≡ with_piece_in_folder name piece now → after ≡ with_files (files_of group (grown_at many piece (heads_to group many))) before
piece_stands keeps group members many name piece before now after have within named is made =
    made ∙ piece_written keeps group (heads_to group many) many name piece before now have.apart within named is
    ∙ ap (λ fs. with_files fs before) (grown_files group (heads_to group many) many piece)

-- a head was not written, or a first part of it
pub head_stops : KeepsFiles → (group : GroupStart) (members : List Member) (many : ℕ) (name head : List ℕ) (before now after : Option Folder) (error : WriteError) → HaveHeads group members → many < processes_in_group group
    → name ≡ log_name (name_of_process group many) → head ≡ heads_of_logs group many → now ≡ with_files (files_of group (heads_to group many)) before
    → (after ≡ now) ⊎ ((n : ℕ) × (after ≡ with_piece_in_folder name (take n head) now)) → MakeAll group (heads_of_logs group) (Err (error_of error)) before after
head_stops keeps group members many name head before now after error have within named spelled is left = by_error error (stopped left)
  where
    stopped : (after ≡ now) ⊎ ((n : ℕ) × (after ≡ with_piece_in_folder name (take n head) now)) → IsStoppedRecording group [] [] before after
    stopped (inl same) = heads_stopped group many 0 before after
        (same ∙ is ∙ ap (λ fs. with_files fs before) (files_same 0 group.names (heads_to group many) (grown_at many (take 0 (heads_of_logs group many)) (heads_to group many)) (λ p above below. sym (no_piece many p (heads_to group many)))))
    stopped (inr (n, made)) = heads_stopped group many n before after
        (piece_stands keeps group members many name (take n (heads_of_logs group many)) before now after have within named is (made ∙ ap (λ h. with_piece_in_folder name (take n h) now) spelled))

    by_error : (error : WriteError) → IsStoppedRecording group [] [] before after → MakeAll group (heads_of_logs group) (Err (error_of error)) before after
    by_error writing.Failed h = h
    by_error writing.NoMemory h = h

pub heads_go_on : KeepsFiles → (group : GroupStart) (members : List Member) (many : ℕ) (name head : List ℕ) (before now after : Option Folder) → HaveHeads group members → many < processes_in_group group
    → name ≡ log_name (name_of_process group many) → head ≡ heads_of_logs group many → now ≡ with_files (files_of group (heads_to group many)) before
    → after ≡ with_piece_in_folder name head now → after ≡ with_files (files_of group (heads_to group (many + 1))) before
heads_go_on keeps group members many name head before now after have within named spelled is made =
    piece_stands keeps group members many name (heads_of_logs group many) before now after have within named is (made ∙ ap (λ h. with_piece_in_folder name h now) spelled)
    ∙ ap (λ fs. with_files fs before) (files_same 0 group.names (grown_at many (heads_of_logs group many) (heads_to group many)) (heads_to group (many + 1)) (λ p above below. next_head group many p))

pub no_heads : (group : GroupStart) (before now : Option Folder) → now ≡ with_files (files_of group no_bytes) before → now ≡ with_files (files_of group (heads_to group 0)) before
no_heads group before now is = is ∙ ap (λ fs. with_files fs before) (files_same 0 group.names no_bytes (heads_to group 0) (λ p above below. sym (none p)))
  where
    none : (p : ℕ) → heads_to group 0 p ≡ []
    none p =
        let past : ltb p 0 ≡ false = grind (arith, nat_tests) in
        ap (λ b. cond b (heads_of_logs group p) []) past

pub all_heads : (group : GroupStart) (many : ℕ) (before now : Option Folder) → processes_in_group group ≤ many → now ≡ with_files (files_of group (heads_to group many)) before → now ≡ with_files (files_of group (heads_of_logs group)) before
all_heads group many before now past is = is ∙ ap (λ fs. with_files fs before) (files_same 0 group.names (heads_to group many) (heads_of_logs group) (λ p above below. there p (omega (arith, below, past))))
  where
    there : (p : ℕ) → p < many → heads_to group many p ≡ heads_of_logs group p
    there p below =
        let test : ltb p many ≡ true = grind (arith, nat_tests) in
        ap (λ b. cond b (heads_of_logs group p) []) test

-- logs of no event are their heads
pub heads_are_logs : (group : GroupStart) → files_of group (heads_of_logs group) ≡ logs_of_steps group []
heads_are_logs group = files_same 0 group.names (heads_of_logs group) (log_of group []) (λ p above below. sym (append-nil (heads_of_logs group p)))
