-- The images of a group, one made after the other.
use Rattle.std.proofs.Common.{◌≡◌, ℕ, suc, ◌+◌, ◌<◌, ◌++◌, Bool, true, cond, List, [], length, drop, drop-cons, slice_get, slice_index_or, Option, Some, None, ap, sym, subst, ◌∙◌, append_assoc, add-one}
use Rattle.std.specs.Prelude.{is_none, map, Err}
use Rattle.std.proofs.lemmas.List.{length-map}
use Rattle.std.proofs.lemmas.Option.{slice_get-get_or}
use Rattle.fri_outside.specs.Outside.{Folder}
use Rattle.fri_outside.specs.Several.{AreFirstMade, with_files}
use Rattle.fri_outside.specs.declared.files.WriteError.{WriteError}
use Rattle.fri_outside.specs.declared.files.WriteError.TheVariants as writing
use Rattle.lib_calls.specs.Traffic.{prints}
use Rattle.guest_process.specs.State.{State}
use Rattle.schedule_text.specs.declared.process.ProcessLine.{ProcessLine}
use Rattle.group_record.specs.declared.member.Member.{Member}
use Rattle.group_record.specs.declared.recorder.Recorder.{Recorder}
use Rattle.group_record.specs.Answer.{error_of}
use Rattle.group_record.specs.Images.{images, images_from, images_of, memory_of_process}
use Rattle.process_files.specs.Images.{image_files}
use Rattle.process_files.specs.FirstLaws.{files_after, first_after, first_of_more}
use Rattle.group_record.specs.inside.Recorded.{KeepsUpWithRun, MakesFiles, prints_kept_for}
use Rattle.group_record.specs.Run.{GroupStart, RunProgress, RunStep, entries_of_steps, process_after, processes_in_group}
use Rattle.group_record.proofs.SharedLemmas.{at_place}
use Rattle.group_record.proofs.FirstProcesses.{name_at}

-- ---- the images of a group

-- those of the processes before p were made
pub record ImagesTo (group : GroupStart) (steps : List RunStep) (p : ℕ) (before now : Option Folder) : Type 0 where
  pub front : List (List ℕ × List ℕ)
  pub rest : images group steps ≡ front ++ images_from group steps p (drop p group.names)
  pub made : now ≡ with_files front before

-- the image of process p
abbrev pub image_at : GroupStart → List RunStep → ℕ → List ℕ → List (List ℕ × List ℕ)
image_at group steps p name = image_files name (memory_of_process (process_after group steps p)) (prints (entries_of_steps steps p))

images_here : (group : GroupStart) (steps : List RunStep) (p : ℕ) (name : List ℕ) → p < processes_in_group group → name ≡ slice_index_or group.names p []
    → images_from group steps p (drop p group.names) ≡ image_at group steps p name ++ images_from group steps (p + 1) (drop (p + 1) group.names)
images_here group steps p name within named =
    ap (images_from group steps p) (drop-cons group.names p [] within)
    ∙ ap (λ n. image_at group steps p n ++ images_from group steps (suc p) (drop (suc p) group.names)) (sym named)
    ∙ ap (λ n. image_at group steps p name ++ images_from group steps n (drop n group.names)) (sym (add-one p))

pub image_made : (group : GroupStart) (steps : List RunStep) (p : ℕ) (name : List ℕ) (before now after : Option Folder) → p < processes_in_group group → name ≡ slice_index_or group.names p []
    → ImagesTo group steps p before now → after ≡ with_files (image_at group steps p name) now → ImagesTo group steps (p + 1) before after
image_made group steps p name before now after within named so_far is = record {
  front = so_far.front ++ image_at group steps p name;
  rest = so_far.rest ∙ ap (λ fs. so_far.front ++ fs) (images_here group steps p name within named)
      ∙ sym (append_assoc so_far.front (image_at group steps p name) (images_from group steps (p + 1) (drop (p + 1) group.names)));
  made = is ∙ ap (with_files (image_at group steps p name)) so_far.made ∙ sym (files_after so_far.front (image_at group steps p name) before);
}

pub image_fails : (group : GroupStart) (steps : List RunStep) (p : ℕ) (name : List ℕ) (before now after : Option Folder) → p < processes_in_group group → name ≡ slice_index_or group.names p []
    → ImagesTo group steps p before now → AreFirstMade (image_at group steps p name) now after → AreFirstMade (images group steps) before after
image_fails group steps p name before now after within named so_far part =
    let others = images_from group steps (p + 1) (drop (p + 1) group.names) in
    subst (λ fs. AreFirstMade fs before after) (sym (so_far.rest ∙ ap (λ fs. so_far.front ++ fs) (images_here group steps p name within named)))
    (first_after so_far.front (image_at group steps p name ++ others) before now after so_far.made (first_of_more (image_at group steps p name) others now after part))

-- what the recorder has of process p is its image
pub image_is : (group : GroupStart) (done : RunProgress) (r : Recorder) (p : ℕ) (m : Member) (S : State) (name memory printed : List ℕ) → KeepsUpWithRun group done r → slice_get r.members.items p ≡ Some m → m.process ≡ Some S
    → memory ≡ S.store.memory.bytes → p < length r.prints → printed ≡ slice_index_or r.prints p [] → image_files name memory printed ≡ image_at group done.steps p name
image_is group done r p m S name memory printed keeps at process has kept told =
    let k = keeps.members p m at in
    ap (λ bytes. image_files name bytes printed) (has ∙ ap memory_of_process (sym process ∙ k.process ∙ sym k.after))
    ∙ ap (image_files name (memory_of_process (process_after group done.steps p))) (told ∙ keeps.prints p (slice_index_or r.prints p []) (slice_get-get_or r.prints p [] kept))

-- the name of a process is that of its line
pub name_here : (lines : List ProcessLine) (p : ℕ) (line : ProcessLine) (name : List ℕ) (names : List (List ℕ)) → p < length lines → line ≡ slice_index_or lines p line → name ≡ (slice_index_or lines p line).name
    → names ≡ map (λ line. line.name) lines → name ≡ slice_index_or names p []
name_here lines p line name names within at is all =
    is ∙ sym (ap (λ (line : ProcessLine). line.name) at) ∙ sym (name_at lines p line [] (at_place lines p line within at)) ∙ ap (λ (names : List (List ℕ)). slice_index_or names p []) (sym all)

pub named_all : (lines : List ProcessLine) (names : List (List ℕ)) → names ≡ map (λ line. line.name) lines → length names ≡ length lines
named_all lines names all = ap length all ∙ length-map lines (λ (line : ProcessLine). line.name)

-- ---- as they are asked for

asked_images : (asked : Bool) (group : GroupStart) (done : RunProgress) → asked ≡ true → done.full ≡ None → images_of asked group done ≡ images group done.steps
asked_images asked group done is room =
    ap (λ asked. images_of asked group done) is ∙ ap (λ full. cond (is_none full) (images group done.steps) []) room

pub asked_fails : (asked : Bool) (group : GroupStart) (done : RunProgress) (error : WriteError) (before after : Option Folder) → asked ≡ true → done.full ≡ None → AreFirstMade (images group done.steps) before after
    → MakesFiles (images_of asked group done) (Err (error_of error)) before after
asked_fails asked group done writing.Failed before after is room part = subst (λ fs. AreFirstMade fs before after) (sym (asked_images asked group done is room)) part
asked_fails asked group done writing.NoMemory before after is room part = subst (λ fs. AreFirstMade fs before after) (sym (asked_images asked group done is room)) part

pub within_kept : (asked : Bool) → asked ≡ true → (count kept p : ℕ) → kept ≡ prints_kept_for asked count → p < count → p < kept
within_kept asked is count kept p all within = subst (λ n. p < n) (sym (all ∙ ap (λ asked. prints_kept_for asked count) is)) within
