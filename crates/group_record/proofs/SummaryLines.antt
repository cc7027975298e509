-- What is said of a group, line by line.
use Rattle.std.proofs.Common.{◌≡◌, ℕ, suc, ◌+◌, ◌<◌, ◌≤◌, ◌++◌, List, [], ◌∷◌, length, drop, drop-cons, slice_get, slice_index_or, Some, ap, sym, ◌∙◌, append_assoc, append-nil, add-one}
use Rattle.std.specs.Prelude.{option_map, Bool}
use Rattle.std.proofs.lemmas.List.{drop_all}
use Rattle.std.proofs.lemmas.Option.{same_Some}
use Rattle.guest_process.specs.Live.{Env}
use Rattle.group_world.specs.History.{is_killed}
use Rattle.group_world.specs.Laws.{Counting}
use Rattle.group_world.specs.World.{surroundings_of}
use Rattle.group_record.specs.declared.member.Member.{Member}
use Rattle.group_record.specs.declared.recorder.Recorder.{Recorder}
use Rattle.group_record.specs.declared.summary.SummaryLine.{SummaryLine}
use Rattle.group_record.specs.Answer.{end_after, summary_line, summary_lines}
use Rattle.group_record.specs.inside.Recorded.{KeepsUpWithRun, summary_line_of}
use Rattle.group_record.specs.Run.{GroupStart, RunProgress, RunStep, history_of_steps, processes_in_group}
use Rattle.group_record.proofs.RecorderSteps.{env_same}

-- the line of a member
pub line_is : Counting → (group : GroupStart) (done : RunProgress) (r : Recorder) (p : ℕ) (m : Member) (name : List ℕ) (killed : Bool) (line : SummaryLine) → KeepsUpWithRun group done r → p < processes_in_group group → slice_get r.members.items p ≡ Some m
    → killed ≡ (surroundings_of r.world p).killed → Some line ≡ option_map (summary_line_of name killed) m.process → line ≡ summary_line group done.steps p name
line_is counting group done r p m name killed line keeps within at known is =
    let k = keeps.members p m at in
    let state : line ≡ summary_line_of name killed k.state = same_Some _ _ (is ∙ ap (option_map (summary_line_of name killed)) k.process) in
    let dead : killed ≡ is_killed (history_of_steps done.steps) p = known ∙ ap (λ (env : Env). env.killed) (env_same counting group done r p keeps within) in
    state ∙ ap (λ killed. summary_line_of name killed k.state) dead
    ∙ ap (λ n. record (summary_line_of name (is_killed (history_of_steps done.steps) p) k.state) { events = n }) k.events
    ∙ ap (λ o. record (summary_line group done.steps p name) { end = end_after o }) (sym k.after)

-- the lines so far, and those of the other processes
pub lines_next : (group : GroupStart) (steps : List RunStep) (names : List (List ℕ)) (p : ℕ) (lines : List SummaryLine) (line : SummaryLine) (name : List ℕ) → p < length names → name ≡ slice_index_or names p [] → line ≡ summary_line group steps p name
    → summary_lines group steps 0 names ≡ lines ++ summary_lines group steps p (drop p names)
    → summary_lines group steps 0 names ≡ (lines ++ line ∷ []) ++ summary_lines group steps (p + 1) (drop (p + 1) names)
lines_next group steps names p lines line name inside named is so_far =
    so_far
    ∙ ap (λ xs. lines ++ summary_lines group steps p xs) (drop-cons names p [] inside)
    ∙ ap (λ n. lines ++ (summary_line group steps p n ∷ summary_lines group steps (suc p) (drop (suc p) names))) (sym named)
    ∙ ap (λ l. lines ++ (l ∷ summary_lines group steps (suc p) (drop (suc p) names))) (sym is)
    ∙ sym (append_assoc lines (line ∷ []) (summary_lines group steps (suc p) (drop (suc p) names)))
    ∙ ap (λ n. (lines ++ line ∷ []) ++ summary_lines group steps n (drop n names)) (sym (add-one p))

pub lines_end : (group : GroupStart) (steps : List RunStep) (names : List (List ℕ)) (p : ℕ) (lines : List SummaryLine) → length names ≤ p
    → summary_lines group steps 0 names ≡ lines ++ summary_lines group steps p (drop p names) → lines ≡ summary_lines group steps 0 names
lines_end group steps names p lines past so_far =
    sym (so_far ∙ ap (λ xs. lines ++ summary_lines group steps p xs) (drop_all p names past) ∙ append-nil lines)
