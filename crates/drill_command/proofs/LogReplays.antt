-- The replays of the logs that were recorded.
use Rattle.std.proofs.Common.{◌≡◌, ◌∙◌, ◌<◌, ◌≤◌, ℕ, List, [], ◌∷◌, Some, None, drop, length, ap, arith, refl, subst, sym}
use Rattle.std.specs.FinMap.{get}
use Rattle.std.proofs.Math.Seq.{drop-append_seam}
use Rattle.std.proofs.lemmas.List.{length-drop}
use Rattle.std.proofs.lemmas.Option.{same_Some}
use Rattle.fri_outside.specs.Memory.{FilesInMemory}
use Rattle.call_log.specs.Head.{Head, head_bytes}
use Rattle.call_log.specs.Laws.{ExactLogs}
use Rattle.call_log.specs.Limits.{most_log}
use Rattle.call_log.specs.Log.{Unread, unread_after_head, head_at}
use Rattle.wasm_types.specs.Modules.{Module}
use Rattle.guest_process.specs.EventCount.{BeginsFresh}
use Rattle.guest_process.specs.Start.{start}
use Rattle.guest_process.specs.State.{State}
use Rattle.proc_replay.specs.Replaying.{Replaying}
use Rattle.group_state.specs.Place.{AreGroupReplays, group_count}
use Rattle.group_record.specs.Logs.{TellsEvents, log_name}
use Rattle.group_record.specs.Run.{RunStep, head_of_log, log_of, name_of_process}
use Rattle.drill_command.specs.Drill.{drill_group, drill_states, left_of_log, replay_of_process, replays_from, replays_of_logs}
use Rattle.drill_command.specs.Ring.{ring_module}
use Rattle.drill_command.specs.inside.Results.{HoldLogs}
use Rattle.drill_command.proofs.ProcessesBegin.{states_are}
use Rattle.drill_command.proofs.RecordedLogs.{each}

-- the head and the rest that are found in a log
pub record IsReadAs (steps : List RunStep) (p : ℕ) (head : Head) (left : Unread) : Type 0 where
  pub head_is : head ≡ head_of_log drill_group p
  pub left_is : left ≡ left_of_log drill_group steps p

pub read_as : ExactLogs → (steps : List RunStep) (p : ℕ) → TellsEvents drill_group steps p → (head : Head) (left : Unread) → head_at (log_of drill_group steps p) ≡ Some (head, left) → IsReadAs steps p head left
read_as exact steps p tells head left found =
    let same : head ≡ head_of_log drill_group p = ap (λ (x : Head × Unread). x.0) (same_Some (head, left) (head_of_log drill_group p, tells.left) (sym found ∙ tells.head)) in
    let spelled = ((exact.heads (log_of drill_group steps p) head left).0 found).1 in
    let bytes : left.bytes ≡ drop (length (head_bytes (head_of_log drill_group p))) (log_of drill_group steps p) =
    sym (ap (λ (h : Head). drop (length (head_bytes h)) (log_of drill_group steps p)) (sym same) ∙ ap (drop (length (head_bytes head))) spelled.0 ∙ drop-append_seam (head_bytes head) left.bytes) in
    record {
      head_is = same;
      left_is = spelled.1 ∙ ap (λ (h : Head). unread_after_head h left.bytes) same ∙ ap (unread_after_head (head_of_log drill_group p)) bytes;
    }

pub replay_is : (steps : List RunStep) (p : ℕ) (S : State) (head : Head) (left : Unread) → IsReadAs steps p head left → record { head = head; state = S; left = left } ≡ replay_of_process drill_group steps p S
replay_is steps p S head left is =
    ap (λ (h : Head). record { head = h; state = S; left = left }) is.head_is ∙ ap (λ (l : Unread). record { head = head_of_log drill_group p; state = S; left = l }) is.left_is

-- ---- one log

-- the bytes that stand under the name of process p's log are that log
pub log_found : (steps : List RunStep) (files : FilesInMemory) → HoldLogs steps files → (p : ℕ) → p < 4 → (name bytes : List ℕ)
    → name ≡ log_name (name_of_process drill_group p) → get files.folder name ≡ Some bytes → bytes ≡ log_of drill_group steps p
log_found steps files holds p below name bytes named found =
    same_Some bytes (log_of drill_group steps p) (sym found ∙ ap (get files.folder) named ∙ holds.logs p below)

pub never_absent : (steps : List RunStep) (files : FilesInMemory) → HoldLogs steps files → (p : ℕ) → p < 4 → (name : List ℕ)
    → name ≡ log_name (name_of_process drill_group p) → get files.folder name ≡ None → ⊥
never_absent steps files holds p below name named missing =
    refuted (log_of drill_group steps p) (sym (holds.logs p below) ∙ ap (get files.folder) (sym named) ∙ missing)
  where
    refuted : (x : List ℕ) → Some x ≡ None → ⊥
    refuted x e = cc

pub never_headless : (steps : List RunStep) (files : FilesInMemory) → HoldLogs steps files → (p : ℕ) → p < 4 → (name bytes : List ℕ)
    → name ≡ log_name (name_of_process drill_group p) → get files.folder name ≡ Some bytes → head_at bytes ≡ None → ⊥
never_headless steps files holds p below name bytes named found missing =
    refuted (head_of_log drill_group p, (holds.tells p below).left)
    (sym (holds.tells p below).head ∙ ap head_at (sym (log_found steps files holds p below name bytes named found)) ∙ missing)
  where
    refuted : (x : Head × Unread) → Some x ≡ None → ⊥
    refuted x e = cc

pub opened_as : ExactLogs → (steps : List RunStep) (files : FilesInMemory) → HoldLogs steps files → (p : ℕ) → p < 4 → (name bytes : List ℕ)
    → name ≡ log_name (name_of_process drill_group p) → get files.folder name ≡ Some bytes
    → (head : Head) (left : Unread) → head_at bytes ≡ Some (head, left) → IsReadAs steps p head left
opened_as exact steps files holds p below name bytes named found head left opened =
    read_as exact steps p (holds.tells p below) head left (ap head_at (sym (log_found steps files holds p below name bytes named found)) ∙ opened)

-- a process of a module that is `ring` begins as one of `ring`
pub begins_as : (m : Module) (who : ℕ) (S : State) → m ≡ ring_module → start m who 4 ≡ Some S → start ring_module who 4 ≡ Some S
begins_as m who S same is = subst (λ (x : Module). start x who 4 ≡ Some S) same is

-- ---- all four

abbrev pub replays_of : List RunStep → State → State → State → State → List Replaying
replays_of steps n0 n1 n2 n3 =
    replay_of_process drill_group steps 0 n0 ∷ replay_of_process drill_group steps 1 n1 ∷ replay_of_process drill_group steps 2 n2 ∷ replay_of_process drill_group steps 3 n3 ∷ []

pub all_replays : (steps : List RunStep) (n0 n1 n2 n3 : State) → drill_states ≡ n0 ∷ n1 ∷ n2 ∷ n3 ∷ [] → replays_of steps n0 n1 n2 n3 ≡ replays_of_logs drill_group steps
all_replays steps n0 n1 n2 n3 are = sym (ap (replays_from drill_group steps 0) are)

left_within : (steps : List RunStep) (p : ℕ) → TellsEvents drill_group steps p → length (left_of_log drill_group steps p).bytes ≤ most_log
left_within steps p tells = omega (arith, length-drop (length (head_bytes (head_of_log drill_group p))) (log_of drill_group steps p), tells.within)

pub are_parts : (steps : List RunStep) (files : FilesInMemory) → HoldLogs steps files → (n0 n1 n2 n3 : State) → n0.events ≡ 0 → n1.events ≡ 0 → n2.events ≡ 0 → n3.events ≡ 0
    → AreGroupReplays (replays_of steps n0 n1 n2 n3)
are_parts steps files holds n0 n1 n2 n3 fresh0 fresh1 fresh2 fresh3 = record {
  few = few;
  fresh = each (λ r. r.state.events ≡ 0) (replays_of steps n0 n1 n2 n3) (fresh0, (fresh1, (fresh2, (fresh3, tt))));
  one = each (λ r. r.head.count ≡ group_count (replays_of steps n0 n1 n2 n3)) (replays_of steps n0 n1 n2 n3) (refl, (refl, (refl, (refl, tt))));
  ascends = ((below 0 1 (omega arith), (below 0 2 (omega arith), (below 0 3 (omega arith), tt))), ((below 1 2 (omega arith), (below 1 3 (omega arith), tt)), ((below 2 3 (omega arith), tt), (tt, tt))));
  within = each (λ r. length r.left.bytes ≤ most_log) (replays_of steps n0 n1 n2 n3) (
    left_within steps 0 (holds.tells 0 (omega arith)),
    (
      left_within steps 1 (holds.tells 1 (omega arith)),
      (left_within steps 2 (holds.tells 2 (omega arith)), (left_within steps 3 (holds.tells 3 (omega arith)), tt)),
    ),
  );
} where
  few : 4 ≤ 16
  few = omega arith

  below : (a b : ℕ) → a < b → a < b
  below a b h = h

-- four replays that begin so are those of a group
pub parts_are : BeginsFresh → (steps : List RunStep) (files : FilesInMemory) → HoldLogs steps files → (n0 n1 n2 n3 : State) (r0 r1 r2 r3 : Replaying)
    → start ring_module 0 4 ≡ Some n0 → start ring_module 1 4 ≡ Some n1 → start ring_module 2 4 ≡ Some n2 → start ring_module 3 4 ≡ Some n3
    → r0 ≡ replay_of_process drill_group steps 0 n0 → r1 ≡ replay_of_process drill_group steps 1 n1 → r2 ≡ replay_of_process drill_group steps 2 n2 → r3 ≡ replay_of_process drill_group steps 3 n3
    → (items : List Replaying) → items ≡ r0 ∷ r1 ∷ r2 ∷ r3 ∷ [] → AreGroupReplays items
parts_are fresh steps files holds n0 n1 n2 n3 r0 r1 r2 r3 s0 s1 s2 s3 is0 is1 is2 is3 items are =
    rw (are, is0, is1, is2, is3) (are_parts steps files holds n0 n1 n2 n3 (fresh ring_module 0 4 n0 s0).events (fresh ring_module 1 4 n1 s1).events (fresh ring_module 2 4 n2 s2).events (fresh ring_module 3 4 n3 s3).events)

-- and they are the replays of the logs
pub replays_are : (steps : List RunStep) (n0 n1 n2 n3 : State) (r0 r1 r2 r3 : Replaying)
    → start ring_module 0 4 ≡ Some n0 → start ring_module 1 4 ≡ Some n1 → start ring_module 2 4 ≡ Some n2 → start ring_module 3 4 ≡ Some n3
    → r0 ≡ replay_of_process drill_group steps 0 n0 → r1 ≡ replay_of_process drill_group steps 1 n1 → r2 ≡ replay_of_process drill_group steps 2 n2 → r3 ≡ replay_of_process drill_group steps 3 n3
    → (items : List Replaying) → items ≡ r0 ∷ r1 ∷ r2 ∷ r3 ∷ [] → items ≡ replays_of_logs drill_group steps
replays_are steps n0 n1 n2 n3 r0 r1 r2 r3 s0 s1 s2 s3 is0 is1 is2 is3 items are =
    rw (are, is0, is1, is2, is3) (all_replays steps n0 n1 n2 n3 (states_are n0 n1 n2 n3 s0 s1 s2 s3))
