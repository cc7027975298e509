-- What is said of a log whose replay is at its end, and what its process leaves.
use Rattle.std.proofs.Common.{◌≡◌, ℕ, ◌+◌, List, [], ◌++◌, ap, refl, sym, ◌∙◌, arith}
use Rattle.lib_calls.specs.Traffic.{prints}
use Rattle.lib_calls.specs.declared.entry.Entry.{Entry}
use Rattle.call_log.specs.Log.{entries_of, rest_of_log}
use Rattle.guest_process.specs.declared.end.End.{End}
use Rattle.guest_process.specs.declared.verdict.Verdict.{Verdict}
use Rattle.guest_process.specs.Replay.{accepted, last_state, reach_of_entries, verdict, verdict_of}
use Rattle.guest_process.specs.State.{State}
use Rattle.proc_replay.specs.Course.{AreTurns, ReplayOutcome, TellsVerdict, entries_ahead, replay_outcome_at}
use Rattle.proc_replay.specs.Replaying.{Replaying, turn}
use Rattle.group_state.specs.declared.image.Image.{Image}
use Rattle.group_state.specs.declared.report.ReportLine.{ReportLine}
use Rattle.group_state.specs.Image.{image_of, memory_of_image, print_of_image}
use Rattle.group_state.specs.inside.Turns.{EndsAtReplay}
use Rattle.group_state.specs.Report.{report_line}

-- the replay of these entries from a first state comes to the state T and this verdict
pub record Comes (S T : State) (es : List Entry) (rest : List ℕ) (v : Verdict) : Type 0 where
  pub events : T.events ≡ accepted S es
  pub last : T ≡ last_state S es
  pub verdict : v ≡ verdict S es rest

comes_at : (S T : State) (es : List Entry) (rest behind : List ℕ) (v : Verdict) → S.events ≡ 0
    → replay_outcome_at S es rest ≡ record { accepted = T.events; last = T; verdict = v; rest = behind } → Comes S T es rest v
comes_at S T es rest behind v fresh comes =
    let all : S.events + accepted S es ≡ accepted S es = omega (arith, fresh) in record {
      events = sym (ap (λ (o : ReplayOutcome). o.accepted) comes) ∙ all;
      last = sym (ap (λ (o : ReplayOutcome). o.last) comes);
      verdict = sym (ap (λ (o : ReplayOutcome). o.verdict) comes) ∙ ap (λ n. verdict_of (record (reach_of_entries S es) { accepted = n }) rest) all;
    }

pub comes : AreTurns → (first last : Replaying) (v : Verdict) → first.state.events ≡ 0 → EndsAtReplay first last → TellsVerdict (turn last) last.left.bytes v
    → Comes first.state last.state (entries_of first.left) (rest_of_log first.left) v
comes turns first last v fresh ends tells =
    comes_at first.state last.state (entries_of first.left) (rest_of_log first.left) (rest_of_log last.left) v fresh (sym ends.same ∙ (turns last).comes v tells)

same_line : (n m : List ℕ) (a b : ℕ) (c d : End) (e f : Verdict) → n ≡ m → a ≡ b → c ≡ d → e ≡ f
    → ◌≡◌ {A = ReportLine} (record { name = n; events = a; end = c; verdict = e }) (record { name = m; events = b; end = d; verdict = f })
same_line n m a b c d e f p q r s = rw (p, q, r, s) refl

pub line_so : AreTurns → (first last : Replaying) (v : Verdict) (name : List ℕ) (count : ℕ) (end : End) (said : Verdict) → first.state.events ≡ 0 → EndsAtReplay first last
    → TellsVerdict (turn last) last.left.bytes v → name ≡ last.head.name → count ≡ last.state.events → end ≡ last.state.end → said ≡ v
    → ◌≡◌ {A = ReportLine} (record { name = name; events = count; end = end; verdict = said }) (report_line first)
line_so turns first last v name count end said fresh ends tells is_name is_count is_end is_said =
    let c = comes turns first last v fresh ends tells in
    same_line name first.head.name count _ end _ said _
    (is_name ∙ ap (λ h. h.name) ends.head)
    (is_count ∙ c.events)
    (is_end ∙ ap (λ (S : State). S.end) c.last)
    (is_said ∙ c.verdict)

-- ---- what a process leaves

image_so : AreTurns → (first last : Replaying) (memory printed : List ℕ) → first.state.events ≡ 0 → EndsAtReplay first last → memory ≡ last.state.store.memory.bytes → printed ≡ prints (entries_ahead first)
    → ◌≡◌ {A = Image} (record { memory = memory; printed = printed }) (image_of first)
image_so turns first last memory printed fresh ends is_memory is_printed =
    let c = comes turns first last ends.verdict fresh ends ends.tells in
    same_image memory (memory_of_image first) printed (print_of_image first) (is_memory ∙ ap (λ (S : State). S.store.memory.bytes) c.last) is_printed
  where
    same_image : (a b c d : List ℕ) → a ≡ b → c ≡ d → ◌≡◌ {A = Image} (record { memory = a; printed = c }) (record { memory = b; printed = d })
    same_image a b c d p q = rw (p, q) refl

-- what its events print came after no bytes
pub image_at : AreTurns → (first last : Replaying) (before memory printed : List ℕ) → first.state.events ≡ 0 → EndsAtReplay first last → memory ≡ last.state.store.memory.bytes
    → before ≡ [] → printed ≡ before ++ prints (entries_ahead first) → ◌≡◌ {A = Image} (record { memory = memory; printed = printed }) (image_of first)
image_at turns first last before memory printed fresh ends is_memory empty is_printed =
    image_so turns first last memory printed fresh ends is_memory (is_printed ∙ ap (λ (bs : List ℕ). bs ++ prints (entries_ahead first)) empty)
