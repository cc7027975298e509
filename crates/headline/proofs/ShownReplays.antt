-- The replay of a log that a recording left shows its process.
use Rattle.std.proofs.Common.{◌≡◌, ◌∙◌, ◌≤◌, ◌<◌, ℕ, zero, suc, List, [], ◌∷◌, ◌++◌, length, take, slice_get, Option, Some, None, ap, arith, refl, sym}
use Rattle.std.specs.Option.{option_to_list}
use Rattle.std.proofs.Math.Seq.{take-length}
use Rattle.std.proofs.lemmas.Option.{same_Some}
use Rattle.lib_calls.specs.Traffic.{prints}
use Rattle.lib_calls.specs.declared.entry.Entry.{Entry}
use Rattle.call_log.specs.Log.{entries_of, rest_of_log}
use Rattle.guest_process.specs.declared.divergence.Divergence.{Divergence}
use Rattle.guest_process.specs.Legal.{reason}
use Rattle.guest_process.specs.Next.{next}
use Rattle.guest_process.specs.declared.verdict.Verdict.{Verdict}
use Rattle.guest_process.specs.Replay.{accepted, last_state, left_over, reach_of_entries, reach_with_entry, replayed, state_after, verdict, verdict_of}
use Rattle.guest_process.specs.State.{State}
use Rattle.proc_replay.specs.Replaying.{Replaying}
use Rattle.group_record.specs.Logs.{IsLogWithTail}
use Rattle.group_record.specs.Run.{GroupStart, RunStep, entries_of_steps, head_of_log, process_after, process_states, recorded_states, processes_in_group}
use Rattle.group_record.specs.Standing.{IsReachableRun, StandsReplayed}
use Rattle.group_state.specs.Image.{memory_of_image, print_of_image}
use Rattle.group_record.specs.Images.{memory_of_process}
use Rattle.group_record.specs.Answer.{end_after}
use Rattle.group_state.specs.Place.{after_entries}
use Rattle.group_state.specs.declared.report.ReportLine.{ReportLine}
use Rattle.group_state.specs.Report.{report_line}
use Rattle.headline.specs.Shown.{RecordedRun, ShowsProcess, recorded_line}
use Rattle.headline.proofs.RecordedCourse.{states_count}

-- the replay of a log
abbrev pub replay_of : (run : RecordedRun) (cut : ℕ → List ℕ) (p : ℕ) → IsLogWithTail run.group run.steps p (cut p) → Replaying
replay_of run cut p t = record { head = head_of_log run.group p; state = t.first; left = t.left }

some_state : (xs : List State) (n : ℕ) → n < length xs → (S : State) × (slice_get xs n ≡ Some S)
some_state [] n below = absurd (omega (arith, below))
some_state (S ∷ xs) zero below = (S, refl)
some_state (S ∷ xs) (suc n) below = some_state xs n (omega (arith, below))

pub shows : (run : RecordedRun) (cut : ℕ → List ℕ) (p : ℕ) → IsReachableRun run.group run.steps → (t : IsLogWithTail run.group run.steps p (cut p)) → ShowsProcess run cut p (replay_of run cut p t)
shows run cut p stands t = record {
  head = refl;
  begun = t.begun;
  told = t.entries;
  rest = t.rest;
  accepted = ap (λ (es : List Entry). take (accepted t.first es) es) t.entries ∙ ap (λ (n : ℕ). take n (entries_of_steps run.steps p)) t.accepted ∙ take-length (entries_of_steps run.steps p);
  moments = λ n within. moment n within;
} where
  one_more : length (recorded_states run.group run.steps p) ≡ suc (length (process_states run.steps p))
  one_more = ap (λ (o : Option State). length (option_to_list o ++ process_states run.steps p)) t.begun

  moment : (n : ℕ) → n ≤ length (entries_of_steps run.steps p) → slice_get (recorded_states run.group run.steps p) n ≡ Some (after_entries (replay_of run cut p t) n)
  moment n within =
      let some = some_state (recorded_states run.group run.steps p) n (omega (arith, within, one_more, states_count run.group run.steps p stands.steps)) in
      some.1
      ∙ ap (λ (S : State). Some S) (sym (t.states n some.0 some.1) ∙ ap (λ (es : List Entry). replayed t.first (take n es)) (sym t.entries))

-- ---- all of it is accepted

no_divergence : (S : State) (es : List Entry) → accepted S es ≡ length es → (reach_of_entries S es).divergence ≡ None
no_divergence S [] is = refl
no_divergence S (e ∷ es) is = by_reason (reason S e) (no_divergence (next S e) es) is where
  by_reason : (o : Option Divergence) → (accepted (next S e) es ≡ length es → (reach_of_entries (next S e) es).divergence ≡ None) → (reach_with_entry o (reach_of_entries (next S e) es)).accepted ≡ suc (length es) → (reach_with_entry o (reach_of_entries (next S e) es)).divergence ≡ None
  by_reason None rest is = rest (omega (arith, is))
  by_reason (Some why) rest is = absurd (omega (arith, is))

abbrev verdict_by : Option Divergence → ℕ → List ℕ → Verdict
verdict_by o n rest = verdict_of (record { accepted = n; divergence = o }) rest

is_left_over : (S : State) (es : List Entry) (rest : List ℕ) → accepted S es ≡ length es → verdict S es rest ≡ left_over rest
is_left_over S es rest all = ap (λ (o : Option Divergence). verdict_by o (accepted S es) rest) (no_divergence S es all)

-- ---- its outcome

-- the facts of a log and of the run, at the same process
record Ends (S last : State) (es : List Entry) : Type 0 where
  all : accepted S es ≡ length es
  at : replayed S es ≡ last

last_is : (S last : State) (es : List Entry) → Ends S last es → last_state S es ≡ last
last_is S last es ends = ap (state_after S es) ends.all ∙ ap (replayed S) (take-length es) ∙ ends.at

ends_at : (group : GroupStart) (steps : List RunStep) (cut : ℕ → List ℕ) (p : ℕ) (t : IsLogWithTail group steps p (cut p)) (s : StandsReplayed group steps p) → Ends t.first s.last (entries_of_steps steps p)
ends_at group steps cut p t s = record {
  all = t.accepted;
  at = ap (λ (S : State). replayed S (entries_of_steps steps p)) (same_Some t.first s.first (sym t.begun ∙ s.begun)) ∙ s.replay;
}

-- so a replay ends as its process did
pub record ComesTo (run : RecordedRun) (cut : ℕ → List ℕ) (p : ℕ) (r : Replaying) : Type 0 where
  pub line : report_line r ≡ recorded_line run cut p
  pub memory : memory_of_image r ≡ memory_of_process (process_after run.group run.steps p)
  pub printed : print_of_image r ≡ prints (entries_of_steps run.steps p)

abbrev line_of : Replaying → List Entry → List ℕ → ReportLine
line_of r es rest = record { name = r.head.name; events = accepted r.state es; end = (last_state r.state es).end; verdict = verdict r.state es rest }

abbrev ended_line : Replaying → ℕ → State → Verdict → ReportLine
ended_line r n last v = record { name = r.head.name; events = n; end = last.end; verdict = v }

pub comes_to : (run : RecordedRun) (cut : ℕ → List ℕ) (p : ℕ) → IsReachableRun run.group run.steps → p < processes_in_group run.group → (t : IsLogWithTail run.group run.steps p (cut p)) → ComesTo run cut p (replay_of run cut p t)
comes_to run cut p stands below t =
    let s = stands.processes p below in
    let es = entries_of_steps run.steps p in
    let ends = ends_at run.group run.steps cut p t s in
    let r = replay_of run cut p t in
    let last : last_state t.first (entries_of t.left) ≡ s.last = ap (last_state t.first) t.entries ∙ last_is t.first s.last es ends in
    record {
      line =
          ap (λ (es : List Entry). line_of r es (rest_of_log t.left)) t.entries
          ∙ ap (λ (n : ℕ). ended_line r n (last_state t.first es) (verdict t.first es (rest_of_log t.left))) t.accepted
          ∙ ap (λ (S : State). ended_line r (length es) S (verdict t.first es (rest_of_log t.left))) (last_is t.first s.last es ends)
          ∙ ap (λ (v : Verdict). ended_line r (length es) s.last v) (is_left_over t.first es (rest_of_log t.left) t.accepted)
          ∙ ap (λ (rest : List ℕ). ended_line r (length es) s.last (left_over rest)) t.rest
          ∙ ap (λ (o : Option State). record (recorded_line run cut p) { end = end_after o }) (sym s.stands);
      memory = ap (λ (S : State). S.store.memory.bytes) last ∙ ap memory_of_process (sym s.stands);
      printed = ap prints (shows run cut p stands t).accepted;
    }
