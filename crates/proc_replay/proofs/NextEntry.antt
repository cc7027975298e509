-- What is read and judged of the next entry, and what its event leaves.
use Rattle.std.proofs.Common.{◌≡◌, inl, inr, ℕ, ◌+◌, ◌≤◌, length, Some, None, refl, sym, ap, ◌∙◌, subst, arith}
use Rattle.lib_calls.specs.Entry.{entry_of}
use Rattle.lib_calls.specs.declared.entry.Entry.{Entry}
use Rattle.lib_calls.specs.declared.entry.EntryView.{EntryView}
use Rattle.call_log.specs.Head.{Head}
use Rattle.call_log.specs.Limits.{least_entry}
use Rattle.call_log.specs.Log.{Log, Unread, entry_at}
use Rattle.call_log.specs.Walk.{IsEndOfLog, EntryStep}
use Rattle.guest_process.specs.declared.divergence.Divergence.{Divergence}
use Rattle.guest_process.specs.Legal.{reason}
use Rattle.guest_process.specs.Next.{next}
use Rattle.guest_process.specs.declared.verdict.Verdict.{Verdict}
use Rattle.guest_process.specs.State.{State}
use Rattle.proc_replay.specs.declared.turn.Turn.TheVariants as code
use Rattle.proc_replay.specs.Course.{TellsVerdict, outcome_of_replay}
use Rattle.proc_replay.specs.inside.Ahead.{IsLookahead, replaying}
use Rattle.proc_replay.specs.Replaying.{Diverges, Makes, Replaying, after_replay_turn, after_at, move_by, moved, turn, turn_at}
use Rattle.proc_replay.proofs.OneTurn.{cases}
use Rattle.proc_replay.proofs.TurnAfterTurn.{same_entry}

-- ---- what is read and judged is what the turn gives

pub no_entry : (S : State) (log behind : Log) → entry_at log.left ≡ None → IsLookahead (replaying S log) code.LogEnd behind
no_entry S log behind is = record {
  tells = sym (ap (turn_at S) is);
  leaves = λ e makes. let told : turn_at S None ≡ Makes e = sym (ap (turn_at S) is) ∙ makes in absurd (cc);
}

pub illegal_entry : (S : State) (log behind : Log) (e : Entry) (left : Unread) (at : ℕ) (why : Divergence) → entry_at log.left ≡ Some (e, left) → reason S e ≡ Some why → at ≡ S.events + 1
    → IsLookahead (replaying S log) (code.Diverged at why) behind
illegal_entry S log behind e left at why is differs count =
    let told : turn_at S (entry_at log.left) ≡ Diverges at why = ap (turn_at S) is ∙ ap (move_by S e) differs ∙ ap (λ n. Diverges n why) (sym count) in record {
      tells = sym told;
      leaves = λ f makes. let both : Diverges at why ≡ Makes f = sym told ∙ makes in absurd (cc);
    }

same_log : (h g : Head) (l m : Unread) → h ≡ g → l ≡ m → ◌≡◌ {A = Log} (record { head = h; left = l }) (record { head = g; left = m })
same_log h g l m p q = rw (p, q) refl

pub legal_entry : (S : State) (log behind : Log) (v : EntryView) → entry_at log.left ≡ Some (entry_of v, behind.left) → behind.head ≡ log.head → reason S (entry_of v) ≡ None
    → IsLookahead (replaying S log) (code.Event v) behind
legal_entry S log behind v is head legal =
    let r = replaying S log in
    let left : (after_replay_turn r).left ≡ behind.left = ap (λ (s : Replaying). s.left) (ap (after_at r) is ∙ ap (moved r (entry_of v) behind.left) legal) in record {
      tells = sym (ap (turn_at S) is ∙ ap (move_by S (entry_of v)) legal);
      leaves = λ e makes. same_log behind.head log.head behind.left (after_replay_turn r).left head (sym left);
    }

-- ---- what the turn leaves

-- the entry of the event is legal, and what is left is shorter
pub record IsMade (r : Replaying) (e : Entry) : Type 0 where
  pub legal : reason r.state e ≡ None
  pub moves : after_replay_turn r ≡ record { head = r.head; state = next r.state e; left = (after_replay_turn r).left }
  pub shorter : length (after_replay_turn r).left.bytes + least_entry ≤ length r.left.bytes

module _ (step : EntryStep) (end : IsEndOfLog) where
  pub made : (r : Replaying) (e : Entry) → turn r ≡ Makes e → IsMade r e
  made r e is = elim (cases step end r) [
    | inl g ↦
        let same : g.entry ≡ e = same_entry g.entry e (sym g.makes ∙ is) in
        let left : (after_replay_turn r).left ≡ g.behind = ap (λ (s : Replaying). s.left) g.moves in
        subst (IsMade r) same (record {
          legal = g.legal;
          moves = g.moves ∙ ap (λ (behind : Unread). record { head = r.head; state = next r.state g.entry; left = behind }) (sym left);
          shorter = omega (arith, g.shorter, ap (λ (behind : Unread). length behind.bytes) left);
        })
    | inr s ↦ absurd (subst (λ t. TellsVerdict t r.left.bytes (outcome_of_replay r).verdict) is s.tells)
  ]

  -- a turn that tells a verdict leaves all as it is
  pub stays : (r : Replaying) (v : Verdict) → TellsVerdict (turn r) r.left.bytes v → after_replay_turn r ≡ r
  stays r v tells = elim (cases step end r) [
    | inl g ↦ absurd (subst (λ t. TellsVerdict t r.left.bytes v) g.makes tells)
    | inr s ↦ s.stays
  ]
