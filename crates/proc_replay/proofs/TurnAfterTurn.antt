-- Turn after turn: the states, the events, and where no further event comes.
use Rattle.std.proofs.Common.{◌≡◌, inl, inr, ℕ, zero, suc, ◌<◌, ◌≤◌, ◌+◌, List, ◌∷◌, length, Some, refl, sym, ap, ◌∙◌, subst, arith}
use Rattle.std.specs.Prelude.{slice_get}
use Rattle.std.proofs.lemmas.Option.{same_Some}
use Rattle.lib_calls.specs.declared.entry.Entry.{Entry}
use Rattle.call_log.specs.Limits.{least_entry}
use Rattle.call_log.specs.Log.{entries_of, rest_of_log}
use Rattle.call_log.specs.Walk.{IsEndOfLog, EntryStep}
use Rattle.guest_process.specs.EventCount.{CountsEvents}
use Rattle.guest_process.specs.declared.verdict.Verdict.{Verdict}
use Rattle.guest_process.specs.Replay.{accepted, reach_of_entries, state_after, verdict, verdict_of}
use Rattle.guest_process.specs.State.{State}
use Rattle.proc_replay.specs.Replaying.{Replaying, ReplayMove, Makes, Ends, Diverges, after_replay_turn, turn}
use Rattle.proc_replay.specs.Course.{AreReplays, AreTurns, ReplayOutcome, TellsVerdict, entries_ahead, outcome_of_replay, replay_outcome_at, after_turns}
use Rattle.proc_replay.proofs.OneTurn.{Goes, Stands, cases, goes_ahead, goes_same, one_accepted, stands_ahead, stands_at}

-- the number of events from here on
abbrev left_to_make : Replaying → ℕ
left_to_make r = accepted r.state (entries_of r.left)

-- an event fewer is ahead after one
one_fewer : (r : Replaying) (g : Goes r) → left_to_make r ≡ suc (left_to_make (after_replay_turn r))
one_fewer r g =
    ap (accepted r.state) g.entries ∙ one_accepted r.state g.entry (entries_of g.behind) g.legal
    ∙ ap (λ (s : Replaying). suc (accepted s.state (entries_of s.left))) (sym g.moves)

-- where the replay stands it stays
stands_still : (r : Replaying) → after_replay_turn r ≡ r → (n : ℕ) → after_turns r n ≡ r
stands_still r stays zero = refl
stands_still r stays (suc n) = ap (λ s. after_turns s n) stays ∙ stands_still r stays n

-- and tells the verdict
stands_tells : (r : Replaying) → Stands r → (n : ℕ) → TellsVerdict (turn (after_turns r n)) (after_turns r n).left.bytes (outcome_of_replay r).verdict
stands_tells r s n =
    let still = stands_still r s.stays n in
    rw still s.tells

-- a turn tells one verdict
tells_once : (t : ReplayMove) (left : List ℕ) (v w : Verdict) → TellsVerdict t left v → TellsVerdict t left w → v ≡ w
tells_once (Makes e) left v w a b = absurd a
tells_once Ends left v w a b = a ∙ sym b
tells_once (Diverges at why) left v w a b = a ∙ sym b

-- with no event before, the verdict is that of the entries
fresh_verdict : (S : State) (es : List Entry) (rest : List ℕ) → S.events ≡ 0 → (replay_outcome_at S es rest).verdict ≡ verdict S es rest
fresh_verdict S es rest fresh =
    let all : S.events + accepted S es ≡ accepted S es = omega (arith, fresh) in
    ap (λ n. verdict_of (record (reach_of_entries S es) { accepted = n }) rest) all

-- an event is that of one entry
pub same_entry : (e f : Entry) → Makes e ≡ Makes f → e ≡ f
same_entry e f same = cc

module _ (step : EntryStep) (end : IsEndOfLog) (counted : CountsEvents) where
  states : (n : ℕ) (r : Replaying) → n ≤ left_to_make r → (after_turns r n).state ≡ state_after r.state (entries_of r.left) n
  states zero r few = refl
  states (suc n) r few = elim (cases step end r) [
    | inl g ↦
        let more = states n (after_replay_turn r) (omega (arith, one_fewer r g)) in
        more ∙ ap (λ (s : Replaying). state_after s.state (entries_of s.left) n) g.moves
        ∙ ap (λ es. state_after r.state es (suc n)) (sym g.entries)
    | inr s ↦ absurd (omega (arith, s.none))
  ]

  events : (n : ℕ) (r : Replaying) (e : Entry) → n < left_to_make r → slice_get (entries_of r.left) n ≡ Some e → turn (after_turns r n) ≡ Makes e
  events zero r e few at = elim (cases step end r) [
    | inl g ↦ g.makes ∙ ap Makes (same_Some _ _ (subst (λ es. slice_get es 0 ≡ Some e) g.entries at))
    | inr s ↦ absurd (omega (arith, s.none))
  ]
  events (suc n) r e few at = elim (cases step end r) [
    | inl g ↦
        let later : slice_get (entries_of g.behind) n ≡ Some e = subst (λ es. slice_get es (suc n) ≡ Some e) g.entries at in
        events n (after_replay_turn r) e (omega (arith, one_fewer r g)) (subst (λ (s : Replaying). slice_get (entries_of s.left) n ≡ Some e) (sym g.moves) later)
    | inr s ↦ absurd (omega (arith, s.none))
  ]

  verdicts : (n : ℕ) (r : Replaying) → left_to_make r ≤ n → TellsVerdict (turn (after_turns r n)) (after_turns r n).left.bytes (outcome_of_replay r).verdict
  verdicts zero r many = elim (cases step end r) [
    | inl g ↦ absurd (omega (arith, one_fewer r g))
    | inr s ↦ stands_tells r s zero
  ]
  verdicts (suc n) r many = elim (cases step end r) [
    | inl g ↦
        subst (λ (o : ReplayOutcome). TellsVerdict (turn (after_turns (after_replay_turn r) n)) (after_turns (after_replay_turn r) n).left.bytes o.verdict) (goes_same counted r g)
        (verdicts n (after_replay_turn r) (omega (arith, one_fewer r g)))
    | inr s ↦ stands_tells r s (suc n)
  ]

  -- the law over all turns
  pub course : AreReplays
  course first fresh = record {
    states = λ n few. states n first few;
    events = λ n e few at. events n first e few at;
    verdict = λ n many.
        subst (TellsVerdict (turn (after_turns first n)) (after_turns first n).left.bytes)
        (fresh_verdict first.state (entries_of first.left) (rest_of_log first.left) fresh) (verdicts n first many);
  }

  -- the law over one turn
  pub one_turn : AreTurns
  one_turn r = elim (cases step end r) [
    | inl g ↦ record {
      same = goes_same counted r g;
      takes = λ e makes. subst (λ (s : Replaying). length s.left.bytes + least_entry ≤ length r.left.bytes) (sym g.moves) g.shorter;
      makes = λ e makes. goes_ahead r g ∙ ap (λ x. x ∷ entries_ahead (after_replay_turn r)) (same_entry g.entry e (sym g.makes ∙ makes));
      none = λ v tells. absurd (subst (λ t. TellsVerdict t r.left.bytes v) g.makes tells);
      stays = λ v tells. absurd (subst (λ t. TellsVerdict t r.left.bytes v) g.makes tells);
      comes = λ v tells. absurd (subst (λ t. TellsVerdict t r.left.bytes v) g.makes tells);
    }
    | inr s ↦ record {
      same = ap outcome_of_replay s.stays;
      takes = λ e makes. absurd (subst (λ t. TellsVerdict t r.left.bytes (outcome_of_replay r).verdict) makes s.tells);
      makes = λ e makes. absurd (subst (λ t. TellsVerdict t r.left.bytes (outcome_of_replay r).verdict) makes s.tells);
      none = λ v tells. stands_ahead r s;
      stays = λ v tells. s.stays;
      comes = λ v tells. stands_at r s ∙ ap (λ w. record { accepted = r.state.events; last = r.state; verdict = w; rest = rest_of_log r.left }) (tells_once (turn r) r.left.bytes _ v s.tells tells);
    }
  ]
