-- The turns of one replay, to the end of its log.
use Rattle.std.proofs.Common.{◌≡◌, ℕ, Bool, true, false, List, [], ◌∷◌, ◌++◌, append_assoc, append-nil, refl, sym, ap, subst, ◌∙◌, Option, Some, None}
use Rattle.lib_calls.specs.declared.entry.Entry.{Entry}
use Rattle.lib_calls.specs.Traffic.{printed, prints}
use Rattle.call_log.specs.Head.{Head}
use Rattle.call_log.specs.Log.{Unread, entry_at}
use Rattle.guest_process.specs.declared.divergence.Divergence.{Divergence}
use Rattle.guest_process.specs.Legal.{reason}
use Rattle.guest_process.specs.declared.verdict.Verdict.{Verdict}
use Rattle.proc_replay.specs.Course.{AreTurns, TellsVerdict, entries_ahead, outcome_of_replay}
use Rattle.proc_replay.specs.Replaying.{Makes, Replaying, after_replay_turn, after_at, moved, turn}
use Rattle.group_state.specs.inside.Turns.{EndsAtReplay, kept_after}
use Rattle.group_state.specs.Report.{accepted_in}
use Rattle.group_state.specs.Tally.{AcceptedEvent, of_process}
use Rattle.group_state.specs.inside.Tallying.{AreNewEvents, HasTallyRoom, HasTallyRoomFor, IsNewSend, GroupTallying, with_accepted, with_all_accepted}

-- ---- a turn keeps the head of the log

moved_head : (r : Replaying) (e : Entry) (behind : Unread) (why : Option Divergence) → (moved r e behind why).head ≡ r.head
moved_head r e behind None = refl
moved_head r e behind (Some why) = refl

after_head : (r : Replaying) (next : Option (Entry × Unread)) → (after_at r next).head ≡ r.head
after_head r None = refl
after_head r (Some x) = moved_head r x.0 x.1 (reason r.state x.0)

-- a replay that comes to what it came to at first
pub record Follows (first r : Replaying) : Type 0 where
  pub same : outcome_of_replay r ≡ outcome_of_replay first
  pub head : r.head ≡ first.head

pub follows_first : (first : Replaying) → Follows first first
follows_first first = record { same = refl; head = refl }

pub follows_more : AreTurns → (first r more : Replaying) → Follows first r → more ≡ after_replay_turn r → Follows first more
follows_more turns first r more f moves =
    subst (Follows first) (sym moves) (record { same = (turns r).same ∙ f.same; head = after_head r (entry_at r.left) ∙ f.head })

-- where a turn tells a verdict, it is at its end
pub ends : AreTurns → (first r last : Replaying) (v : Verdict) → Follows first r → last ≡ after_replay_turn r → TellsVerdict (turn r) r.left.bytes v → EndsAtReplay first last
ends turns first r last v f moves tells =
    subst (EndsAtReplay first) (sym (moves ∙ (turns r).stays v tells)) (record { same = f.same; head = f.head; verdict = v; tells = tells })

-- ---- the tally of the events

abbrev event : ℕ → Entry → AcceptedEvent
event p e = record { process = p; entry = e }

-- the tally t at r, of a replay of process p that began at `first` with the tally t0
pub record Tallies (p : ℕ) (t0 t : GroupTallying) (first r : Replaying) : Type 0 where
  pub follows : Follows first r
  pub process : p ≡ r.head.process
  pub tallied : with_all_accepted t (accepted_in r) ≡ with_all_accepted t0 (accepted_in first)
  pub new : AreNewEvents t (accepted_in r)
  pub room : HasTallyRoomFor t (accepted_in r)

pub tallies_first : (p : ℕ) (t : GroupTallying) (first : Replaying) → p ≡ first.head.process → AreNewEvents t (accepted_in first) → HasTallyRoomFor t (accepted_in first) → Tallies p t t first first
tallies_first p t first process new room = record { follows = follows_first first; process = process; tallied = refl; new = new; room = room }

-- the events that are ahead, where one is made
accepted_more : AreTurns → (p : ℕ) (r : Replaying) (e : Entry) → p ≡ r.head.process → turn r ≡ Makes e → accepted_in r ≡ event p e ∷ accepted_in (after_replay_turn r)
accepted_more turns p r e process makes =
    ap (of_process r.head.process) ((turns r).makes e makes)
    ∙ ap (λ (h : Head). event r.head.process e ∷ of_process h.process (entries_ahead (after_replay_turn r))) (sym (after_head r (entry_at r.left)))
    ∙ ap (λ (q : ℕ). event q e ∷ accepted_in (after_replay_turn r)) (sym process)

pub next_new : AreTurns → (p : ℕ) (t0 t : GroupTallying) (first r : Replaying) (e : Entry) → Tallies p t0 t first r → turn r ≡ Makes e → IsNewSend t (event p e)
next_new turns p t0 t first r e k makes =
    let were : AreNewEvents t (event p e ∷ accepted_in (after_replay_turn r)) = subst (AreNewEvents t) (accepted_more turns p r e k.process makes) k.new in
    were.0

pub next_room : AreTurns → (p : ℕ) (t0 t : GroupTallying) (first r : Replaying) (e : Entry) → Tallies p t0 t first r → turn r ≡ Makes e → HasTallyRoom t
next_room turns p t0 t first r e k makes =
    let was : HasTallyRoomFor t (event p e ∷ accepted_in (after_replay_turn r)) = subst (HasTallyRoomFor t) (accepted_more turns p r e k.process makes) k.room in
    was.0

pub tallies_more : AreTurns → (p : ℕ) (t0 t new : GroupTallying) (first r more : Replaying) (e : Entry) → Tallies p t0 t first r → turn r ≡ Makes e
    → more ≡ after_replay_turn r → new ≡ with_accepted t (event p e) → Tallies p t0 new first more
tallies_more turns p t0 t new first r more e k makes moves is =
    let front = accepted_more turns p r e k.process makes in
    let were : AreNewEvents t (event p e ∷ accepted_in (after_replay_turn r)) = subst (AreNewEvents t) front k.new in
    let was : HasTallyRoomFor t (event p e ∷ accepted_in (after_replay_turn r)) = subst (HasTallyRoomFor t) front k.room in
    subst (λ (m : Replaying). Tallies p t0 new first m) (sym moves) (subst (λ (n : GroupTallying). Tallies p t0 n first (after_replay_turn r)) (sym is) (record {
      follows = follows_more turns first r (after_replay_turn r) k.follows refl;
      process = k.process ∙ ap (λ (h : Head). h.process) (sym (after_head r (entry_at r.left)));
      tallied = ap (with_all_accepted t) (sym front) ∙ k.tallied;
      new = were.1;
      room = was.1;
    }))

pub tallies_all : AreTurns → (p : ℕ) (t0 t : GroupTallying) (first r : Replaying) (v : Verdict) → Tallies p t0 t first r → TellsVerdict (turn r) r.left.bytes v → t ≡ with_all_accepted t0 (accepted_in first)
tallies_all turns p t0 t first r v k tells =
    ap (λ (es : List Entry). with_all_accepted t (of_process r.head.process es)) (sym ((turns r).none v tells)) ∙ k.tallied

-- ---- what the events print

kept_twice : (images : Bool) (a b c : List ℕ) → kept_after images (kept_after images a b) c ≡ kept_after images a (b ++ c)
kept_twice false a b c = refl
kept_twice true a b c = append_assoc a b c

kept_nothing : (images : Bool) (a : List ℕ) → kept_after images a [] ≡ a
kept_nothing false a = refl
kept_nothing true a = append-nil a

-- the bytes at r, of a replay that began at `first` with the bytes `before`
pub record Prints (images : Bool) (before now : List ℕ) (first r : Replaying) : Type 0 where
  pub printed : kept_after images now (prints (entries_ahead r)) ≡ kept_after images before (prints (entries_ahead first))

pub prints_first : (images : Bool) (before : List ℕ) (first : Replaying) → Prints images before before first first
prints_first images before first = record { printed = refl }

pub prints_more : AreTurns → (images : Bool) (before now new : List ℕ) (first r more : Replaying) (e : Entry) → Prints images before now first r → turn r ≡ Makes e
    → more ≡ after_replay_turn r → new ≡ kept_after images now (printed e) → Prints images before new first more
prints_more turns images before now new first r more e k makes moves is =
    subst (λ (m : Replaying). Prints images before new first m) (sym moves) (subst (λ (n : List ℕ). Prints images before n first (after_replay_turn r)) (sym is) (record {
      printed = kept_twice images now (printed e) (prints (entries_ahead (after_replay_turn r))) ∙ ap (λ (es : List Entry). kept_after images now (prints es)) (sym ((turns r).makes e makes)) ∙ k.printed;
    }))

pub prints_all : AreTurns → (images : Bool) (before now : List ℕ) (first r : Replaying) (v : Verdict) → Prints images before now first r → TellsVerdict (turn r) r.left.bytes v
    → now ≡ kept_after images before (prints (entries_ahead first))
prints_all turns images before now first r v k tells =
    sym (kept_nothing images now) ∙ ap (λ (es : List Entry). kept_after images now (prints es)) (sym ((turns r).none v tells)) ∙ k.printed
