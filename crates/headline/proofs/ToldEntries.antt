-- Each entry of a log was an event of the run, and each send among them is one.
use Rattle.std.proofs.Common.{◌≡◌, ◌⊎◌, ℕ, zero, suc, Bool, true, false, List, [], ◌∷◌, ◌++◌, slice_get, Some, inl, inr, ap, refl, subst}
use Rattle.std.specs.Prelude.{◌==◌, ◌&&◌, IsTrue}
use Rattle.std.proofs.lemmas.Bool.{and_parts, eqb-true}
use Rattle.lib_calls.specs.Traffic.{is_sent}
use Rattle.lib_calls.specs.declared.entry.Entry.{Entry}
use Rattle.guest_process.specs.Live.{Event}
use Rattle.lossy_net.specs.Network.{nth_of}
use Rattle.group_world.specs.History.{History, put_last_if, sends}
use Rattle.group_world.specs.History as world
use Rattle.group_record.specs.Run.{GroupStart, Had, Did, RunStep, entries_of_steps}
use Rattle.group_record.specs.Standing.{IsRun}
use Rattle.headline.proofs.RecordedCourse.{at_end}

-- the step at which it came
pub record WasHad (steps : List RunStep) (p : ℕ) (e : Entry) : Type 0 where
  pub later : List RunStep
  pub early : List RunStep
  pub event : Event
  pub split : steps ≡ later ++ (Had p event ∷ early)
  pub is : event.entry ≡ e

further : (s : RunStep) (steps : List RunStep) (p : ℕ) (e : Entry) → WasHad steps p e → WasHad (s ∷ steps) p e
further s steps p e was = record { later = s ∷ was.later; early = was.early; event = was.event; split = ap (λ (rest : List RunStep). s ∷ rest) was.split; is = was.is }

pub was_had : (group : GroupStart) (steps : List RunStep) (p k : ℕ) (e : Entry) → IsRun group steps → slice_get (entries_of_steps steps p) k ≡ Some e → WasHad steps p e
was_had group [] p k e run at = cc
was_had group (Had q x ∷ steps) p k e run at = by_process (was_had group steps p k e run.1) (q == p) refl at where
  by_process : (slice_get (entries_of_steps steps p) k ≡ Some e → WasHad steps p e) → (b : Bool) → (q == p) ≡ b → slice_get (put_last_if b (entries_of_steps steps p) x.entry) k ≡ Some e → WasHad (Had q x ∷ steps) p e
  by_process before false other at = further (Had q x) steps p e (before at)
  by_process before true same at = by_place (at_end (entries_of_steps steps p) x.entry e k at) where
    by_place : (slice_get (entries_of_steps steps p) k ≡ Some e) ⊎ (x.entry ≡ e) → WasHad (Had q x ∷ steps) p e
    by_place (inl there) = further (Had q x) steps p e (before there)
    by_place (inr last) = record { later = []; early = steps; event = x; split = ap (λ (n : ℕ). Had n x ∷ steps) (eqb-true q p same); is = last }
was_had group (Did (world.Event q x) ∷ steps) p k e run at = absurd run.0
was_had group (Did (world.Deliver q n) ∷ steps) p k e run at = further (Did (world.Deliver q n)) steps p e (was_had group steps p k e run.1 at)
was_had group (Did (world.Inject q bytes) ∷ steps) p k e run at = further (Did (world.Inject q bytes)) steps p e (was_had group steps p k e run.1 at)
was_had group (Did (world.Clock q value) ∷ steps) p k e run at = further (Did (world.Clock q value)) steps p e (was_had group steps p k e run.1 at)
was_had group (Did (world.Random q bytes) ∷ steps) p k e run at = further (Did (world.Random q bytes)) steps p e (was_had group steps p k e run.1 at)
was_had group (Did (world.Signal q signal) ∷ steps) p k e run at = further (Did (world.Signal q signal)) steps p e (was_had group steps p k e run.1 at)
was_had group (Did (world.Kill q) ∷ steps) p k e run at = further (Did (world.Kill q)) steps p e (was_had group steps p k e run.1 at)

-- ---- sends

sent_at : (count : ℕ) (h : History) (q k : ℕ) (e : Entry) → slice_get (sends count h q) k ≡ Some e → IsTrue (is_sent count e)
sent_at count [] q k e at = cc
sent_at count (world.Event p x ∷ h) q k e at = by_test (sent_at count h q k e) ((p == q) && is_sent count x) refl at where
  by_test : (slice_get (sends count h q) k ≡ Some e → IsTrue (is_sent count e)) → (b : Bool) → ((p == q) && is_sent count x) ≡ b → slice_get (put_last_if b (sends count h q) x) k ≡ Some e → IsTrue (is_sent count e)
  by_test before false other at = before at
  by_test before true is at = by_place (at_end (sends count h q) x e k at) where
    by_place : (slice_get (sends count h q) k ≡ Some e) ⊎ (x ≡ e) → IsTrue (is_sent count e)
    by_place (inl there) = before there
    by_place (inr last) = subst (λ (x : Entry). IsTrue (is_sent count x)) last (and_parts (p == q) (is_sent count x) is).1
sent_at count (world.Deliver p n ∷ h) q k e at = sent_at count h q k e at
sent_at count (world.Inject p bytes ∷ h) q k e at = sent_at count h q k e at
sent_at count (world.Clock p value ∷ h) q k e at = sent_at count h q k e at
sent_at count (world.Random p bytes ∷ h) q k e at = sent_at count h q k e at
sent_at count (world.Signal p signal ∷ h) q k e at = sent_at count h q k e at
sent_at count (world.Kill p ∷ h) q k e at = sent_at count h q k e at

pub nth_is_sent : (count : ℕ) (h : History) (q n : ℕ) (e : Entry) → nth_of (sends count h q) n ≡ Some e → IsTrue (is_sent count e)
nth_is_sent count h q zero e at = cc
nth_is_sent count h q (suc k) e at = sent_at count h q k e at
