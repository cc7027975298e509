-- Lines of events that are written one after the other.
use Rattle.std.proofs.Common.{◌≡◌, ℕ, zero, suc, ◌+◌, ◌<◌, List, [], ◌∷◌, ◌++◌, drop, take, Some, append_assoc, sym, ap, subst, ◌∙◌, arith}
use Rattle.std.specs.Prelude.{slice_get}
use Rattle.std.proofs.lemmas.Option.{same_Some}
use Rattle.group_order.specs.Order.{NodeEvent}
use Rattle.lib_calls.specs.declared.entry.Entry.{Entry}
use Rattle.proc_replay.specs.Replaying.{Replaying}
use Rattle.group_text.specs.Texts.{event_line, event_lines}

event_at : {A : Type 0} (es : List A) (e : A) (k n : ℕ) → slice_get es k ≡ Some e → k < n → drop k (take n es) ≡ e ∷ drop (suc k) (take n es)
event_at [] e k n found before = absurd (cc)
event_at (x ∷ es) e k zero found before = absurd (omega (arith, before))
event_at (x ∷ es) e zero (suc n) found before = ap (λ y. y ∷ take n es) (same_Some _ _ found)
event_at (x ∷ es) e (suc k) (suc n) found before = event_at es e k n found (omega (arith, before))

pub events_more : (start : List Replaying) (text next all : List ℕ) (es : List (NodeEvent Entry)) (k n at : ℕ) (e : NodeEvent Entry) → slice_get es k ≡ Some e
    → k < n → at ≡ k + 1 → next ≡ text ++ event_line start at e
    → text ++ event_lines start (suc k) (drop k (take n es)) ≡ all → next ++ event_lines start (suc at) (drop at (take n es)) ≡ all
events_more start text next all es k n at e found before one is whole =
    let same : at ≡ suc k = omega (arith, one) in
    let line : next ≡ text ++ event_line start (suc k) e = is ∙ ap (λ p. text ++ event_line start p e) same in
    let rest = event_lines start (suc (suc k)) (drop (suc k) (take n es)) in
    let shape = event_at es e k n found before in
    let done : next ++ rest ≡ all =
    ap (λ (t : List ℕ). t ++ rest) line ∙ append_assoc text (event_line start (suc k) e) rest
    ∙ ap (λ (l : List (NodeEvent Entry)). text ++ event_lines start (suc k) l) (sym shape) ∙ whole in
    subst (λ p. next ++ event_lines start (suc p) (drop p (take n es)) ≡ all) (sym same) done
