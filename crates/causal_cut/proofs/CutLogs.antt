-- A log that is cut after some of its accepted entries, and written in version 2.
use Rattle.std.proofs.Common.{◌≡◌, ◌∙◌, ℕ, zero, suc, ◌+◌, ◌≤◌, List, [], ◌∷◌, ◌++◌, length, length-append, take, Option, Some, None, refl, ap, subst, arith}
use Rattle.std.proofs.lemmas.List.{take-take}
use Rattle.std.proofs.lemmas.List.Elements.{All-take}
use Rattle.lib_calls.specs.declared.entry.Entry.{Entry}
use Rattle.lib_calls.specs.Entry.{IsShaped}
use Rattle.call_log.specs.declared.version.Version.{Version}
use Rattle.call_log.specs.declared.version.Version.TheVariants.{One, Two}
use Rattle.call_log.specs.Entry.{encodings}
use Rattle.call_log.specs.Head.{Head, head_bytes}
use Rattle.call_log.specs.Laws.{ExactLogs, IsNewerLog, RewrittenIsRead}
use Rattle.call_log.specs.Log.{HoldsEntries, Unread, entries_of, rest_of_log, rewritten_log}
use Rattle.guest_process.specs.declared.divergence.Divergence.{Divergence}
use Rattle.guest_process.specs.Fits.{StateFits}
use Rattle.guest_process.specs.Legal.{reason}
use Rattle.guest_process.specs.Next.{next}
use Rattle.guest_process.specs.Replay.{ReplayReach, accepted, reach_of_entries, reach_with_entry, replayed, state_after, verdict_of}
use Rattle.guest_process.specs.State.{State}
use Rattle.proc_replay.specs.AtHead.{IsAtHead}
use Rattle.proc_replay.specs.Replaying.{Replaying}
use Rattle.proc_replay.specs.Sizes.{AcceptedNoLonger}
use Rattle.causal_cut.specs.Laws.{FrontsReplay}

-- ---- the first ones of a list

count_taken : {A : Type 0} (n a : ℕ) (xs : List A) → n ≤ length (take a xs) → n ≤ a
count_taken n zero xs within = within
count_taken n (suc a) [] within = omega (arith, within)
count_taken zero (suc a) (x ∷ xs) within = omega arith
count_taken (suc n) (suc a) (x ∷ xs) within = omega (arith, count_taken n a xs (omega (arith, within)))

-- ---- how far a replay of them comes

abbrev all_of : ℕ → ReplayReach
all_of n = record { accepted = n; divergence = None }

reach_front : (n : ℕ) (es : List Entry) (S : State) → n ≤ accepted S es → reach_of_entries S (take n es) ≡ all_of n
reach_front zero es S within = refl
reach_front (suc n) [] S within = absurd (omega (arith, within))
reach_front (suc n) (e ∷ es) S within = by_reason (reach_front n es (next S e)) (reason S e) within where
  by_reason : (n ≤ accepted (next S e) es → reach_of_entries (next S e) (take n es) ≡ all_of n) → (o : Option Divergence) → suc n ≤ (reach_with_entry o (reach_of_entries (next S e) es)).accepted
      → reach_with_entry o (reach_of_entries (next S e) (take n es)) ≡ all_of (suc n)
  by_reason rest None within = ap (reach_with_entry None) (rest (omega (arith, within)))
  by_reason rest (Some why) within = absurd (omega (arith, within))

-- ---- how long it is

same_length : (h : Head) → length (head_bytes (record h { version = Two })) ≡ length (head_bytes h)
unfolding head_bytes
same_length h = by_version h.version where
  by_version : (v : Version) → length (head_bytes (record h { version = Two })) ≡ length (head_bytes (record h { version = v }))
  by_version One = refl
  by_version Two = refl

-- the entries of a log at its head, as they are spelled there
held : ExactLogs → (r : Replaying) → HoldsEntries r.left (entries_of r.left) (rest_of_log r.left)
held exact r = (exact.all r.left (entries_of r.left) (rest_of_log r.left)).1 (refl, refl)

no_longer : ExactLogs → AcceptedNoLonger → (r : Replaying) (n : ℕ) → IsAtHead r → StateFits r.state → n ≤ accepted r.state (entries_of r.left)
    → length (rewritten_log r.head (take n (entries_of r.left))) ≤ length (head_bytes r.head) + length r.left.bytes
no_longer exact shorter r n at_head fits within =
    let es = entries_of r.left in
    let h = held exact r in
    let less : length (encodings Two r.state.clock (take n es)) ≤ length (encodings r.left.version r.state.clock es) = shorter r.state es r.left.version n fits h.shaped within in
    let from_zero : length (encodings Two 0 (take n es)) ≤ length (encodings r.left.version 0 es) =
    subst (λ at. length (encodings Two at (take n es)) ≤ length (encodings r.left.version at es)) at_head.clock less in
    let last_is : r.left.last ≡ 0 = ap (λ (u : Unread). u.last) at_head.left in
    let spelled : length r.left.bytes ≡ length (encodings r.left.version 0 es) + length (rest_of_log r.left) =
    ap length h.spelled ∙ ap (λ at. length (encodings r.left.version at es ++ rest_of_log r.left)) last_is ∙ length-append (encodings r.left.version 0 es) (rest_of_log r.left) in
    omega (arith, length-append (head_bytes (record r.head { version = Two })) (encodings Two 0 (take n es)), same_length r.head, from_zero, spelled)

-- ---- the law

pub fronts : ExactLogs → RewrittenIsRead → AcceptedNoLonger → FrontsReplay
fronts exact read shorter r n at_head fits within =
    let es = entries_of r.left in
    let most : n ≤ accepted r.state es = count_taken n (accepted r.state es) es within in
    let newer : IsNewerLog r.head (take n es) (rewritten_log r.head (take n es)) = read r.head (take n es) at_head.head (All-take IsShaped n es (held exact r).shaped) in
    let reached : reach_of_entries r.state (entries_of newer.left) ≡ all_of n = ap (reach_of_entries r.state) newer.entries ∙ reach_front n es r.state most in
    record {
      newer = newer;
      whole = ap (λ (to : ReplayReach). verdict_of to (rest_of_log newer.left)) reached ∙ ap (λ (bytes : List ℕ). verdict_of (all_of n) bytes) newer.rest;
      accepts = ap (λ (to : ReplayReach). to.accepted) reached;
      states = λ m less. ap (λ (part : List Entry). state_after r.state part m) newer.entries ∙ ap (replayed r.state) (take-take m n es less);
      no_longer = no_longer exact shorter r n at_head fits most;
    }
