-- No two events of a process have one clock: so what an event sends was not sent before.
use Rattle.std.proofs.Common.{◌≡◌, ◌∙◌, ◌<◌, ℕ, zero, suc, Bool, true, false, List, [], ◌∷◌, ◌++◌, Option, Some, None, ap, arith, length, refl, subst, sym, take}
use Rattle.std.specs.Prelude.{slice_get}
use Rattle.std.specs.List.{AllByRecursion}
use Rattle.std.proofs.lemmas.Bool.Decides.{nat_tests}
use Rattle.std.proofs.lemmas.List.Elements.{All-append, All-from_recursion, recursion_from_All}
use Rattle.std.proofs.lemmas.Option.{get_or_from_slice_get, slice_get_within}
use Rattle.lamport_tag.specs.declared.Tag.{Tag}
use Rattle.lib_calls.specs.declared.entry.Entry.{Entry}
use Rattle.lib_calls.specs.Traffic.{is_sent, is_taken}
use Rattle.group_order.specs.Order.{IsSorted, NodeEvent, event_precedes}
use Rattle.group_state.specs.Place.{AscendsByProcess, entry_clock, group_count}
use Rattle.proc_replay.specs.Replaying.{Replaying}
use Rattle.byte_streams.specs.Laws.{IsUnsent, is_send_at}
use Rattle.streams_command.specs.Streams.{process_at, received_traffic, traffic_by, traffic_of_events}
use Rattle.streams_command.proofs.ToldByEvents.{one_before, traffic_at}

-- ---- the processes of nodes

first_below : (p : ℕ) (rs : List Replaying) (node : ℕ) → AllByRecursion (λ r. p < r.head.process) rs → node < length rs → p < process_at rs node
first_below p [] node above within = absurd (omega (arith, within))
first_below p (r ∷ rs) zero above within = above.0
first_below p (r ∷ rs) (suc node) above within = first_below p rs node above.1 (omega (arith, within))

ascending : (rs : List Replaying) (a b : ℕ) → AscendsByProcess rs → a < b → b < length rs → process_at rs a < process_at rs b
ascending [] a b up less within = absurd (omega (arith, within))
ascending (r ∷ rs) a zero up less within = absurd (omega (arith, less))
ascending (r ∷ rs) zero (suc b) up less within = first_below r.head.process rs b up.0 (omega (arith, within))
ascending (r ∷ rs) (suc a) (suc b) up less within = ascending rs a b up.1 (omega (arith, less)) (omega (arith, within))

-- ---- events before another

-- they are not of one process at one clock
abbrev IsApart : List Replaying → NodeEvent Entry → NodeEvent Entry → Type 0
IsApart start e f = process_at start f.node ≡ process_at start e.node → f.entry.clock ≡ e.entry.clock → ⊥

lower_node : (f e : NodeEvent Entry) → event_precedes entry_clock f e ≡ true → f.entry.clock ≡ e.entry.clock → f.node < e.node
lower_node f e before same = grind (arith, nat_tests)

apart : (start : List Replaying) (e f : NodeEvent Entry) → AscendsByProcess start → e.node < length start → event_precedes entry_clock f e ≡ true → IsApart start e f
apart start e f up within before same clock =
    let below = ascending start f.node e.node up (lower_node f e before clock) within in
    omega (arith, below, same)

all_apart : (start : List Replaying) (es : List (NodeEvent Entry)) (k : ℕ) (e : NodeEvent Entry) → AscendsByProcess start → e.node < length start → IsSorted entry_clock es → slice_get es k ≡ Some e
    → AllByRecursion (IsApart start e) (take k es)
all_apart start [] k e up within sorted at = absurd (cc)
all_apart start (f ∷ es) zero e up within sorted at = tt
all_apart start (f ∷ es) (suc k) e up within sorted at =
    let before = All-from_recursion (λ (g : NodeEvent Entry). event_precedes entry_clock f g ≡ true) es sorted.0 k e (slice_get_within es k e at) in
    let read = get_or_from_slice_get es k e e at in
    (apart start e f up within (ap (event_precedes entry_clock f) (sym read) ∙ before), all_apart start es k e up within sorted.1 at)

-- ---- what they sent

all_append : {X : Type 0} (P : X → Type 0) (xs ys : List X) → AllByRecursion P xs → AllByRecursion P ys → AllByRecursion P (xs ++ ys)
all_append P xs ys all rest = recursion_from_All P (xs ++ ys) (All-append P xs ys (All-from_recursion P xs all) (All-from_recursion P ys rest))

not_received : (from clock p : ℕ) (f : Entry) (tag : Option Tag) → IsUnsent from clock (received_traffic p f tag)
not_received from clock p f None = tt
not_received from clock p f (Some tag) = (refl, tt)

unsent_by : (start : List Replaying) (e f : NodeEvent Entry) (sent taken : Bool) → IsApart start e f
    → IsUnsent (process_at start e.node) e.entry.clock (traffic_by sent taken (process_at start f.node) f.entry)
unsent_by start e f true taken apart = (grind (arith, nat_tests, apart), tt)
unsent_by start e f false true apart = not_received (process_at start e.node) e.entry.clock (process_at start f.node) f.entry f.entry.tag
unsent_by start e f false false apart = tt

unsent_in : (start : List Replaying) (e : NodeEvent Entry) (es : List (NodeEvent Entry)) → AllByRecursion (IsApart start e) es → IsUnsent (process_at start e.node) e.entry.clock (traffic_of_events start es)
unsent_in start e [] apart = tt
unsent_in start e (f ∷ es) apart =
    subst (IsUnsent (process_at start e.node) e.entry.clock) (one_before start es f)
    (all_append (λ t. is_send_at (process_at start e.node) e.entry.clock t ≡ false) (traffic_of_events start es) (traffic_at start f) (unsent_in start e es apart.1)
    (unsent_by start e f (is_sent (group_count start) f.entry) (is_taken f.entry) apart.0))

-- the event after the first k of them
pub unsent : (start : List Replaying) (es : List (NodeEvent Entry)) (k : ℕ) (e : NodeEvent Entry) → AscendsByProcess start → e.node < length start → IsSorted entry_clock es → slice_get es k ≡ Some e
    → IsUnsent (process_at start e.node) e.entry.clock (traffic_of_events start (take k es))
unsent start es k e up within sorted at = unsent_in start e (take k es) (all_apart start es k e up within sorted at)
