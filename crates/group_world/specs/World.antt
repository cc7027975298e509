-- The world around the processes of a group, as it is kept, and what each act makes of it.
use Rattle.std.specs.Prelude.{ℕ, Bool, true, false, List, [], ◌∷◌, ◌++◌, drop, length, replicate, slice_set, if◌then◌else◌}
use Rattle.std.specs.List.{slice_index_or}
use Rattle.lib_calls.specs.declared.entry.Entry.{Entry}
use Rattle.lib_calls.specs.Traffic.{drawn, is_sent, is_taken}
use Rattle.lossy_net.specs.Network.{Traffic, no_traffic, nth_of, sent_by, with_delivered, with_sent, with_waiting, without_front}
use Rattle.guest_signals.specs.Signals.{is_pending_in, is_signal, none_pending, with_pending}
use Rattle.group_world.specs.History.{Act, Event, Deliver, Inject, Clock, Random, Signal, Kill, History, datagram}

-- what is around one process, apart from its datagrams: the random bytes that are left, the wall time as the
-- bits of a signed number, which signals are pending, and whether the process was killed
pub record Surroundings : Type 0 where
  pub pool : List ℕ
  pub time : ℕ
  pub pending : List Bool
  pub killed : Bool

abbrev pub no_surroundings : Surroundings
no_surroundings = record { pool = []; time = 0; pending = none_pending; killed = false }

-- the network, and what is around each process
pub record World : Type 0 where
  pub net : List Traffic
  pub surroundings : List Surroundings

abbrev pub new_world : ℕ → World
new_world count = record { net = replicate count no_traffic; surroundings = replicate count no_surroundings }

-- how many processes the group has
abbrev pub process_count : World → ℕ
process_count w = length w.net

abbrev pub surroundings_of : World → ℕ → Surroundings
surroundings_of w p = slice_index_or w.surroundings p no_surroundings

abbrev pub with_surroundings : World → ℕ → Surroundings → World
with_surroundings w p place = record w { surroundings = slice_set w.surroundings p place }

-- whether a signal is pending at process p
abbrev pub has_pending : World → ℕ → ℕ → Bool
has_pending w p signal = is_pending_in (surroundings_of w p).pending signal

-- ---- an event

abbrev pub took_if : Bool → List Traffic → ℕ → List Traffic
took_if taken net p = if taken then without_front net p else net

abbrev pub sent_if : Bool → List Traffic → ℕ → Entry → List Traffic
sent_if sent net p e = if sent then with_sent net p (record { to = e.call.a0; bytes = datagram p e }) else net

abbrev pub drew_bytes : Surroundings → ℕ → Surroundings
drew_bytes place n = record place { pool = drop n place.pool }

-- the signal, if it is one, is pending no longer
abbrev pub without_signal : List Bool → ℕ → List Bool
without_signal pending signal = if is_signal signal then with_pending pending signal false else pending

-- random bytes that the event took are gone, and a signal that it delivered is pending no longer
abbrev pub after_entry : Surroundings → Entry → Surroundings
after_entry place e = record (drew_bytes place (drawn e)) { pending = without_signal place.pending e.signal }

-- a datagram that the event took is gone, and one that it sent is kept
abbrev pub after_event : World → ℕ → Entry → World
after_event w p e = record {
  net = sent_if (is_sent (process_count w) e) (took_if (is_taken e) w.net p) p e;
  surroundings = slice_set w.surroundings p (after_entry (surroundings_of w p) e);
}

-- ---- all acts

abbrev pub with_act : World → Act → World
with_act w (Event p e) = after_event w p e
with_act w (Deliver p n) = record w { net = with_delivered w.net (nth_of (sent_by w.net p) n) }
with_act w (Inject p bytes) = record w { net = with_waiting w.net p bytes }
with_act w (Clock p time) = with_surroundings w p (record (surroundings_of w p) { time = time })
with_act w (Random p bytes) = with_surroundings w p (record (surroundings_of w p) { pool = (surroundings_of w p).pool ++ bytes })
with_act w (Signal p signal) = with_surroundings w p (record (surroundings_of w p) { pending = with_pending (surroundings_of w p).pending signal true })
with_act w (Kill p) = with_surroundings w p (record (surroundings_of w p) { killed = true })

-- the world of a group of `count` after these acts
abbrev pub world_after : ℕ → History → World
world_after count [] = new_world count
world_after count (a ∷ h) = with_act (world_after count h) a
