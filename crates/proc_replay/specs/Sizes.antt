-- How many bytes the entries of accepted events take.
use Rattle.std.specs.Prelude.{ℕ, ◌≤◌, List, length, take, All}
use Rattle.lib_calls.specs.declared.entry.Entry.{Entry}
use Rattle.lib_calls.specs.Entry.{IsShaped}
use Rattle.call_log.specs.declared.version.Version.{Version}
use Rattle.call_log.specs.declared.version.Version.TheVariants.{Two}
use Rattle.call_log.specs.Entry.{encodings}
use Rattle.guest_process.specs.Fits.{StateFits}
use Rattle.guest_process.specs.Replay.{accepted}
use Rattle.guest_process.specs.State.{State}

-- the first n entries, where all of them are accepted, take no more bytes in version 2 than in any version, and the
-- entries after them in that version add to these
abbrev pub AcceptedNoLonger : Type 0
AcceptedNoLonger = (S : State) (es : List Entry) (v : Version) (n : ℕ) → StateFits S → All IsShaped es → n ≤ accepted S es
    → length (encodings Two S.clock (take n es)) ≤ length (encodings v S.clock es)
