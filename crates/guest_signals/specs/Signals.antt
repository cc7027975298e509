-- The numbers of signals, and the handlers and the pending signals of a process, as lists by the signal's number. The
-- place of 0 stays empty.
use Rattle.std.specs.Prelude.{ℕ, Bool, false, ◌&&◌, nat_le, List, replicate, slice_set, Option, None}
use Rattle.std.specs.List.{list_any, slice_index_or}

-- signals are numbered from 1 to this
abbrev pub most_signal : ℕ
most_signal = 31

-- whether this is the number of a signal
abbrev pub is_signal : ℕ → Bool
is_signal signal = nat_le 1 signal && nat_le signal most_signal

-- the function that handles the signal, if one does
abbrev pub handler_of : List (Option ℕ) → ℕ → Option ℕ
handler_of handlers signal = slice_index_or handlers signal None

-- the handlers with this one for the signal, or with none for it
abbrev pub with_handler : List (Option ℕ) → ℕ → Option ℕ → List (Option ℕ)
with_handler handlers signal function = slice_set handlers signal function

-- no signal has a handler
abbrev pub no_handlers : List (Option ℕ)
no_handlers = replicate 32 None

-- the signal is pending
abbrev pub is_pending_in : List Bool → ℕ → Bool
is_pending_in pending signal = slice_index_or pending signal false

-- some signal is pending
abbrev pub any_pending : List Bool → Bool
any_pending pending = list_any (λ is. is) pending

-- the pending signals with this one, or without it
abbrev pub with_pending : List Bool → ℕ → Bool → List Bool
with_pending pending signal is = slice_set pending signal is

-- no signal is pending
abbrev pub none_pending : List Bool
none_pending = replicate 32 false
