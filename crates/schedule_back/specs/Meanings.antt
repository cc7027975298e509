-- The refusal that an error of the way back stands for, and events that bring bytes in.
use Rattle.std.specs.Prelude.{◌≡◌, ℕ, List, All, Result, Err}
use Rattle.fri_bytes.specs.Laws.{AreBytes}
use Rattle.lib_calls.specs.declared.entry.Entry.{Entry}
use Rattle.group_order.specs.Order.{NodeEvent}
use Rattle.schedule_back.specs.declared.refusal.BackError.{BackError}
use Rattle.schedule_back.specs.declared.refusal.BackError.TheVariants as error
use Rattle.schedule_back.specs.Outcome.{BackRefusal, NotWhole, BadModuleName, TooManyEvents, TooLong}

-- the error is this refusal, or want of memory, which may come at any time
abbrev pub IsBackError : Result (List ℕ) BackRefusal → BackError → Type 0
IsBackError outcome (error.NotWhole p) = outcome ≡ Err (NotWhole p)
IsBackError outcome (error.BadModuleName p) = outcome ≡ Err (BadModuleName p)
IsBackError outcome error.TooManyEvents = outcome ≡ Err TooManyEvents
IsBackError outcome error.TooLong = outcome ≡ Err TooLong
IsBackError outcome error.NoMemory = Unit {0}

-- what came in with these events are bytes
abbrev pub IncomingAreBytes : List (NodeEvent Entry) → Type 0
IncomingAreBytes es = All (λ e. AreBytes e.entry.incoming) es
