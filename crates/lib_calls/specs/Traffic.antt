-- What an event's entry tells of datagrams, of random bytes and of what is printed.
use Rattle.std.specs.Prelude.{ℕ, Bool, false, not, ◌==◌, ◌&&◌, nat_lt, List, [], length, if◌then◌else◌}
use Rattle.std.specs.List.{flat_map}
use Rattle.call_table.specs.declared.kind.Kind.{Kind}
use Rattle.call_table.specs.declared.kind.Kind.TheVariants.{Print, Random, Send, Recv, TryRecv}
use Rattle.lib_calls.specs.declared.entry.Entry.{Entry}
use Rattle.lib_calls.specs.Effects.{minus_one, minus_two}

-- `send` with good arguments to a process of the group sends a datagram into the group
abbrev pub sends_as : Kind → ℕ → Entry → Bool
sends_as Send count e = not (e.reply == minus_one) && nat_lt e.call.a0 count
sends_as _ count e = false

unfoldable pub is_sent : ℕ → Entry → Bool
is_sent count e = sends_as e.call.kind count e

-- `recv` and `try_recv` take a datagram where they are answered neither -1 nor -2
abbrev pub takes_as : Kind → Entry → Bool
takes_as Recv e = not (e.reply == minus_one)
takes_as TryRecv e = not (e.reply == minus_one) && not (e.reply == minus_two)
takes_as _ e = false

unfoldable pub is_taken : Entry → Bool
is_taken e = takes_as e.call.kind e

-- how many bytes `random` took, which is none where its arguments are bad
abbrev pub draws_as : Kind → Entry → ℕ
draws_as Random e = if e.reply == minus_one then 0 else length e.incoming
draws_as _ e = 0

unfoldable pub drawn : Entry → ℕ
drawn e = draws_as e.call.kind e

-- what `print` prints
abbrev pub prints_as : Kind → Entry → List ℕ
prints_as Print e = e.outgoing
prints_as _ e = []

unfoldable pub printed : Entry → List ℕ
printed e = prints_as e.call.kind e

-- what these events print, each after the other
abbrev pub prints : List Entry → List ℕ
prints es = flat_map printed es
