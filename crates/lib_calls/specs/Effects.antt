-- Which arguments of a call are good, which bytes the call sends out, and what its answer writes to the
-- guest's memory.
use Rattle.std.specs.Prelude.{◌≡◌, ℕ, ◌-◌, ◌^◌, Bool, true, ◌==◌, ◌&&◌, ◌||◌, nat_le, if◌then◌else◌, List, [], length, take, Option, Some, None}
use Rattle.std.specs.Int.{w32, to_le_bytes}
use Rattle.call_table.specs.declared.kind.Kind.{Kind}
use Rattle.call_table.specs.declared.kind.Kind.TheVariants.{Print, Random, Send, Recv, TryRecv}
use Rattle.guest_memory.specs.Memory.{Memory, is_inside, bytes_from, with_bytes}
use Rattle.lamport_tag.specs.declared.Tag.{Tag}
use Rattle.lib_calls.specs.declared.entry.Call.{Call}
use Rattle.lib_calls.specs.Answer.{Answer}
use Rattle.lib_calls.specs.Limits.{most_call_bytes}

-- -1 and -2, as a reply of 32 bits has them
abbrev pub minus_one : ℕ
minus_one = 2 ^ 32 - 1

abbrev pub minus_two : ℕ
minus_two = 2 ^ 32 - 2

-- ---- what a call names

-- the bytes from this address on lie in the memory, and are no more than a call may name
unfoldable pub is_range : Memory → ℕ → ℕ → Bool
is_range memory addr len = nat_le len most_call_bytes && is_inside memory addr len

-- the bytes that print, random, send, recv and try_recv name are such a range, and the 4 bytes in which
-- recv and try_recv tell the sender lie in the memory too
abbrev pub has_good_ranges : Kind → Call → Memory → Bool
has_good_ranges Print call memory = is_range memory call.a0 call.a1
has_good_ranges Random call memory = is_range memory call.a0 call.a1
has_good_ranges Send call memory = is_range memory call.a1 call.a2
has_good_ranges Recv call memory = is_range memory call.a0 call.a1 && is_inside memory call.a2 4
has_good_ranges TryRecv call memory = is_range memory call.a0 call.a1 && is_inside memory call.a2 4
has_good_ranges _ call memory = true

unfoldable pub is_good : Call → Memory → Bool
is_good call memory = has_good_ranges call.kind call memory

-- the bytes of a range that a call may name, and none of another
abbrev pub named : Memory → ℕ → ℕ → List ℕ
named memory addr len = if is_range memory addr len then bytes_from memory addr len else []

-- print and send send out the bytes that they name, and nothing where they are bad
abbrev pub sent_out : Kind → Call → Memory → List ℕ
sent_out Print call memory = named memory call.a0 call.a1
sent_out Send call memory = named memory call.a1 call.a2
sent_out _ call memory = []

unfoldable pub outgoing_of : Call → Memory → List ℕ
outgoing_of call memory = sent_out call.kind call memory

-- ---- what an answer writes

-- this is the reply, and no bytes came in
abbrev pub takes_nothing : ℕ → Answer → Bool
takes_nothing reply a = a.reply == reply && nat_le (length a.incoming) 0

-- the reply counts the bytes that came in, and these are no more than the call named
abbrev pub takes_counted : Call → Answer → Bool
takes_counted call a = a.reply == length a.incoming && nat_le (length a.incoming) call.a1

-- where bytes may come in: bad arguments are answered -1, and good ones by the count of the bytes, or for
-- try_recv also by -2
abbrev pub call_brings : Kind → Call → Answer → Memory → Bool
call_brings Random call a memory = if has_good_ranges Random call memory then takes_counted call a else takes_nothing minus_one a
call_brings Recv call a memory = if has_good_ranges Recv call memory then takes_counted call a else takes_nothing minus_one a
call_brings TryRecv call a memory =
    if has_good_ranges TryRecv call memory then takes_counted call a || takes_nothing minus_two a else takes_nothing minus_one a
call_brings _ call a memory = true

-- the bytes that came in with an answer are those that the call lets come in
unfoldable pub is_answer : Call → Answer → Memory → Bool
is_answer call a memory = call_brings call.kind call a memory

-- the sender of a datagram, or all ones where it had no tag
abbrev pub sender_of : Option Tag → ℕ
sender_of None = 2 ^ 32 - 1
sender_of (Some tag) = tag.sender

-- the bytes that came in stand where the call named them
abbrev pub with_incoming : Call → Answer → Memory → Memory
with_incoming call a memory = with_bytes memory call.a0 a.incoming

-- these of the bytes that came in, and then these of the sender's, stand where the call named them
abbrev pub taken : Call → List ℕ → List ℕ → Memory → Memory
taken call payload sender memory = with_bytes (with_bytes memory call.a0 payload) call.a2 sender

-- the payload, and then the sender in 4 bytes, the lowest first; where they overlap, the sender stands
abbrev pub with_received : Call → Answer → Memory → Memory
with_received call a memory = taken call a.incoming (to_le_bytes w32 (sender_of a.tag)) memory

-- the memory after the answer to a call with good arguments; an empty try_recv writes nothing
abbrev pub put_in_memory : Kind → Call → Answer → Memory → Memory
put_in_memory Random call a memory = with_incoming call a memory
put_in_memory Recv call a memory = with_received call a memory
put_in_memory TryRecv call a memory = if a.reply == minus_two then memory else with_received call a memory
put_in_memory _ call a memory = memory

-- the memory after the answer; bad arguments write nothing
unfoldable pub memory_after_answer : Call → Answer → Memory → Memory
memory_after_answer call a memory = if is_good call memory then put_in_memory call.kind call a memory else memory

-- of what the answer writes, a first part of the bytes that came in and a first part of the sender's
pub record WritesPart (call : Call) (a : Answer) (old new : Memory) : Type 0 where
  pub payload : ℕ
  pub sender : ℕ
  pub after : new ≡ taken call (take payload a.incoming) (take sender (to_le_bytes w32 (sender_of a.tag))) old
