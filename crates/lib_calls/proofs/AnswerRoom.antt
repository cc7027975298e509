-- What an answer writes has room, kind by kind.
use Rattle.std.proofs.Common.{◌≡◌, ℕ, ◌+◌, ◌≤◌, Bool, true, false, ◌&&◌, ◌||◌, eqb, leb, length, refl, arith}
use Rattle.std.proofs.lemmas.Bool.{leb-true}
use Rattle.call_table.specs.declared.kind.Kind.{Kind}
use Rattle.call_table.specs.declared.kind.Kind.TheVariants.{Random, Recv, TryRecv}
use Rattle.guest_memory.specs.Memory.{Memory, is_inside}
use Rattle.lib_calls.specs.declared.entry.Call.{Call}
use Rattle.lib_calls.specs.Answer.{Answer}
use Rattle.lib_calls.specs.Effects.{call_brings, has_good_ranges, is_range, minus_two, takes_counted, takes_nothing}
use Rattle.lib_calls.proofs.MemoryRanges.{both_true, range_inside}

counted_fits : (call : Call) (a : Answer) → takes_counted call a ≡ true → length a.incoming ≤ call.a1
counted_fits call a counted =
    leb-true (length a.incoming) call.a1 (both_true (eqb a.reply (length a.incoming)) (leb (length a.incoming) call.a1) counted).1

nothing_fits : (reply len : ℕ) (a : Answer) → takes_nothing reply a ≡ true → length a.incoming ≤ len
nothing_fits reply len a nothing =
    let few : length a.incoming ≤ 0 = leb-true (length a.incoming) 0 (both_true (eqb a.reply reply) (leb (length a.incoming) 0) nothing).1 in
    omega arith

either_fits : (call : Call) (a : Answer) (counted : Bool) → takes_counted call a ≡ counted → (counted || takes_nothing minus_two a) ≡ true → length a.incoming ≤ call.a1
either_fits call a true is h = counted_fits call a is
either_fits call a false is h = nothing_fits minus_two call.a1 a h

fits_range : (call : Call) (a : Answer) (memory : Memory) → is_range memory call.a0 call.a1 ≡ true → length a.incoming ≤ call.a1 → call.a0 + length a.incoming ≤ length memory.bytes
fits_range call a memory range few = let inside = range_inside memory call.a0 call.a1 range in omega arith

pub random_room : (kind : Kind) (call : Call) (a : Answer) (memory : Memory) → kind ≡ Random → has_good_ranges kind call memory ≡ true → call_brings kind call a memory ≡ true → call.a0 + length a.incoming ≤ length memory.bytes
random_room kind call a memory is good brought =
    let range : is_range memory call.a0 call.a1 ≡ true = rw is at good in
    let counted : call_brings Random call a memory ≡ true = rw is at brought in
    fits_range call a memory range (counted_fits call a (rw range at counted))

-- both the payload and the sender have room
abbrev pub HasRoom : Call → Answer → Memory → Type 0
HasRoom call a memory = (call.a0 + length a.incoming ≤ length memory.bytes) × (call.a2 + 4 ≤ length memory.bytes)

room : (call : Call) (a : Answer) (memory : Memory) → (is_range memory call.a0 call.a1 && is_inside memory call.a2 4) ≡ true → length a.incoming ≤ call.a1 → HasRoom call a memory
room call a memory good few =
    let ranges = both_true (is_range memory call.a0 call.a1) (is_inside memory call.a2 4) good in
    (fits_range call a memory ranges.0 few, leb-true (call.a2 + 4) (length memory.bytes) ranges.1)

pub recv_room : (kind : Kind) (call : Call) (a : Answer) (memory : Memory) → kind ≡ Recv → has_good_ranges kind call memory ≡ true → call_brings kind call a memory ≡ true → HasRoom call a memory
recv_room kind call a memory is good brought =
    let ranges : (is_range memory call.a0 call.a1 && is_inside memory call.a2 4) ≡ true = rw is at good in
    let counted : call_brings Recv call a memory ≡ true = rw is at brought in
    room call a memory ranges (counted_fits call a (rw ranges at counted))

pub try_recv_room : (kind : Kind) (call : Call) (a : Answer) (memory : Memory) → kind ≡ TryRecv → has_good_ranges kind call memory ≡ true → call_brings kind call a memory ≡ true → HasRoom call a memory
try_recv_room kind call a memory is good brought =
    let ranges : (is_range memory call.a0 call.a1 && is_inside memory call.a2 4) ≡ true = rw is at good in
    let counted : call_brings TryRecv call a memory ≡ true = rw is at brought in
    room call a memory ranges (either_fits call a (takes_counted call a) refl (rw ranges at counted))
