-- The bytes that a call sends out are few, and such as an entry of its kind can have.
use Rattle.std.proofs.Common.{◌≡◌, ℕ, ◌≤◌, Bool, true, false, ◌&&◌, cond, [], length, drop, refl, arith}
use Rattle.std.specs.Prelude.{nat_le}
use Rattle.std.proofs.lemmas.Bool.{leb-true}
use Rattle.std.proofs.lemmas.List.{length-take}
use Rattle.call_table.specs.Table.{row}
use Rattle.call_table.specs.declared.kind.Kind.{Kind}
use Rattle.call_table.specs.declared.kind.Kind.TheVariants.{Print, Send}
use Rattle.guest_memory.specs.Memory.{Memory, bytes_from, is_inside}
use Rattle.lib_calls.specs.declared.entry.Call.{Call}
use Rattle.lib_calls.specs.Effects.{is_range, named, outgoing_of, sent_out}
use Rattle.lib_calls.specs.Entry.{IsStringIf}

-- a range that a call may name is short
named_short : (memory : Memory) (addr len : ℕ) → length (named memory addr len) ≤ 60000
unfolding is_range
named_short memory addr len = by_test (nat_le len 60000) (is_inside memory addr len) refl
  where
    by_test : (low inside : Bool) → nat_le len 60000 ≡ low → length (cond (low && inside) (bytes_from memory addr len) []) ≤ 60000
    by_test true true e = omega (arith, leb-true len 60000 e, length-take len (drop addr memory.bytes))
    by_test true false e = omega arith
    by_test false inside e = omega arith

pub outgoing_short : (call : Call) (memory : Memory) → length (outgoing_of call memory) ≤ 60000
unfolding outgoing_of
outgoing_short call memory = by_kind call.kind
  where
    by_kind : (k : Kind) → length (sent_out k call memory) ≤ 60000
    by_kind Print = named_short memory call.a0 call.a1
    by_kind Send = named_short memory call.a1 call.a2
    by_kind _ = omega arith

pub outgoing_fits : (call : Call) (memory : Memory) → IsStringIf (row call.kind).entry.outgoing (outgoing_of call memory)
unfolding outgoing_of
outgoing_fits call memory = by_kind call.kind
  where
    by_kind : (k : Kind) → IsStringIf (row k).entry.outgoing (sent_out k call memory)
    by_kind Print = omega (arith, named_short memory call.a0 call.a1)
    by_kind Send = omega (arith, named_short memory call.a1 call.a2)
    by_kind _ = refl
