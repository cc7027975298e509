use Rattle.std.proofs.Common.{◌+◌, ◌%◌, ◌/◌, [], ◌∷◌, refl, lit<, arith}
use Rattle.lib_calls.specs.declared.entry.Entry.{Entry}
use Rattle.lib_calls.specs.Entry.{entry_of}
use Rattle.call_log.proofs.FieldLemmas.{on_ok}
use Rattle.call_log.proofs.BareEntries.{bare_bytes, gap_same, put_whole, short_byte, short_pair, short_triple}
use Rattle.call_log.proofs.put.put_bare.Goals as goal

pub returns-then-argument-lt128-clause-ok : goal.returns-then-argument-lt128-clause-ok
returns-then-argument-lt128-clause-ok c =
    let e : Entry = entry_of c.args.entry.now in
    let argument = short_byte e.call.a0 c.if-argument-lt128.true in
    let bytes = bare_bytes c.args.last c.args.sent e (e.call.a0 ∷ []) 6 c.requires.bare c.requires.sent argument refl (lit< tt) in
    let gap = gap_same c.args.last e.clock (omega arith) in
    on_ok c.put_bytes.result (put_whole c.args.out.now.items c.put_bytes.new.out.items bytes gap c.number-kind.ensures) c.put_bytes.ensures.ok

pub returns-then-high-lt128-clause-ok : goal.returns-then-high-lt128-clause-ok
returns-then-high-lt128-clause-ok c =
    let e : Entry = entry_of c.args.entry.now in
    let n = e.call.a0 in
    let argument = short_pair n c.if-argument-lt128.false c.if-high-lt128.true in
    let bytes = bare_bytes c.args.last c.args.sent e ((128 + n % 128) ∷ n / 128 ∷ []) 7 c.requires.bare c.requires.sent argument refl (lit< tt) in
    let gap = gap_same c.args.last e.clock (omega arith) in
    on_ok c.put_bytes-then-high-lt128.result (put_whole c.args.out.now.items c.put_bytes-then-high-lt128.new.out.items bytes gap c.number-kind.ensures) c.put_bytes-then-high-lt128.ensures.ok

pub returns-then-high-lt128-2-clause-ok : goal.returns-then-high-lt128-2-clause-ok
returns-then-high-lt128-2-clause-ok c =
    let e : Entry = entry_of c.args.entry.now in
    let n = e.call.a0 in
    let argument = short_triple n c.if-argument-lt128.false c.if-high-lt128.false c.if-high-lt128-2.true in
    let bytes = bare_bytes c.args.last c.args.sent e ((128 + n % 128) ∷ (128 + n / 128 % 128) ∷ n / 128 / 128 ∷ []) 8 c.requires.bare c.requires.sent argument refl (lit< tt) in
    let gap = gap_same c.args.last e.clock (omega arith) in
    on_ok c.put_bytes-then-high-lt128-2.result (put_whole c.args.out.now.items c.put_bytes-then-high-lt128-2.new.out.items bytes gap c.number-kind.ensures) c.put_bytes-then-high-lt128-2.ensures.ok
