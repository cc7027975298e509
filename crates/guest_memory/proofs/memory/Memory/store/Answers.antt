use Rattle.std.proofs.Common.{◌≡◌, ◌∙◌, length, arith, rules, refl, sym, ap, List, ℕ}
use Rattle.std.proofs.lemmas.List.{with_items_is}
use Rattle.guest_memory.specs.LittleEndian.{low_bytes}
use Rattle.guest_memory.specs.Memory.{put_piece}
use Rattle.guest_memory.specs.inside.Pages.{bytes_of_pages, stamps_of}
use Rattle.guest_memory.proofs.NumberBytes.{length-low_bytes}
use Rattle.guest_memory.proofs.FlatPages.{flat-length}
use Rattle.guest_memory.proofs.PageRanges.{one-inside, one-outside}
use Rattle.guest_memory.proofs.PageWrites.{on_err, prefix-seen}
use Rattle.guest_memory.proofs.memory.Memory.store.Goals as goal

pub returns-then-addr-len-clause-answer : goal.returns-then-addr-len-clause-answer
returns-then-addr-len-clause-answer c =
    let n : c.len.result ≡ length c.self.inside.pages.items = search rules in
    rw (← c.self.view_is) (sym (one-outside c.self.inside.pages.items c.args.addr c.args.width c.self.invariant.whole (omega arith) (omega (arith, n))))

pub returns-then-addr-len-clause-ok : goal.returns-then-addr-len-clause-ok
returns-then-addr-len-clause-ok c =
    let n : c.len.result ≡ length c.self.inside.pages.items = search rules in
    rw (← c.self.view_is, one-outside c.self.inside.pages.items c.args.addr c.args.width c.self.invariant.whole (omega arith) (omega (arith, n))) refl

pub returns-clause-answer : goal.returns-clause-answer
returns-clause-answer c =
    let n : c.len.result ≡ length c.self.inside.pages.items = search rules in
    rw (← c.self.view_is) (sym (one-inside c.self.inside.pages.items c.args.addr c.args.width c.self.invariant.whole (omega arith) (omega (arith, n))))

pub returns-clause-ok : goal.returns-clause-ok
returns-clause-ok c =
    let n : c.len.result ≡ length c.self.inside.pages.items = search rules in
    rw (← c.self.view_is, one-inside c.self.inside.pages.items c.args.addr c.args.width c.self.invariant.whole (omega arith) (omega (arith, n)))
    (let items = with_items_is c.self.inside.pages c.put_number_in.new.pages (omega (arith, c.in_ok-put_number_in.ensures.len)) in
    rw items
    (ap (λ (b : List ℕ). record { bytes = b; max = c.self.inside.max; stamps = stamps_of c.put_number_in.new.pages; number = c.self.inside.number }) (rw (c.deref_mut.ensures.value) at c.in_ok-put_number_in.ensures.bytes)
    ∙ ap (λ (s : List ℕ). record { bytes = put_piece (bytes_of_pages c.self.inside.pages.items) c.args.addr (low_bytes c.args.width c.args.value); max = c.self.inside.max; stamps = s; number = c.self.inside.number }) (rw (c.deref_mut.ensures.value) at c.in_ok-put_number_in.ensures.stamps)))

pub returns-in_err-put_number_in-clause-err : goal.returns-in_err-put_number_in-clause-err
returns-in_err-put_number_in-clause-err c =
    let n : c.deref_mut.result.now ≡ c.self.inside.pages.items = c.deref_mut.ensures.value in
    let k : c.len.result ≡ length c.self.inside.pages.items = search rules in
    let all = flat-length c.self.inside.pages.items c.self.invariant.whole in
    let p = rw n at c.in_err-put_number_in.ensures.err in
    let items = with_items_is c.self.inside.pages c.put_number_in.new.pages (omega (arith, c.in_err-put_number_in.ensures.len)) in
    rw (← c.self.view_is) (on_err c.from_residual.result (rw items (prefix-seen c.self.inside.pages.items c.put_number_in.new.pages c.self.inside.max c.args.addr c.self.inside.number (low_bytes c.args.width c.args.value) p (omega (arith, all, k, length-low_bytes c.args.width c.args.value)))))
