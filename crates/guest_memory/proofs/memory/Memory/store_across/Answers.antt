use Rattle.std.proofs.Common.{◌≡◌, ◌≤◌, ◌+◌, length, arith}
use Rattle.std.proofs.lemmas.List.{with_items_is}
use Rattle.std.proofs.lemmas.Bool.Decides.{nat_tests}
use Rattle.guest_memory.specs.LittleEndian.{low_bytes}
use Rattle.guest_memory.specs.inside.Pages.{bytes_of_pages}
use Rattle.guest_memory.proofs.NumberBytes.{length-low_bytes}
use Rattle.guest_memory.proofs.PageWrites.{on_err, prefix-seen}
use Rattle.guest_memory.proofs.memory.Memory.store_across.Goals as goal

pub returns-in_err-put_number_across-clause-err : goal.returns-in_err-put_number_across-clause-err
returns-in_err-put_number_across-clause-err c =
    let n : c.deref_mut.result.now ≡ c.self.inside.pages.items = c.deref_mut.ensures.value in
    let p = rw n at c.in_err-put_number_across.ensures.err in
    let seen = rw (← c.self.view_is) at c.contains.ensures in
    let inside : c.args.addr + c.args.width ≤ length (bytes_of_pages c.self.inside.pages.items) = grind (arith, nat_tests, seen) in
    let items = with_items_is c.self.inside.pages c.put_number_across.new.pages (omega (arith, c.in_err-put_number_across.ensures.len)) in
    rw (← c.self.view_is) (on_err c.from_residual.result (rw items (prefix-seen c.self.inside.pages.items c.put_number_across.new.pages c.self.inside.max c.args.addr c.self.inside.number (low_bytes c.args.width c.args.value) p (omega (arith, inside, length-low_bytes c.args.width c.args.value)))))
