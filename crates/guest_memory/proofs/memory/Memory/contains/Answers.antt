use Rattle.std.proofs.Common.{◌≡◌, length, arith, rules}
use Rattle.guest_memory.proofs.PageRanges.{test-then, test-else}
use Rattle.guest_memory.proofs.memory.Memory.contains.Goals as goal

pub returns-then-addr-count : goal.returns-then-addr-count
returns-then-addr-count c =
    let n : c.len.result ≡ length c.self.inside.pages.items = search rules in
    rw (← c.self.view_is, n) (test-then c.self.inside.pages.items c.args.addr c.args.len c.self.invariant.whole (omega (arith, n)))

pub returns-else-addr-count : goal.returns-else-addr-count
returns-else-addr-count c =
    let n : c.len.result ≡ length c.self.inside.pages.items = search rules in
    rw (← c.self.view_is, n) (test-else c.self.inside.pages.items c.args.addr c.args.len c.self.invariant.whole (omega (arith, n)))
