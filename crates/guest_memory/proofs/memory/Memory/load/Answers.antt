use Rattle.std.proofs.Common.{◌≡◌, length, arith, rules, refl, ap, Some}
use Rattle.guest_memory.proofs.PageRanges.{one-inside, one-outside}
use Rattle.guest_memory.proofs.memory.Memory.load.Goals as goal

pub returns-then-addr-len : goal.returns-then-addr-len
returns-then-addr-len c =
    let n : c.len.result ≡ length c.self.inside.pages.items = search rules in
    rw (← c.self.view_is, one-outside c.self.inside.pages.items c.args.addr c.args.width c.self.invariant.whole (omega arith) (omega (arith, n))) refl

pub returns : goal.returns
returns c =
    let n : c.len.result ≡ length c.self.inside.pages.items = search rules in
    rw (← c.self.view_is, one-inside c.self.inside.pages.items c.args.addr c.args.width c.self.invariant.whole (omega arith) (omega (arith, n))) (ap Some (rw (← c.deref.ensures.value) c.number_in.ensures))
