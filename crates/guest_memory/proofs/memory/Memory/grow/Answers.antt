use Rattle.std.proofs.Common.{◌≡◌, ◌+◌, ◌*◌, ◌/◌, length, arith, rules}
use Rattle.guest_memory.proofs.FlatPages.{flat-length}
use Rattle.guest_memory.proofs.memory.Memory.grow.Goals as goal

pub invariant_of-self-2 : goal.invariant_of-self-2
invariant_of-self-2 c =
    let len : length c.add_zeros.new.pages.items ≡ length c.self.inside.pages.items + 16 * c.args.pages = search rules in
    let all = flat-length c.self.inside.pages.items c.self.invariant.whole in
    let seen = rw (← c.self.view_is) at c.size-before.ensures.size in
    let size : c.size-before.result ≡ length c.self.inside.pages.items / 16 = omega (arith, all, seen) in
    record { whole = c.in_ok-add_zeros.ensures.whole c.self.invariant.whole; even = omega (arith, len, c.self.invariant.even); within = omega (arith, len, size, c.self.invariant.even, c.self.invariant.within); most = c.self.invariant.most }
