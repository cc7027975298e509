use Rattle.std.proofs.Common.{◌≡◌, ◌∙◌, ◌++◌, ◌*◌, arith, ap, length, rules, List, ℕ}
use Rattle.guest_memory.specs.Memory.{no_stamps, zero_bytes}
use Rattle.guest_memory.specs.inside.Pages.{bytes_of_pages, stamps_of}
use Rattle.guest_memory.proofs.FlatPages.{zeros-more, zeros-flat, zeros-stamps, flat-append, whole-append}
use Rattle.guest_memory.proofs.PageStamps.{stamps-append}
use Rattle.guest_memory.proofs.pages.add_zeros.Goals as goal

pub loop-i-preserved : goal.loop-i-preserved
loop-i-preserved c =
    (rw (c.in_ok-push.ensures.items, c.in_ok-share.ensures) (zeros-more 4096 c.loop-i.more.items _ c.loop-i.invariant.0 c.in_ok-zeros.ensures.0 c.in_ok-zeros.ensures.1), search rules)

pub returns-clause-whole : goal.returns-clause-whole
returns-clause-whole c = λ w. rw c.in_ok-append.ensures.items (whole-append c.args.pages.now.items c.loop-i.more.items w c.loop-i.invariant.0)

pub returns-clause-bytes : goal.returns-clause-bytes
unfolding zero_bytes
returns-clause-bytes c =
    let n : 4096 * length c.loop-i.more.items ≡ 65536 * c.args.count = omega (arith, c.loop-i.invariant.1) in
    rw (c.in_ok-append.ensures.items, ← n)
    (flat-append c.args.pages.now.items c.loop-i.more.items ∙ ap (λ (l : List ℕ). bytes_of_pages c.args.pages.now.items ++ l) (zeros-flat 4096 c.loop-i.more.items c.loop-i.invariant.0))

pub returns-clause-stamps : goal.returns-clause-stamps
unfolding no_stamps
returns-clause-stamps c =
    let n : length c.loop-i.more.items ≡ 16 * c.args.count = omega (arith, c.loop-i.invariant.1) in
    rw (c.in_ok-append.ensures.items, ← n)
    (stamps-append c.args.pages.now.items c.loop-i.more.items ∙ ap (λ (l : List ℕ). stamps_of c.args.pages.now.items ++ l) (zeros-stamps 4096 c.loop-i.more.items c.loop-i.invariant.0))
