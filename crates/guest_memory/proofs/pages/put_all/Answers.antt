use Rattle.std.proofs.Common.{rules, ◌≡◌, ◌<◌, ◌≤◌, ◌+◌, ◌*◌, ◌-◌, ◌/◌, ◌%◌, arith, refl, length}
use Rattle.guest_memory.specs.inside.Pages.{bytes_of_pages}
use Rattle.guest_memory.proofs.FlatPages.{flat-length}
use Rattle.guest_memory.proofs.PageWrites.{puts-more, puts-none}
use Rattle.guest_memory.proofs.pages.put_all.Goals as goal

pub loop-done-init : goal.loop-done-init
loop-done-init c = record { done = omega arith; len = refl; puts = puts-none c.args.pages.now c.args.addr c.args.number c.requires.whole }

pub bounds-pages-addr : goal.bounds-pages-addr
bounds-pages-addr c =
    let all : length (bytes_of_pages c.args.pages.now) ≡ 4096 * length c.args.pages.now = flat-length _ c.requires.whole in
    omega (arith, all, c.loop-done.invariant.len)

pub loop-done-preserved : goal.loop-done-preserved
loop-done-preserved c =
    let i = c.loop-done.invariant in
    let all : length (bytes_of_pages c.args.pages.now) ≡ 4096 * length c.args.pages.now = flat-length _ c.requires.whole in
    let room : (c.args.addr + c.loop-done.done) / 4096 < length c.loop-done.pages = omega (arith, all, i.len) in
    let most : c.loop-done.done + c.min-count.result ≤ length c.args.piece.now = omega arith in
    let some : 0 < c.min-count.result = omega arith in
    let fits : (c.args.addr + c.loop-done.done) % 4096 + c.min-count.result ≤ 4096 = omega arith in
    let n : (c.loop-done.done + c.min-count.result) - c.loop-done.done ≡ c.min-count.result = omega arith in
    let new = rw n at c.in_ok-put.ensures in
    record {
      done = omega arith;
      len = search rules;
      puts = puts-more c.args.pages.now c.loop-done.pages c.args.addr c.args.piece.now c.loop-done.done c.min-count.result c.args.number ((c.args.addr + c.loop-done.done) / 4096) ((c.args.addr + c.loop-done.done) % 4096) c.index-pages-addr.result c.put.new.self
          i.puts i.len c.requires.within most some (omega arith) fits room new;
    }
