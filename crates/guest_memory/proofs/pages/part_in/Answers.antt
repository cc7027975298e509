use Rattle.std.proofs.Common.{◌≡◌, ◌<◌, ◌≤◌, ◌+◌, ◌-◌, ◌/◌, ◌%◌, min, ◌∙◌, sym, arith, length, get_or, ap, refl}
use Rattle.guest_memory.proofs.FlatPages.{flat-length, whole-get, flat-part}
use Rattle.guest_memory.proofs.pages.part_in.Goals as goal

pub returns-then-index-pages : goal.returns-then-index-pages
returns-then-index-pages c =
    let all = flat-length c.args.pages.now c.requires.whole in
    let z : min c.args.len (4096 - c.args.addr % 4096) ≡ 0 = omega (arith, all) in rw z refl

pub bounds-pages-index : goal.bounds-pages-index
bounds-pages-index c = let all = flat-length c.args.pages.now c.requires.whole in omega (arith, all)

pub slice_bounds-result-end-2 : goal.slice_bounds-result-end-2
slice_bounds-result-end-2 c =
    let all = flat-length c.args.pages.now c.requires.whole in
    let room : c.args.addr / 4096 < length c.args.pages.now = omega (arith, all) in
    let page : c.bytes.result.now ≡ (get_or c.args.pages.now (c.args.addr / 4096) c.index-pages-index.result).bytes = c.bytes.ensures ∙ ap (λ p. p.bytes) c.index-pages-index.is in
    let size : length c.bytes.result.now ≡ 4096 = ap length page ∙ whole-get c.args.pages.now (c.args.addr / 4096) c.index-pages-index.result c.requires.whole room in
    omega (arith, size)

pub returns : goal.returns
returns c =
    let all = flat-length c.args.pages.now c.requires.whole in
    let room : c.args.addr / 4096 < length c.args.pages.now = omega (arith, all) in
    let page : c.bytes.result.now ≡ (get_or c.args.pages.now (c.args.addr / 4096) c.index-pages-index.result).bytes = c.bytes.ensures ∙ ap (λ p. p.bytes) c.index-pages-index.is in
    let fits : c.args.addr % 4096 + c.min-count.result ≤ 4096 = omega arith in
    let n : (c.args.addr % 4096 + c.min-count.result) - c.args.addr % 4096 ≡ c.min-count.result = omega arith in
    let is : c.min-count.result ≡ min c.args.len (4096 - c.args.addr % 4096) = omega arith in
    rw (page, n, ← is) (sym (flat-part c.args.pages.now (c.args.addr / 4096) (c.args.addr % 4096) c.args.addr c.min-count.result c.index-pages-index.result c.requires.whole room fits (omega arith)))
