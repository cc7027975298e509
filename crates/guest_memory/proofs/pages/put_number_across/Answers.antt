use Rattle.std.proofs.Common.{◌≡◌, ◌<◌, ◌≤◌, ◌+◌, ◌-◌, ◌*◌, ◌/◌, ◌%◌, ◌∙◌, List, ℕ, ap, arith, length, get_or, take, drop, refl, subst, sym, length-set}
use Rattle.std.proofs.Math.ListN.{set}
use Rattle.guest_memory.specs.LittleEndian.{IsWidth, low_bytes}
use Rattle.guest_memory.specs.Memory.{put_piece}
use Rattle.guest_memory.specs.inside.Pages.{AreWhole, PutsPrefix, bytes_of_pages, put_in_page}
use Rattle.guest_memory.specs.declared.page.Page.{Page}
use Rattle.guest_memory.proofs.FlatPages.{flat-length, set-same}
use Rattle.guest_memory.proofs.NumberBytes.{length-low_bytes}
use Rattle.guest_memory.proofs.PageEdges.{first_put, second_put}
use Rattle.guest_memory.proofs.PageWrites.{Puts, on_err, puts-nothing, puts-prefix}
use Rattle.guest_memory.proofs.pages.put_number_across.Goals.{In_ok-put-2}
use Rattle.guest_memory.proofs.pages.put_number_across.Goals as goal

module _ (ps : List Page) (addr width value number : ℕ) (b : List ℕ) (is : IsWidth width) (w : AreWhole ps) (within : addr + width ≤ length (bytes_of_pages ps)) (two : 4096 < addr % 4096 + width) (is_b : b ≡ take 16 (drop (4096 * (addr / 4096) + 4088) (bytes_of_pages ps))) where
  abbrev piece : List ℕ
  piece = low_bytes width value

  abbrev both : List ℕ
  both = put_piece b (addr % 4096 - 4088) piece

  n : length piece ≡ width
  n = length-low_bytes width value

  next : addr / 4096 + 1 < length ps
  next =
      let all = flat-length ps w in
      omega (arith, all, within, two)

  first : (d page : Page) → page ≡ put_in_page (get_or ps (addr / 4096) d) 4088 (take 8 both) number → Puts ps (set ps (addr / 4096) page) addr (take (4096 - addr % 4096) piece) number
  first =
      first_put ps addr (addr / 4096) (addr % 4096 - 4088) (4096 - addr % 4096) number piece b w next
      (omega (arith, two, is)) (omega arith) (omega (arith, n, two)) (omega (arith, n, is)) (omega (arith, two, is)) is_b

  second : (d e page next_page : Page) → page ≡ put_in_page (get_or ps (addr / 4096) d) 4088 (take 8 both) number
      → next_page ≡ put_in_page (get_or (set ps (addr / 4096) page) (addr / 4096 + 1) e) 0 (take 8 (drop 8 both)) number
      → Puts ps (set (set ps (addr / 4096) page) (addr / 4096 + 1) next_page) addr piece number
  second d e page next_page is_page =
      second_put ps addr (addr / 4096) (addr % 4096 - 4088) (4096 - addr % 4096) number piece b w next
      (omega (arith, two, is)) (omega arith) (omega (arith, n, two)) (omega (arith, n, is)) (omega (arith, two, is)) is_b e page next_page (set ps (addr / 4096) page) refl (first d page is_page)

pub bytes_over_edge-bytes-requires-clause-next : goal.bytes_over_edge-bytes-requires-clause-next
bytes_over_edge-bytes-requires-clause-next c = omega (arith, flat-length c.args.pages.now c.requires.whole, c.requires.within, c.requires.two)

pub bounds-pages-index : goal.bounds-pages-index
bounds-pages-index c = omega (arith, flat-length c.args.pages.now c.requires.whole, c.requires.within, c.requires.two)

pub bounds-pages-index-2 : goal.bounds-pages-index-2
bounds-pages-index-2 c =
    let len = length-set c.args.pages.now (c.args.addr / 4096) c.put.new.self in
    omega (arith, len, flat-length c.args.pages.now c.requires.whole, c.requires.within, c.requires.two)

pub returns-in_err-put-clause-err : goal.returns-in_err-put-clause-err
returns-in_err-put-clause-err c =
    on_err c.from_residual.result (puts-nothing c.args.pages.now _ c.args.addr (low_bytes c.args.width c.args.value) c.args.number
    (ap (set c.args.pages.now (c.args.addr / 4096)) c.in_err-put.ensures ∙ set-same c.args.pages.now (c.args.addr / 4096) c.index-pages-index.result (omega (arith, flat-length c.args.pages.now c.requires.whole, c.requires.within, c.requires.two))))

firsts : (c : goal.After-from_residual-in_err-put-2) → Puts c.args.pages.now (set c.args.pages.now (c.args.addr / 4096) c.put.new.self) c.args.addr (take (4096 - c.args.addr % 4096) (low_bytes c.args.width c.args.value)) c.args.number
firsts c =
    first c.args.pages.now c.args.addr c.args.width c.args.value c.args.number c.bytes_over_edge-bytes.result c.requires.width c.requires.whole c.requires.within c.requires.two c.bytes_over_edge-bytes.ensures
    c.index-pages-index.result c.put.new.self (rw c.put_number.ensures at c.in_ok-put.ensures)

second_fails : (c : goal.After-from_residual-in_err-put-2) → set (set c.args.pages.now (c.args.addr / 4096) c.put.new.self) (c.args.addr / 4096 + 1) c.put-2.new.self ≡ set c.args.pages.now (c.args.addr / 4096) c.put.new.self
second_fails c =
    let now = set c.args.pages.now (c.args.addr / 4096) c.put.new.self in
    let len = length-set c.args.pages.now (c.args.addr / 4096) c.put.new.self in
    ap (set now (c.args.addr / 4096 + 1)) c.in_err-put-2.ensures
    ∙ set-same now (c.args.addr / 4096 + 1) c.index-pages-index-2.result (omega (arith, len, flat-length c.args.pages.now c.requires.whole, c.requires.within, c.requires.two))

seconds : (c : In_ok-put-2) → Puts c.args.pages.now (set (set c.args.pages.now (c.args.addr / 4096) c.put.new.self) (c.args.addr / 4096 + 1) c.put-2.new.self) c.args.addr (low_bytes c.args.width c.args.value) c.args.number
seconds c =
    second c.args.pages.now c.args.addr c.args.width c.args.value c.args.number c.bytes_over_edge-bytes.result c.requires.width c.requires.whole c.requires.within c.requires.two c.bytes_over_edge-bytes.ensures
    c.index-pages-index.result c.index-pages-index-2.result c.put.new.self c.put-2.new.self (rw c.put_number.ensures at c.in_ok-put.ensures) (rw c.put_number.ensures at c.in_ok-put-2.ensures)

pub returns-in_err-put-2-clause-whole : goal.returns-in_err-put-2-clause-whole
returns-in_err-put-2-clause-whole c = subst (λ ps. AreWhole ps) (sym (second_fails c)) (firsts c).whole

pub returns-in_err-put-2-clause-err : goal.returns-in_err-put-2-clause-err
returns-in_err-put-2-clause-err c =
    let n = length-low_bytes c.args.width c.args.value in
    on_err c.from_residual-in_err-put-2.result (subst (λ ps. PutsPrefix c.args.pages.now ps c.args.addr (low_bytes c.args.width c.args.value) c.args.number) (sym (second_fails c)) (puts-prefix c.args.pages.now _ c.args.addr (low_bytes c.args.width c.args.value) (4096 - c.args.addr % 4096) c.args.number (omega (arith, n, c.requires.two)) (firsts c)))

pub returns-clause-whole : goal.returns-clause-whole
returns-clause-whole c = (seconds c).whole

pub returns-clause-bytes : goal.returns-clause-bytes
returns-clause-bytes c = (seconds c).bytes

pub returns-clause-stamps : goal.returns-clause-stamps
returns-clause-stamps c = (seconds c).stamps
