use Rattle.std.proofs.Common.{◌≡◌, ◌<◌, ◌≤◌, ◌+◌, ◌/◌, ◌%◌, ◌∙◌, ap, arith, length, get_or, List, ℕ}
use Rattle.std.proofs.Math.ListN.{set}
use Rattle.guest_memory.specs.LittleEndian.{low_bytes, IsWidth}
use Rattle.guest_memory.specs.inside.Pages.{AreWhole, put_in_page}
use Rattle.guest_memory.specs.declared.page.Page.{Page}
use Rattle.guest_memory.proofs.NumberBytes.{length-low_bytes}
use Rattle.guest_memory.proofs.FlatPages.{set-same}
use Rattle.guest_memory.proofs.PageWrites.{Puts, puts-one, puts-nothing, on_err}
use Rattle.guest_memory.proofs.pages.put_number_in.Goals as goal

stored : (ps : List Page) (addr width value number : ℕ) (d page : Page) → IsWidth width → AreWhole ps → addr % 4096 + width ≤ 4096 → addr / 4096 < length ps
    → page ≡ put_in_page (get_or ps (addr / 4096) d) (addr % 4096) (low_bytes width value) number → Puts ps (set ps (addr / 4096) page) addr (low_bytes width value) number
stored ps addr width value number d page is w one room so =
    let n : length (low_bytes width value) ≡ width = length-low_bytes width value in
    puts-one ps addr (low_bytes width value) number d page w (omega (arith, n)) (omega (arith, n)) room so

pub returns-clause-whole : goal.returns-clause-whole
returns-clause-whole c =
    (stored c.args.pages.now c.args.addr c.args.width c.args.value c.args.number c.index-pages-addr.result c.put_number.new.self c.requires.width c.requires.whole c.requires.one c.requires.inside c.in_ok-put_number.ensures).whole

pub returns-clause-bytes : goal.returns-clause-bytes
returns-clause-bytes c =
    (stored c.args.pages.now c.args.addr c.args.width c.args.value c.args.number c.index-pages-addr.result c.put_number.new.self c.requires.width c.requires.whole c.requires.one c.requires.inside c.in_ok-put_number.ensures).bytes

pub returns-clause-stamps : goal.returns-clause-stamps
returns-clause-stamps c =
    (stored c.args.pages.now c.args.addr c.args.width c.args.value c.args.number c.index-pages-addr.result c.put_number.new.self c.requires.width c.requires.whole c.requires.one c.requires.inside c.in_ok-put_number.ensures).stamps

pub returns-in_err-put_number-clause-err : goal.returns-in_err-put_number-clause-err
returns-in_err-put_number-clause-err c =
    on_err c.from_residual.result (puts-nothing c.args.pages.now _ c.args.addr (low_bytes c.args.width c.args.value) c.args.number
    (ap (set c.args.pages.now (c.args.addr / 4096)) c.in_err-put_number.ensures ∙ set-same c.args.pages.now (c.args.addr / 4096) c.index-pages-addr.result c.requires.inside))
