use Rattle.std.proofs.Common.{ap, arith, ◌∙◌, ◌+◌, ◌-◌, ◌*◌, ◌/◌, ◌%◌}
use Rattle.guest_memory.specs.LittleEndian.{little_endian}
use Rattle.guest_memory.specs.inside.Pages.{bytes_of_pages}
use Rattle.guest_memory.proofs.FlatPages.{flat-length}
use Rattle.guest_memory.proofs.PageEdges.{part_over}
use Rattle.guest_memory.proofs.pages.number_across.Goals as goal

pub bytes_over_edge-bytes-requires-clause-next : goal.bytes_over_edge-bytes-requires-clause-next
bytes_over_edge-bytes-requires-clause-next c = omega (arith, flat-length c.args.pages.now c.requires.whole, c.requires.inside, c.requires.two)

pub returns : goal.returns
returns c =
    rw (c.bytes_over_edge-bytes.ensures) at c.number_at.ensures
    ∙ ap little_endian (part_over (bytes_of_pages c.args.pages.now) c.args.addr (4096 * (c.args.addr / 4096) + 4088) (c.args.addr % 4096 - 4088) c.args.width 16 (omega (arith, c.requires.two, c.requires.width)) (omega (arith, c.requires.width)))
