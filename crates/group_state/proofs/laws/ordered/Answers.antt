use Rattle.std.proofs.Common.{ap, arith}
use Rattle.lamport_tag.specs.Tag.{clock_of as tag_clock}
use Rattle.group_state.specs.Place.{events_of_replays}
use Rattle.group_state.proofs.AheadInOrder.{start_merged, tag_below}
use Rattle.group_state.proofs.NodeEvents.{stands_before}
use Rattle.group_state.proofs.laws.ordered.Goals as goal

pub returns-clause-order : goal.returns-clause-order
returns-clause-order c = λ start fits.
    let merged = start_merged c.merges.ensures c.rises.ensures c.states_fit.ensures.ranges start fits in
    (merged.is, merged.only)

pub returns-clause-sends : goal.returns-clause-sends
returns-clause-sends c = λ start fits i j sent taken tag at_i at_j tagged named.
    let merged = start_merged c.merges.ensures c.rises.ensures c.states_fit.ensures.ranges start fits in
    let below = tag_below c.merges.ensures c.rises.ensures c.states_fit.ensures.ranges start fits j taken at_j in
    stands_before (events_of_replays start) i j sent taken merged.is.sorted at_i at_j (omega (arith, below, ap tag_clock tagged, named))
