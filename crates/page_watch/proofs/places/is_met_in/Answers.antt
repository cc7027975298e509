use Rattle.std.proofs.Common.{ap, ◌∙◌}
use Rattle.std.specs.List.{list_all}
use Rattle.watch_expr.specs.Reads.{is_low_place}
use Rattle.page_watch.proofs.OneNode.{low_in, unlike, unmet_in}
use Rattle.page_watch.proofs.places.is_met_in.Goals as goal

pub is_met-requires-clause-low : goal.is_met-requires-clause-low
is_met-requires-clause-low g c = ap (list_all is_low_place) c.deref.ensures.value ∙ low_in c.args.of_node.now.node c.args.of_node.now.places.items c.requires.order

pub returns-else-of_node-node : goal.returns-else-of_node-node
returns-else-of_node-node g c =
    unlike c.args.of_node.now.node c.args.node c.if-of_node-node.false
    ∙ unmet_in (g.V.TouchView.marks c.args.v.now) c.args.at c.args.node c.requires.only c.args.of_node.now c.if-of_node-node.false c.requires.order
