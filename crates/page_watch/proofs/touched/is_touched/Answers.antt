use Rattle.page_watch.proofs.OneNode.{none_met}
use Rattle.page_watch.proofs.touched.is_touched.Goals as goal

pub returns-in-None : goal.returns-in-None
returns-in-None g c =
    none_met (g.V.TouchView.marks c.args.v.now) (g.V.TouchView.at c.args.v.now) c.last_node.result (λ l e. c.requires.tells.moves l c.requires.some e)
    (λ m e. c.last_node.ensures c.requires.some m e) c.in-None.is c.args.places.now
