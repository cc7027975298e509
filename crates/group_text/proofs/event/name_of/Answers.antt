use Rattle.std.proofs.Common.{map, sym}
use Rattle.proc_replay.specs.Replaying.{Replaying}
use Rattle.group_text.proofs.TextPieces.{none_named}
use Rattle.group_text.proofs.event.name_of.Goals as goal

pub returns-in-None : goal.returns-in-None
returns-in-None c =
    let names = map (λ (r : Replaying). r.head.name) c.args.group.now.start in
    sym (none_named names c.args.node c.in-None.ensures)
