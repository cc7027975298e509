use Rattle.std.proofs.Common.{◌≡◌, ◌∙◌, Some, ap, map, sym}
use Rattle.std.specs.List.{flat_map}
use Rattle.log_pairs.specs.Meanings.{pair_of}
use Rattle.cut_command.specs.Cut.{node_of_process}
use Rattle.cut_command.specs.inside.Meanings.{front_line}
use Rattle.cut_command.proofs.KeptLengths.{all_heads, is_cut, past_works}
use Rattle.cut_command.proofs.past.find_past.Goals as goal

pub returns-clause-answer : goal.returns-clause-answer
returns-clause-answer c = λ ls are.
    let at : node_of_process c.args.process c.args.replayers.items ≡ Some c.in-Some.node = ap (node_of_process c.args.process) (sym c.deref.ensures.value) ∙ sym c.in-Some.ensures in
    past_works (map pair_of c.args.pairs.now) ls c.args.process c.args.event c.in-Some.node c.args.replayers.items (record { fronts = c.in-Ok.fronts; text = c.in_ok-text.text }) at c.in-Ok.ensures (c.in_ok-text.ensures ∙ ap (flat_map front_line) c.deref-2.ensures.value)

pub returns-clause-least : goal.returns-clause-least
returns-clause-least c =
    let at : node_of_process c.args.process c.args.replayers.items ≡ Some c.in-Some.node = ap (node_of_process c.args.process) (sym c.deref.ensures.value) ∙ sym c.in-Some.ensures in
    is_cut c.fronts_replay.ensures c.args.process c.args.event c.in-Some.node c.args.replayers.items (record { fronts = c.in-Ok.fronts; text = c.in_ok-text.text }) c.requires.at_heads at c.in-Ok.ensures

pub returns-clause-heads : goal.returns-clause-heads
returns-clause-heads c = all_heads c.in-Some.node c.args.event c.args.replayers.items c.in-Ok.fronts.items c.requires.at_heads c.in-Ok.ensures
