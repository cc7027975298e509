use Rattle.std.proofs.Common.{◌∙◌, ◌-◌, ◌==◌, ℕ, Option, ap, length, sym}
use Rattle.group_state.specs.Place.{events_of_replays}
use Rattle.shell_points.specs.Walking.{steps_of}
use Rattle.shell_points.proofs.PointWalks.{over_without}
use Rattle.shell_points.proofs.walk.is_over.Goals as goal

pub returns-in-None : goal.returns-in-None
returns-in-None c =
    let group = c.args.group.now in
    let end = length (events_of_replays group.start) in
    c.is_last-last.ensures ∙ over_without end group.at ∙ ap (λ (left : Option ℕ). steps_of left (end - group.at) == 0) (sym c.in-None.is)
