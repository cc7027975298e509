use Rattle.std.proofs.Common.{◌∙◌, ◌<◌, ℕ, List, length, ap, subst, sym}
use Rattle.std.proofs.lemmas.List.{length-map}
use Rattle.point_programs.specs.Tree.{program_body}
use Rattle.shell_points.specs.inside.Meanings.{point}
use Rattle.shell_points.specs.Points.{Point, with_program}
use Rattle.shell_points.proofs.HeldPoints.{put_same}
use Rattle.shell_points.proofs.points.Points.attach.Goals as goal

pub returns : goal.returns
returns c =
    let held = c.self.inside.held.items in
    let within : c.args.index < length held = subst (λ (n : ℕ). c.args.index < n) (sym (ap length c.self.view_is) ∙ length-map held point) c.requires in
    put_same held c.args.index c.index_mut.result.now c.args.program within (sym c.index_mut.ensures.value)
    ∙ ap (λ (ps : List Point). with_program ps c.args.index (program_body c.args.program)) c.self.view_is
