use Rattle.std.proofs.Common.{◌∙◌, ap, sym}
use Rattle.guest_memory.specs.Memory.{Memory}
use Rattle.guest_process.specs.State.{State}
use Rattle.group_state.proofs.ReplayEnds.{image_at}
use Rattle.group_state.proofs.report.Reporter.next_image.Goals as goal

pub returns : goal.returns
returns c =
    let next = rw c.in-Some.is at c.in_ok-last.ensures.next in
    let fresh = next.1.1.0 in
    let ends = next.1.1.1.0 in (
      next.0,
      sym c.self.view_is ∙ next.1.0,
      (
        c.head.ensures ∙ ends.head,
        image_at c.replays.ensures.turn next.0 c.in-Some.last c.new-printed.result c.in_ok-memory.memory c.replay_next.new.out fresh ends
            (c.in_ok-memory.ensures ∙ ap (λ (m : Memory). m.bytes) c.memory.ensures ∙ ap (λ (S : State). S.store.memory.bytes) c.process.ensures)
            c.new-printed.ensures next.1.1.1.1,
      ),
    )
