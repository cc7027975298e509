use Rattle.std.proofs.Common.{append_assoc}
use Rattle.replay_command.proofs.report.push_verdict.Goals as goal

pub returns-in_ok-push_str-in-Diverged-3 : goal.returns-in_ok-push_str-in-Diverged-3
returns-in_ok-push_str-in-Diverged-3 c =
    rw c.in-Diverged.is
    (simp (c.in_ok-push_str-in-Diverged-3.ensures.ok, c.in_ok-push_str-in-Diverged-2.ensures.ok, c.in_ok-push_u64-in-Diverged.ensures.ok, c.in_ok-push_str-in-Diverged.ensures.ok, c.divergence_text.ensures, append_assoc))
