use Rattle.std.proofs.Common.{append_assoc}
use Rattle.replay_command.proofs.report.push_line.Goals as goal

pub returns : goal.returns
returns c =
    simp (c.in_ok-push_str-4.ensures.ok, c.in_ok-push_verdict.ensures, c.in_ok-push_str-3.ensures.ok, c.in_ok-push_end.ensures.ok, c.in_ok-push_str-2.ensures.ok, c.in_ok-push_u64.ensures.ok, c.in_ok-push_str.ensures.ok, c.in_ok-push_bytes.ensures.ok, c.as_slice.ensures, append_assoc)
