use Rattle.std.proofs.Common.{arith}
use Rattle.group_record.proofs.member.Member.make_event.Goals as goal

pub advance-requires : goal.advance-requires
advance-requires c = record {
  state = c.requires.event.state;
  process = c.requires.event.process;
  legal = c.requires.event.legal;
  few = c.requires.event.few;
  room = omega (arith, c.requires.size, c.requires.room);
}
