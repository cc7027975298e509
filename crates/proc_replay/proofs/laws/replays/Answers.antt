use Rattle.proc_replay.proofs.TurnAfterTurn.{course, one_turn}
use Rattle.proc_replay.proofs.laws.replays.Goals as goal

pub returns-clause-course : goal.returns-clause-course
returns-clause-course c = course c.entry_by_entry.ensures.step c.entry_by_entry.ensures.end c.counting.ensures.counted

pub returns-clause-turn : goal.returns-clause-turn
returns-clause-turn c = one_turn c.entry_by_entry.ensures.step c.entry_by_entry.ensures.end c.counting.ensures.counted
