use Rattle.std.proofs.Common.{◌≡◌, ◌++◌, suc, drop, take}
use Rattle.group_state.specs.Place.{events_of_replays}
use Rattle.group_text.specs.Texts.{event_lines}
use Rattle.friday_shell.proofs.answer.write_events.Given as goal

-- what is written, with the lines of the events still to come, is the whole
abbrev pub invariant-loop-position : goal.invariant-loop-position
invariant-loop-position l = record {
  start : l.group.start ≡ l.fn.group.start;
  at : l.group.at ≡ l.position;
  written : l.text ++ event_lines l.fn.group.start (suc l.position) (drop l.position (take l.at (events_of_replays l.fn.group.start)))
      ≡ l.fn.text ++ event_lines l.fn.group.start (suc l.from) (drop l.from (take l.at (events_of_replays l.fn.group.start)));
}
