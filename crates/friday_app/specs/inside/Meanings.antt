-- The command that the words of the code stand for.
use Rattle.std.specs.Prelude.{◌≤◌, map}
use Rattle.log_pairs.specs.Meanings.{pair_of}
use Rattle.schedule_text.specs.Limits.{most_rounds}
use Rattle.friday_app.specs.declared.command.Command.{Command as Words}
use Rattle.friday_app.specs.declared.command.Command.TheVariants as words
use Rattle.friday_app.specs.Command.{Command, Cut, Debug, Drill, Migrate, Play, Record, Replay, Schedule, Streams}

abbrev pub command_meaning : Words → Command
command_meaning (words.Record images schedule_name) = Record images schedule_name.now
command_meaning (words.Replay images pairs) = Replay images (map pair_of pairs.items)
command_meaning (words.Debug pairs) = Debug (map pair_of pairs.items)
command_meaning (words.Drill rounds) = Drill rounds
command_meaning (words.Migrate log_name new_name) = Migrate log_name.now new_name.now
command_meaning (words.Schedule pairs) = Schedule (map pair_of pairs.items)
command_meaning (words.Cut process event pairs) = Cut process event (map pair_of pairs.items)
command_meaning (words.Streams pairs) = Streams (map pair_of pairs.items)
command_meaning (words.Play schedule_name) = Play schedule_name.now

-- a drill has as many rounds as there may be
abbrev pub HasDrillRounds : Words → Type 0
HasDrillRounds (words.Drill rounds) = (1 ≤ rounds) × (rounds ≤ most_rounds)
HasDrillRounds other = Unit {0}
