-- The line, and the command, that the values of the code spell.
use Rattle.expression_text.specs.Expression.{expression_of}
use Rattle.play_lines.specs.declared.command.PlayerCommand.{PlayerCommand}
use Rattle.play_lines.specs.declared.command.PlayerCommand.TheVariants as spelled
use Rattle.play_lines.specs.declared.line.PlayLine.{PlayLine}
use Rattle.play_lines.specs.declared.line.PlayLine.TheVariants as line
use Rattle.play_lines.specs.Lines.{Again, Datagram, Mem, PlayCommand, Print, Printed, Processes, Quit, Threads}
use Rattle.play_lines.specs.Meaning.{Does, PlayMeaning, Plays, Refuses, Silent}

abbrev pub player_command : PlayerCommand → PlayCommand
player_command spelled.Processes = Processes
player_command (spelled.Threads node) = Threads node
player_command (spelled.Datagram sender number) = Datagram sender number
player_command (spelled.Printed node from) = Printed node from
player_command (spelled.Print x) = Print (expression_of x)
player_command (spelled.Mem node addr len) = Mem node addr len
player_command spelled.Again = Again
player_command spelled.Quit = Quit

abbrev pub play_line_meaning : PlayLine → PlayMeaning
play_line_meaning line.Silent = Silent
play_line_meaning (line.Refused why) = Refuses why
play_line_meaning (line.Plays item) = Plays item
play_line_meaning (line.Does c) = Does (player_command c)
