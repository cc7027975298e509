-- The line, and the command, that the values of the code spell.
use Rattle.std.specs.Prelude.{Option, option_map}
use Rattle.expression_text.specs.declared.expr.Expr.{Expr}
use Rattle.expression_text.specs.Expression.{Expression, expression_of}
use Rattle.point_programs.specs.Tree.{program_body}
use Rattle.shell_lines.specs.declared.command.DebuggerCommand.{DebuggerCommand as Spelled}
use Rattle.shell_lines.specs.declared.command.DebuggerCommand.TheVariants as spelled
use Rattle.shell_lines.specs.declared.command.MoveCommand.{MoveCommand}
use Rattle.shell_lines.specs.declared.command.MoveCommand.TheVariants as moving
use Rattle.shell_lines.specs.declared.command.StayCommand.{StayCommand}
use Rattle.shell_lines.specs.declared.command.StayCommand.TheVariants as staying
use Rattle.shell_lines.specs.declared.command.WhichNodes.{WhichNodes as ScopeSpelled}
use Rattle.shell_lines.specs.declared.command.WhichNodes.TheVariants as scopes
use Rattle.shell_lines.specs.declared.line.Line.{Line}
use Rattle.shell_lines.specs.declared.line.Line.TheVariants as line
use Rattle.shell_lines.specs.Lines.{At, Back, Break, LineCommand, Continue, Delete, Do, Events, Everywhere, Frames, Goto, ListPoints, ListVariables, Mem, Print, Quit, Rcontinue, WhichNodes, SetTo, Step, Threads, Watch}
use Rattle.shell_lines.specs.Meaning.{Does, LineMeaning, Refuses, Silent}

abbrev pub scope : ScopeSpelled → WhichNodes
scope scopes.Everywhere = Everywhere
scope (scopes.At n) = At n

abbrev pub condition : Option Expr → Option Expression
condition x = option_map expression_of x

abbrev pub move_command : MoveCommand → LineCommand
move_command (moving.Goto position) = Goto position
move_command (moving.Step count) = Step count
move_command (moving.Back count) = Back count
move_command (moving.Events count) = Events count
move_command (moving.Continue most) = Continue most
move_command moving.Rcontinue = Rcontinue

abbrev pub stay_command : StayCommand → LineCommand
stay_command (staying.Print x) = Print (expression_of x)
stay_command (staying.Mem node addr len) = Mem node addr len
stay_command (staying.Threads node) = Threads node
stay_command (staying.Frames node thread) = Frames node thread
stay_command (staying.Watch x c) = Watch (expression_of x) (condition c)
stay_command (staying.Break place kind c) = Break (scope place) kind (condition c)
stay_command (staying.Delete n) = Delete n
stay_command (staying.Do n p) = Do n (program_body p)
stay_command staying.List = ListPoints
stay_command (staying.Set name x) = SetTo name (expression_of x)
stay_command staying.Vars = ListVariables
stay_command staying.Quit = Quit

abbrev pub command : Spelled → LineCommand
command (spelled.Moves c) = move_command c
command (spelled.Stays c) = stay_command c

abbrev pub meaning : Line → LineMeaning
meaning line.Silent = Silent
meaning (line.Refused why) = Refuses why
meaning (line.Does c) = Does (command c)
