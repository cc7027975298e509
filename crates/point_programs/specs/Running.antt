-- What programs do.
use Rattle.std.specs.Prelude.{ℕ, List, ◌++◌, Bool, true, false, not, ◌||◌, codes, Option, Some, None, ℤ, if◌then◌else◌}
use Rattle.std.specs.Fmt.{signed_decimal}
use Rattle.std.specs.List.{flat_map}
use Rattle.expression_text.specs.Expression.{Expression}
use Rattle.watch_expr.specs.Value.{is_zero, value, value_in_event}
use Rattle.watch_expr.specs.View.{Node}
use Rattle.point_programs.specs.Tree.{SaidItem, Words, Value, NodeOfEvent, Statement, Set, Say, Stop, If, Statements, End, Then}
use Rattle.point_programs.specs.Variables.{Variable, variable_value, with_value}

-- what a program runs over: the nodes, the node of the event that led to the position, and that node's name
pub record ProgramSetting : Type 0 where
  pub nodes : List Node
  pub event : Option ℕ
  pub name : List ℕ

abbrev pub program_setting : List Node → Option ℕ → List ℕ → ProgramSetting
program_setting nodes event name = record { nodes = nodes; event = event; name = name }

-- how far a program is: the variables, the text with the lines that it said, and whether it stopped
pub record ProgramState : Type 0 where
  pub variables : List Variable
  pub text : List ℕ
  pub stopped : Bool

-- a program with these variables and this text, which stopped or did not
abbrev pub program_state : List Variable → List ℕ → Bool → ProgramState
program_state variables text stopped = record { variables = variables; text = text; stopped = stopped }

-- a value in decimal, or `undef`
abbrev pub value_word : Option ℤ → List ℕ
value_word None = codes "undef"
value_word (Some z) = signed_decimal z

-- the value of an expression over these nodes and variables
abbrev pub value_in : List Node → List Variable → Expression → Option ℤ
value_in nodes variables x = value nodes (variable_value variables) x

-- the same in a program
abbrev pub value_over : ProgramSetting → List Variable → Expression → Option ℤ
value_over here variables x = value_in_event here.nodes (variable_value variables) here.event x

abbrev pub said_item : ProgramSetting → List Variable → SaidItem → List ℕ
said_item here variables (Words bytes) = bytes
said_item here variables (Value x) = value_word (value_over here variables x)
said_item here variables NodeOfEvent = here.name

-- a line that is said: its items one after the other
abbrev pub said_line : ProgramSetting → List Variable → List SaidItem → List ℕ
said_line here variables items = flat_map (said_item here variables) items ++ codes "\n"

-- a number other than 0
abbrev pub is_nonzero : Option ℤ → Bool
is_nonzero None = false
is_nonzero (Some z) = not (is_zero z)

abbrev mutual
  -- after a statement
  pub after_statement : ProgramSetting → ProgramState → Statement → ProgramState
  after_statement here r (Set name x) = record { variables = with_value r.variables name (value_over here r.variables x); text = r.text; stopped = r.stopped }
  after_statement here r (Say items) = record { variables = r.variables; text = r.text ++ said_line here r.variables items; stopped = r.stopped }
  after_statement here r Stop = record { variables = r.variables; text = r.text; stopped = true }
  after_statement here r (If x on_true on_false) =
      if is_nonzero (value_over here r.variables x) then after_statements here r on_true else after_statements here r on_false

  -- after statements, none of which is run after a `stop`
  pub after_statements : ProgramSetting → ProgramState → Statements → ProgramState
  after_statements here r End = r
  after_statements here r (Then first rest) =
      if (after_statement here r first).stopped then after_statement here r first
      else after_statements here (after_statement here r first) rest

abbrev mutual
  pub has_stop_in : Statement → Bool
  has_stop_in (Set name x) = false
  has_stop_in (Say items) = false
  has_stop_in Stop = true
  has_stop_in (If x on_true on_false) = has_stop on_true || has_stop on_false

  -- a `stop` is somewhere in it, reached or not
  pub has_stop : Statements → Bool
  has_stop End = false
  has_stop (Then first rest) = has_stop_in first || has_stop rest
