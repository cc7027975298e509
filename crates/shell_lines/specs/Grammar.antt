-- The grammar of commands, over the texts of a line's tokens: a line for each form that a command has.
use Rattle.std.specs.Prelude.{◌≡◌, ℕ, ◌+◌, ◌≤◌, ◌<◌, true, codes, List, [], ◌∷◌, ◌++◌, length, take, Option, Some, None}
use Rattle.call_table.specs.Table.{row}
use Rattle.call_table.specs.declared.kind.Kind.{Kind}
use Rattle.expression_text.specs.Expression.{Expression}
use Rattle.expression_text.specs.Grammar.{IsExpr}
use Rattle.expression_text.specs.Spelling.{is_word, number_of}
use Rattle.point_programs.specs.Grammar.{IsProgram}
use Rattle.point_programs.specs.Tree.{Statements}
use Rattle.shell_lines.specs.Limits.{most_shown_bytes, most_shown_events, greatest_thread}
use Rattle.shell_lines.specs.Lines.{At, Back, Break, LineCommand, Continue, Delete, Do, Events, Everywhere, Frames, Goto, ListPoints, ListVariables, Mem, Print, Quit, Rcontinue, SetTo, Step, Threads, Watch, WhichNodes, node_called}

-- the token says which nodes: one by its name, or a star for all
pub data IsScope (names : List (List ℕ)) : List ℕ → WhichNodes → Type 0 where
  one_node : (word : List ℕ) → is_word word ≡ true → IsScope names word (At (node_called names word))
  everywhere : IsScope names (codes "*") Everywhere

-- the token says which calls: those of one kind, or a star for all
pub data AreCalls : List ℕ → Option Kind → Type 0 where
  of_kind : (kind : Kind) → AreCalls (row kind).name (Some kind)
  all : AreCalls (codes "*") None

-- the tokens are a condition, which may be left out
pub data IsCondition (names : List (List ℕ)) : List (List ℕ) → Option Expression → Type 0 where
  left_out : IsCondition names [] None
  given : {ts : List (List ℕ)} {x : Expression} → IsExpr names ts x → IsCondition names (codes "if" ∷ ts) (Some x)

-- With these names of processes, the tokens spell the command.
pub data IsCommand (names : List (List ℕ)) : List (List ℕ) → LineCommand → Type 0 where
  goto : (word : List ℕ) (k : ℕ) → number_of word ≡ Some k → IsCommand names (codes "goto" ∷ word ∷ []) (Goto k)
  step_once : IsCommand names (codes "step" ∷ []) (Step 1)
  step : (word : List ℕ) (n : ℕ) → number_of word ≡ Some n → IsCommand names (codes "step" ∷ word ∷ []) (Step n)
  back_once : IsCommand names (codes "back" ∷ []) (Back 1)
  back : (word : List ℕ) (n : ℕ) → number_of word ≡ Some n → IsCommand names (codes "back" ∷ word ∷ []) (Back n)
  print : {ts : List (List ℕ)} {x : Expression} → IsExpr names ts x → IsCommand names (codes "print" ∷ ts) (Print x)
  mem : (node from count : List ℕ) (addr len : ℕ) → is_word node ≡ true → number_of from ≡ Some addr → number_of count ≡ Some len → 1 ≤ len → len ≤ most_shown_bytes
      → IsCommand names (codes "mem" ∷ node ∷ from ∷ count ∷ []) (Mem (node_called names node) addr len)
  threads : (node : List ℕ) → is_word node ≡ true → IsCommand names (codes "threads" ∷ node ∷ []) (Threads (node_called names node))
  frames : (node word : List ℕ) (t : ℕ) → is_word node ≡ true → number_of word ≡ Some t → t ≤ greatest_thread → IsCommand names (codes "frames" ∷ node ∷ word ∷ []) (Frames (node_called names node) t)
  last_events : IsCommand names (codes "events" ∷ []) (Events 10)
  events : (word : List ℕ) (n : ℕ) → number_of word ≡ Some n → 1 ≤ n → n ≤ most_shown_events → IsCommand names (codes "events" ∷ word ∷ []) (Events n)
  watch : {ts us : List (List ℕ)} {x : Expression} {c : Option Expression} → IsExpr names ts x → IsCondition names us c → IsCommand names (codes "watch" ∷ (ts ++ us)) (Watch x c)
  break : {nodes calls : List ℕ} {us : List (List ℕ)} {scope : WhichNodes} {kind : Option Kind} {c : Option Expression}
      → IsScope names nodes scope → AreCalls calls kind → IsCondition names us c → IsCommand names (codes "break" ∷ nodes ∷ calls ∷ us) (Break scope kind c)
  delete : (word : List ℕ) (n : ℕ) → number_of word ≡ Some n → IsCommand names (codes "delete" ∷ word ∷ []) (Delete n)
  attach : {ts : List (List ℕ)} {p : Statements} (word : List ℕ) (n : ℕ) → number_of word ≡ Some n → IsProgram names ts p → IsCommand names (codes "do" ∷ word ∷ ts) (Do n p)
  list : IsCommand names (codes "list" ∷ []) ListPoints
  set : {ts : List (List ℕ)} {x : Expression} (name : List ℕ) → is_word name ≡ true → IsExpr names ts x → IsCommand names (codes "set" ∷ codes "$" ∷ name ∷ ts) (SetTo name x)
  vars : IsCommand names (codes "vars" ∷ []) ListVariables
  continue : IsCommand names (codes "continue" ∷ []) (Continue None)
  continue_most : (word : List ℕ) (n : ℕ) → number_of word ≡ Some n → 1 ≤ n → IsCommand names (codes "continue" ∷ word ∷ []) (Continue (Some n))
  rcontinue : IsCommand names (codes "rcontinue" ∷ []) Rcontinue
  quit : IsCommand names (codes "quit" ∷ []) Quit

-- the tokens begin some command
pub record BeginsCommand (names ts : List (List ℕ)) : Type 0 where
  pub rest : List (List ℕ)
  pub whole : LineCommand
  pub spelled : IsCommand names (ts ++ rest) whole

-- The tokens are no command. The first n of them begin some command, and no more of them do.
pub record StopsAtToken (names ts : List (List ℕ)) (n : ℕ) : Type 0 where
  pub within : n ≤ length ts
  pub begins : BeginsCommand names (take n ts)
  pub longest : n < length ts → BeginsCommand names (take (n + 1) ts) → ⊥
  pub none : (c : LineCommand) → IsCommand names ts c → ⊥
