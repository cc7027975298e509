-- Sessions that differ in nothing but their replays, over groups that they cannot tell apart, answer each line the same.
use Rattle.std.proofs.Common.{◌≡◌, ℕ, ◌+◌, ◌-◌, min, Bool, true, false, cond, ◌||◌, nat_le, nat_lt, List, [], ◌++◌, length, Option, Some, None, ℤ, refl, sym, subst, subst₂}
use Rattle.std.specs.Prelude.{slice_get}
use Rattle.call_table.specs.declared.kind.Kind.{Kind}
use Rattle.guest_process.specs.State.{State}
use Rattle.proc_replay.specs.Replaying.{Replaying}
use Rattle.group_state.specs.Nodes.{nodes_at}
use Rattle.group_state.specs.Place.{node_names, states_of_nodes}
use Rattle.expression_text.specs.Expression.{Expression}
use Rattle.point_programs.specs.Faulty.{set_names}
use Rattle.point_programs.specs.Running.{value_in}
use Rattle.point_programs.specs.Tree.{Statements}
use Rattle.point_programs.specs.Variables.{Variable, is_mentioned, mention_all}
use Rattle.shell_lines.specs.Lines.{At, Back, Break, LineCommand, Continue, Delete, Do, Events, Everywhere, Frames, Goto, ListPoints, ListVariables, Mem, Print, Quit, Rcontinue, WhichNodes, SetTo, Step, Threads, Watch}
use Rattle.shell_lines.specs.Meaning.{Does, LineMeaning, Refuses, Silent, line_meaning, trimmed}
use Rattle.shell_lines.specs.Refusals.{refusal_line}
use Rattle.shell_lines.specs.declared.refusal.LineRefusal.{LineRefusal}
use Rattle.shell_lines.specs.declared.refusal.LineRefusal.TheVariants as refusal
use Rattle.shell_points.specs.Firing.{place_at}
use Rattle.shell_points.specs.Points.{Point, Trigger, has_point, index_of_point}
use Rattle.shell_points.specs.Returning.{Return}
use Rattle.shell_points.specs.Walking.{Walk}
use Rattle.friday_shell.specs.Answer.{LineAnswer, adds_point, answer, answer_of_meaning, arrives_at_position, attaches_at, breaks_at, command_answer, deletes_point, frames_in, most_points, most_variables, refuses_line, returns_back, says_text, sets_variable, shows_frames, value_text, walks_on}
use Rattle.friday_shell.specs.Laws.{SameGroupSameSession}
use Rattle.friday_shell.specs.Points.{SessionState}
use Rattle.friday_shell.specs.SameGroup.{SameAnswer, SameGroup}
use Rattle.friday_shell.proofs.SameFirings.{same_nodes}
use Rattle.friday_shell.proofs.SameTexts.{same_last_lines, same_memory, same_position_line, same_threads}
use Rattle.friday_shell.proofs.SameWalks.{same_return, same_walk}

-- a session over these replays
abbrev over : List Replaying → ℕ → List Point → ℕ → List Variable → SessionState
over start at points made variables = record { place = place_at start at; points = points; made = made; variables = variables }

module _ (a b : List Replaying) (same : SameGroup a b) (at : ℕ) (points : List Point) (made : ℕ) (variables : List Variable) where
  abbrev s : SessionState
  s = over a at points made variables

  abbrev t : SessionState
  t = over b at points made variables

  either : (c d : Bool) (x₁ x₂ y₁ y₂ : LineAnswer) → c ≡ d → SameAnswer a b x₁ y₁ → SameAnswer a b x₂ y₂ → SameAnswer a b (cond c x₁ x₂) (cond d y₁ y₂)
  either true true x₁ x₂ y₁ y₂ e h k = h
  either true false x₁ x₂ y₁ y₂ e h k = absurd cc
  either false true x₁ x₂ y₁ y₂ e h k = absurd cc
  either false false x₁ x₂ y₁ y₂ e h k = k

  -- the same text, and then sessions that keep the same
  keeping : (points : List Point) (made : ℕ) (variables : List Variable) (quits : Bool) (text₁ text₂ : List ℕ) → text₁ ≡ text₂
      → SameAnswer a b (record { text = text₁; state = over a at points made variables; quits = quits }) (record { text = text₂; state = over b at points made variables; quits = quits })
  keeping points made variables quits text₁ text₂ e =
      record { text = e; state = record { first = refl; second = refl; at = refl; points = refl; made = refl; variables = refl }; quits = refl }

  saying : (text₁ text₂ : List ℕ) → text₁ ≡ text₂ → SameAnswer a b (says_text s text₁) (says_text t text₂)
  saying text₁ text₂ e = keeping points made variables false text₁ text₂ e

  refusing : (why : LineRefusal) → SameAnswer a b (refuses_line s why) (refuses_line t why)
  refusing why = saying (refusal_line why) (refusal_line why) refl

  arriving : (lines₁ lines₂ : List ℕ) (k₁ k₂ : ℕ) → lines₁ ≡ lines₂ → k₁ ≡ k₂ → SameAnswer a b (arrives_at_position s lines₁ k₁) (arrives_at_position t lines₂ k₂)
  arriving lines₁ lines₂ k₁ k₂ e f = record {
    text = λ i. e i ++ same_position_line a b same (f i) i;
    state = record { first = refl; second = refl; at = f; points = refl; made = refl; variables = refl };
    quits = refl;
  }

  walking : (v w : Walk) → v ≡ w → SameAnswer a b (walks_on s v) (walks_on t w)
  walking v w e = record {
    text = λ i. (e i).text ++ same_position_line a b same (e i).at i;
    state = record { first = refl; second = refl; at = λ i. (e i).at; points = refl; made = refl; variables = λ i. (e i).variables };
    quits = refl;
  }

  returning : (q r : Return) → q ≡ r → SameAnswer a b (returns_back s q) (returns_back t r)
  returning q r e = arriving q.text r.text q.at r.at (λ i. (e i).text) (λ i. (e i).at)

  adding : (line : List ℕ) (trigger : Trigger) (condition : Option Expression) → SameAnswer a b (adds_point s line trigger condition) (adds_point t line trigger condition)
  adding line trigger condition = either (nat_lt (length points) most_points) _ _ _ _ _ refl (keeping _ _ _ _ _ _ refl) (refusing refusal.TooMany)

  deleting : (n : ℕ) → SameAnswer a b (deletes_point s n) (deletes_point t n)
  deleting n = either (has_point points n) _ _ _ _ _ refl (keeping _ _ _ _ _ _ refl) (refusing refusal.NoPoint)

  attaching : (body : Statements) (place : Option ℕ) → SameAnswer a b (attaches_at s body place) (attaches_at t body place)
  attaching body None = refusing refusal.NoPoint
  attaching body (Some place) = either (nat_le (length (mention_all variables (set_names body))) most_variables) _ _ _ _ _ refl (keeping _ _ _ _ _ _ refl) (refusing refusal.TooMany)

  setting : (name : List ℕ) (v w : Option ℤ) → v ≡ w → SameAnswer a b (sets_variable s name v) (sets_variable t name w)
  setting name v w e = subst (λ (w : Option ℤ). SameAnswer a b (sets_variable s name v) (sets_variable t name w)) e
      (either (is_mentioned variables name || nat_lt (length variables) most_variables) _ _ _ _ _ refl (keeping _ _ _ _ _ _ refl) (refusing refusal.TooMany))

  breaking : (line : List ℕ) (kind : Option Kind) (condition : Option Expression) (scope : WhichNodes) → SameAnswer a b (breaks_at s line kind condition scope) (breaks_at t line kind condition scope)
  breaking line kind condition Everywhere = adding line _ condition
  breaking line kind condition (At None) = saying [] [] refl
  breaking line kind condition (At (Some n)) = adding line _ condition

  framed : (n : ℕ) (S : Option State) → SameAnswer a b (frames_in s n S) (frames_in t n S)
  framed n None = saying [] [] refl
  framed n (Some S) = either (nat_lt n (length S.crew.threads)) _ _ _ _ _ refl (saying _ _ refl) (refusing refusal.NoThread)

  framing : (node : Option ℕ) (n : ℕ) → SameAnswer a b (shows_frames s node n) (shows_frames t node n)
  framing None n = saying [] [] refl
  framing (Some node) n = subst (λ (now : List State). SameAnswer a b (shows_frames s (Some node) n) (frames_in t n (slice_get now node))) (same.states at)
      (framed n (slice_get (states_of_nodes a at) node))

  same_value : (x : Expression) → value_in (nodes_at (place_at a at)) variables x ≡ value_in (nodes_at (place_at b at)) variables x
  same_value x = λ i. value_in (same_nodes a b same at i) variables x

  commanding : (line : List ℕ) (c : LineCommand) → SameAnswer a b (command_answer s line c) (command_answer t line c)
  commanding line (Goto k) = either _ _ _ _ _ _ (λ i. nat_le k (length (same.events i))) (arriving [] [] k k refl refl) (refusing refusal.NoPosition)
  commanding line (Step n) = arriving [] [] _ _ refl (λ i. min (at + n) (length (same.events i)))
  commanding line (Back n) = arriving [] [] (at - n) (at - n) refl refl
  commanding line (Print x) = saying _ _ (λ i. value_text (same_value x i))
  commanding line (Mem node addr len) = saying _ _ (same_memory a b same at node addr len)
  commanding line (Threads node) = saying _ _ (same_threads a b same at node)
  commanding line (Frames node n) = framing node n
  commanding line (Events n) = saying _ _ (same_last_lines a b same at n)
  commanding line (Watch x condition) = adding line _ condition
  commanding line (Break scope kind condition) = breaking line kind condition scope
  commanding line (Delete n) = deleting n
  commanding line (Do n body) = attaching body (index_of_point points n)
  commanding line ListPoints = saying _ _ refl
  commanding line (SetTo name x) = setting name _ _ (same_value x)
  commanding line ListVariables = saying _ _ refl
  commanding line (Continue most) = walking _ _ (same_walk a b same at points variables most)
  commanding line Rcontinue = returning _ _ (same_return a b same at points)
  commanding line Quit = keeping points made variables true [] [] refl

  meaning : (line : List ℕ) (m : LineMeaning) → SameAnswer a b (answer_of_meaning s line m) (answer_of_meaning t line m)
  meaning line Silent = saying [] [] refl
  meaning line (Refuses why) = refusing why
  meaning line (Does c) = commanding line c

  answering : (line : List ℕ) → SameAnswer a b (answer s line) (answer t line)
  answering line = subst (λ (names : List (List ℕ)). SameAnswer a b (answer s line) (answer_of_meaning t (trimmed line) (line_meaning names line))) same.names
      (meaning (trimmed line) (line_meaning (node_names a) line))

pub same_sessions : SameGroupSameSession
same_sessions a b same s t kept line =
    let here : over a s.place.at s.points s.made s.variables ≡ s = λ i. record s { place = record s.place { start = sym kept.first i } } in
    let there : over b s.place.at s.points s.made s.variables ≡ t =
    λ i. record { place = place_at (sym kept.second i) (kept.at i); points = kept.points i; made = kept.made i; variables = kept.variables i } in
    subst₂ (λ (s t : SessionState). SameAnswer a b (answer s line) (answer t line)) here there (answering a b same s.place.at s.points s.made s.variables line)
