-- Over groups that a session cannot tell apart events, positions and processes are shown the same.
use Rattle.std.proofs.Common.{◌≡◌, ℕ, suc, ◌-◌, List, [], ◌∷◌, ◌++◌, take, drop, decimal, codes, Option, Some, None, refl}
use Rattle.std.specs.Prelude.{slice_get, slice_index_or}
use Rattle.lib_calls.specs.declared.entry.Entry.{Entry}
use Rattle.group_order.specs.Order.{NodeEvent}
use Rattle.proc_replay.specs.Replaying.{Replaying}
use Rattle.watch_expr.specs.View.{bytes_of_node}
use Rattle.group_text.specs.Texts.{event_ending, event_line, event_lines, event_text, last_lines, named_event_text, node_name, position_line}
use Rattle.shell_points.specs.Firing.{place_at}
use Rattle.friday_shell.specs.Answer.{memory_text, piece_text, text_of_state, threads_of}
use Rattle.friday_shell.specs.SameGroup.{SameGroup}
use Rattle.friday_shell.proofs.SameFirings.{same_last_event, same_nodes}

module _ (a b : List Replaying) (same : SameGroup a b) where
  same_node_name : (n : ℕ) → node_name a n ≡ node_name b n
  same_node_name n = λ i. slice_index_or (same.names i) n []

  same_event_text : (e : NodeEvent Entry) → event_text a e ≡ event_text b e
  same_event_text e = λ i. named_event_text (same_node_name e.node i) e.entry

  same_ending : (e : Option (NodeEvent Entry)) → event_ending a e ≡ event_ending b e
  same_ending None = refl
  same_ending (Some e) = λ i. codes ": " ++ (same_event_text e i ++ codes "\n")

  pub same_position_line : (k : ℕ) → position_line (place_at a k) ≡ position_line (place_at b k)
  same_position_line k = λ i. codes "at " ++ (decimal k ++ same_ending (same_last_event a b same k i) i)

  same_event_line : (k : ℕ) (e : NodeEvent Entry) → event_line a k e ≡ event_line b k e
  same_event_line k e = λ i. decimal k ++ (codes ": " ++ (same_event_text e i ++ codes "\n"))

  same_event_lines : (k : ℕ) (es : List (NodeEvent Entry)) → event_lines a k es ≡ event_lines b k es
  same_event_lines k [] = refl
  same_event_lines k (e ∷ es) = λ i. same_event_line k e i ++ same_event_lines (suc k) es i

  pub same_last_lines : (k n : ℕ) → last_lines (place_at a k) n ≡ last_lines (place_at b k) n
  same_last_lines k n = λ i. same_event_lines (suc (k - n)) (drop (k - n) (take k (same.events i))) i

  pub same_memory : (k : ℕ) (node : Option ℕ) (addr len : ℕ) → memory_text (place_at a k) node addr len ≡ memory_text (place_at b k) node addr len
  same_memory k None addr len = refl
  same_memory k (Some n) addr len = λ i. piece_text (bytes_of_node (same_nodes a b same k i) n addr len)

  pub same_threads : (k : ℕ) (node : Option ℕ) → threads_of (place_at a k) node ≡ threads_of (place_at b k) node
  same_threads k None = refl
  same_threads k (Some n) = λ i. text_of_state (same_node_name n i) (slice_get (same.states k i) n)
