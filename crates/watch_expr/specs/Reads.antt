-- What the value of an expression is read from.
use Rattle.std.specs.Prelude.{◌≡◌, ℕ, ◌+◌, ◌-◌, ◌*◌, ◌/◌, ◌^◌, ◌≤◌, ◌==◌, Bool, true, false, not, nat_lt, is_none, List, [], ◌∷◌, ◌++◌, length, slice_get, Option, Some, None, if◌then◌else◌, ℤ, pos, negsuc}
use Rattle.std.specs.List.{AllByRecursion, flat_map, range_with_len}
use Rattle.guest_memory.specs.Memory.{Memory, IsMemory, bytes_from, is_inside}
use Rattle.expression_text.specs.declared.expr.Binary.{Binary}
use Rattle.expression_text.specs.declared.expr.Binary.TheVariants as binary
use Rattle.watch_expr.specs.declared.reads.Place.{Place}
use Rattle.watch_expr.specs.declared.reads.Place.TheVariants as place
use Rattle.expression_text.specs.Expression.{Expression, Number, Var, One, Two, Over, Load, Global, Clock, Events, Size, LastThread, HasEnded}
use Rattle.expression_text.specs.Faulty.{names_variable}
use Rattle.watch_expr.specs.Value.{ExpressionSetting, byte_count, decided_by_left, resolved_node, expression_setting, value, value_at, value_in_event}
use Rattle.watch_expr.specs.View.{Node, node_clock, events_at, global_at, has_ended_at, last_thread_at, size_at}

-- the operators that may leave their right side out
abbrev pub is_lazy : Binary → Bool
is_lazy binary.And = true
is_lazy binary.Or = true
is_lazy _ = false

-- With this value of the left side the right one is evaluated: where the left one does not decide, or has no value and the
-- operator evaluates both.
abbrev pub evaluates_right : Binary → Option ℤ → Bool
evaluates_right op None = not (is_lazy op)
evaluates_right op (Some a) = is_none (decided_by_left op a)

-- the pages from the one to the other, which are the same or follow one another
abbrev pub two_pages : ℕ → ℕ → ℕ → List Place
two_pages node first last = if first == last then place.Page node first ∷ [] else place.Page node first ∷ place.Page node last ∷ []

-- the pages of so many bytes, and the size where one of these lies outside of memory
abbrev pub pages_of : ℕ → Memory → ℕ → ℕ → List Place
pages_of node memory addr count =
    if is_inside memory addr count then two_pages node (addr / 4096) ((addr + count - 1) / 4096) else place.Size node ∷ []

-- what a load reads at a node, by its address
abbrev pub load_places : ℕ → Option Node → ℕ → Option ℤ → List Place
load_places node None count addr = []
load_places node (Some s) count None = []
load_places node (Some s) count (Some (pos addr)) = pages_of node s.memory addr count
load_places node (Some s) count (Some (negsuc _)) = place.Size node ∷ []

abbrev pub places_at_node : Option ℕ → (ℕ → List Place) → List Place
places_at_node None places = []
places_at_node (Some node) places = places node

-- What is read where `each` is the node of the aggregate around the expression: by all operands that are evaluated, and by an
-- aggregate at every node.
abbrev pub reads_at : ExpressionSetting → Option ℕ → Expression → List Place
reads_at s each (Number n) = []
reads_at s each (Var name) = []
reads_at s each (One op x) = reads_at s each x
reads_at s each (Two op x y) = reads_at s each x ++ (if evaluates_right op (value_at s each x) then reads_at s each y else [])
reads_at s each (Over agg x) = flat_map (λ node. reads_at s (Some node) x) (range_with_len 0 (length s.nodes))
reads_at s each (Load name width x) =
    reads_at s each x ++ places_at_node (resolved_node s.event each name) (λ node. load_places node (slice_get s.nodes node) (byte_count width) (value_at s each x))
reads_at s each (Global name n) = places_at_node (resolved_node s.event each name) (λ node. if nat_lt n (2 ^ 32) then place.Global node n ∷ [] else [])
reads_at s each (Clock name) = places_at_node (resolved_node s.event each name) (λ node. place.Motion node ∷ [])
reads_at s each (Events name) = places_at_node (resolved_node s.event each name) (λ node. place.Motion node ∷ [])
reads_at s each (Size name) = places_at_node (resolved_node s.event each name) (λ node. place.Size node ∷ [])
reads_at s each (LastThread name) = places_at_node (resolved_node s.event each name) (λ node. place.Motion node ∷ [])
reads_at s each (HasEnded name) = places_at_node (resolved_node s.event each name) (λ node. place.Motion node ∷ [])

-- every variable is undef
abbrev pub no_variables : List ℕ → Option ℤ
no_variables name = None

-- what an expression without variables reads
abbrev pub reads_of_expression : List Node → Expression → List Place
reads_of_expression nodes x = reads_at (expression_setting nodes no_variables) None x

-- a global whose number is below 2^32, or another place
abbrev pub is_low_place : Place → Bool
is_low_place (place.Page node page) = true
is_low_place (place.Global node n) = nat_lt n (2 ^ 32)
is_low_place (place.Motion node) = true
is_low_place (place.Size node) = true

-- ---- where nothing of it changed

-- the page lies in the later memory, with the same bytes
pub record SamePage (old new : Memory) (page : ℕ) : Type 0 where
  pub inside : 4096 * page + 4096 ≤ length new.bytes
  pub bytes : bytes_from new (4096 * page) 4096 ≡ bytes_from old (4096 * page) 4096

-- the place is the same in both states; of a page this is said only where it lies in the earlier memory
abbrev pub SameAtPlace : List Node → List Node → Place → Type 0
SameAtPlace old new (place.Page node page) =
    (a b : Node) → slice_get old node ≡ Some a → slice_get new node ≡ Some b
    → 4096 * page + 4096 ≤ length a.memory.bytes → SamePage a.memory b.memory page
SameAtPlace old new (place.Global node n) = global_at new node n ≡ global_at old node n
SameAtPlace old new (place.Motion node) =
    (node_clock new node ≡ node_clock old node) × (events_at new node ≡ events_at old node)
    × (last_thread_at new node ≡ last_thread_at old node) × (has_ended_at new node ≡ has_ended_at old node)
SameAtPlace old new (place.Size node) = size_at new node ≡ size_at old node

-- each node's memory is one
abbrev pub AreMemories : List Node → Type 0
AreMemories nodes = AllByRecursion (λ (s : Node). IsMemory s.memory) nodes

-- where all that an expression reads is the same, its value and what it reads are the same
abbrev pub ReadsTell : Type 0
ReadsTell = (old new : List Node) (each : Option ℕ) (x : Expression) → length new ≡ length old → AreMemories old → AreMemories new
    → AllByRecursion (SameAtPlace old new) (reads_at (expression_setting old no_variables) each x)
    → (value_at (expression_setting new no_variables) each x ≡ value_at (expression_setting old no_variables) each x)
    × (reads_at (expression_setting new no_variables) each x ≡ reads_at (expression_setting old no_variables) each x)

-- ---- where no variable is named

-- an expression that names no variable has one value, whatever the variables are
abbrev pub VariablesUnseen : Type 0
VariablesUnseen = (nodes : List Node) (v w : List ℕ → Option ℤ) (event : Option ℕ) (x : Expression) → names_variable x ≡ false
    → (value nodes v x ≡ value nodes w x) × (value_in_event nodes v event x ≡ value_in_event nodes w event x)
