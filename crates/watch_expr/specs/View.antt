-- What is seen of the nodes of a group.
use Rattle.std.specs.Prelude.{ℕ, Bool, List, slice_get, Option, Some, None, option_map, option_and_then, ℤ, if◌then◌else◌}
use Rattle.guest_memory.specs.Memory.{Memory, bytes_from, is_inside, size_of, stretch_in_page}

-- One node's state: its memory, its globals as signed numbers, the clock of its last event, or 0, how
-- many events it has had, the thread of the last, if it has had one, and whether it has ended.
pub record Node : Type 0 where
  pub memory : Memory
  pub globals : List ℤ
  pub clock : ℤ
  pub events : ℤ
  pub last_thread : Option ℤ
  pub ended : Bool

infixl 10 ◌>>=◌
abbrev pub ◌>>=◌ : {A B : Type 0} → Option A → (A → Option B) → Option B
o >>= f = option_and_then f o

-- ---- at the node with this number, and None where there is no such node

-- the longest first part of a range that stays in one watch page, and None where the range doesn't lie in memory
abbrev pub part_of : Memory → ℕ → ℕ → Option (List ℕ)
part_of memory addr len = if is_inside memory addr len then Some (bytes_from memory addr (stretch_in_page addr len)) else None

abbrev pub part_at : List Node → ℕ → ℕ → ℕ → Option (List ℕ)
part_at nodes node addr len = slice_get nodes node >>= λ s. part_of s.memory addr len

-- so many bytes, and None where one of them doesn't lie in memory
abbrev pub piece_in_memory : Memory → ℕ → ℕ → Option (List ℕ)
piece_in_memory memory addr len = if is_inside memory addr len then Some (bytes_from memory addr len) else None

abbrev pub bytes_of_node : List Node → ℕ → ℕ → ℕ → Option (List ℕ)
bytes_of_node nodes node addr len = slice_get nodes node >>= λ s. piece_in_memory s.memory addr len

-- the nth global, and None where there is none
abbrev pub global_at : List Node → ℕ → ℕ → Option ℤ
global_at nodes node n = slice_get nodes node >>= λ s. slice_get s.globals n

abbrev pub node_clock : List Node → ℕ → Option ℤ
node_clock nodes node = option_map (λ s. s.clock) (slice_get nodes node)

abbrev pub events_at : List Node → ℕ → Option ℤ
events_at nodes node = option_map (λ s. s.events) (slice_get nodes node)

-- the thread of its last event
abbrev pub last_thread_at : List Node → ℕ → Option ℤ
last_thread_at nodes node = slice_get nodes node >>= λ s. s.last_thread

-- it has ended
abbrev pub has_ended_at : List Node → ℕ → Option Bool
has_ended_at nodes node = option_map (λ s. s.ended) (slice_get nodes node)

-- the size of its memory in Wasm pages
abbrev pub size_at : List Node → ℕ → Option ℕ
size_at nodes node = option_map (λ s. size_of s.memory) (slice_get nodes node)
