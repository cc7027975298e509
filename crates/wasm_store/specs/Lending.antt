-- A store that lends its memory.
use Rattle.std.specs.Prelude.{[]}
use Rattle.std.specs.Borrow.{Lends, MutBor, Fml}
use mir.Syntax.{named}
use Rattle.guest_memory.specs.Memory.{Memory}
use Rattle.guest_memory.specs.contracts.memory.Memory as memory
use Rattle.wasm_store.specs.contracts.store.Store as store
use Rattle.wasm_store.specs.Store.{Store}

-- the store has the memory that the reference leaves, and is otherwise as it was
abbrev pub LendsMemory : MutBor Store → MutBor Memory → Fml
LendsMemory s result =
    Lends (store.the_row (record { mir = named 1; lft = [] })) memory.the_row s result (λ memory. record s.now { memory = memory })
