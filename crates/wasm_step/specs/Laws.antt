-- Laws of bursts.
use Rattle.std.specs.Prelude.{◌≡◌, ℕ}
use Rattle.wasm_types.specs.Modules.{Module}
use Rattle.guest_module.specs.Valid.{IsValid}
use Rattle.wasm_store.specs.Marks.{MarksNoLater, StoreMarksTell}
use Rattle.wasm_store.specs.Store.{Store}
use Rattle.wasm_store.specs.Suits.{SuitsModule}
use Rattle.wasm_step.specs.Burst.{burst}
use Rattle.wasm_step.specs.Fits.{BurstFits, ThreadFits}
use Rattle.wasm_stack.specs.Thread.{Thread}

-- A burst of a valid module, from a thread that fits it and a store that suits it, never sticks: it stops at
-- a call of an imported function, at the thread's end or by a trap. The store then still suits.
abbrev pub NeverSticks : Type 0
NeverSticks =
    (m : Module) (n : ℕ) (t : Thread) (g : Store) → IsValid m → g.«module» ≡ m → SuitsModule g → ThreadFits m t → BurstFits m (burst n t g)

-- a burst leaves the module as it is
abbrev pub KeepsModule : Type 0
KeepsModule = (n : ℕ) (t : Thread) (g : Store) → (burst n t g).store.«module» ≡ g.«module»

-- a burst marks nothing later than the event that writes
abbrev pub KeepsStamps : Type 0
KeepsStamps = (n : ℕ) (t : Thread) (g : Store) → MarksNoLater g (burst n t g).store

-- what does not bear the number of the event that writes is as it was before the burst
abbrev pub TellsMarks : Type 0
TellsMarks = (n : ℕ) (t : Thread) (g : Store) → StoreMarksTell g.memory.number g (burst n t g).store
