-- What the marks of a store tell.
use Rattle.std.specs.Prelude.{◌≡◌, ℕ, ◌<◌, ◌≤◌, List, length, slice_get}
use Rattle.guest_memory.specs.Laws.{StampsTell}
use Rattle.guest_memory.specs.Memory.{with_bytes}
use Rattle.guest_memory.specs.Stamps.{AreWithin}
use Rattle.wasm_types.specs.declared.code.Value.{Value}
use Rattle.wasm_store.specs.Store.{Store, global_stamp_of, with_global, with_growth}

-- the global is as it was
pub record SameGlobal (old new : Store) (n : ℕ) : Type 0 where
  pub stamp : global_stamp_of new n ≡ global_stamp_of old n
  pub value : n < length old.global_stamps → slice_get new.globals n ≡ slice_get old.globals n

-- Each page of the memory and each global bears this number or is as it was, and so does the memory's size. None
-- is gone.
pub record StoreMarksTell (number : ℕ) (old new : Store) : Type 0 where
  pub memory : StampsTell number old.memory new.memory
  pub places : length new.global_stamps ≡ length old.global_stamps
  pub globals : (n : ℕ) → (global_stamp_of new n ≡ number → ⊥) → SameGlobal old new n
  pub size : (new.size_stamp ≡ number → ⊥) → (new.size_stamp ≡ old.size_stamp) × (length new.memory.stamps ≡ length old.memory.stamps)

-- each global has a mark, and no mark is above this number
pub record MarksWithin (most : ℕ) (g : Store) : Type 0 where
  pub stamps : AreWithin most g.memory.stamps
  pub global_stamps : AreWithin most g.global_stamps
  pub size_stamp : g.size_stamp ≤ most
  pub even : length g.global_stamps ≡ length g.globals

-- the same event writes, and where no mark was later than it, none is
pub record MarksNoLater (old new : Store) : Type 0 where
  pub number : new.memory.number ≡ old.memory.number
  pub within : MarksWithin old.memory.number old → MarksWithin old.memory.number new

-- what an event left of the marks: none is later than it, and what it has not marked is as it was
pub record MarkedStore (old new : Store) : Type 0 where
  pub later : MarksNoLater old new
  pub told : StoreMarksTell old.memory.number old new

-- ---- laws

abbrev pub SetMarks : Type 0
SetMarks = (g : Store) (n : ℕ) (v : Value) → MarkedStore g (with_global g n v)

abbrev pub MarkedByGrowth : Type 0
MarkedByGrowth = (g : Store) (pages : ℕ) → MarkedStore g (with_growth g pages)

abbrev pub WritesMark : Type 0
WritesMark = (g : Store) (addr : ℕ) (piece : List ℕ) → MarkedStore g (record g { memory = with_bytes g.memory addr piece })

abbrev pub MarkedReflexive : Type 0
MarkedReflexive = (g : Store) → MarkedStore g g

-- one thing after the other
abbrev pub MarkedTransitive : Type 0
MarkedTransitive = (a b c : Store) → MarkedStore a b → MarkedStore b c → MarkedStore a c
