-- What the strands and handlers of a process owe its module.
use Rattle.std.specs.Prelude.{◌≡◌, ℕ, Some, None, All}
use Rattle.call_table.specs.declared.kind.Kind.{Kind}
use Rattle.call_table.specs.declared.kind.Kind.TheVariants.{Begin}
use Rattle.guest_module.specs.Library.{IsOfLibrary}
use Rattle.wasm_types.specs.Modules.{Module}
use Rattle.wasm_step.specs.Strand.{IsHandler, IsResult, library_result}
use Rattle.guest_process.specs.declared.waiting.Waiting.{Waiting}
use Rattle.guest_process.specs.Fits.{Each}
use Rattle.guest_process.specs.GoesOn.{handler}
use Rattle.guest_process.specs.Kinds.{reply_value}
use Rattle.guest_process.specs.State.{State}

-- a thread at `begin` has not run yet; another is at a call whose result is of its kind's type
abbrev pub StandsAtKind : Module → Waiting → Kind → Type 0
StandsAtKind m w Begin = w.strand.call ≡ None
StandsAtKind m w kind = (func : ℕ) × (w.strand.call ≡ Some func) × ((reply : ℕ) → IsResult (library_result m func) (reply_value kind reply))

pub record IsStandingAtCall (m : Module) (w : Waiting) : Type 0 where
  pub same_module : w.strand.«module» ≡ m
  pub stands : StandsAtKind m w w.call.kind

-- the module imports functions of the library alone, each thread is one of the module, and so is each
-- function that handles a signal
pub record IsSoundProcess (S : State) : Type 0 where
  pub imports : All (IsOfLibrary S.store.«module».types) S.store.«module».imports
  pub threads : Each (IsStandingAtCall S.store.«module») S.crew.threads
  pub handlers : (signal func : ℕ) → handler S.handlers signal ≡ Some func → IsHandler S.store.«module» func
