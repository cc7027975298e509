-- What is read of the files: modules, and the first states of their processes.
use Rattle.std.specs.Prelude.{ℕ, List, Result}
use Rattle.fri_outside.specs.Outside.{Folder}
use Rattle.wasm_types.specs.Modules.{Module}
use Rattle.wasm_decode.specs.Sections.{module_of_bytes}
use Rattle.guest_process.specs.Start.{start}
use Rattle.guest_process.specs.State.{State}
use Rattle.command_run.specs.declared.refusal.Reason.TheVariants as reason
use Rattle.command_run.specs.Limits.{most_module}
use Rattle.command_run.specs.Fault.{fault_of}
use Rattle.command_run.specs.Outcome.{CommandStop, and_then, file_of, some_or_refused, unless_refused}

-- a module that is valid
abbrev pub valid_module : List ℕ → Module → Result Module CommandStop
valid_module name m = unless_refused name m (fault_of m)

abbrev pub module_in : Folder → List ℕ → Result Module CommandStop
module_in folder name = and_then (file_of folder name most_module) (λ bytes. and_then (some_or_refused name reason.Malformed (module_of_bytes bytes)) (valid_module name))

-- the first state of a process of a module, whose file has this name
abbrev pub first_state_of : List ℕ → Module → ℕ → ℕ → Result State CommandStop
first_state_of name m who count = some_or_refused name reason.BadSegment (start m who count)
