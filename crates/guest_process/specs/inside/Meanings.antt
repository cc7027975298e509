-- The state that the body of a process stands for, and what holds of it.
use Rattle.std.specs.Prelude.{◌≡◌}
use Rattle.guest_process.specs.declared.body.Body.{Body}
use Rattle.wasm_types.specs.Modules.{module_of}
use Rattle.wasm_store.specs.Suits.{SuitsModule}
use Rattle.guest_process.specs.State.{State}
use Rattle.guest_process.specs.Fits.{StateFits}
use Rattle.guest_process.specs.Sound.{IsSoundProcess}

abbrev pub state_of : Body → State
state_of p = record {
  who = p.who;
  count = p.count;
  store = p.store;
  crew = p.crew;
  handlers = p.handlers;
  clock = p.clock;
  events = p.events;
  last_thread = p.last_thread;
  end = p.end;
  trap_frames = p.trap_frames;
}

-- what holds of each process of a valid module
pub record BodyInvariant (p : Body) : Type 0 where
  pub same_module : module_of p.«module».now ≡ p.store.«module»
  pub suits : SuitsModule p.store
  pub fits : StateFits (state_of p)
  pub sound : IsSoundProcess (state_of p)
