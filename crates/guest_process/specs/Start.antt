-- How a process begins.
use Rattle.std.specs.Prelude.{ℕ, [], Option, Some, None}
use Rattle.call_table.specs.declared.kind.Kind.TheVariants.{Begin}
use Rattle.coop_threads.specs.Crew.{empty, with_live}
use Rattle.lib_calls.specs.declared.entry.Call.{Call}
use Rattle.guest_signals.specs.Signals.{no_handlers}
use Rattle.wasm_types.specs.Modules.{Module}
use Rattle.wasm_store.specs.Start.{first_store}
use Rattle.wasm_store.specs.Store.{Store}
use Rattle.wasm_step.specs.Strand.{Strand, first_thread}
use Rattle.wasm_stack.specs.Thread.{Thread}
use Rattle.guest_process.specs.declared.end.End.TheVariants.{Running}
use Rattle.guest_process.specs.declared.waiting.Waiting.{Waiting}
use Rattle.guest_process.specs.State.{State, awaits_event}

-- the call `begin`
abbrev pub begin : Call
begin = record { kind = Begin; a0 = 0; a1 = 0; a2 = 0 }

-- a thread that waits at `begin`
abbrev pub waits_at_begin : Strand → Waiting
waits_at_begin strand = record { call = begin; strand = strand }

-- a thread of the module that stands there
abbrev pub waiting_at : Module → Thread → Waiting
waiting_at m thread = waits_at_begin (record { «module» = m; thread = thread; call = None })

-- thread 0 is at `begin`, and nothing has happened
abbrev pub begun_process : Module → ℕ → ℕ → Store → Thread → State
begun_process m who count store thread = awaits_event (record {
  who = who;
  count = count;
  store = store;
  crew = with_live empty (waiting_at m thread);
  handlers = no_handlers;
  clock = 0;
  events = 0;
  last_thread = None;
  end = Running;
  trap_frames = [];
})

abbrev pub begun_with : Module → ℕ → ℕ → Option Store → Option Thread → Option State
begun_with m who count None thread = None
begun_with m who count (Some store) None = None
begun_with m who count (Some store) (Some thread) = Some (begun_process m who count store thread)

-- process `who` of a group of `count`, or nothing where a segment ends past its table or memory
abbrev pub start : Module → ℕ → ℕ → Option State
start m who count = begun_with m who count (first_store m) (first_thread m)
