-- The nodes of a group that an expression is evaluated over.
use Rattle.std.specs.Prelude.{List, map, not, option_map, ℤ, pos}
use Rattle.std.specs.Int.{cast_signed, w32, w64}
use Rattle.wasm_types.specs.declared.code.Value.{Value}
use Rattle.wasm_types.specs.declared.code.Value.TheVariants.{I32, I64}
use Rattle.guest_process.specs.State.{State, is_running}
use Rattle.watch_expr.specs.View.{Node}
use Rattle.group_state.specs.Place.{GroupPlace, states_of_nodes}

-- the value of a global, signed
abbrev pub signed_global : Value → ℤ
signed_global (I32 x) = cast_signed w32 x
signed_global (I64 x) = cast_signed w64 x

abbrev pub seen_node : State → Node
seen_node S = record {
  memory = S.store.memory;
  globals = map signed_global S.store.globals;
  clock = pos S.clock;
  events = pos S.events;
  last_thread = option_map pos S.last_thread;
  ended = not (is_running S);
}

-- the nodes at the position
abbrev pub nodes_at : GroupPlace → List Node
nodes_at place = map seen_node (states_of_nodes place.start place.at)
