use Rattle.std.proofs.Common.{◌≡◌, drop}
use Rattle.std.specs.Prelude.{map}
use Rattle.wasm_types.specs.Modules.{segment}
use Rattle.wasm_store.specs.inside.Begun.{first_values}
use Rattle.wasm_store.specs.Start.{put_segments}
use Rattle.wasm_store.proofs.start.put_segments.Given as goal

abbrev pub invariant-loop-segment : goal.invariant-loop-segment
invariant-loop-segment l =
    put_segments (first_values l.globals) (map segment (drop l.segment-index l.segments)) l.memory ≡ put_segments (first_values l.globals) (map segment l.segments) l.initial.memory
