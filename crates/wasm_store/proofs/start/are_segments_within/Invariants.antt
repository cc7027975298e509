use Rattle.std.proofs.Common.{◌≡◌, drop}
use Rattle.std.specs.Prelude.{map}
use Rattle.std.specs.List.{list_all}
use Rattle.wasm_types.specs.Modules.{segment}
use Rattle.wasm_store.specs.inside.Begun.{first_values}
use Rattle.wasm_store.specs.Start.{is_segment_within}
use Rattle.wasm_store.proofs.start.are_segments_within.Given as goal

abbrev pub invariant-loop-segment : goal.invariant-loop-segment
invariant-loop-segment l =
    list_all (is_segment_within (first_values l.globals) l.len) (map segment l.segments) ≡ list_all (is_segment_within (first_values l.globals) l.len) (map segment (drop l.segment-index l.segments))
