use Rattle.std.proofs.Common.{◌≡◌, drop}
use Rattle.std.specs.Prelude.{map}
use Rattle.std.specs.List.{list_all}
use Rattle.wasm_types.specs.Modules.{elem}
use Rattle.wasm_store.specs.inside.Begun.{first_values}
use Rattle.wasm_store.specs.Start.{is_elem_inside}
use Rattle.wasm_store.proofs.start.are_elems_inside.Given as goal

abbrev pub invariant-loop-segment : goal.invariant-loop-segment
invariant-loop-segment l =
    list_all (is_elem_inside (first_values l.globals) l.len) (map elem l.segments) ≡ list_all (is_elem_inside (first_values l.globals) l.len) (map elem (drop l.segment-index l.segments))
