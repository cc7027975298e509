use Rattle.std.proofs.Common.{◌≡◌, drop, length}
use Rattle.std.specs.Prelude.{map, IsTrue}
use Rattle.std.specs.List.{list_all}
use Rattle.wasm_types.specs.Modules.{elem}
use Rattle.wasm_store.specs.inside.Begun.{first_values}
use Rattle.wasm_store.specs.Start.{is_elem_inside, put_elems}
use Rattle.wasm_store.proofs.start.put_elems.Given as goal

abbrev pub invariant-loop-segment : goal.invariant-loop-segment
invariant-loop-segment l = record {
  left : put_elems (first_values l.globals) (map elem (drop l.segment-index l.segments)) l.table ≡ put_elems (first_values l.globals) (map elem l.segments) l.initial.table;
  inside : IsTrue (list_all (is_elem_inside (first_values l.globals) (length l.table)) (map elem (drop l.segment-index l.segments)));
}
