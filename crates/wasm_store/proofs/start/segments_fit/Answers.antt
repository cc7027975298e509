use Rattle.std.proofs.Common.{◌≡◌, ◌*◌, true, sym, ap, ◌∙◌}
use Rattle.std.specs.Prelude.{◌&&◌}
use Rattle.std.specs.List.{list_all}
use Rattle.wasm_types.specs.Modules.{module_of}
use Rattle.wasm_store.specs.Start.{first_min, initial_globals, is_elem_inside, is_segment_within}
use Rattle.wasm_store.proofs.SegmentsFit.{fit_by_sizes}
use Rattle.wasm_store.proofs.start.segments_fit.Goals as goal

pub returns-then-are_elems_inside : goal.returns-then-are_elems_inside
returns-then-are_elems_inside c =
    let m = module_of c.args.module.now in
    let places = c.from-places.result in
    let bytes = c.from-bytes.result * 65536 in
    let of_table : places ≡ first_min m.tables = cc in
    let of_memory : c.from-bytes.result ≡ first_min m.mems = cc in
    let elems : list_all (is_elem_inside (initial_globals m) places) m.elems ≡ true = cc in
    let segments : c.are_segments_within.result ≡ list_all (is_segment_within (initial_globals m) bytes) m.segments = cc in
    segments ∙ ap (λ b. b && list_all (is_segment_within (initial_globals m) bytes) m.segments) (sym elems)
    ∙ fit_by_sizes m places bytes of_table (ap (λ n. n * 65536) of_memory)
