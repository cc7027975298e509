-- Where the segments begin, and whether they fit, before anything is made.
use Rattle.std.proofs.Common.{◌≡◌, ℕ, ◌*◌, ◌<◌, List, Some, None, length, get_or, refl, sym, ap, ◌∙◌, arith}
use Rattle.std.specs.Prelude.{◌&&◌, map, slice_get, option_map}
use Rattle.std.proofs.lemmas.Option.{slice_get-map, slice_get_read}
use Rattle.std.specs.List.{list_all}
use Rattle.std.proofs.lemmas.List.{length-replicate}
use Rattle.guest_memory.specs.Memory.{zero_bytes}
use Rattle.wasm_types.specs.declared.code.Value.{Value}
use Rattle.wasm_types.specs.declared.modules.GlobalDef.{GlobalDef}
use Rattle.wasm_types.specs.Modules.{Module, global_def}
use Rattle.wasm_store.specs.inside.Begun.{first_values}
use Rattle.wasm_store.specs.Start.{memory_before_segments, empty_table, first_min, initial_value, initial_globals, is_elem_inside, is_segment_within, segments_fit}

-- an empty memory has the bytes of its pages
empty_bytes : (m : Module) → length (memory_before_segments m).bytes ≡ first_min m.mems * 65536
unfolding zero_bytes
empty_bytes m = length-replicate (65536 * first_min m.mems) 0 ∙ omega arith

pub fit_by_sizes : (m : Module) (places bytes : ℕ) → places ≡ first_min m.tables → bytes ≡ first_min m.mems * 65536
    → (list_all (is_elem_inside (initial_globals m) places) m.elems && list_all (is_segment_within (initial_globals m) bytes) m.segments) ≡ segments_fit m
fit_by_sizes m places bytes of_table of_memory =
    ap (λ n. list_all (is_elem_inside (initial_globals m) n) m.elems && list_all (is_segment_within (initial_globals m) bytes) m.segments) (of_table ∙ sym (length-replicate (first_min m.tables) None))
    ∙ ap (λ n. list_all (is_elem_inside (initial_globals m) (length (empty_table m))) m.elems && list_all (is_segment_within (initial_globals m) n) m.segments) (of_memory ∙ sym (empty_bytes m))

-- the first value of a global that was read
pub value_read : (globals : List GlobalDef) (k : ℕ) (global : GlobalDef) (value : Value) → k < length globals → global ≡ get_or globals k global → value ≡ initial_value (global_def global)
    → Some value ≡ slice_get (first_values globals) k
value_read globals k global value within read e =
    ap Some e
    ∙ sym (slice_get-map initial_value (map global_def globals) k
    ∙ ap (option_map initial_value) (slice_get-map global_def globals k ∙ ap (option_map global_def) (slice_get_read globals (length globals) k global refl within read)))
