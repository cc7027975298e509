use Rattle.std.proofs.Common.{◌≡◌, reverse, drop}
use Rattle.std.specs.List.{list_all}
use Rattle.wasm_types.specs.Labels.{has_label}
use Rattle.wasm_typing.proofs.labels.table_label.Given as goal

abbrev pub invariant-loop-depth : goal.invariant-loop-depth
invariant-loop-depth l =
    list_all (has_label (reverse l.labels) l.label) (drop l.depth-index l.depths) ≡ list_all (has_label (reverse l.labels) l.label) l.depths
