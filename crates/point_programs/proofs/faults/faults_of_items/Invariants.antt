use Rattle.std.proofs.Common.{◌≡◌, ◌||◌, drop, map}
use Rattle.std.specs.List.{list_any}
use Rattle.point_programs.specs.Faulty.{lacks_item, nests_item}
use Rattle.point_programs.specs.Tree.{item_of}
use Rattle.point_programs.proofs.faults.faults_of_items.Given as goal

abbrev pub invariant-loop-item : goal.invariant-loop-item
invariant-loop-item l = record {
  nested : (l.faults.nested || list_any nests_item (map item_of (drop l.item-index l.items))) ≡ list_any nests_item (map item_of l.items);
  no_node : (l.faults.no_node || list_any lacks_item (map item_of (drop l.item-index l.items))) ≡ list_any lacks_item (map item_of l.items);
}
