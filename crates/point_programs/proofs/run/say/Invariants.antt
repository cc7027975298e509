use Rattle.std.proofs.Common.{◌≡◌, ◌++◌, drop, map}
use Rattle.std.specs.List.{flat_map}
use Rattle.point_programs.specs.Running.{program_setting, said_item}
use Rattle.point_programs.specs.Tree.{item_of}
use Rattle.point_programs.specs.declared.program.SayItem.{SayItem}
use Rattle.point_programs.proofs.run.say.Given as goal

abbrev pub invariant-loop-item : goal.invariant-loop-item
invariant-loop-item g l =
    l.out ++ flat_map (said_item (program_setting (g.V.View.nodes l.v) l.by.node l.by.name.now) l.vars) (map {A = SayItem} item_of (drop l.item-index l.items))
    ≡ l.initial.out ++ flat_map (said_item (program_setting (g.V.View.nodes l.v) l.by.node l.by.name.now) l.vars) (map {A = SayItem} item_of l.items)
