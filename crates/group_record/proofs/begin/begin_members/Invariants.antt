use Rattle.std.proofs.Common.{map}
use Rattle.wasm_types.specs.Modules.{module_of}
use Rattle.group_record.proofs.FirstProcesses.{HaveStarted}
use Rattle.group_record.proofs.begin.begin_members.Given as goal

abbrev pub invariant-loop-p : goal.invariant-loop-p
invariant-loop-p l = HaveStarted (map (λ line. line.name) l.lines) (map module_of l.modules) l.p l.members.items
