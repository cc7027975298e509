use Rattle.std.proofs.Common.{refl}
use Rattle.record_command.proofs.ModuleNames.{named_by}
use Rattle.record_command.proofs.inputs.refuse_module.Goals as goal

pub returns-in-Ok : goal.returns-in-Ok
returns-in-Ok c = (
  named_by c.args.schedule.now c.args.p c.processes.result.now c.index-processes-p.result c.as_slice.result.now _
      c.processes.ensures.in_range c.requires c.processes.ensures.value c.as_slice.ensures c.in-Ok.ensures.ok,
  refl,
)
