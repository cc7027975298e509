use Rattle.std.proofs.Common.{subst}
use Rattle.wasm_validate.specs.Refusals.{IsFirst}
use Rattle.wasm_types.specs.Modules.{module_of as shown}
use Rattle.command_run.specs.declared.refusal.Reason.TheVariants as reason
use Rattle.command_run.proofs.ModuleFaults.{bad_import, fault_stops}
use Rattle.command_run.proofs.inputs.valid.Goals as goal

pub returns-in-Err-BadImport-clause-answer : goal.returns-in-Err-BadImport-clause-answer
returns-in-Err-BadImport-clause-answer c =
    fault_stops c.args.name.now (shown c.args.«module») reason.BadImport c.refuse-in-Err-BadImport.result (bad_import c.exact_fault.ensures (shown c.args.«module») (subst (IsFirst (shown c.args.«module»)) c.in-Err-BadImport.field-0-is c.in-Err-BadImport.ensures.refused)) c.refuse-in-Err-BadImport.ensures
