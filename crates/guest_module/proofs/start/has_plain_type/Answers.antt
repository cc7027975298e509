use Rattle.std.proofs.Common.{Option, false, sym, ap, ◌∙◌}
use Rattle.std.specs.Option.{option_map_or}
use Rattle.wasm_types.specs.Modules.{FuncType, module_of}
use Rattle.guest_module.specs.Valid.{is_plain}
use Rattle.guest_module.proofs.Starts.{same_lookup}
use Rattle.guest_module.proofs.start.has_plain_type.Goals as goal

pub returns-in-Some : goal.returns-in-Some
returns-in-Some c =
    c.is_plain.ensures
    ∙ sym (ap (λ (o : Option FuncType). option_map_or is_plain o false) (same_lookup (module_of c.args.«module».now) c.args.func c.requires ∙ c.in-Some.ensures.some))

pub returns-in-None : goal.returns-in-None
returns-in-None c =
    sym (ap (λ (o : Option FuncType). option_map_or is_plain o false) (same_lookup (module_of c.args.«module».now) c.args.func c.requires ∙ c.in-None.ensures.none))
