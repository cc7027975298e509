use Rattle.std.proofs.Common.{◌≡◌, ℕ, true, false, Option, sym, subst}
use Rattle.std.specs.Prelude.{IsSome}
use Rattle.wasm_types.specs.Modules.{module_of}
use Rattle.guest_module.proofs.Starts.{entry_there}
use Rattle.guest_module.proofs.valid.entry.Goals as goal

pub unreachable-requires : goal.unreachable-requires
unreachable-requires c =
    let there = entry_there (module_of c.args.«module».now) c.requires in
    let impossible : false ≡ true = subst (λ (o : Option ℕ). IsSome o) (sym c.in-None.ensures.is) there in
    cc
