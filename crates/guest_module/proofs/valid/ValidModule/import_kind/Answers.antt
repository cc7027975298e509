use Rattle.std.proofs.Common.{◌≡◌, ◌∙◌, ap, slice_get, arith}
use Rattle.std.specs.Option.{option_flatten}
use Rattle.std.proofs.lemmas.Grind.{common_steps}
use Rattle.std.proofs.lemmas.Option.{gets}
use Rattle.guest_module.proofs.ImportLemmas.{kind_there}
use Rattle.guest_module.proofs.valid.ValidModule.import_kind.Goals as goal

pub returns : goal.returns
returns c =
    let inside = c.self.inside in
    let held : c.copied.result ≡ slice_get inside.kinds.items c.args.func = grind (arith, common_steps, gets) in
    let found = kind_there inside.valid.imports.items inside.kinds.items c.args.func c.self.invariant.2 in
    rw (← c.self.view_is) (c.flatten.ensures ∙ ap option_flatten held ∙ found)
