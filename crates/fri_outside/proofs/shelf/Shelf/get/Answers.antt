use Rattle.std.proofs.Common.{Some, ap, ◌∙◌}
use Rattle.std.specs.FinMap.{get}
use Rattle.fri_outside.specs.Outside.{Folder}
use Rattle.fri_outside.proofs.StoredFiles.{get_some, get_none}
use Rattle.fri_outside.proofs.shelf.Shelf.get.Goals as goal

pub returns-in-Some : goal.returns-in-Some
returns-in-Some c =
    ap Some c.as_slice.ensures.value
    ∙ get_some c.self.inside.files c.args.name.now _ c.in-Some.ensures.value
    ∙ ap (λ (s : Folder). get s c.args.name.now) c.self.view_is

pub returns-in-None : goal.returns-in-None
returns-in-None c = get_none c.self.inside.files c.args.name.now c.in-None.ensures.value
    ∙ ap (λ (s : Folder). get s c.args.name.now) c.self.view_is
