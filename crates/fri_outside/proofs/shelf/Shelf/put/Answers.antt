use Rattle.std.proofs.Common.{List, ℕ, string_bytes, ap, ◌∙◌}
use Rattle.std.specs.FinMap.{insert}
use Rattle.fri_outside.specs.Outside.{Folder}
use Rattle.fri_outside.proofs.StoredFiles.{folder_put}
use Rattle.fri_outside.proofs.shelf.Shelf.put.Goals as goal

pub returns-clause-ok : goal.returns-clause-ok
returns-clause-ok c =
    folder_put c.self.inside.files c.insert.new.self _ c.args.bytes c.in_ok-insert.ensures.updates
    ∙ ap (λ (s : Folder). insert s (string_bytes c.in_ok-key.key) c.args.bytes.items) c.self.view_is
    ∙ ap (λ (k : List ℕ). insert c.args.self.now k c.args.bytes.items) c.in_ok-key.ensures.ok
