use Rattle.std.proofs.Common.{◌++◌, ap, ◌∙◌, rules}
use Rattle.std.specs.FinMap.{insert}
use Rattle.std.proofs.lemmas.Result.{err_from_is_err_and, on_ok_weaker}
use Rattle.fri_outside.specs.Outside.{Folder, bytes_at}
use Rattle.fri_outside.proofs.StoredFiles.{folder_appended, folder_kept, folder_begun}
use Rattle.fri_outside.proofs.shelf.Shelf.append.Goals as goal

pub returns-in_err-extend_from_slice-in-Some-clause-err :
    goal.returns-in_err-extend_from_slice-in-Some-clause-err
returns-in_err-extend_from_slice-in-Some-clause-err c =
    let written = c.extend_from_slice.new.self in
    let p = err_from_is_err_and c.from_residual.result c.from_residual.ensures.1 in
    rw p.1 (folder_kept c.self.inside.files (c.get_mut.follows.lender written) c.args.name.now _ written
    ((c.get_mut.follows.holds written).3 (search rules)) c.in-Some.ensures.value c.in_err-extend_from_slice-in-Some.ensures.items
    ∙ c.self.view_is)

pub returns-in_ok-extend_from_slice-in-Some-clause-ok :
    goal.returns-in_ok-extend_from_slice-in-Some-clause-ok
returns-in_ok-extend_from_slice-in-Some-clause-ok c =
    let written = c.extend_from_slice.new.self in
    folder_appended c.self.inside.files (c.get_mut.follows.lender written) c.args.name.now c.args.piece.now _ written
    ((c.get_mut.follows.holds written).3 (search rules)) c.in-Some.ensures.value c.in_ok-extend_from_slice-in-Some.ensures.items
    ∙ ap (λ (s : Folder). insert s c.args.name.now (bytes_at s c.args.name.now ++ c.args.piece.now)) c.self.view_is

pub returns-in_ok-bytes-in-None-clause-ok : goal.returns-in_ok-bytes-in-None-clause-ok
returns-in_ok-bytes-in-None-clause-ok c =
    on_ok_weaker c.put.result
    (λ set. folder_begun c.self.inside.files c.args.self.now c.put.new.self c.args.name.now c.args.piece.now c.in_ok-bytes-in-None.bytes.items
    c.in-None.ensures.value c.self.view_is c.in_ok-bytes-in-None.ensures.items
    (rw c.get_mut.follows.holds-at-none at set))
    c.put.ensures.ok
