use Rattle.std.proofs.Common.{◌∙◌, ap, ◌++◌}
use Rattle.process_files.proofs.NamesAreText.{name_utf8}
use Rattle.process_files.proofs.naming.process_file.Goals as goal

pub returns : goal.returns
returns c = c.in_ok-push_str.ensures.bytes ∙ ap (λ t. t ++ c.args.ending.now) (c.in_ok-file.ensures.ok (name_utf8 c.args.name.now c.requires))
