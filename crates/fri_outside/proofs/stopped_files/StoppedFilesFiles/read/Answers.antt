use Rattle.std.proofs.Common.{◌≡◌, ◌∙◌, ap, rules}
use Rattle.fri_outside.specs.Outside.{Counts, after_read}
use Rattle.fri_outside.proofs.stopped_files.StoppedFilesFiles.read.Goals.{then-count_call, else-count_call}
use Rattle.fri_outside.proofs.stopped_files.StoppedFilesFiles.read.Goals as goal

pub returns-clause-counted : goal.returns-clause-counted
returns-clause-counted g c =
    let same : c.if-count_call.self.faults ≡ c.args.self.now.faults =
    elim c.if-count_call.branch [ then-count_call w ↦ search rules | else-count_call w ↦ search rules ] in
    c.count_read.ensures c.args.name.now ∙ ap (λ (counts : Counts). after_read c.args.name.now counts c.if-count_call.outcome) same
