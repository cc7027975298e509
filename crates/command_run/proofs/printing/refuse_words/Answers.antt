use Rattle.std.proofs.Common.{refl}
use Rattle.command_run.proofs.CommandEnds.{words_end}
use Rattle.command_run.proofs.printing.refuse_words.Goals as goal

pub returns-clause-ends : goal.returns-clause-ends
returns-clause-ends g c = λ told counts.
    let e = c.say.ensures in
    words_end c.say.result _ _ refl e.status e.text e.read_fault refl e.counted e.heard
