use Rattle.std.proofs.Common.{refl}
use Rattle.conversation.specs.Talker.{talker_of}
use Rattle.conversation.proofs.SessionEnds.{conversed_memory}
use Rattle.conversation.proofs.WholeSessions.{unbegun}
use Rattle.conversation.proofs.laws.ends_unbegun.Goals as goal

pub returns : goal.returns
returns g c = λ opening state terminal.
    let talker = talker_of opening state g.S.LineSession.answer in
    conversed_memory talker terminal terminal (unbegun talker terminal) refl refl
