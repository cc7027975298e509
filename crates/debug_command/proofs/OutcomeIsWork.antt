-- A group and an input within the limit have an outcome that is work.
use Rattle.log_pairs.specs.Laws.{OpensGroups}
use Rattle.conversation.specs.OpeningLaws.{opened_works}
use Rattle.debug_command.specs.Session.{debug_opener}
use Rattle.debug_command.specs.Laws.{SessionsWork}

pub sessions_do_work : OpensGroups → SessionsWork
sessions_do_work opens pairs folder left h =
    let opened = opens folder pairs h.group in
    opened_works (debug_opener pairs) folder opened.0 left h.input opened.1 h.told (h.within opened.0 opened.1)
