use Rattle.call_log.proofs.FrontStays.{kept_on_err}
use Rattle.call_log.proofs.put.put_reply.Goals as goal

pub returns-clause-err : goal.returns-clause-err
returns-clause-err c =
    kept_on_err c.put_string_if.result _ _ _ _ c.in_ok-put_number_u64.ensures.ok (kept_on_err _ _ _ _ _ c.in_ok-put_length_if.ensures.ok c.put_string_if.ensures.err)
