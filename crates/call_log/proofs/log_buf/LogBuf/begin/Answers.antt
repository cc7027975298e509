use Rattle.std.proofs.Common.{◌≡◌, ◌∙◌, ◌-◌, ◌++◌, Some, ap, arith, length, length-append, subst, sym}
use Rattle.call_log.specs.Head.{IsHead, head_bytes, head_of}
use Rattle.call_log.specs.Log.{Log, head_at, unread_after_head}
use Rattle.call_log.specs.inside.Kept.{kept_log}
use Rattle.call_log.proofs.HeadLemmas.{head_at-begins, head_at-none}
use Rattle.call_log.proofs.KeptHead.{are_log, kept_is}
use Rattle.call_log.proofs.log_buf.LogBuf.begin.Goals as goal

pub returns-in_default-clause-missing : goal.returns-in_default-clause-missing
returns-in_default-clause-missing c = ap head_at (sym c.deref.ensures.value) ∙ head_at-none _ c.in_default.ensures.none

-- what was read of the bytes
spelled : (c : goal.After-len) → c.args.bytes.items ≡ head_bytes (head_of c.in-Some.head) ++ c.in-Some.rest.now
spelled c = sym c.deref.ensures.value ∙ c.in-Some.ensures.spelled

ends : (c : goal.After-len) → c.len.result - length c.in-Some.rest.now ≡ length (head_bytes (head_of c.in-Some.head))
ends c = omega (arith, c.len.ensures, c.deref.ensures.len, ap length c.deref.ensures.value, ap length (spelled c), length-append (head_bytes (head_of c.in-Some.head)) c.in-Some.rest.now)

kept : (c : goal.After-len) → kept_log c.args.bytes.items c.in-Some.head.version c.in-Some.head.count c.in-Some.head.process (c.len.result - length c.in-Some.rest.now)
    ≡ record { head = head_of c.in-Some.head; left = unread_after_head (head_of c.in-Some.head) c.in-Some.rest.now }
kept c = kept_is (head_of c.in-Some.head) c.args.bytes.items c.in-Some.rest.now _ (spelled c) (ends c)

pub invariant_of-result : goal.invariant_of-result
invariant_of-result c = are_log (head_of c.in-Some.head) c.args.bytes.items c.in-Some.rest.now _ c.in-Some.ensures.head (spelled c) (ends c)

pub returns-clause-head : goal.returns-clause-head
returns-clause-head c = subst (λ (log : Log). IsHead log.head) (sym (kept c)) c.in-Some.ensures.head

pub returns-clause-spelled : goal.returns-clause-spelled
returns-clause-spelled c = spelled c ∙ ap (λ (log : Log). head_bytes log.head ++ log.left.bytes) (sym (kept c))

pub returns-clause-found : goal.returns-clause-found
returns-clause-found c =
    head_at-begins c.exact_readers.ensures _ _ _ c.in-Some.ensures.head (spelled c) ∙ ap (λ (log : Log). Some (log.head, log.left)) (sym (kept c))
