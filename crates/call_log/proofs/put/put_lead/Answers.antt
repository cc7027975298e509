use Rattle.std.proofs.Common.{ℕ, Bool, ◌≡◌, List, ◌++◌, ap, ◌∙◌, append_assoc}
use Rattle.call_table.specs.Table.{row}
use Rattle.lib_calls.specs.declared.entry.Entry.{Entry}
use Rattle.lib_calls.specs.Entry.{entry_of}
use Rattle.call_log.specs.declared.version.Version.{Version}
use Rattle.call_log.specs.Entry.{argument_bytes, tag_if}
use Rattle.call_log.specs.inside.Parts.{front_bytes, lead_bytes, reply_bytes}
use Rattle.call_log.proofs.FieldLemmas.{on_ok}
use Rattle.call_log.proofs.FrontStays.{kept, kept_on_err, on_err}
use Rattle.call_log.proofs.put.put_lead.Goals as goal

joined : (old a b c d x y z new : List ℕ) → x ≡ old ++ a → y ≡ x ++ b → z ≡ y ++ c → new ≡ z ++ d → new ≡ old ++ (a ++ (b ++ (c ++ d)))
joined old a b c d x y z new p q r s = s ∙ rw (r, q, p) (simp append_assoc)

pub returns-clause-ok : goal.returns-clause-ok
unfolding lead_bytes
returns-clause-ok c =
    let v : Version = c.args.version in
    let e : Entry = entry_of c.args.entry.now in
    let put = joined c.args.out.now.items (front_bytes v c.args.last e) (argument_bytes v e.call) (reply_bytes v c.args.sent e) (tag_if v (row e.call.kind).entry.tag e.tag) _ _ _ c.put_tag_if.new.out.items c.in_ok-put_front.ensures.ok c.in_ok-put_arguments.ensures.ok c.in_ok-put_reply.ensures.ok in
    on_ok _ (λ tag. put (tag ∙ ap (λ (has : Bool). c.put_reply.new.out.items ++ tag_if v has e.tag) c.has_tag.ensures)) c.put_tag_if.ensures.ok

pub returns-in_err-put_reply-clause-err : goal.returns-in_err-put_reply-clause-err
returns-in_err-put_reply-clause-err c =
    on_err _ (kept _ _ _ _ c.in_ok-put_front.ensures.ok (kept _ _ _ _ c.in_ok-put_arguments.ensures.ok c.in_err-put_reply.ensures.err))

pub returns-clause-err : goal.returns-clause-err
returns-clause-err c =
    kept_on_err c.put_tag_if.result _ _ _ _ c.in_ok-put_front.ensures.ok (kept_on_err _ _ _ _ _ c.in_ok-put_arguments.ensures.ok (kept_on_err _ _ _ _ _ c.in_ok-put_reply.ensures.ok c.put_tag_if.ensures.err))
