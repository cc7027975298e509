use Rattle.std.proofs.Common.{[], refl}
use Rattle.call_log.specs.declared.version.Version.TheVariants.{Two}
use Rattle.call_log.specs.Entry.{encodings}
use Rattle.call_log.specs.Head.{Head, IsHead}
use Rattle.call_log.specs.Log.{Unread, unread_after_head, rewritten_log}
use Rattle.call_log.proofs.laws.rewritten_is_read.Goals as goal

pub returns : goal.returns
returns c = λ head es is shaped.
    let exact = c.exact_logs.ensures in
    let newer : Head = record head { version = Two } in
    let left : Unread = unread_after_head newer (encodings Two 0 es) in
    let in_range : IsHead newer = record { some = is.some; few = is.few; within = is.within; named = is.named } in
    let holds = (exact.all left es []).0 (exact.holds_written Two 0 es shaped) in
    record {
      left = left;
      found = (exact.heads (rewritten_log head es) newer left).1 (in_range, (refl, refl));
      entries = holds.0;
      rest = holds.1;
    }
