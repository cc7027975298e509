use Rattle.std.proofs.Common.{◌≡◌, None, ap, sym, subst, ◌∙◌}
use Rattle.lib_calls.specs.Entry.{entry_of}
use Rattle.guest_process.specs.Legal.{reason}
use Rattle.guest_process.specs.inside.Meanings.{BodyInvariant, state_of}
use Rattle.guest_process.proofs.EventCode.{process_kept}
use Rattle.guest_process.proofs.EventMarks.{MarkLaws}
use Rattle.guest_process.proofs.process.Process.advance.Goals as goal

pub invariant_of-result : goal.invariant_of-result
invariant_of-result c =
    let e = entry_of c.args.entry.now in
    let same = c.deref_mut.ensures.value in
    let marks : MarkLaws = record { keeps = c.never_stuck.ensures.stamps; tells = c.never_stuck.ensures.marks; written = c.marked.ensures.written; nothing = c.marked.ensures.nothing; follow = c.marked.ensures.follow } in
    let is = subst BodyInvariant (sym same) c.self.invariant in
    let legal = subst (λ S. reason S e ≡ None) (sym (ap state_of same ∙ c.self.view_is)) c.requires.legal in
    process_kept c.never_stuck.ensures.same_module marks c.deref_mut.result.now c.advance.new.self e is legal c.in_ok-advance.ensures.state c.in_ok-advance.ensures.same_module c.in_ok-advance.ensures.suits
