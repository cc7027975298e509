use Rattle.std.proofs.Common.{◌≡◌, Some, ap, sym, subst, ◌∙◌}
use Rattle.std.specs.Prelude.{is_some, option_copied}
use Rattle.guest_process.specs.declared.body.Body.{Body}
use Rattle.guest_process.specs.GoesOn.{handler}
use Rattle.guest_process.specs.Meanings.{answered_at}
use Rattle.guest_process.specs.inside.Meanings.{state_of}
use Rattle.guest_process.specs.State.{thread_at}
use Rattle.guest_process.proofs.process.Process.handles_after.Goals as goal

pub returns-in-Some : goal.returns-in-Some
returns-in-Some c a =
    let S = state_of c.self.inside.body.value in
    let at = ap (λ (p : Body). thread_at (state_of p) c.args.thread) (sym c.deref.ensures) ∙ sym c.get.ensures ∙ ap option_copied c.in-Some.is in
    let same = ap (λ (p : Body). (answered_at (state_of p) c.args.thread a (Some c.in-Some.waiting.now)).handlers) c.deref-in-Some.ensures in
    let after = c.handlers_after.ensures c.args.thread a ∙ same ∙ ap (λ o. (answered_at S c.args.thread a o).handlers) (sym at) in
    subst (λ S. c.is_some.result ≡ is_some (handler (answered_at S c.args.thread a (thread_at S c.args.thread)).handlers c.args.signal)) c.self.view_is
    (c.is_some.ensures ∙ ap is_some (c.handler.ensures ∙ ap (λ handlers. handler handlers c.args.signal) after))
