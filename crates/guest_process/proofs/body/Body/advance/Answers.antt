use Rattle.std.proofs.Common.{ap, arith, subst, sym, ◌∙◌}
use Rattle.lib_calls.specs.Entry.{entry_of}
use Rattle.wasm_store.specs.Suits.{SuitsModule}
use Rattle.guest_process.specs.inside.Meanings.{state_of}
use Rattle.guest_process.proofs.EventCounts.{counts}
use Rattle.guest_process.proofs.EventMarks.{numbered_suits}
use Rattle.guest_process.proofs.body.Body.advance.Goals as goal

pub overflow_add-self : goal.overflow_add-self
overflow_add-self c =
    let one_more = ap (λ S. S.events) c.in_ok-make_event.ensures.state ∙ counts (state_of c.args.self.now) (entry_of c.args.entry.now) c.requires.legal in
    omega (arith, one_more, c.requires.few)

pub returns-clause-state : goal.returns-clause-state
returns-clause-state c = ap (λ store. record (state_of c.make_event.new.self) { store = store }) c.begin_event.ensures ∙ c.in_ok-make_event.ensures.state

pub returns-clause-suits : goal.returns-clause-suits
returns-clause-suits c = subst SuitsModule (sym c.begin_event.ensures) (numbered_suits c.make_event.new.self.store _ c.in_ok-make_event.ensures.suits)
