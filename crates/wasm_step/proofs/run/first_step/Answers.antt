use Rattle.std.proofs.Common.{◌≡◌, suc, refl, sym, ap, ◌∙◌, subst}
use Rattle.wasm_types.specs.Code.{Trees, tree}
use Rattle.wasm_stack.specs.declared.halt.Next.{Next}
use Rattle.wasm_stack.specs.Answer.{after_of}
use Rattle.wasm_step.specs.Burst.{Done, at_next_instruction, settle}
use Rattle.wasm_step.specs.inside.Paused.{settled_of}
use Rattle.wasm_stack.specs.After.{Sticks}
use Rattle.wasm_step.proofs.LevelRuns.{standing, settle_halts, burst_done, stopped_step, first_on}
use Rattle.wasm_step.proofs.run.first_step.Goals as goal

pub returns-in_default : goal.returns-in_default
returns-in_default c = record {
  ran = λ k.
      stopped_step c.settle.result c.settle.new.thread c.args.store.now k c.in_default.not-Going
      ∙ sym (burst_done (suc k) c.args.thread.now c.args.store.now _ (settle_halts c.settle.result c.args.thread.now c.settle.new.thread c.settle.ensures c.in_default.not-Going));
  within = λ e. absurd (c.in_default.not-Going e);
  same_module = refl;
}

pub returns-in_default-fetch-clause-ran : goal.returns-in_default-fetch-clause-ran
returns-in_default-fetch-clause-ran c = λ k.
    let t = c.args.thread.now in
    let u = c.settle.new.thread in
    let ready = subst (λ (n : Next). settled_of (after_of n u) ≡ settle t) c.in-Going.is c.settle.ensures in
    let done = sym ready ∙ ap (λ (todo : Trees). at_next_instruction todo u (Done Sticks)) c.in_default-fetch.ensures.none.0 in
    sym (burst_done (suc k) t c.args.store.now Sticks done)

pub returns-clause-ran : goal.returns-clause-ran
returns-clause-ran c = λ k.
    let t = c.args.thread.now in
    let u = c.settle.new.thread in
    let ready = subst (λ (n : Next). settled_of (after_of n u) ≡ settle t) c.in-Going.is c.settle.ensures in
    let at = standing t u c.fetch.new.self (tree c.in-Some.instr.now) ready c.in-Some.ensures.some in
    first_on k t c.fetch.new.self c.step.new.thread c.args.store.now c.step.new.store (tree c.in-Some.instr.now) c.in_ok-next.next at c.in_ok-next.ensures.after c.in_ok-next.ensures.store
