use Rattle.std.proofs.Common.{◌≡◌, Some, sym, ap, ◌∙◌, refl, arith}
use Rattle.wasm_types.specs.Code.{tree, trees}
use Rattle.wasm_stack.specs.Answer.{after_of, way_of}
use Rattle.wasm_step.specs.inside.Paused.{halt_of}
use Rattle.wasm_step.specs.Burst.{burst, settle, spent_burst}
use Rattle.wasm_stack.specs.Limits.{ThreadWithin}
use Rattle.wasm_stack.specs.After.{Goes}
use Rattle.wasm_step.specs.Reduce.{instr_row, reduce_instruction}
use Rattle.wasm_stack.specs.Control.{leave_frame}
use Rattle.wasm_stack.specs.Thread.{Thread, levels_left}
use Rattle.wasm_step.proofs.EndsWithinLimits.{ended_within}
use Rattle.wasm_step.proofs.LevelEnds.{depth_within, fewer_left}
use Rattle.wasm_step.proofs.InPlace.{limited_within}
use Rattle.wasm_step.proofs.LevelRuns.{burst_spent, way_halts}
use Rattle.wasm_stack.specs.declared.halt.Way.{Way}
use Rattle.wasm_step.proofs.BurstTodo.{calls_library, closing, ends, ends_here, full_goes, full_stops, has_rule, returning, row_goes, row_stops}
use Rattle.wasm_step.proofs.run.burst.Goals as goal

pub steps-preserved-then-close : goal.steps-preserved-then-close
steps-preserved-then-close c =
    let t = c.steps.thread in
    let u = c.close.new.self in
    let goes = closing t u c.if-close.ensures.closed in record {
      same = sym (ends c.steps.todo.now t c.in_default-todo.len_below c.todo-todo-then-close.result.now u goes c.todo-todo-then-close.ensures c.steps.left c.steps.store) ∙ c.steps.invariant.same;
      within = ended_within t c.steps.invariant.within u (sym goes);
      same_module = c.steps.invariant.same_module;
    }

pub steps-preserved-in-Goes : goal.steps-preserved-in-Goes
steps-preserved-in-Goes c =
    let t = c.steps.thread in
    let u = c.return_from.new.self in
    let goes = returning t (Goes u) c.if-close.ensures.closed (c.in-Goes.ensures ∙ ap leave_frame (c.if-close.ensures.same refl)) in record {
      same = sym (ends c.steps.todo.now t c.in_default-todo.len_below c.todo-todo-in-Goes.result.now u goes c.todo-todo-in-Goes.ensures c.steps.left c.steps.store) ∙ c.steps.invariant.same;
      within = ended_within t c.steps.invariant.within u (sym goes);
      same_module = c.steps.invariant.same_module;
    }

pub returns-in_default-return_from : goal.returns-in_default-return_from
returns-in_default-return_from c =
    let t = c.steps.thread in
    let u = c.return_from.new.self in
    let goes = returning t (way_of c.return_from.result u) c.if-close.ensures.closed (c.return_from.ensures ∙ ap leave_frame (c.if-close.ensures.same refl)) in
    let stops = sym goes ∙ way_halts c.return_from.result c.next.result u u (c.next.ensures u) c.in_default-return_from.not-Goes in
    sym (ends_here c.steps.todo.now t c.in_default-todo.len_below c.steps.left c.steps.store _ stops) ∙ c.steps.invariant.same

pub try_in_place-requires-clause-rule : goal.try_in_place-requires-clause-rule
try_in_place-requires-clause-rule c =
    has_rule c.steps.todo.now c.instr-item.result c.steps.thread c.in-len1-up.len_at_least c.instr-item.is c.steps.left c.steps-test.true c.steps.store c.args.thread.now c.args.store.now c.steps.invariant.same c.requires.never_sticks

pub steps-smaller-in-Goes-way : goal.steps-smaller-in-Goes-way
steps-smaller-in-Goes-way c =
    let within = c.in_ok-way.ensures.within (c.in-Some.is ∙ ap (λ (w : Way). Some w) c.in-Goes-way.is) in
    fewer_left c.steps.left (levels_left c.try_in_place.new.thread) (levels_left c.steps.thread) c.steps-test.true (depth_within c.try_in_place.new.thread within)

pub steps-preserved-in-Goes-way : goal.steps-preserved-in-Goes-way
steps-preserved-in-Goes-way c =
    let within = c.in_ok-way.ensures.within (c.in-Some.is ∙ ap (λ (w : Way). Some w) c.in-Goes-way.is) in
    let on = row_goes c.steps.todo.now c.instr-item.result c.steps.thread c.in-len1-up.len_at_least c.instr-item.is c.steps.left c.steps-test.true c.steps.store c.in_ok-way.field-0 c.in-Some.way c.try_in_place.new.thread (trees c.try_in_place.new.todo.now) c.try_in_place.new.store c.in-Some.is c.in_ok-way.ensures.done c.in-Goes-way.is within in record {
      same = sym on.0 ∙ c.steps.invariant.same;
      within = within;
      same_module = c.steps.invariant.same_module ∙ on.1;
    }

pub returns-in_default-way : goal.returns-in_default-way
returns-in_default-way c =
    let next = c.next-in_default-way in
    sym (row_stops c.steps.todo.now c.instr-item.result c.steps.thread c.in-len1-up.len_at_least c.instr-item.is c.steps.left c.steps-test.true c.steps.store c.in_ok-way.field-0 c.in-Some.way c.try_in_place.new.thread (trees c.try_in_place.new.todo.now) c.try_in_place.new.store c.in-Some.is c.in_ok-way.ensures.done next.result (next.ensures c.try_in_place.new.thread) c.in_default-way.not-Goes)
    ∙ c.steps.invariant.same

pub returns-in-Some-library_call : goal.returns-in-Some-library_call
returns-in-Some-library_call c =
    sym (calls_library c.steps.todo.now c.instr-item.result c.steps.thread c.in-len1-up.len_at_least c.instr-item.is c.steps.left c.steps-test.true c.steps.store c.in_ok-way.field-0 c.try_in_place.new.thread c.go_to.new.self (trees c.try_in_place.new.todo.now) c.try_in_place.new.store c.in_default-2.is c.in_ok-way.ensures.same c.in_ok-way.ensures.store c.go_to.ensures _ c.in-Some-library_call.halted c.in-Some-library_call.ensures.calls c.steps.invariant.within c.steps.invariant.same_module c.in-Some-library_call.ensures.halts)
    ∙ c.steps.invariant.same

pub returns-in_default-3 : goal.returns-in_default-3
returns-in_default-3 c =
    sym (full_stops c.steps.todo.now c.instr-item.result c.steps.thread c.in-len1-up.len_at_least c.instr-item.is c.steps.left c.steps-test.true c.steps.store c.in_ok-way.field-0 c.try_in_place.new.thread c.go_to.new.self (trees c.try_in_place.new.todo.now) c.try_in_place.new.store c.in_default-2.is c.in_ok-way.ensures.same c.in_ok-way.ensures.store c.go_to.ensures c.step.new.thread c.step.new.store c.in_ok-halted-2.ensures.store c.in_ok-halted-2.halted c.in_ok-halted-2.ensures.after c.in_default-3.not-Going)
    ∙ c.steps.invariant.same

module _ (c : goal.After-todo-todo-in-steps) where
  goes : Goes c.step.new.thread ≡ (reduce_instruction (tree c.instr-item.result) c.go_to.new.self c.try_in_place.new.store).after
  goes = ap (λ n. after_of n c.step.new.thread) (sym c.in-Going-2.is) ∙ c.in_ok-halted-2.ensures.after

  within : ThreadWithin c.step.new.thread
  within = limited_within (instr_row (tree c.instr-item.result) c.go_to.new.self c.try_in_place.new.store).after c.step.new.thread (sym goes)

pub steps-smaller : goal.steps-smaller
steps-smaller c =
    fewer_left c.steps.left (levels_left c.step.new.thread) (levels_left c.steps.thread) c.steps-test.true (depth_within c.step.new.thread (within c))

pub steps-preserved : goal.steps-preserved
steps-preserved c =
    let todo = c.todo-todo-in-steps in
    let on = full_goes c.steps.todo.now c.instr-item.result c.steps.thread c.in-len1-up.len_at_least c.instr-item.is c.steps.left c.steps-test.true c.steps.store c.in_ok-way.field-0 c.try_in_place.new.thread c.go_to.new.self (trees c.try_in_place.new.todo.now) c.try_in_place.new.store c.in_default-2.is c.in_ok-way.ensures.same c.in_ok-way.ensures.store c.go_to.ensures c.step.new.thread c.step.new.store c.in_ok-halted-2.ensures.store (trees todo.result.now) todo.ensures (goes c) in record {
      same = sym on.0 ∙ c.steps.invariant.same;
      within = within c;
      same_module = c.steps.invariant.same_module ∙ on.1;
    }

pub returns : goal.returns
returns c =
    let t = record c.steps.thread { todo = trees c.steps.todo.now } in
    let g = c.steps.store in
    let none : c.steps.left ≡ 0 = omega (arith, c.steps-test.false) in
    let stop = halt_of (after_of c.spend.result c.spend.new.thread) in
    let stops = c.spend.ensures ∙ ap (λ (t : Thread). spent_burst (settle t)) c.go_to-2.ensures in
    sym (ap (λ k. burst k t g) none ∙ burst_spent t g stop stops) ∙ c.steps.invariant.same
