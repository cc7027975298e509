use Rattle.std.proofs.Common.{◌≡◌, Bool, true, false, IfSome, IsTrue, None, Option, Some, sym, ap, ◌∙◌, subst, refl}
use Rattle.std.specs.Prelude.{if◌then◌else◌}
use Rattle.wasm_types.specs.declared.code.Instr.{Instr}
use Rattle.wasm_types.specs.Code.{tree, trees}
use Rattle.wasm_types.specs.Modules.{Module, module_of}
use Rattle.wasm_store.specs.Store.{Store}
use Rattle.wasm_stack.specs.declared.halt.Way.{Way}
use Rattle.wasm_stack.specs.declared.halt.Way.TheVariants as way
use Rattle.wasm_stack.specs.Answer.{way_of}
use Rattle.wasm_stack.specs.Limits.{ThreadWithin}
use Rattle.wasm_stack.specs.After.{AfterStep, Goes}
use Rattle.wasm_stack.specs.Control.{branch_if, branch_table}
use Rattle.wasm_step.specs.Reduce.{ThreadAndStore, call, call_indirect, instr_row, store_stays}
use Rattle.wasm_stack.specs.Thread.{Thread}
use Rattle.wasm_step.proofs.EndsWithinLimits.{StaysWithin, branch_within, branch_if_within, branch_table_within, return_within}
use Rattle.wasm_step.proofs.LevelEnds.{row_enters, row_chooses}
use Rattle.wasm_step.specs.inside.Rules.{HasRule}
use Rattle.wasm_step.proofs.BurstTodo.{todo_within}
use Rattle.wasm_step.proofs.Accesses.{write_sticks_anywhere}
use Rattle.wasm_step.proofs.RuledNumbers.{sticks_anywhere}
use Rattle.wasm_step.proofs.RuledThreads.{has_address, has_local, has_operand, sets, tees}
use Rattle.wasm_step.proofs.in_place.try_in_place.Goals as goal
use Rattle.wasm_step.proofs.in_place.try_in_place.Goals.{in-Br, in-BrIf, in-BrTable, in-Return, in-CallFunc+else-is_imported, in-CallIndirect}

-- a way that goes on where that is within
way_within : (o : Option Way) (w : Way) (u v : Thread) (a : AfterStep) → o ≡ Some w → u ≡ v → way_of w v ≡ a → StaysWithin a → o ≡ Some way.Goes → ThreadWithin u
way_within o way.Goes u v a is same e stays goes = subst (λ (t : Thread). ThreadWithin t) (sym same) (stays v (sym e))
way_within o way.Ends u v a is same e stays goes = cc
way_within o way.Sticks u v a is same e stays goes = cc

pub local_get-requires-clause-has : goal.local_get-requires-clause-has
local_get-requires-clause-has c =
    let t = record c.args.thread.now { todo = trees c.args.todo.now.now } in
    has_local c.in-LocalGet.x t c.args.store.now (subst (λ i. HasRule (tree i) t c.args.store.now) c.in-LocalGet.is c.requires.rule)

pub local_set-requires-clause-has : goal.local_set-requires-clause-has
local_set-requires-clause-has c =
    let t = record c.args.thread.now { todo = trees c.args.todo.now.now } in
    (sets c.in-LocalSet.x t (subst (λ i. HasRule (tree i) t c.args.store.now) c.in-LocalSet.is c.requires.rule)).local

pub local_set-requires-clause-some : goal.local_set-requires-clause-some
local_set-requires-clause-some c =
    let t = record c.args.thread.now { todo = trees c.args.todo.now.now } in
    (sets c.in-LocalSet.x t (subst (λ i. HasRule (tree i) t c.args.store.now) c.in-LocalSet.is c.requires.rule)).operand

pub local_tee-requires-clause-has : goal.local_tee-requires-clause-has
local_tee-requires-clause-has c =
    let t = record c.args.thread.now { todo = trees c.args.todo.now.now } in
    (tees c.in-LocalTee.x t (subst (λ i. HasRule (tree i) t c.args.store.now) c.in-LocalTee.is c.requires.rule)).local

pub local_tee-requires-clause-some : goal.local_tee-requires-clause-some
local_tee-requires-clause-some c =
    let t = record c.args.thread.now { todo = trees c.args.todo.now.now } in
    (tees c.in-LocalTee.x t (subst (λ i. HasRule (tree i) t c.args.store.now) c.in-LocalTee.is c.requires.rule)).operand

pub drop_one-requires : goal.drop_one-requires
drop_one-requires c =
    let t = record c.args.thread.now { todo = trees c.args.todo.now.now } in
    has_operand t c.args.store.now (subst (λ i. HasRule (tree i) t c.args.store.now) c.in-DropTop.is c.requires.rule)

pub load_in_place-requires-clause-address : goal.load_in_place-requires-clause-address
load_in_place-requires-clause-address c =
    let t = record c.args.thread.now { todo = trees c.args.todo.now.now } in
    has_address c.in-Load.opcode c.in-Load.offset t c.args.store.now.memory (subst (λ i. HasRule (tree i) t c.args.store.now) c.in-Load.is c.requires.rule)

pub write_in_place-requires-clause-rule : goal.write_in_place-requires-clause-rule
write_in_place-requires-clause-rule c =
    let t = record c.args.thread.now { todo = trees c.args.todo.now.now } in
    let g = c.args.store.now in
    let rule = subst (λ i. HasRule (tree i) t g) c.in-Store.is c.requires.rule in
    λ sticks. rule (write_sticks_anywhere c.in-Store.opcode c.in-Store.offset c.args.thread.now g (trees c.args.todo.now.now) sticks)

pub numeric_in_place-requires-clause-rule : goal.numeric_in_place-requires-clause-rule
numeric_in_place-requires-clause-rule c =
    let t = record c.args.thread.now { todo = trees c.args.todo.now.now } in
    let rule = subst (λ i. HasRule (tree i) t c.args.store.now) c.in-Op.is c.requires.rule in
    λ sticks. rule (sticks_anywhere c.in-Op.op c.args.thread.now (trees c.args.todo.now.now) sticks)

pub branch_if_in_place-requires : goal.branch_if_in_place-requires
branch_if_in_place-requires c =
    let t = record c.args.thread.now { todo = trees c.args.todo.now.now } in
    let rule = subst (λ i. HasRule (tree i) t c.args.store.now) c.in-BrIf.is c.requires.rule in
    λ sticks. rule (ap (branch_if c.in-BrIf.n) (sym c.go_to-in-BrIf.ensures) ∙ sticks)

pub branch_table_in_place-requires : goal.branch_table_in_place-requires
branch_table_in_place-requires c =
    let t = record c.args.thread.now { todo = trees c.args.todo.now.now } in
    let rule = subst (λ i. HasRule (tree i) t c.args.store.now) c.in-BrTable.is c.requires.rule in
    λ sticks. rule (ap (branch_table c.in-BrTable.labels.items c.in-BrTable.default) (sym c.go_to-in-BrTable.ensures)
    ∙ ap (λ labels. branch_table labels c.in-BrTable.default c.go_to-in-BrTable.new.self) (sym c.deref-in-BrTable.ensures.value) ∙ sticks)

pub call_in_place-requires-clause-rule : goal.call_in_place-requires-clause-rule
call_in_place-requires-clause-rule c =
    let t = record c.args.thread.now { todo = trees c.args.todo.now.now } in
    let rule = subst (λ i. HasRule (tree i) t c.args.store.now) c.in-CallFunc.is c.requires.rule in
    λ sticks. rule (ap (λ (m : Module). call m c.in-CallFunc.index t) (sym c.requires.same_module)
    ∙ ap (call (module_of c.args.module.now) c.in-CallFunc.index) (sym c.go_to-in-CallFunc.ensures) ∙ sticks)

pub call_indirect_in_place-requires-clause-rule : goal.call_indirect_in_place-requires-clause-rule
call_indirect_in_place-requires-clause-rule c =
    let t = record c.args.thread.now { todo = trees c.args.todo.now.now } in
    let rule = subst (λ i. HasRule (tree i) t c.args.store.now) c.in-CallIndirect.is c.requires.rule in
    λ sticks. rule (ap (call_indirect c.in-CallIndirect.type_index c.args.store.now) (sym c.go_to-in-CallIndirect.ensures) ∙ sticks)

module _ (c : goal.After-todo) where
  abbrev i : Instr
  i = c.args.instr.now

  abbrev g : Store
  g = c.args.store.now

  abbrev t : Thread
  t = record c.args.thread.now { todo = trees c.args.todo.now.now }

  abbrev u : Thread
  u = record c.match-instr.thread { todo = trees c.todo.result.now }

  abbrev Done : Option Way → Type 0
  Done o = IfSome o (λ w. instr_row (tree i) t g ≡ store_stays g (way_of w u))

  -- a branch, of the thread t' with what is left put back
  by_way : (j : Instr) (t' v : Thread) (w : Way) → i ≡ j → t' ≡ t → c.match-instr.thread ≡ v → c.match-instr.way' ≡ Some w → instr_row (tree j) t' g ≡ store_stays g (way_of w v) → Done c.match-instr.way'
  by_way j t' v w is here same way e =
      let now : u ≡ v = ap (λ T. record c.match-instr.thread { todo = T }) c.todo.ensures ∙ same in
      subst Done (sym way)
      (ap (λ (t : Thread). instr_row (tree i) t g) (sym here) ∙ ap (λ i. instr_row (tree i) t' g) is ∙ e ∙ ap (λ (v : Thread). store_stays g (way_of w v)) (sym now))

  -- what is done in place, or not at all
  by_went : (j : Instr) (t' v : Thread) (b : Bool) → i ≡ j → t' ≡ t → c.match-instr.thread ≡ v → c.match-instr.way' ≡ (if b then Some way.Goes else None) → (IsTrue b → instr_row (tree j) t' g ≡ store_stays g (Goes v)) → Done c.match-instr.way'
  by_went j t' v true is here same went e = by_way j t' v way.Goes is here same went (e refl)
  by_went j t' v false is here same went e = subst Done (sym went) tt

  abbrev StaysIn : Type 0
  StaysIn = c.match-instr.way' ≡ Some way.Goes → ThreadWithin c.match-instr.thread

  way_in : (t' v : Thread) (w : Way) (a : AfterStep) → t' ≡ t → c.match-instr.thread ≡ v → c.match-instr.way' ≡ Some w → way_of w v ≡ a → (ThreadWithin t' → StaysWithin a) → StaysIn
  way_in t' v w a here same way e stays =
      way_within c.match-instr.way' w c.match-instr.thread v a way same e (stays (todo_within c.args.thread.now t' _ here c.requires.within))

  went_in : (v : Thread) → c.match-instr.thread ≡ v → ThreadWithin v → StaysIn
  went_in v same h goes = subst (λ (t : Thread). ThreadWithin t) (sym same) h

pub returns-clause-done : goal.returns-clause-done
returns-clause-done c =
    let g = c.args.store.now in
    elim c.match-instr.branch [
      | in-Br w ↦ by_way c _ _ _ _ w.in-Br.is w.go_to.ensures w.thread-is w.way'-is (ap (store_stays g) (sym w.branch-thread.ensures))
      | in-BrIf w ↦ by_way c _ _ _ _ w.in-BrIf.is w.go_to-in-BrIf.ensures w.thread-is w.way'-is (ap (store_stays g) (sym w.branch_if_in_place.ensures))
      | in-BrTable w ↦
          let same = ap (λ labels. branch_table labels w.in-BrTable.default w.go_to-in-BrTable.new.self) w.deref-in-BrTable.ensures.value in
          by_way c _ _ _ _ w.in-BrTable.is w.go_to-in-BrTable.ensures w.thread-is w.way'-is (ap (store_stays g) (sym (w.branch_table_in_place.ensures ∙ same)))
      | in-Return w ↦ by_way c _ _ _ _ w.in-Return.is w.go_to-in-Return.ensures w.thread-is w.way'-is (ap (store_stays g) (sym w.return_out.ensures))
      | in-CallFunc+else-is_imported w ↦ by_went c _ _ _ _ w.in-CallFunc.is w.go_to-in-CallFunc.ensures w.thread-is (w.way'-is ∙ w.done_if-way.ensures) (λ yes.
          ap (λ (m : Module). store_stays g (call m w.in-CallFunc.index w.go_to-in-CallFunc.new.self)) (sym c.requires.same_module)
          ∙ ap (store_stays g) (w.call_in_place.ensures.goes yes))
      | in-CallIndirect w ↦ by_went c _ _ _ _ w.in-CallIndirect.is w.go_to-in-CallIndirect.ensures w.thread-is (w.way'-is ∙ w.done_if-way-in-CallIndirect.ensures) (λ yes.
          ap (store_stays g) (w.call_indirect_in_place.ensures.goes yes))
    ]

pub returns-clause-within : goal.returns-clause-within
returns-clause-within c =
    elim c.match-instr.branch [
      | in-Br w ↦ way_in c _ _ _ _ w.go_to.ensures w.thread-is w.way'-is w.branch-thread.ensures (branch_within w.in-Br.n _)
      | in-BrIf w ↦ way_in c _ _ _ _ w.go_to-in-BrIf.ensures w.thread-is w.way'-is w.branch_if_in_place.ensures (branch_if_within w.in-BrIf.n _ w.go_to-in-BrIf.new.self refl)
      | in-BrTable w ↦ way_in c _ _ _ _ w.go_to-in-BrTable.ensures w.thread-is w.way'-is w.branch_table_in_place.ensures (branch_table_within w.deref-in-BrTable.result.now w.in-BrTable.default _ w.go_to-in-BrTable.new.self refl)
      | in-Return w ↦ way_in c _ _ _ _ w.go_to-in-Return.ensures w.thread-is w.way'-is w.return_out.ensures (return_within _)
      | in-CallFunc+else-is_imported w ↦ went_in c _ w.thread-is w.call_in_place.ensures.within
      | in-CallIndirect w ↦ went_in c _ w.thread-is w.call_indirect_in_place.ensures.within
    ]

pub returns-in-Block-clause-done : goal.returns-in-Block-clause-done
returns-in-Block-clause-done c =
    let t = record c.args.thread.now { todo = trees c.args.todo.now.now } in
    let g = c.args.store.now in
    let body = c.deref-in-Block.result.now in
    row_enters c.args.instr.now c.in-Block.body body t g c.in-Block.is c.deref-in-Block.ensures.value
    ∙ sym (ap (λ (u : Thread). store_stays g (Goes u)) (c.open_within.ensures.opened c.if-not-open_within.false (trees body)))

pub choose_in_place-requires-clause-rule : goal.choose_in_place-requires-clause-rule
choose_in_place-requires-clause-rule c =
    let t = record c.args.thread.now { todo = trees c.args.todo.now.now } in
    λ sticks. c.requires.rule (ap (λ (row : ThreadAndStore). row.after) (row_chooses c.args.instr.now c.in-If.field-0 c.in-If.on_true c.in-If.on_false c.deref.result.now c.deref-in-If.result.now t c.args.store.now c.in-If.is c.deref.ensures.value c.deref-in-If.ensures.value) ∙ sticks)

pub returns-in-If-clause-done : goal.returns-in-If-clause-done
returns-in-If-clause-done c =
    let t = record c.args.thread.now { todo = trees c.args.todo.now.now } in
    let g = c.args.store.now in
    row_chooses c.args.instr.now c.in-If.field-0 c.in-If.on_true c.in-If.on_false c.deref.result.now c.deref-in-If.result.now t g c.in-If.is c.deref.ensures.value c.deref-in-If.ensures.value
    ∙ ap (store_stays g) (sym (c.choose_in_place.ensures.goes c.if-not-choose_in_place.false))
