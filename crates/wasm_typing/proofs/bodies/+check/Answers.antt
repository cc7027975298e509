use Rattle.std.proofs.Common.{arith}
use Rattle.std.proofs.lemmas.Grind.{common_steps}
use Rattle.wasm_typing.proofs.TreeStacks.{after-block, after-loop, after-if}
use Rattle.wasm_typing.proofs.bodies.+check.Goals as goal

pub check-returns-in-Block-clause-typed : goal.check-returns-in-Block-clause-typed
check-returns-in-Block-clause-typed t c =
    rw (c.in-Block.is, after-block, ← c.deref.ensures.value) c.check_block.ensures.typed

pub check-returns-in-Loop-clause-typed : goal.check-returns-in-Loop-clause-typed
check-returns-in-Loop-clause-typed t c =
    rw (c.in-Loop.is, after-loop, ← c.deref-in-Loop.ensures.value) c.check_block-in-Loop.ensures.typed

pub check-returns-in_err-check_inside-in-If-clause-typed : goal.check-returns-in_err-check_inside-in-If-clause-typed
check-returns-in_err-check_inside-in-If-clause-typed t c =
    rw (c.in-If.is, after-if, ← c.deref-in-If.ensures.value) (grind (arith, common_steps))

pub check-returns-in_ok-check_inside-in-If-clause-typed : goal.check-returns-in_ok-check_inside-in-If-clause-typed
check-returns-in_ok-check_inside-in-If-clause-typed t c =
    rw (c.in-If.is, after-if, ← c.deref-in-If.ensures.value, ← c.deref-in-If-2.ensures.value) (grind (arith, common_steps))
