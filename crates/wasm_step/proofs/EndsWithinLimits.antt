-- Ends and branches leave a thread within its limits.
use Rattle.std.proofs.Common.{◌≡◌, ℕ, zero, suc, ◌+◌, ◌<◌, ◌≤◌, Bool, true, false, List, [], ◌∷◌, length, Option, Some, None, refl, ap, subst, arith}
use Rattle.std.specs.Prelude.{slice_get}
use Rattle.wasm_types.specs.declared.code.Value.{Value}
use Rattle.wasm_types.specs.declared.code.Value.TheVariants.{I32, I64}
use Rattle.wasm_types.specs.Code.{Trees}
use Rattle.wasm_stack.specs.Limits.{ThreadWithin}
use Rattle.wasm_stack.specs.After.{AfterStep, Goes, Stops}
use Rattle.wasm_stack.specs.Control.{at_end_of_level, branch, branch_if, branch_table, carried_operand, ended_level, jump_by, label_at, landed_branch, past, resumed_caller, leave_frame, with_carried}
use Rattle.wasm_stack.specs.Thread.{Level, Frame, Thread, closed_level, closed_to, left_frame, left_to_caller, size_of_frames, size_of_levels}
use Rattle.wasm_step.proofs.LevelEnds.{within_closed}

abbrev pub StaysWithin : AfterStep → Type 0
StaysWithin a = (u : Thread) → a ≡ Goes u → ThreadWithin u

abbrev after_thread : Thread → AfterStep → Thread
after_thread u (Goes t) = t
after_thread u (Stops s) = u

abbrev pub count_of : Option Value → ℕ
count_of None = 0
count_of (Some v) = 1

resumed_within : (fs : List Frame) (o : Option Value) → length fs < 512 → count_of o + size_of_frames fs ≤ 16384 → StaysWithin (resumed_caller (left_to_caller fs) o)
resumed_within [] o lt le u e = cc
resumed_within (f ∷ fs) None lt le u e = subst (λ (t : Thread). ThreadWithin t) (ap (after_thread u) e) (record { frames = omega (arith, lt); size = omega (arith, le) })
resumed_within (f ∷ fs) (Some v) lt le u e = subst (λ (t : Thread). ThreadWithin t) (ap (after_thread u) e) (record { frames = omega (arith, lt); size = omega (arith, le) })

frame_end_within : (b : Bool) (stack : List Value) (t : Thread) → t.stack ≡ stack → ThreadWithin t → StaysWithin (with_carried (carried_operand b (record t { stack = stack })) (λ o u. resumed_caller (left_frame u) o))
frame_end_within false stack t q h u e = resumed_within t.callers None h.frames (omega (arith, h.size)) u e
frame_end_within true [] t q h u e = cc
frame_end_within true (v ∷ rest) t q h u e = resumed_within t.callers (Some v) h.frames (omega (arith, h.size, ap length q)) u e

pub return_within : (t : Thread) → ThreadWithin t → StaysWithin (leave_frame t)
return_within t h = frame_end_within t.returns t.stack t refl h

landed_within : (outer : List Level) (o : Option Value) (t : Thread) (target : Trees) → t.outer ≡ outer → length t.callers < 512 → count_of o + (size_of_levels t.outer + length t.locals + size_of_frames t.callers) ≤ 16384 → StaysWithin (landed_branch (closed_to outer (record t { stack = [] })) (record t { stack = [] }) target o)
landed_within [] o t target q lt le u e = resumed_within t.callers o lt (omega (arith, le)) u e
landed_within (l ∷ ls) None t target q lt le u e =
    subst (λ (t : Thread). ThreadWithin t) (ap (after_thread u) e) (record { frames = lt; size = omega (arith, le, ap size_of_levels q) })
landed_within (l ∷ ls) (Some v) t target q lt le u e =
    subst (λ (t : Thread). ThreadWithin t) (ap (after_thread u) e) (record { frames = lt; size = omega (arith, le, ap size_of_levels q) })

jump_out_within : (b : Bool) (stack : List Value) (t : Thread) → t.stack ≡ stack → ThreadWithin t → StaysWithin (with_carried (carried_operand b (record t { stack = stack })) (λ o u. landed_branch (closed_level (record u { stack = [] })) (record u { stack = [] }) t.target o))
jump_out_within false stack t q h u e = landed_within t.outer None t t.target refl h.frames (omega (arith, h.size)) u e
jump_out_within true [] t q h u e = cc
jump_out_within true (v ∷ rest) t q h u e = landed_within t.outer (Some v) t t.target refl h.frames (omega (arith, h.size, ap length q)) u e

jump_within : (b : Bool) (t : Thread) → ThreadWithin t → StaysWithin (jump_by b t)
jump_within true t h u e = subst (λ (t : Thread). ThreadWithin t) (ap (after_thread u) e) (record { frames = h.frames; size = omega (arith, h.size) })
jump_within false t h u e = jump_out_within t.carries t.stack t refl h u e

past_within : (n : ℕ) → ((t : Thread) → ThreadWithin t → StaysWithin (branch n t)) → (o : Option Thread) (t : Thread) → closed_level t ≡ o → ThreadWithin t → StaysWithin (past o (branch n))
past_within n stays None t q h u e = cc
past_within n stays (Some t') t q h u e = stays t' (within_closed t t' q h) u e

pub branch_within : (n : ℕ) (t : Thread) → ThreadWithin t → StaysWithin (branch n t)
branch_within zero t h = jump_within t.loops t h
branch_within (suc n) t h = past_within n (branch_within n) (closed_level t) t refl h

popped_within : (v : Value) (rest : List Value) (t : Thread) → t.stack ≡ v ∷ rest → ThreadWithin t → ThreadWithin (record t { stack = rest })
popped_within v rest t q h = record { frames = h.frames; size = omega (arith, h.size, ap length q) }

pub branch_if_within : (n : ℕ) (stack : List Value) (t : Thread) → t.stack ≡ stack → ThreadWithin t → StaysWithin (branch_if n (record t { stack = stack }))
branch_if_within n [] t q h u e = cc
branch_if_within n (I64 x ∷ rest) t q h u e = cc
branch_if_within n (I32 zero ∷ rest) t q h u e = subst (λ (t : Thread). ThreadWithin t) (ap (after_thread u) e) (popped_within (I32 zero) rest t q h)
branch_if_within n (I32 (suc x) ∷ rest) t q h u e = branch_within n (record t { stack = rest }) (popped_within (I32 (suc x)) rest t q h) u e

pub branch_table_within : (labels : List ℕ) (default : ℕ) (stack : List Value) (t : Thread) → t.stack ≡ stack → ThreadWithin t → StaysWithin (branch_table labels default (record t { stack = stack }))
branch_table_within labels default [] t q h u e = cc
branch_table_within labels default (I64 x ∷ rest) t q h u e = cc
branch_table_within labels default (I32 i ∷ rest) t q h u e = branch_within (label_at (slice_get labels i) default) (record t { stack = rest }) (popped_within (I32 i) rest t q h) u e

end_within : (o : Option Thread) (t : Thread) → closed_level t ≡ o → ThreadWithin t → StaysWithin (at_end_of_level o t)
end_within None t q h u e = return_within t h u e
end_within (Some t') t q h u e = subst (λ (t : Thread). ThreadWithin t) (ap (after_thread u) e) (within_closed t t' q h)

pub ended_within : (t : Thread) → ThreadWithin t → StaysWithin (ended_level t)
ended_within t h = end_within (closed_level t) t refl h
