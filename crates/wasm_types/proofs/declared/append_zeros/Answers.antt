use Rattle.std.proofs.Common.{◌≡◌, ℕ, ◌+◌, ◌-◌, List, ◌++◌, length, take, replicate, ◌∙◌, arith, append_assoc}
use Rattle.std.proofs.lemmas.List.{take_all}
use Rattle.wasm_types.specs.declared.code.Value.{Value}
use Rattle.wasm_types.proofs.ZeroLocals.{zeros_more}
use Rattle.wasm_types.proofs.declared.append_zeros.Goals as goal

-- a list of `len` values that is resized to `m + n`, where `m` is `len` too, gets `n` values more
grown : (xs ys : List Value) (v : Value) (m n len : ℕ) → m ≡ len → len ≡ length xs →
    ys ≡ take (m + n) xs ++ replicate (m + n - len) v → ys ≡ xs ++ replicate n v
grown xs ys v m n len e held h =
    let all : take (m + n) xs ≡ xs = take_all (m + n) xs (omega arith) in
    let more : m + n - len ≡ n = omega arith in
    h ∙ rw (all, more)

pub loop-run-preserved : goal.loop-run-preserved
loop-run-preserved c =
    let values = c.loop-run.values in
    rw (zeros_more c.args.runs.now c.loop-run.run-index c.loop-run-test.true, ← append_assoc, ← c.loop-run.invariant, ← c.zero_of.ensures, ← c.of-zero.ensures)
    (grown values.items _ c.of-zero.result c.len.result _ values.len c.len.ensures values.ok.0 c.in_ok-resize.ensures.items)
