use Rattle.std.proofs.Common.{◌≡◌, ℕ, length, take, sym, subst, ◌∙◌, arith}
use Rattle.std.proofs.lemmas.List.{take_all}
use Rattle.guest_memory.specs.Memory.{bytes_from}
use Rattle.lib_calls.proofs.ComparedRanges.{agree, other_part, part_differs, same_more, same_part}
use Rattle.lib_calls.proofs.arguments.stands_at.Goals as goal

pub returns-then-ne : goal.returns-then-ne
returns-then-ne c =
    let part = c.in-Some.part.now in
    other_part c.args.bytes.now c.args.memory.now.bytes c.args.addr c.loop-count.count part c.requires.inside (omega arith) c.in-Some.ensures.value
    (part_differs c.args.bytes.now part c.loop-count.count _ c.ne.result (omega arith) c.ne.ensures c.if-ne.true)

pub loop-count-preserved : goal.loop-count-preserved
loop-count-preserved c =
    let part = c.in-Some.part.now in
    same_more c.args.bytes.now c.args.memory.now.bytes c.args.addr c.loop-count.count part c.requires.inside (omega arith) c.loop-count.invariant.1 c.in-Some.ensures.value
    (same_part c.args.bytes.now part c.loop-count.count _ c.ne.result (omega arith) c.ne.ensures c.if-ne.false)

pub returns : goal.returns
returns c =
    let bytes = c.args.bytes.now in
    let all : c.loop-count.count ≡ length bytes = omega (arith, c.loop-count-test.false, c.loop-count.invariant.0) in
    agree bytes (bytes_from c.args.memory.now c.args.addr (length bytes))
    (sym (take_all (length bytes) bytes (omega arith)) ∙ subst (λ (n : ℕ). take n bytes ≡ bytes_from c.args.memory.now c.args.addr n) all c.loop-count.invariant.1)
