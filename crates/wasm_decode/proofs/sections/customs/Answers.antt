use Rattle.std.proofs.Common.{◌∙◌, sym, arith, length}
use Rattle.std.proofs.lemmas.Result.{err_from_is_err_and}
use Rattle.wasm_decode.proofs.SectionLemmas.{custom_shorter, skip_more, skip_fails, skip_done, customs_is}
use Rattle.wasm_decode.proofs.sections.customs.Goals as goal

pub loop-cursor-init : goal.loop-cursor-init
loop-cursor-init c = (length c.args.cursor.now.left, omega arith, customs_is c.args.cursor.now.left)

pub loop-cursor-smaller : goal.loop-cursor-smaller
loop-cursor-smaller c = custom_shorter c.exact_readers.ensures c.loop-cursor.cursor.left c.in_ok-byte.field-0 c.byte.new.cursor.left c.in_ok-custom.field-0.now c.custom.new.cursor.left c.in_ok-byte.ensures c.in_ok-custom.ensures

pub loop-cursor-preserved : goal.loop-cursor-preserved
loop-cursor-preserved c =
    let i = c.loop-cursor.invariant in
    skip_more c.exact_readers.ensures i.0 c.loop-cursor.cursor.left c.in_ok-byte.field-0 c.byte.new.cursor.left c.in_ok-custom.field-0.now c.custom.new.cursor.left _ c.in_ok-byte.ensures (sym c.is_next.ensures ∙ c.loop-cursor-test.true) c.in_ok-custom.ensures i.1 i.2

pub returns-in_err-custom : goal.returns-in_err-custom
returns-in_err-custom c =
    let p = err_from_is_err_and c.from_residual-in_err-custom.result c.from_residual-in_err-custom.ensures.1 in
    let i = c.loop-cursor.invariant in
    rw (p.1, p.2) (skip_fails c.in_err-custom.field-0.0 i.0 c.loop-cursor.cursor.left c.in_ok-byte.field-0 c.byte.new.cursor.left _ c.in_ok-byte.ensures (sym c.is_next.ensures ∙ c.loop-cursor-test.true) c.in_err-custom.ensures i.1 i.2)

pub returns : goal.returns
returns c =
    let i = c.loop-cursor.invariant in
    skip_done i.0 c.loop-cursor.cursor.left _ (sym c.is_next.ensures ∙ c.loop-cursor-test.false) i.1 i.2
