use Rattle.std.proofs.Common.{◌≡◌, ◌≤◌, List, ◌++◌, length, take, sym, ap, ◌∙◌, arith, length-append}
use Rattle.std.proofs.Math.Seq.{take-append_seam}
use Rattle.std.proofs.lemmas.List.{take-take}
use Rattle.std.proofs.lemmas.Result.{on_err_weaker}
use Rattle.fri_bytes.proofs.ShortNumbers.{put_more}
use Rattle.fri_bytes.proofs.short.+put_within.Goals as goal

kept : {A : Type 0} (old part out new : List A) → out ≡ old ++ part → take (length out) new ≡ out → take (length old) new ≡ old
kept old part out new put stays =
    let within : length old ≤ length out = omega (arith, ap length put, length-append old part) in
    sym (take-take (length old) (length out) new within) ∙ ap (take (length old)) (stays ∙ put) ∙ take-append_seam old part

pub returns-clause-ok : goal.returns-clause-ok
returns-clause-ok t c =
    put_more c.put_within.result c.args.most c.args.number c.args.out.now.items c.put_byte-2.new.out.items c.put_within.new.out.items (omega (arith, c.if-most-eq0.false)) (omega (arith, c.if-number-lt128.false)) c.in_ok-put_byte.ensures.ok c.put_within.ensures.ok

pub returns-clause-err : goal.returns-clause-err
returns-clause-err t c = on_err_weaker c.put_within.result (kept _ _ _ _ c.in_ok-put_byte.ensures.ok) c.put_within.ensures.err
