-- What was there before stays in front, also where memory runs out for a later part of an entry.
use Rattle.std.proofs.Common.{◌≡◌, ◌≤◌, List, ◌++◌, length, take, Result, Ok, Err, OnErr, arith, ◌∙◌, sym, ap, length-append}
use Rattle.std.proofs.Math.Seq.{take-append_seam, take-length}
use Rattle.std.proofs.lemmas.List.{take-take}
use Rattle.std.proofs.lemmas.Result.{on_err_weaker}

pub kept : {A : Type 0} (old part out new : List A) → out ≡ old ++ part → take (length out) new ≡ out → take (length old) new ≡ old
kept old part out new put stays =
    let within : length old ≤ length out = omega (arith, ap length put, length-append old part) in
    sym (take-take (length old) (length out) new within) ∙ ap (take (length old)) (stays ∙ put) ∙ take-append_seam old part

pub kept_on_err : {T E A : Type 0} (r : Result T E) (old part out new : List A) → out ≡ old ++ part → OnErr r (take (length out) new ≡ out) → OnErr r (take (length old) new ≡ old)
kept_on_err r old part out new put = on_err_weaker r (kept old part out new put)

pub same_on_err : {T E A : Type 0} (r : Result T E) (out new : List A) → OnErr r (new ≡ out) → OnErr r (take (length out) new ≡ out)
same_on_err r out new = on_err_weaker r (λ same. ap (take (length out)) same ∙ take-length out)

-- what holds, holds of a failure
pub on_err : {T E P : Type 0} (r : Result T E) → P → OnErr r P
on_err (Ok x) p = tt
on_err (Err e) p = p
