-- What files that tell nothing say of an answer.
use Rattle.std.proofs.Common.{Result, Ok, Err, OnOk, OnErr}

-- a fact that holds whatever the answer is
pub at_ok : {T E P : Type 0} (r : Result T E) → P → OnOk r P
at_ok (Ok x) p = p
at_ok (Err e) p = tt

pub at_err : {T E P : Type 0} (r : Result T E) → P → OnErr r P
at_err (Ok x) p = tt
at_err (Err e) p = p
