use Rattle.std.proofs.Common.{◌≡◌, ℕ, List, ◌++◌, IfNone, Option, Some, None, sym, ap, ◌∙◌, rules}
use Rattle.call_log.specs.Head.{IsHead, head_of, head_bytes}
use Rattle.call_log.specs.Reading.{read_head}
use Rattle.call_log.proofs.HeadLemmas.{read_head-found, read_head-none}
use Rattle.call_log.proofs.head.read_head.Goals as goal

-- what holds, holds where there is nothing
if_none : {A : Type 0} (o : Option A) {P : Type 0} → P → IfNone o P
if_none None p = p
if_none (Some x) p = search rules

pub returns-in_err-head-clause-none : goal.returns-in_err-head-clause-none
returns-in_err-head-clause-none c =
    if_none c.from_residual.result (read_head-none c.exact_readers.ensures c.args.bytes.now (ap read_head (sym c.new-cursor.ensures.left) ∙ c.in_err-head.ensures))

found : (c : goal.After-rest) → IsHead (head_of c.in_ok-head.head) × (c.args.bytes.now ≡ head_bytes (head_of c.in_ok-head.head) ++ c.rest.result.now)
found c =
    let read : read_head c.args.bytes.now ≡ Some (head_of c.in_ok-head.head, c.rest.result.now) =
    ap read_head (sym c.new-cursor.ensures.left) ∙ c.in_ok-head.ensures ∙ ap (λ (t : List ℕ). Some (head_of c.in_ok-head.head, t)) (sym c.rest.ensures) in
    read_head-found c.exact_readers.ensures c.args.bytes.now (head_of c.in_ok-head.head) c.rest.result.now (λ i. search rules) read

pub returns-clause-head : goal.returns-clause-head
returns-clause-head c = (found c).0

pub returns-clause-spelled : goal.returns-clause-spelled
returns-clause-spelled c = (found c).1
