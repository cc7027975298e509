use Rattle.std.proofs.Common.{leb, leb-true, arith, rules}
use Rattle.std.proofs.lemmas.Bool.Decides.{nat_tests}
use Rattle.std.proofs.lemmas.List.Sorted.{IsPartitionPoint-from_clause, IsPartitionedBy-leb}
use Rattle.wasm_typing.proofs.locals.run_at.Goals as goal

pub returns : goal.returns
returns c =
    let parted = IsPartitionedBy-leb (λ e. e) _ c.args.local c.requires in
    let point = IsPartitionPoint-from_clause (λ e. leb e c.args.local) _ _ c.partition_point.ensures.partitioned parted (λ a r q k. search rules) in
    (λ k d low lt. leb-true _ _ (point.0 k d low lt), λ k d low lt. let above = point.1 k d low lt in grind (arith, nat_tests))
