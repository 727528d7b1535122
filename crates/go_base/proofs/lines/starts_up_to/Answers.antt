use Rattle.std.proofs.Common.{leb, leb-true, leb-false, arith, rules}
use Rattle.std.proofs.lemmas.List.Sorted.{IsPartitionPoint-from_clause, IsPartitionedBy-leb}
use Rattle.go_base.proofs.lines.starts_up_to.Goals as goal

pub returns : goal.returns
returns c =
    let parted = IsPartitionedBy-leb (λ x. x) _ c.args.offset c.requires in
    let point = IsPartitionPoint-from_clause (λ x. leb x c.args.offset) _ _
    c.partition_point.ensures.partitioned parted (λ a r q k. search rules) in
    record {
      within = omega (arith, c.partition_point.ensures.bound);
      below = λ k h. leb-true _ _ (point.0 k 0 (omega arith) h);
      above = λ k h short. leb-false _ _ (point.1 k 0 h short);
    }
