use Rattle.std.proofs.Common.{rules}
use Rattle.std.specs.Prelude.{nat_le}
use Rattle.std.proofs.lemmas.List.Sorted.{IsPartitionPoint-from_clause, IsPartitionedBy-leb}
use Rattle.dwc_isa.specs.declared.value_label.ValueLocRange.{ValueLocRange}
use Rattle.dwc_expr.proofs.PassedLaws.{end-by, ends-rise}
use Rattle.dwc_expr.proofs.ranges.passed.first_behind.Goals as goal

pub returns-clause-passed : goal.returns-clause-passed
returns-clause-passed c =
    let ps = c.args.pieces.now in
    end-by ps c.args.byte c.partition_point.result c.partition_point.ensures.bound
    (IsPartitionPoint-from_clause (λ (p : ValueLocRange). nat_le p.end c.args.byte) _ _ c.partition_point.ensures.partitioned (IsPartitionedBy-leb (λ (p : ValueLocRange). p.end) ps c.args.byte (ends-rise ps c.requires)) (λ a r q k. search rules))
