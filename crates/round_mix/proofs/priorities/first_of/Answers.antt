use Rattle.std.proofs.Common.{rules}
use Rattle.std.specs.Prelude.{◌≡◌, true, false, nat_lt}
use Rattle.std.specs.List.Sorted.{IsPartitionPoint}
use Rattle.std.proofs.lemmas.List.Sorted.{IsPartitionPoint-from_clause}
use Rattle.round_mix.specs.Order.{priority_of}
use Rattle.round_mix.specs.declared.MarkedRule.{MarkedRule}
use Rattle.round_mix.proofs.PriorityLaws.{above_before, above_behind, parted_above}
use Rattle.round_mix.proofs.priorities.first_of.Goals as goal

parts : (c : goal.After-partition_point)
    → IsPartitionPoint (λ (m : MarkedRule). nat_lt c.args.priority (priority_of m) ≡ true) (λ m. nat_lt c.args.priority (priority_of m) ≡ false) c.args.marks.now c.partition_point.result
parts c =
    IsPartitionPoint-from_clause (λ m. nat_lt c.args.priority (priority_of m)) c.args.marks.now c.partition_point.result c.partition_point.ensures.partitioned
    (parted_above c.args.marks.now c.args.priority c.requires) (λ a r f call. search rules)

pub returns-clause-before : goal.returns-clause-before
returns-clause-before c = above_before c.args.marks.now c.args.priority c.partition_point.result c.partition_point.ensures.bound (parts c)

pub returns-clause-behind : goal.returns-clause-behind
returns-clause-behind c = above_behind c.args.marks.now c.args.priority c.partition_point.result c.partition_point.ensures.bound (parts c)
