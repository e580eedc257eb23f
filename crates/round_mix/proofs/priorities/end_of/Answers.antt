use Rattle.std.proofs.Common.{rules, ℕ, ◌<◌, ◌≤◌, take, drop, sym, subst}
use Rattle.std.specs.Prelude.{◌≡◌, true, false, nat_le}
use Rattle.std.specs.List.{AllByRecursion}
use Rattle.std.specs.List.Sorted.{IsPartitionPoint}
use Rattle.std.proofs.lemmas.List.Sorted.{IsPartitionPoint-from_clause}
use Rattle.round_mix.specs.Order.{priority_of}
use Rattle.round_mix.specs.declared.MarkedRule.{MarkedRule}
use Rattle.round_mix.proofs.PriorityLaws.{from_before, from_behind, parted_from, put_at}
use Rattle.round_mix.proofs.priorities.end_of.Goals as goal

parts : (c : goal.After-partition_point)
    → IsPartitionPoint (λ (m : MarkedRule). nat_le c.args.priority (priority_of m) ≡ true) (λ m. nat_le c.args.priority (priority_of m) ≡ false) c.args.marks.now c.partition_point.result
parts c =
    IsPartitionPoint-from_clause (λ m. nat_le c.args.priority (priority_of m)) c.args.marks.now c.partition_point.result c.partition_point.ensures.partitioned
    (parted_from c.args.marks.now c.args.priority c.requires) (λ a r f call. search rules)

pub returns-clause-before : goal.returns-clause-before
returns-clause-before c = from_before c.args.marks.now c.args.priority c.partition_point.result c.partition_point.ensures.bound (parts c)

pub returns-clause-behind : goal.returns-clause-behind
returns-clause-behind c = from_behind c.args.marks.now c.args.priority c.partition_point.result c.partition_point.ensures.bound (parts c)

pub returns-clause-place : goal.returns-clause-place
returns-clause-place c m same =
    let ms = c.args.marks.now in
    let i = c.partition_point.result in
    let bound = c.partition_point.ensures.bound in
    put_at m ms i bound
    (subst (λ (p : ℕ). AllByRecursion (λ n. p ≤ n.rule.key.priority) (take i ms)) (sym same) (from_before ms c.args.priority i bound (parts c)))
    (subst (λ (p : ℕ). AllByRecursion (λ n. n.rule.key.priority < p) (drop i ms)) (sym same) (from_behind ms c.args.priority i bound (parts c)))
