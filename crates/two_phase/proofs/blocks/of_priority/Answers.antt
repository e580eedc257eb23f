use Rattle.std.proofs.Common.{rules, take, ◌∙◌, sym, subst}
use Rattle.std.proofs.lemmas.List.Sorted.{IsPartitionPoint-from_clause}
use Rattle.std.proofs.lemmas.List.{take_rest}
use Rattle.std.specs.List.Sorted.{IsPartitionedBy}
use Rattle.two_phase.proofs.OrderedLaws.{is_from, is_above, ordered_from, ordered_above, block_is}
use Rattle.two_phase.proofs.blocks.of_priority.Goals as goal

pub returns : goal.returns
returns c = λ all table e.
    let list = c.args.rules.now in
    let rank = c.args.priority in
    let a = c.partition_point-end.result in
    let b = c.partition_point-start.result in
    let from : IsPartitionedBy (is_from rank) list = subst (IsPartitionedBy (is_from rank)) (sym e) (ordered_from all table rank) in
    let above : IsPartitionedBy (is_above rank) (take a list) = subst (λ rs. IsPartitionedBy (is_above rank) (take a rs)) (sym e) (ordered_above all table rank a) in
    let point_a = IsPartitionPoint-from_clause (is_from rank) list a c.partition_point-end.ensures.partitioned from (λ x r f call. search rules) in
    let point_b = IsPartitionPoint-from_clause (is_above rank) (take a list) b c.partition_point-start.ensures.partitioned above (λ x r f call. search rules) in
    take_rest (take a list) b ∙ block_is all table rank list a b e c.partition_point-end.ensures.bound c.partition_point-start.ensures.bound point_a point_b
