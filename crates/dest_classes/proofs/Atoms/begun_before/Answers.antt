use Rattle.std.proofs.Common.{rules, ℕ, ◌<◌, length, ◌∙◌, subst}
use Rattle.std.specs.Prelude.{◌↔◌, nat_lt, slice_index}
use Rattle.std.proofs.lemmas.List.Sorted.{IsPartitionPoint-from_clause, IsPartitionedBy-ltb}
use Rattle.dest_classes.specs.Atoms.{AreFirsts}
use Rattle.dest_classes.proofs.RisingLaws.{non_decreasing}
use Rattle.dest_classes.proofs.TouchedLaws.{parted_below}
use Rattle.dest_classes.proofs.Atoms.begun_before.Goals as goal

pub returns-clause-each : goal.returns-clause-each
returns-clause-each c =
    let xs = c.deref.result.now in
    let p = c.partition_point.result in
    let firsts : AreFirsts xs = rw c.deref.ensures.value c.self.invariant in
    let parts = IsPartitionPoint-from_clause (λ y. nat_lt y c.args.addr) xs p c.partition_point.ensures.partitioned (IsPartitionedBy-ltb (λ x. x) xs c.args.addr (non_decreasing xs firsts.rise)) (λ a r f call. search rules) in
    subst (λ ys. (i : ℕ) → i < length ys → (i < p) ↔ (slice_index ys i < c.args.addr)) (c.deref.ensures.value ∙ c.self.view_is) (parted_below xs c.args.addr p parts)
