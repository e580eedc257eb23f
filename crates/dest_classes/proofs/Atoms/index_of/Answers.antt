use Rattle.std.proofs.Common.{rules, ◌+◌, ◌-◌, ◌<◌, length, ◌∙◌, sym, subst, arith}
use Rattle.std.specs.Prelude.{nat_le, slice_index}
use Rattle.std.proofs.lemmas.List.Sorted.{IsPartitionPoint-from_clause, IsPartitionedBy-leb}
use Rattle.net_base.specs.Blocks.{IsSameClass}
use Rattle.dest_classes.specs.Atoms.{AreFirsts, IsAtomOf}
use Rattle.dest_classes.proofs.RisingLaws.{non_decreasing}
use Rattle.dest_classes.proofs.AtomLaws.{atom_before, with_first}
use Rattle.dest_classes.proofs.Atoms.index_of.Goals as goal

place : (c : goal.After-partition_point)
    → (0 < c.partition_point.result) × IsAtomOf c.args.self.now (c.partition_point.result - 1) c.args.addr
    × ((c.partition_point.result - 1) + 1 < length c.args.self.now → c.args.addr < slice_index c.args.self.now ((c.partition_point.result - 1) + 1))
place c =
    let xs = c.deref.result.now in
    let p = c.partition_point.result in
    let firsts : AreFirsts xs = rw c.deref.ensures.value c.self.invariant in
    let parts = IsPartitionPoint-from_clause (λ y. nat_le y c.args.addr) xs p c.partition_point.ensures.partitioned (IsPartitionedBy-leb (λ x. x) xs c.args.addr (non_decreasing xs firsts.rise)) (λ a r f call. search rules) in
    subst (λ ys. (0 < p) × IsAtomOf ys (p - 1) c.args.addr × ((p - 1) + 1 < length ys → c.args.addr < slice_index ys ((p - 1) + 1)))
    (c.deref.ensures.value ∙ c.self.view_is) (atom_before xs c.args.addr p firsts parts c.partition_point.ensures.bound)

pub overflow_sub-result : goal.overflow_sub-result
overflow_sub-result c = let h = (place c).0 in omega arith

pub returns-clause-atom : goal.returns-clause-atom
returns-clause-atom c = (place c).1

pub returns-clause-next : goal.returns-clause-next
returns-clause-next c = (place c).2

pub returns-clause-class : goal.returns-clause-class
returns-clause-class c = λ blocks e.
    subst (λ ys. IsAtomOf ys (c.partition_point.result - 1) c.args.addr → IsSameClass blocks (slice_index ys (c.partition_point.result - 1)) c.args.addr) (sym e)
    (with_first blocks (c.partition_point.result - 1) c.args.addr c.ranges.addr.fits) (place c).1
