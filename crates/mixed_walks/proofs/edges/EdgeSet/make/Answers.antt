use Rattle.std.proofs.Common.{List, vec_capacity, sym, subst, rules}
use Rattle.std.specs.List.{AllByRecursion}
use Rattle.acyclic_numbering.specs.declared.Edge.{Edge}
use Rattle.mixed_walks.specs.Marked.{IsMarked, edge_number, IsNear}
use Rattle.mixed_walks.proofs.MarkedLaws.{marked_none}
use Rattle.mixed_walks.proofs.edges.EdgeSet.make.Goals as goal

pub invariant_of-result : goal.invariant_of-result
invariant_of-result c =
    subst (λ (xs : List Edge). IsMarked edge_number 16384 xs (vec_capacity c.in_ok-with_capacity.field-0) c.in_ok-vec.field-0.items × AllByRecursion IsNear xs) (sym c.in_ok-with_capacity.ensures.items)
    (marked_none edge_number 16384 (vec_capacity c.in_ok-with_capacity.field-0) c.in_ok-vec.field-0.items c.in_ok-with_capacity.ensures.capacity (c.in_ok-vec.ensures.items_if_clones_equal (λ y h. search rules)), tt)
