use Rattle.std.proofs.Common.{◌≤◌, List, sym, subst, vec_capacity, arith}
use Rattle.std.specs.List.{All, AllByRecursion}
use Rattle.std.proofs.lemmas.List.Elements.{All-from_recursion}
use Rattle.acyclic_numbering.specs.declared.Edge.{Edge}
use Rattle.mixed_walks.specs.Marked.{IsMarked, edge_number, IsNear}
use Rattle.mixed_walks.proofs.MarkedLaws.{marked_cleared, AreTaken}
use Rattle.mixed_walks.proofs.edges.EdgeSet.clear.Goals as goal

pub unmark_edges-requires-clause-near : goal.unmark_edges-requires-clause-near
unmark_edges-requires-clause-near c =
    subst (λ (xs : List Edge). All IsNear xs) (sym c.deref.ensures.value) (All-from_recursion IsNear c.self.inside.list.items c.self.invariant.1)

pub invariant_of-self : goal.invariant_of-self
invariant_of-self c =
    let list = c.self.inside.list in
    let marks = c.self.inside.marks.items in
    let left = c.unmark_edges.new.marks.items in
    let room : vec_capacity list ≤ vec_capacity c.clear.new.self = let e = c.clear.ensures.capacity in omega arith in
    let taken : AreTaken edge_number marks list.items left = subst (λ (xs : List Edge). AreTaken edge_number marks xs left) c.deref.ensures.value c.unmark_edges.ensures.taken in
    subst (λ (xs : List Edge). IsMarked edge_number 16384 xs (vec_capacity c.clear.new.self) left × AllByRecursion IsNear xs) (sym c.clear.ensures.items)
    (marked_cleared edge_number 16384 list.items (vec_capacity list) marks c.self.invariant.0 (vec_capacity c.clear.new.self) left room c.unmark_edges.ensures.count taken, tt)
