use Rattle.std.proofs.Common.{◌<◌, length, take, false, List, set, get_or, refl, sym, ◌∙◌, subst, arith}
use Rattle.std.proofs.lemmas.List.{take_more, take_all, length-set}
use Rattle.acyclic_numbering.specs.declared.Edge.{Edge}
use Rattle.mixed_walks.specs.Marked.{edge_number}
use Rattle.mixed_walks.proofs.MarkedLaws.{AreTaken, taken_none, taken_more}
use Rattle.mixed_walks.proofs.edges.unmark_edges.Goals as goal

pub loop-edge-init : goal.loop-edge-init
loop-edge-init c = record { count = refl; taken = taken_none edge_number c.args.marks.now.items }

pub loop-edge-preserved : goal.loop-edge-preserved
loop-edge-preserved c =
    let list = c.args.list.now in
    let i = c.loop-edge.edge-index in
    let marks = c.loop-edge.marks.items in
    let n = c.edge_number.result in
    let none : Edge = record { from = record { 0 = 0 }; to = record { 0 = 0 } } in
    let near : n < length marks = let w = c.edge_number.ensures.within in let k = c.loop-edge.invariant.count in let h = c.requires.count in omega arith in
    record {
      count = length-set marks n false ∙ c.loop-edge.invariant.count;
      taken =
          subst (λ (xs : List Edge). AreTaken edge_number c.args.marks.now.items xs (set marks n false)) (sym (take_more list i none c.loop-edge-test.true))
          (taken_more edge_number c.args.marks.now.items (take i list) (get_or list i none) marks n c.edge_number.ensures.number near c.loop-edge.invariant.taken);
    }

pub returns : goal.returns
returns c = record {
  count = c.loop-edge.invariant.count;
  taken =
      subst (λ (xs : List Edge). AreTaken edge_number c.args.marks.now.items xs c.loop-edge.marks.items) (take_all c.loop-edge.edge-index c.args.list.now c.loop-edge-test.false)
      c.loop-edge.invariant.taken;
}
