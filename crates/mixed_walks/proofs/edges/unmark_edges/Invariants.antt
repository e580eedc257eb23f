use Rattle.std.proofs.Common.{◌≡◌, length, take}
use Rattle.mixed_walks.specs.Marked.{edge_number}
use Rattle.mixed_walks.proofs.MarkedLaws.{AreTaken}
use Rattle.mixed_walks.proofs.edges.unmark_edges.Given as goal

abbrev pub invariant-loop-edge : goal.invariant-loop-edge
invariant-loop-edge l = record {
  count : length l.marks.items ≡ length l.initial.marks.items;
  taken : AreTaken edge_number l.initial.marks.items (take l.edge-index l.list) l.marks.items;
}
