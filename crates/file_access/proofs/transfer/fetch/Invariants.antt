use Rattle.std.proofs.Common.{◌≡◌, ◌+◌, ◌<◌, ◌≤◌, length, IsTrue}
use Rattle.file_access.proofs.Pieces.{Reads}
use Rattle.file_access.proofs.transfer.fetch.Given as goal

abbrev pub invariant-takes : goal.invariant-takes
invariant-takes g l = record {
  reads : Reads (g.S.Source.held l.fn.src) l.name l.bytes.items (g.S.Source.left l.src);
  count : length l.bytes.items ≡ g.S.Source.taken l.src;
  room : g.S.Source.taken l.src + l.room ≡ l.limit + 1;
  some : 0 < l.room;
  current : IsTrue (g.S.Source.is_current l.src);
  selected : g.S.Source.selected l.src ≡ l.name;
  held : g.S.Source.held l.src ≡ g.S.Source.held l.fn.src;
  later : g.S.Source.faults l.fn.src ≤ g.S.Source.faults l.src;
}

abbrev pub decreases-takes : goal.decreases-takes
decreases-takes g l = l.room
