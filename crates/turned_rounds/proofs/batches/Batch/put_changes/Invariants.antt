use Rattle.std.proofs.Common.{◌≡◌, ◌++◌, length, drop}
use Rattle.turned_rounds.specs.Batches.{xid_behind, change_messages}
use Rattle.turned_rounds.proofs.batches.Batch.put_changes.Given as goal

abbrev pub invariant-loop-change : goal.invariant-loop-change
invariant-loop-change l = record {
  list : l.self.list.items ++ change_messages l.self.xid (drop l.change-index l.round) ≡ l.initial.self.list.items ++ change_messages l.initial.self.xid l.round;
  xid : xid_behind l.self.xid (length (drop l.change-index l.round)) ≡ xid_behind l.initial.self.xid (length l.round);
}
