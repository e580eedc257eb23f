use Rattle.std.proofs.Common.{◌≡◌, ◌-◌, ◌++◌, length}
use Rattle.turned_rounds.specs.Batches.{xid_behind, barrier_messages}
use Rattle.turned_rounds.proofs.BatchLaws.{left_from}
use Rattle.turned_rounds.proofs.batches.Batch.put_barriers.Given as goal

abbrev pub invariant-loop-number : goal.invariant-loop-number
invariant-loop-number l = record {
  list : l.self.list.items ++ barrier_messages l.self.xid (left_from l.round l.number (l.number-end - l.number)) ≡ l.initial.self.list.items ++ barrier_messages l.initial.self.xid (left_from l.round 0 l.number-end);
  xid : xid_behind l.self.xid (length (left_from l.round l.number (l.number-end - l.number))) ≡ xid_behind l.initial.self.xid (length (left_from l.round 0 l.number-end));
}
