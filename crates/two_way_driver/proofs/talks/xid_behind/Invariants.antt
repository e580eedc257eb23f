use Rattle.std.proofs.Common.{◌≡◌, ◌-◌, length}
use Rattle.turned_rounds.specs.Batches.{xid_behind}
use Rattle.two_way_driver.proofs.talks.xid_behind.Given as goal

abbrev pub invariant-loop-number : goal.invariant-loop-number
invariant-loop-number l = xid_behind l.xid (length l.changes - l._number) ≡ xid_behind l.first (length l.changes)
