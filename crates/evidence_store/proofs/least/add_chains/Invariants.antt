use Rattle.std.proofs.Common.{◌≡◌, length, take}
use Rattle.std.specs.List.{AllByRecursion}
use Rattle.demands.specs.Duties.{duties_of}
use Rattle.certificates.specs.Ordered.{positions}
use Rattle.check_reasons.specs.Positions.{position_count}
use Rattle.evidence_store.specs.Guards.{IsLeastGuard}
use Rattle.evidence_store.proofs.least.add_chains.Given as goal

abbrev pub invariant-loop-i : goal.invariant-loop-i
invariant-loop-i l = record {
  count : length l.befores ≡ position_count (take l.i (duties_of l.duties.demands l.fn.numbered.class.entry l.fn.numbered.class.first).chains);
  least : AllByRecursion (IsLeastGuard l.net l.fn.numbered.class.entry.switch l.walk) (positions (take l.i (duties_of l.duties.demands l.fn.numbered.class.entry l.fn.numbered.class.first).chains) l.befores);
}
