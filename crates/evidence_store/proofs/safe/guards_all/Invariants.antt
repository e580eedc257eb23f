use Rattle.std.proofs.Common.{◌≡◌, take}
use Rattle.std.specs.List.{AllByRecursion}
use Rattle.demands.specs.Duties.{duties_of}
use Rattle.certificates.specs.Ordered.{positions}
use Rattle.check_reasons.specs.Positions.{sets_of, position_count}
use Rattle.evidence_store.specs.Guards.{IsGuarded}
use Rattle.evidence_store.proofs.safe.guards_all.Given as goal

abbrev pub invariant-loop-i : goal.invariant-loop-i
invariant-loop-i l = record {
  at_is : l.at ≡ position_count (take l.i (duties_of l.duties.demands l.fn.numbered.class.entry l.fn.numbered.class.first).chains);
  guarded : AllByRecursion (IsGuarded l.fn.numbered.class.entry.switch l.walk) (positions (take l.i (duties_of l.duties.demands l.fn.numbered.class.entry l.fn.numbered.class.first).chains) (sets_of l.befores l.indices));
}
