use Rattle.std.proofs.Common.{◌≡◌, take}
use Rattle.net_base.specs.Members.{IsIn}
use Rattle.acyclic_numbering.specs.Heights.{IsEdge}
use Rattle.demands.specs.Duties.{duties_of}
use Rattle.certificates.specs.Ordered.{positions}
use Rattle.check_reasons.specs.Positions.{sets_of, position_count}
use Rattle.ordered_check.specs.Judged.{IsWayRound, AreGuardedBelow}
use Rattle.ordered_check.proofs.ways.first_way_round.Given as goal

abbrev pub invariant-loop-i : goal.invariant-loop-i
invariant-loop-i l = record {
  at_is : l.at ≡ position_count (take l.i (duties_of l.duties.demands l.fn.numbered.class.entry l.fn.numbered.class.first).chains);
  guarded : AreGuardedBelow (IsWayRound l.fn.numbered.class.entry.switch (IsEdge l.steps) (λ s. IsIn s l.leaving))
      (positions (take l.i (duties_of l.duties.demands l.fn.numbered.class.entry l.fn.numbered.class.first).chains) (sets_of l.befores l.indices)) l.at;
}
