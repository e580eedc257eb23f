use Rattle.check_reasons.specs.Passed.{RoundsPass}
use Rattle.plan_checker.specs.Checking.{IsReadyToCheck}
use Rattle.plan_checker.proofs.checking.rounds_reason.Given as goal

abbrev pub invariant-loop-k : goal.invariant-loop-k
invariant-loop-k l = record { passed : RoundsPass l.case.task l.case.evidence l.k; ready : IsReadyToCheck l.case l.k l.room }
