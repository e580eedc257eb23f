use Rattle.std.proofs.Common.{None}
use Rattle.net_base.specs.Members.{IsIn}
use Rattle.acyclic_numbering.specs.Heights.{IsEdge}
use Rattle.certificates.specs.Ordered.{chain_positions}
use Rattle.check_reasons.specs.Positions.{sets_of}
use Rattle.ordered_check.specs.Judged.{IsWayRound, AreGuardedBelow}
use Rattle.ordered_check.proofs.ways.way_round_chain.Given as goal

abbrev pub invariant-loop-place : goal.invariant-loop-place
invariant-loop-place l =
    AreGuardedBelow (IsWayRound l.start (IsEdge l.steps) (λ s. IsIn s l.leaving)) (chain_positions None l.chain (sets_of l.befores l.indices)) l.place
