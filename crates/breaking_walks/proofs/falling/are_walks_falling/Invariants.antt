use Rattle.std.proofs.Common.{◌-◌}
use Rattle.breaking_walks.specs.Rounds.{round_rollout}
use Rattle.breaking_walks.proofs.SurveyLaws.{IsSurveyed}
use Rattle.breaking_walks.proofs.falling.are_walks_falling.Given as goal

abbrev pub invariant-looking : goal.invariant-looking
invariant-looking l = IsSurveyed (round_rollout l.round) l.round.number l.class.first l.class.entry l.next l.trail l.edges.items

abbrev pub decreases-looking : goal.decreases-looking
decreases-looking l = 9223372036854775808 - l.next
