use Rattle.std.proofs.Common.{◌-◌}
use Rattle.breaking_walks.specs.Rounds.{round_rollout}
use Rattle.breaking_walks.proofs.SearchLaws.{IsSearched}
use Rattle.breaking_walks.proofs.search.find.Given as goal

abbrev pub invariant-searching : goal.invariant-searching
invariant-searching l = IsSearched (round_rollout l.round) l.round.number l.class.first l.class.entry l.chain l.aim l.next l.trail

abbrev pub decreases-searching : goal.decreases-searching
decreases-searching l = 9223372036854775808 - l.next
