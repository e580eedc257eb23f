use Rattle.law_two_way_runs.proofs.Turning.{walked_both_ways}
use Rattle.law_two_way_runs.proofs.laws.each_walks_one_round.Goals as goal

pub returns : goal.returns
returns c = walked_both_ways
