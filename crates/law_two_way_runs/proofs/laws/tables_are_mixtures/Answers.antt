use Rattle.law_two_way_runs.proofs.Turning.{mixtures_both_ways}
use Rattle.law_two_way_runs.proofs.laws.tables_are_mixtures.Goals as goal

pub returns : goal.returns
returns c = mixtures_both_ways
