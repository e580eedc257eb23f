use Rattle.law_two_way_runs.proofs.Consistent.{both_ways_consistent}
use Rattle.law_two_way_runs.proofs.laws.certified_both_ways.Goals as goal

pub returns : goal.returns
returns c = λ t evidence old_user new_user certified. both_ways_consistent t old_user new_user evidence certified
