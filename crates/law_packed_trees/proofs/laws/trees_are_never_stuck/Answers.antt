use Rattle.law_packed_trees.proofs.NeverStuck.{never_stuck}
use Rattle.law_packed_trees.proofs.laws.trees_are_never_stuck.Goals as goal

pub returns : goal.returns
returns c = never_stuck
