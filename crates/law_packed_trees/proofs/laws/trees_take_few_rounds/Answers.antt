use Rattle.law_packed_trees.proofs.NeverStuck.{begins}
use Rattle.law_packed_trees.proofs.FewRounds.{few_rounds}
use Rattle.law_packed_trees.proofs.laws.trees_take_few_rounds.Goals as goal

pub returns : goal.returns
returns c = λ t is rounds ordered most dropped unmet bounds. few_rounds t is most t.update.old (begins t is) rounds ordered.packed dropped unmet bounds
