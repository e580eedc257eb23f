use Rattle.std.proofs.Common.{[], sym, subst}
use Rattle.table_index.specs.Candidates.{AreCandidates}
use Rattle.table_index.proofs.PushLaws.{none_yet}
use Rattle.table_index.proofs.Index.clear.Goals as goal

pub returns-clause-none : goal.returns-clause-none
returns-clause-none c dst = subst (AreCandidates [] dst) (sym c.clear.ensures.items) (none_yet dst)
