use Rattle.flow_stats.proofs.MarkLaws.{on_ok}
use Rattle.flow_stats.proofs.index.RuleIndex.add_prefix.Goals as goal

pub returns-clause-added : goal.returns-clause-added
returns-clause-added c = on_ok c.add_around.result (λ more. more c.args.self.now c.in_ok-insert.ensures) c.add_around.ensures.added
