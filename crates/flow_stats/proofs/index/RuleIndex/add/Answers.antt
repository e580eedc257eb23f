use Rattle.flow_stats.proofs.MarkLaws.{on_ok, both_ports}
use Rattle.flow_stats.proofs.index.RuleIndex.add.Goals as goal

pub returns-clause-added : goal.returns-clause-added
returns-clause-added c =
    on_ok c.add_to-2.result (both_ports c.args.switch c.args.key.now c.args.self.now c.add_to.new.self c.add_to-2.new.self c.in_ok-add_to.ensures.added) c.add_to-2.ensures.added
