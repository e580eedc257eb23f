use Rattle.flow_stats.proofs.MarkLaws.{on_ok, both_vlans}
use Rattle.flow_stats.proofs.index.RuleIndex.add_to.Goals as goal

pub returns-clause-added : goal.returns-clause-added
returns-clause-added c =
    on_ok c.add_prefix-2.result (both_vlans c.args.switch c.args.key.now c.args.self.now c.add_prefix.new.self c.add_prefix-2.new.self c.args.in_port c.in_ok-add_prefix.ensures.added) c.add_prefix-2.ensures.added
