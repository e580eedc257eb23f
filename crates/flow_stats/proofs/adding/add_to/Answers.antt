use Rattle.flow_stats.proofs.IndexLaws.{index_here, indexed_more}
use Rattle.flow_stats.proofs.TableUpdates.{added}
use Rattle.flow_stats.proofs.adding.add_to.Goals as goal

pub add_rule-requires : goal.add_rule-requires
add_rule-requires c = index_here c.args.config.now c.args.switch c.table_mut.result.now c.table_mut.ensures.value c.args.index.now c.requires.index

pub returns-clause-read : goal.returns-clause-read
returns-clause-read c =
    added c.args.place c.args.config.now c.args.switch c.args.rule c.table_mut.result.now c.add_rule.new.table c.add_rule.result c.table_mut.ensures.value c.add_rule.ensures.read

pub returns-clause-index : goal.returns-clause-index
returns-clause-index c =
    indexed_more c.args.config.now c.args.switch c.table_mut.result.now c.table_mut.ensures.value c.args.rule c.add_rule.new.table c.args.index.now c.add_rule.new.index c.add_rule.result
    c.requires.within c.requires.index c.add_rule.ensures.index
