use Rattle.std.proofs.Common.{◌<◌, ◌≤◌, length, ◌∙◌}
use Rattle.config_files.proofs.RuleTrees.{trees_added, all_trees}
use Rattle.config_files.proofs.write.rule_values.Goals as goal

pub loop-s-preserved : goal.loop-s-preserved
loop-s-preserved c =
    let less : c.loop-s.s < length c.args.config.now = rw (c.requires, ← c.switches-s-end.ensures.value) c.loop-s-test.true in
    trees_added c.args.net.now c.loop-s.s c.args.config.now c.table.result.now c.rules.result.now c.loop-s.values.items c.add_rules.new.values.items c.table.ensures c.rules.ensures.value less c.in_ok-add_rules.ensures c.loop-s.invariant

pub returns : goal.returns
returns c =
    let past : length c.args.config.now ≤ c.loop-s.s = rw (c.requires, ← c.switches-s-end.ensures.value) c.loop-s-test.false in
    c.loop-s.invariant ∙ all_trees c.args.net.now c.loop-s.s c.args.config.now past
