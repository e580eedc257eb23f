use Rattle.std.proofs.Common.{◌∙◌}
use Rattle.flow_rules.proofs.ReplaceLaws.{table_moved, sorted_in_turn}
use Rattle.flow_rules.proofs.replaces.replace_keys.Goals as goal

pub replace_sorted-requires-clause-distinct : goal.replace_sorted-requires-clause-distinct
replace_sorted-requires-clause-distinct c = table_moved c.args.others.now c.sort_by_key.new.rules c.sort_by_key.ensures.permutation c.requires

pub returns-clause-items : goal.returns-clause-items
returns-clause-items c =
    c.replace_sorted.ensures.items
    ∙ sorted_in_turn c.args.others.now c.sort_by_key.new.rules c.args.rules.now.items c.sort_by_key.ensures.permutation c.requires
