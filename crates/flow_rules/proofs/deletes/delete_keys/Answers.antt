use Rattle.std.proofs.Common.{rules, ◌∙◌}
use Rattle.std.proofs.lemmas.Fn.{filter_same}
use Rattle.flow_rules.proofs.DeleteLaws.{gone_same}
use Rattle.flow_rules.proofs.deletes.delete_keys.Goals as goal

pub returns-clause-items : goal.returns-clause-items
returns-clause-items c =
    filter_same _ _ _ (λ x b f' k. search rules) _ _ c.retain.ensures.filtered
    ∙ gone_same c.args.others.now c.sort_by_key.new.rules c.args.rules.now.items c.sort_by_key.ensures.permutation
