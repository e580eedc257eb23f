use Rattle.std.proofs.Common.{◌++◌, ap, ◌∙◌}
use Rattle.std.proofs.lemmas.Result.{on_ok_weaker}
use Rattle.update_model.specs.Remaining.{changes_between}
use Rattle.table_difference.proofs.SwitchLaws.{same_between}
use Rattle.table_difference.proofs.merging.add_differences.Goals as goal

pub returns : goal.returns
returns c =
    on_ok_weaker c.add_between.result
    (λ e. e ∙ ap (λ cs. c.args.changes.now.items ++ cs)
    (ap (λ rules. changes_between c.args.switch rules c.deref-2.result.now) c.deref.ensures.value
    ∙ ap (λ rules. changes_between c.args.switch c.in_ok-now_rules.now_rules.items rules) c.deref-2.ensures.value
    ∙ same_between c.args.now.now.rules c.args.new.now.rules c.in_ok-now_rules.now_rules.items c.in_ok-new_rules.new_rules.items c.in_ok-now_rules.ensures.same c.in_ok-new_rules.ensures.same c.args.switch
    c.sorted_rules.ensures.table c.sorted_rules-2.ensures.table)) c.add_between.ensures
