use Rattle.std.proofs.Common.{◌≡◌, ◌∙◌, ap, sym}
use Rattle.flow_rules.specs.Tables.{action_of}
use Rattle.update_model.specs.Changes.{rule_of}
use Rattle.update_model.specs.declared.Change.{Change}
use Rattle.update_model.specs.declared.Change.TheVariants.{Replace}
use Rattle.law_two_way_runs.specs.Inverse.{inverse_of}
use Rattle.two_way_replay.proofs.MayLaws.{rule_before}
use Rattle.two_way_replay.proofs.world.inverse_by.Goals as goal

pub returns-in-Replace : goal.returns-in-Replace
returns-in-Replace c = λ before e.
    let r = c.in-Replace.rule in
    let by : c.args.action ≡ action_of r.key before = e ∙ ap (λ (x : Change). action_of (rule_of x).key before) c.in-Replace.is in
    ap (Replace c.in-Replace.switch) (c.with_action.ensures ∙ rule_before before r c.args.action by) ∙ sym (ap (inverse_of before) c.in-Replace.is)
