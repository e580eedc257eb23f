use Rattle.std.proofs.Common.{◌∙◌, ap}
use Rattle.std.specs.Prelude.{None}
use Rattle.flow_rules.specs.declared.rules.Action.TheVariants.{Discard}
use Rattle.flow_rules.specs.declared.rules.Rule.{Rule}
use Rattle.flow_rules.specs.declared.rules.VlanTest.TheVariants as test
use Rattle.table_difference.specs.SameClasses.{every_address}
use Rattle.tag_allocator.specs.Tags.{Tagged}
use Rattle.two_phase.specs.TwoPhasePlan.{rule}
use Rattle.two_phase.proofs.StepLaws.{map_added}
use Rattle.two_phase.proofs.bands.add_tag_defaults.Goals as goal

pub loop-v-preserved : goal.loop-v-preserved
loop-v-preserved c =
    let default : Tagged → Rule = λ v. rule 16384 None (test.Id v.tag) every_address Discard in
    let v = c.v-item.result in
    map_added default c.args.tags.now c.loop-v.v-index v v c.loop-v-test.true c.v-item.is c.args.rules.now.items c.loop-v.rules.items c.push.new.self.items c.default_rule.result c.loop-v.invariant
    (c.default_rule.ensures ∙ ap default c.v.view_is) c.in_ok-push.ensures.items
