use Rattle.std.proofs.Common.{◌≡◌, cond, List, [], ◌++◌, take, map, ◌∙◌, ap, arith}
use Rattle.std.specs.Prelude.{flat_map, None}
use Rattle.std.proofs.lemmas.List.{take_all}
use Rattle.flow_rules.specs.declared.rules.Action.TheVariants.{Discard}
use Rattle.flow_rules.specs.declared.rules.Rule.{Rule}
use Rattle.flow_rules.specs.declared.rules.VlanTest.TheVariants as test
use Rattle.table_difference.specs.SameClasses.{every_address}
use Rattle.tag_allocator.specs.Tags.{Tagged}
use Rattle.two_phase.specs.TwoPhasePlan.{is_host_bound, rule, tagged_copy}
use Rattle.two_phase.proofs.StepLaws.{flat_added}
use Rattle.two_phase.proofs.bands.tagged_rules.Goals as goal

pub loop-rule-preserved : goal.loop-rule-preserved
loop-rule-preserved c =
    flat_added (λ r. cond (is_host_bound c.args.net.now c.args.s r) [] (flat_map (tagged_copy c.args.net.now c.args.s r) c.args.tags.now)) c.args.new.now c.loop-rule.rule-index c.rule-item.result
    c.rule-item.result c.loop-rule-test.true c.rule-item.is [] c.loop-rule.rules.items c.add_tagged_copies.new.rules.items c.loop-rule.invariant c.in_ok-add_tagged_copies.ensures

pub returns : goal.returns
returns c =
    let new = c.args.new.now in
    let copies : Rule → List Rule = λ r. cond (is_host_bound c.args.net.now c.args.s r) [] (flat_map (tagged_copy c.args.net.now c.args.s r) c.args.tags.now) in
    let default : Tagged → Rule = λ v. rule 16384 None (test.Id v.tag) every_address Discard in
    let all : take c.loop-rule.rule-index new ≡ new = take_all c.loop-rule.rule-index new (omega arith) in
    c.in_ok-add_tag_defaults.ensures ∙ ap (λ rs. rs ++ map default c.args.tags.now) (c.loop-rule.invariant ∙ ap (flat_map copies) all)
