use Rattle.std.proofs.Common.{◌&&◌, Bool, Some}
use Rattle.flow_rules.specs.Overlaps.{blocks_meet}
use Rattle.flow_rules.specs.declared.rules.Rule.{Rule}
use Rattle.flow_rules.specs.declared.rules.VlanTest.{VlanTest}
use Rattle.flow_rules.specs.declared.rules.VlanTest.TheVariants as test
use Rattle.flow_stats.specs.Index.{is_in_group, meets_by}
use Rattle.flow_stats.proofs.MarkLaws.{found_first, found_second, one_vlan}
use Rattle.flow_stats.proofs.index.RuleIndex.is_met_by.Goals as goal

pub returns-then-is_met : goal.returns-then-is_met
returns-then-is_met c rules index =
    let k = c.args.key.now in
    let of : VlanTest → Rule → Bool =
    λ t r. is_in_group (record { switch = c.args.switch; priority = k.priority; in_port = c.args.in_port; vlan = Some t }) r.key && blocks_meet r.key.pattern.dst k.pattern.dst in
    found_first (of test.Any) (of k.pattern.vlan) (λ (r : Rule). meets_by c.args.in_port r.key k) rules c.is_met-in_default.result (c.is_met-in_default.ensures rules index)
    (λ r. one_vlan c.args.switch c.args.in_port r.key k c.in_default.not-Any) c.if-is_met.true

pub returns-else-is_met : goal.returns-else-is_met
returns-else-is_met c rules index =
    let k = c.args.key.now in
    let of : VlanTest → Rule → Bool =
    λ t r. is_in_group (record { switch = c.args.switch; priority = k.priority; in_port = c.args.in_port; vlan = Some t }) r.key && blocks_meet r.key.pattern.dst k.pattern.dst in
    found_second (of test.Any) (of k.pattern.vlan) (λ (r : Rule). meets_by c.args.in_port r.key k) rules c.is_met-in_default.result (c.is_met-in_default.ensures rules index)
    (λ r. one_vlan c.args.switch c.args.in_port r.key k c.in_default.not-Any) c.is_met-in_default-2.result c.if-is_met.false (c.is_met-in_default-2.ensures rules index)
