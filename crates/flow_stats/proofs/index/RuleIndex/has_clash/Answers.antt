use Rattle.std.proofs.Common.{Some, None}
use Rattle.flow_rules.specs.Overlaps.{keys_clash}
use Rattle.flow_rules.specs.declared.rules.Rule.{Rule}
use Rattle.flow_stats.specs.Index.{meets_by}
use Rattle.flow_stats.proofs.MarkLaws.{found_first, found_second, one_port}
use Rattle.flow_stats.proofs.index.RuleIndex.has_clash.Goals as goal

pub returns-then-is_met_by : goal.returns-then-is_met_by
returns-then-is_met_by c rules index =
    let k = c.args.key.now in
    found_first (λ (r : Rule). meets_by (Some None) r.key k) (λ (r : Rule). meets_by (Some k.pattern.in_port) r.key k) (λ (r : Rule). keys_clash r.key k) rules
    c.is_met_by-in_default.result (c.is_met_by-in_default.ensures rules index) (λ r. one_port r.key k c.in_default.not-None) c.if-is_met_by.true

pub returns-else-is_met_by : goal.returns-else-is_met_by
returns-else-is_met_by c rules index =
    let k = c.args.key.now in
    found_second (λ (r : Rule). meets_by (Some None) r.key k) (λ (r : Rule). meets_by (Some k.pattern.in_port) r.key k) (λ (r : Rule). keys_clash r.key k) rules
    c.is_met_by-in_default.result (c.is_met_by-in_default.ensures rules index) (λ r. one_port r.key k c.in_default.not-None) c.is_met_by-in_default-2.result c.if-is_met_by.false
    (c.is_met_by-in_default-2.ensures rules index)
