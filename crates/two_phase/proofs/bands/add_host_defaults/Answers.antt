use Rattle.std.proofs.Common.{refl, get_or}
use Rattle.std.specs.Prelude.{Some}
use Rattle.net_base.specs.declared.ids.Port.{Port}
use Rattle.flow_rules.specs.declared.rules.Action.TheVariants.{Discard}
use Rattle.flow_rules.specs.declared.rules.VlanTest.TheVariants as test
use Rattle.table_difference.specs.SameClasses.{every_address}
use Rattle.two_phase.specs.TwoPhasePlan.{rule}
use Rattle.two_phase.proofs.StepLaws.{map_added}
use Rattle.two_phase.proofs.bands.add_host_defaults.Goals as goal

pub loop-host-preserved : goal.loop-host-preserved
loop-host-preserved c =
    let none : Port = record { 0 = 0 } in
    let hosts = c.args.hosts.now in
    map_added (λ host. rule 32768 (Some host) test.Any every_address Discard) hosts c.loop-host.host-index (get_or hosts c.loop-host.host-index none) none c.loop-host-test.true refl
    c.args.rules.now.items c.loop-host.rules.items c.push.new.self.items c.default_rule.result c.loop-host.invariant c.default_rule.ensures c.in_ok-push.ensures.items
