use Rattle.std.proofs.Common.{refl, [], get_or}
use Rattle.std.specs.Prelude.{flat_map}
use Rattle.net_base.specs.declared.ids.Port.{Port}
use Rattle.two_phase.specs.TwoPhasePlan.{ingress_copy}
use Rattle.two_phase.proofs.StepLaws.{flat_added}
use Rattle.two_phase.proofs.bands.ingress_rules.Goals as goal

pub loop-host-preserved : goal.loop-host-preserved
loop-host-preserved c =
    let none : Port = record { 0 = 0 } in
    let hosts = c.deref-host-items.result.now in
    flat_added (λ host. flat_map (λ r. flat_map (ingress_copy c.args.net.now c.args.s host r) c.args.tags.now) c.args.new.now) hosts c.loop-host.host-index (get_or hosts c.loop-host.host-index none) none
    c.loop-host-test.true refl [] c.loop-host.rules.items c.add_host_copies.new.rules.items c.loop-host.invariant c.in_ok-add_host_copies.ensures
