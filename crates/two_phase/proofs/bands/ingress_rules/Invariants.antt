use Rattle.std.proofs.Common.{◌≡◌, take}
use Rattle.std.specs.Prelude.{flat_map}
use Rattle.two_phase.specs.TwoPhasePlan.{ingress_copy}
use Rattle.two_phase.proofs.bands.ingress_rules.Given as goal

abbrev pub invariant-loop-host : goal.invariant-loop-host
invariant-loop-host l = l.rules.items ≡ flat_map (λ host. flat_map (λ r. flat_map (ingress_copy l.net l.s host r) l.tags) l.new) (take l.host-index l.host-items)
