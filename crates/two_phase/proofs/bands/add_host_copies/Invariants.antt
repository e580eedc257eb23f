use Rattle.std.proofs.Common.{◌≡◌, ◌++◌, take}
use Rattle.std.specs.Prelude.{flat_map}
use Rattle.two_phase.specs.TwoPhasePlan.{ingress_copy}
use Rattle.two_phase.proofs.bands.add_host_copies.Given as goal

abbrev pub invariant-loop-rule : goal.invariant-loop-rule
invariant-loop-rule l = l.rules.items ≡ l.initial.rules.items ++ flat_map (λ r. flat_map (ingress_copy l.net l.s l.host r) l.tags) (take l.rule-index l.new)
