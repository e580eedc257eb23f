use Rattle.std.proofs.Common.{◌≡◌, [], cond, take}
use Rattle.std.specs.Prelude.{flat_map}
use Rattle.two_phase.specs.TwoPhasePlan.{is_host_bound, tagged_copy}
use Rattle.two_phase.proofs.bands.tagged_rules.Given as goal

abbrev pub invariant-loop-rule : goal.invariant-loop-rule
invariant-loop-rule l = l.rules.items ≡ flat_map (λ r. cond (is_host_bound l.net l.s r) [] (flat_map (tagged_copy l.net l.s r) l.tags)) (take l.rule-index l.new)
