use Rattle.std.proofs.Common.{◌≡◌, map}
use Rattle.flow_rules.specs.Tables.{rules_of_all, rules_at}
use Rattle.two_phase.specs.SwitchRules.{band_rules}
use Rattle.two_phase.specs.TwoPhasePlan.{in_key_order}
use Rattle.two_phase.proofs.SwitchLaws.{first_switches}
use Rattle.two_phase.proofs.ranks.make_band.Given as goal

abbrev pub invariant-loop-number : goal.invariant-loop-number
invariant-loop-number l = l.all ≡ map (λ s. in_key_order (band_rules l.band l.net s (rules_at (rules_of_all l.new) s))) (first_switches l.number)
