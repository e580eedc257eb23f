use Rattle.std.proofs.Common.{◌≡◌, ◌++◌, take, map}
use Rattle.std.specs.Prelude.{None}
use Rattle.flow_rules.specs.declared.rules.Action.TheVariants.{Discard}
use Rattle.flow_rules.specs.declared.rules.VlanTest.TheVariants as test
use Rattle.table_difference.specs.SameClasses.{every_address}
use Rattle.two_phase.specs.TwoPhasePlan.{rule}
use Rattle.two_phase.proofs.bands.add_tag_defaults.Given as goal

abbrev pub invariant-loop-v : goal.invariant-loop-v
invariant-loop-v l = l.rules.items ≡ l.initial.rules.items ++ map (λ v. rule 16384 None (test.Id v.tag) every_address Discard) (take l.v-index l.tags)
