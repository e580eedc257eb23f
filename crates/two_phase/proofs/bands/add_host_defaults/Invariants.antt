use Rattle.std.proofs.Common.{◌≡◌, ◌++◌, take, map}
use Rattle.std.specs.Prelude.{Some}
use Rattle.flow_rules.specs.declared.rules.Action.TheVariants.{Discard}
use Rattle.flow_rules.specs.declared.rules.VlanTest.TheVariants as test
use Rattle.table_difference.specs.SameClasses.{every_address}
use Rattle.two_phase.specs.TwoPhasePlan.{rule}
use Rattle.two_phase.proofs.bands.add_host_defaults.Given as goal

abbrev pub invariant-loop-host : goal.invariant-loop-host
invariant-loop-host l = l.rules.items ≡ l.initial.rules.items ++ map (λ host. rule 32768 (Some host) test.Any every_address Discard) (take l.host-index l.hosts)
