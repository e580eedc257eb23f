use Rattle.std.proofs.Common.{◌≡◌, ◌++◌, take}
use Rattle.std.specs.Prelude.{flat_map}
use Rattle.two_phase.specs.TwoPhasePlan.{tagged_copy}
use Rattle.two_phase.proofs.bands.add_tagged_copies.Given as goal

abbrev pub invariant-loop-v : goal.invariant-loop-v
invariant-loop-v l = l.rules.items ≡ l.initial.rules.items ++ flat_map (tagged_copy l.net l.s l.new) (take l.v-index l.tags)
