use Rattle.std.proofs.Common.{◌<◌}
use Rattle.net_base.specs.declared.ids.SwitchId.{SwitchId}
use Rattle.breaking_walks.specs.PlaceSteps.{NeverBack}
use Rattle.breaking_walks.proofs.passing.are_passed_once.Given as goal

abbrev pub invariant-loop-i : goal.invariant-loop-i
invariant-loop-i l = (s : SwitchId) → s.0 < l.i → NeverBack l.steps s
