use Rattle.std.proofs.Common.{ℕ, ◌<◌, get_or}
use Rattle.net_base.specs.declared.ids.SwitchId.{SwitchId}
use Rattle.waypoint_evidence.specs.Befores.{Holds}
use Rattle.waypoint_evidence.proofs.first_held.Given as goal

abbrev pub invariant-loop-s : goal.invariant-loop-s
invariant-loop-s l = (k : ℕ) (d : SwitchId) → k < l.s-index → ¬ Holds l.before (get_or l.switches k d)
