use Rattle.std.proofs.Common.{◌≡◌, ◌≤◌, length, take}
use Rattle.two_phase.proofs.DeepLaws.{over_deep}
use Rattle.two_phase.proofs.deep_rules.next_depth.Given as goal

abbrev pub invariant-loop-other : goal.invariant-loop-other
invariant-loop-other l = (l.depth ≡ over_deep l.rule (take l.other-index l.before)) × (l.depth ≤ length l.before)
