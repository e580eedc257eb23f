use Rattle.std.proofs.Common.{◌≡◌}
use Rattle.schedule_pilot.specs.Counts.{AreLowered, position_above}
use Rattle.schedule_pilot.proofs.flag_tree.lower_up.Given as goal

abbrev pub invariant-loop-j : goal.invariant-loop-j
invariant-loop-j l = AreLowered l.i l.j l.initial.rows l.rows × (l.position ≡ position_above l.i l.j)
