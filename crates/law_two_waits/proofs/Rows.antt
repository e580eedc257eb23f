-- Worked rows: the two waits of the plan of eight rounds for the net of five switches, and of one whose ingress rules are the defaults alone.
use Rattle.std.proofs.Common.{◌≡◌, [], ◌∷◌, length, refl}
use Rattle.two_phase.specs.TwoPhasePlan.{ranks}
use Rattle.two_phase.specs.Depths.{depth_count}
use Rattle.two_phase.proofs.Rows.{net_L, L_new}
use Rattle.law_two_waits.specs.TwoWaits.{waits_by}

waits_by_rank : waits_by (length (ranks net_L L_new)) ≡ 4 ∷ 8 ∷ []
waits_by_rank = refl

waits_by_depth : waits_by (depth_count net_L L_new) ≡ 4 ∷ 8 ∷ []
waits_by_depth = refl

-- six rounds
without_rules : waits_by (length (ranks net_L [])) ≡ 3 ∷ 6 ∷ []
without_rules = refl
