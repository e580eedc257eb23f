use Rattle.std.proofs.Common.{ℕ, ◌-◌}
use Rattle.update_model.specs.Mixtures.{Rollout}
use Rattle.mixed_walks.specs.Walks.{IsRoundOf}
use Rattle.mixed_walks.specs.Walking.{IsWalkedTo}
use Rattle.mixed_walks.proofs.walk.WalkRoom.walk.Given as goal

abbrev pub invariant-walking : goal.invariant-walking
invariant-walking l = (u : Rollout) (k : ℕ) → IsRoundOf l.net l.mixes u k → IsWalkedTo u k l.class.first l.class.entry l.next l.self

abbrev pub decreases-walking : goal.decreases-walking
decreases-walking l = 8193 - l.next
