use Rattle.std.proofs.Common.{ℕ, ◌-◌}
use Rattle.net_base.specs.Members.{IsIn}
use Rattle.net_base.specs.declared.ids.Place.{Place}
use Rattle.update_model.specs.Mixtures.{Rollout}
use Rattle.mixed_walks.specs.Walks.{IsRoundOf}
use Rattle.mixed_walks.specs.Walking.{IsTogetherTo}
use Rattle.mixed_walks.proofs.walk.WalkRoom.go_on.Given as goal

abbrev pub invariant-going : goal.invariant-going
invariant-going l = record {
  so_far : (u : Rollout) (k : ℕ) → IsRoundOf l.net l.mixes u k → IsTogetherTo u k l.class.first l.class.entry.vlan l.from l.initial.self → IsTogetherTo u k l.class.first l.class.entry.vlan l.next l.self;
  kept : (p : Place) → IsIn p l.initial.self.places → IsIn p l.self.places;
}

abbrev pub decreases-going : goal.decreases-going
decreases-going l = 8193 - l.next
