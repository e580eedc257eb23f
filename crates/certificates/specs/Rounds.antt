-- Lists of changes that can be one round of an ordered plan.
use Rattle.std.specs.Prelude.{ℕ, ◌<◌, ◌≤◌, List, [], ◌∷◌}
use Rattle.net_base.specs.Members.{IsSubsequence}
use Rattle.net_base.specs.declared.ids.SwitchId.{SwitchId}
use Rattle.net_base.specs.declared.ids.Place.{Place}
use Rattle.topology.specs.Networks.{Network, switch_count, capacity_of}
use Rattle.flow_rules.specs.Tables.{IsClear}
use Rattle.flow_rules.specs.declared.rules.Rule.{Rule}
use Rattle.dest_classes.specs.Classes.{ClassList, IsClass}
use Rattle.dest_classes.specs.declared.Class.{Class}
use Rattle.demands.specs.Duties.{DemandView, PacketDuties, duties_of}
use Rattle.update_model.specs.Changes.{IsGoodRound}
use Rattle.update_model.specs.Mixtures.{Rollout, MayHold, need_of}
use Rattle.update_model.specs.declared.Change.{Change}
use Rattle.certificates.specs.Ordered.{IsSafe}

-- tables of a network, and one round of changes over them
abbrev pub one_round_of : Network → List (List Rule) → List Change → Rollout
one_round_of net tables changes = record { net = net; old = tables; rounds = changes ∷ [] }

-- some numbering and before sets keep the class safe while the changes are made
pub record IsSafeByEvidence (net : Network) (demands : List DemandView) (tables : List (List Rule)) (changes : List Change) (class : Class) : Type 0 where
  pub numbers : List ℕ
  pub sets : List (List ℕ)
  pub safe : IsSafe (one_round_of net tables changes) 0 class.first class.entry (duties_of demands class.entry class.first) numbers sets

-- the changes can be a round at these tables: they are a good round, each mixture is clear, each need within capacity, and some evidence keeps every class safe
pub record CanBeRound (net : Network) (demands : List DemandView) (classes : ClassList) (tables : List (List Rule)) (changes : List Change) : Type 0 where
  pub good : IsGoodRound tables changes
  pub clear : (s : SwitchId) (mixed : List Rule) → MayHold (one_round_of net tables changes) 0 s mixed → IsClear mixed
  pub fits : (s : SwitchId) → s.0 < switch_count net → need_of (one_round_of net tables changes) 0 s ≤ capacity_of net s
  pub safe : (n : ℕ) (class : Class) → IsClass classes n class → IsSafeByEvidence net demands tables changes class

-- what keeps a class safe while changes are made keeps it safe while fewer of them are
abbrev pub FewerChangesAreSafe : Network → List (List Rule) → List Change → List Change → Type 0
FewerChangesAreSafe net tables fewer changes =
    (dst : ℕ) (entry : Place) (duties : PacketDuties) (numbers : List ℕ) (sets : List (List ℕ))
    → IsSafe (one_round_of net tables changes) 0 dst entry duties numbers sets → IsSafe (one_round_of net tables fewer) 0 dst entry duties numbers sets
