-- Updates, and the rounds by which one is carried out.
use Rattle.std.specs.Prelude.{List}
use Rattle.topology.specs.Networks.{Network}
use Rattle.flow_rules.specs.declared.rules.Rule.{Rule}
use Rattle.demands.specs.Duties.{DemandView}
use Rattle.update_model.specs.Mixtures.{Rollout}
use Rattle.update_model.specs.declared.Change.{Change}
use Rattle.certificates.specs.declared.Plan.{Plan}

-- an update of a network: the tables before and after it, and the demands
pub record Update : Type 0 where
  pub net : Network
  pub old : List (List Rule)
  pub new : List (List Rule)
  pub demands : List DemandView

-- an update, to be carried out by these rounds
pub record Task : Type 0 where
  pub update : Update
  pub rounds : List (List Change)

-- the update by the rounds of a plan
abbrev pub task_for : Update → Plan → Task
task_for u plan = record { update = u; rounds = plan.rounds }

-- the rounds with the network and the tables before them
abbrev pub rollout : Task → Rollout
rollout t = record { net = t.update.net; old = t.update.old; rounds = t.rounds }
