-- What is checked: an update between two user configurations under demands, with the evidence of its plan.
use Rattle.topology.specs.Networks.{Network}
use Rattle.flow_rules.specs.Tables.{TableState, rules_of_all}
use Rattle.path_walk.specs.UserConfigs.{IsUserConfig}
use Rattle.demands.specs.Duties.{DemandView}
use Rattle.certificates.specs.Updates.{Task}
use Rattle.certificates.specs.Valid.{IsValidPlan}
use Rattle.certificates.specs.Laws.{task_of}
use Rattle.certificates.specs.declared.Evidence.{Evidence}
use Rattle.certificates.specs.declared.Plan.{Plan}
use Rattle.std.specs.Prelude.{List}

-- an update with the evidence of its plan
pub record CaseView : Type 0 where
  pub task : Task
  pub evidence : Evidence

-- the case of a network, two configurations, demands and a plan
abbrev pub case_of : Network → List TableState → List TableState → List DemandView → Plan → CaseView
case_of net old new demands plan = record { task = task_of net old new demands plan; evidence = plan.evidence }

-- both configurations are user configurations, and the plan is valid
pub record IsCase (net : Network) (old new : List TableState) (plan : Plan) : Type 0 where
  pub old_user : IsUserConfig net (rules_of_all old)
  pub new_user : IsUserConfig net (rules_of_all new)
  pub valid : IsValidPlan net plan

-- what every case keeps: both configurations are user configurations, and the plan is valid
pub record IsChecked (c : CaseView) : Type 0 where
  pub old_user : IsUserConfig c.task.update.net c.task.update.old
  pub new_user : IsUserConfig c.task.update.net c.task.update.new
  pub valid : IsValidPlan c.task.update.net (record { rounds = c.task.rounds; evidence = c.evidence })
