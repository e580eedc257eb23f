-- What the files of an update mean.
use Rattle.std.specs.Prelude.{◌≡◌, ℕ, List, [], Option, None, Some, Ok}
use Rattle.std.specs.Io.KnownBytes.{Appends}
use Rattle.file_access.specs.Outside.{Files}
use Rattle.topology.specs.Networks.{Network}
use Rattle.topology_files.specs.Topology.{network_in}
use Rattle.flow_rules.specs.declared.rules.Rule.{Rule}
use Rattle.flow_rules.specs.Tables.{rules_of_all}
use Rattle.config_files.specs.Configuration.{configuration_in}
use Rattle.demands.specs.Duties.{DemandView}
use Rattle.demands.specs.Policy.{demands_in}
use Rattle.certificates.specs.Updates.{Update}
use Rattle.certificates.specs.declared.Plan.{Plan}
use Rattle.plan_format.specs.Plans.{plan_in}
use Rattle.command_base.specs.declared.kinds.FileKind.TheVariants as kind
use Rattle.command_base.specs.declared.updates.UpdateFiles.{UpdateFiles}
use Rattle.command_base.specs.declared.plan_files.PlanFiles.{PlanFiles}
use Rattle.command_base.specs.Names.{UpdateNames, PlanNames}
use Rattle.command_base.specs.Meanings.{IsReadAs}

-- the meaning of files that were read
abbrev pub meaning_of : UpdateFiles → Update
meaning_of files = record { net = files.net; old = rules_of_all files.old; new = rules_of_all files.new; demands = files.demands }

-- the policy means these demands; without one there are none
abbrev pub IsPolicyOf : Files → Network → Option (List ℕ) → List DemandView → Type 0
IsPolicyOf files net None demands = demands ≡ []
IsPolicyOf files net (Some name) demands = IsReadAs files kind.Policy (demands_in net) name demands

-- the files mean this update
pub record FilesMeanUpdate (files : Files) (names : UpdateNames) (u : Update) : Type 0 where
  pub topology_is : IsReadAs files kind.Topology network_in names.topology u.net
  pub old_is : IsReadAs files kind.Old (configuration_in u.net) names.old u.old
  pub new_is : IsReadAs files kind.New (configuration_in u.net) names.new u.new
  pub policy_is : IsReadAs files kind.Policy (demands_in u.net) names.policy u.demands

-- a network and a plan of it
pub record PlanMeaning : Type 0 where
  pub net : Network
  pub plan : Plan

-- the meaning of a network and a plan that were read
abbrev pub plan_meaning_of : PlanFiles → PlanMeaning
plan_meaning_of files = record { net = files.net; plan = files.plan }

-- the files mean a network and this plan of it
pub record FilesMeanOnePlan (files : Files) (names : PlanNames) (m : PlanMeaning) : Type 0 where
  pub topology_is : IsReadAs files kind.Topology network_in names.topology m.net
  pub plan_is : IsReadAs files kind.Plan (plan_in m.net) names.plan m.plan

-- the text that was written means the plan
pub record WritesPlan (net : Network) (p : Plan) (old new : Option (List ℕ)) : Type 0 where
  pub text : List ℕ
  pub means : plan_in net text ≡ Ok p
  pub written : Appends old new text
