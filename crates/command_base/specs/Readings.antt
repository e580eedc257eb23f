-- The dialogues that read one file, or the files of an update.
use Rattle.std.specs.Prelude.{ℕ, List, [], Option, None, Some, Result, Ok, Err}
use Rattle.topology.specs.Networks.{Network}
use Rattle.topology_files.specs.Topology.{network_in}
use Rattle.flow_rules.specs.declared.rules.Rule.{Rule}
use Rattle.config_files.specs.Configuration.{configuration_in}
use Rattle.demands.specs.Duties.{DemandView}
use Rattle.demands.specs.Policy.{demands_in}
use Rattle.certificates.specs.declared.Plan.{Plan}
use Rattle.plan_format.specs.Plans.{plan_in}
use Rattle.command_base.specs.declared.kinds.FileKind.{FileKind}
use Rattle.command_base.specs.declared.kinds.FileKind.TheVariants as kind
use Rattle.command_base.specs.Lines.{FaultWords, net_words, config_words, demand_words, plan_words}
use Rattle.command_base.specs.Dialogues.{Dialogue, Bad, Ends, Reads, FileRead, file_read, and_then}
use Rattle.command_base.specs.Names.{UpdateNames, PlanNames}
use Rattle.certificates.specs.Updates.{Update}
use Rattle.command_base.specs.Updates.{PlanMeaning}

-- ends with what the bytes mean, or where the file is bad
abbrev pub meaning_dialogue : {A E : Type 0} → FileKind → (E → FaultWords) → Result A E → Dialogue A
meaning_dialogue kind words (Ok value) = Ends value
meaning_dialogue kind words (Err fault) = Bad kind (words fault)

-- reads a file of the kind
unfoldable pub reading : {A E : Type 0} → FileKind → (E → FaultWords) → (List ℕ → Result A E) → List ℕ → Dialogue A
reading kind words meaning name = Reads kind name (λ bytes. meaning_dialogue kind words (meaning bytes))

-- reads a network
abbrev pub reading_topology : List ℕ → Dialogue Network
reading_topology name = reading kind.Topology net_words network_in name

-- reads a configuration of the network
abbrev pub reading_config : FileKind → Network → List ℕ → Dialogue (List (List Rule))
reading_config kind net name = reading kind config_words (configuration_in net) name

-- reads a policy of the network, if there is one; without one no demand is made
unfoldable pub reading_policy : Network → Option (List ℕ) → Dialogue (List DemandView)
reading_policy net None = Ends []
reading_policy net (Some name) = reading kind.Policy demand_words (demands_in net) name

-- reads a plan of the network
abbrev pub reading_plan : Network → List ℕ → Dialogue Plan
reading_plan net name = reading kind.Plan plan_words (plan_in net) name

-- reads the network, the old and the new configuration and the policy
unfoldable pub reading_update : UpdateNames → Dialogue Update
reading_update names =
    and_then (reading_topology names.topology) (λ net. and_then (reading_config kind.Old net names.old) (λ old. and_then (reading_config kind.New net names.new) (λ new.
    and_then (reading_policy net (Some names.policy)) (λ demands. Ends (record { net = net; old = old; new = new; demands = demands })))))

-- reads the network and the plan
unfoldable pub reading_plan_files : PlanNames → Dialogue PlanMeaning
reading_plan_files names = and_then (reading_topology names.topology) (λ net. and_then (reading_plan net names.plan) (λ plan. Ends (record { net = net; plan = plan })))

-- the file that was read last, after a policy if there is one
abbrev pub after_policy : Option (List ℕ) → Option FileRead → Option FileRead
after_policy None last = last
after_policy (Some name) last = Some (file_read kind.Policy name)
