-- The rules of each switch by band and in key order, and the changes that lay them or take them away.
use Rattle.std.specs.Prelude.{◌≡◌, List, map}
use Rattle.net_base.specs.declared.ids.SwitchId.{SwitchId}
use Rattle.topology.specs.Networks.{Network}
use Rattle.flow_rules.specs.Tables.{IsTable}
use Rattle.flow_rules.specs.declared.rules.Rule.{Rule}
use Rattle.update_model.specs.declared.Change.{Change}
use Rattle.update_model.specs.declared.Change.TheVariants.{Insert, Delete}
use Rattle.tag_allocator.specs.Tags.{Tagged, tags_of}
use Rattle.two_phase.specs.TwoPhasePlan.{tagged_rules_by, ingress_rules_by, in_key_order, switches}
use Rattle.two_phase.specs.declared.bands.Band.{Band}
use Rattle.two_phase.specs.declared.bands.Band.TheVariants as band
use Rattle.two_phase.specs.declared.switch_rules.Step.{Step}
use Rattle.two_phase.specs.declared.switch_rules.Step.TheVariants.{Lay, Take}

-- the rules of a band at a switch
abbrev pub band_rules_by : Band → List Tagged → Network → SwitchId → List Rule → List Rule
band_rules_by band.Tagged = tagged_rules_by
band_rules_by band.Ingress = ingress_rules_by

-- the rules of a band with the network's tags
abbrev pub band_rules : Band → Network → SwitchId → List Rule → List Rule
band_rules b net s new = band_rules_by b (tags_of net) net s new

-- one list for each switch: its rules, whose keys are distinct, in key order
pub record AreOrdered (net : Network) (rules : SwitchId → List Rule) (lists : List (List Rule)) : Type 0 where
  pub tables : (s : SwitchId) → IsTable (rules s)
  pub are : lists ≡ map (λ s. in_key_order (rules s)) (switches net)

-- what lays a rule at a switch, or takes it away
abbrev pub change_by : Step → SwitchId → Rule → Change
change_by Lay = Insert
change_by Take = Delete
