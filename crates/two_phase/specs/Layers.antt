-- The layers in which the ingress rules are laid and taken away: by rank, or by depth.
use Rattle.std.specs.Prelude.{◌==◌, ℕ, List, length, filter, reverse}
use Rattle.net_base.specs.declared.ids.SwitchId.{SwitchId}
use Rattle.topology.specs.Networks.{Network}
use Rattle.flow_rules.specs.Tables.{rules_at}
use Rattle.flow_rules.specs.declared.rules.Rule.{Rule}
use Rattle.update_model.specs.declared.Change.{Change}
use Rattle.two_phase.specs.TwoPhasePlan.{ingress_rules, by_switch, ranks, layered_rounds}
use Rattle.two_phase.specs.SwitchRules.{AreOrdered}
use Rattle.two_phase.specs.Depths.{depth_of, depth_count, depths}
use Rattle.two_phase.specs.DeepRules.{AreDeep}
use Rattle.two_phase.specs.declared.layers.Layering.{Layering}
use Rattle.two_phase.specs.declared.layers.Layering.TheVariants.{ByRank, ByDepth}
use Rattle.two_phase.specs.declared.layers.Layers.{Layers}
use Rattle.two_phase.specs.declared.layers.Layers.TheVariants.{Ranks, Depths}

-- the layer of a rule among those of its switch: its priority, or its depth
abbrev pub layer_of : Layering → List Rule → Rule → ℕ
layer_of ByRank rules r = r.key.priority
layer_of ByDepth rules r = depth_of rules r

-- a change of each rule of one layer, by switch and then in key order
abbrev pub by_layer : Network → (SwitchId → Rule → Change) → Layering → (SwitchId → List Rule) → ℕ → List Change
by_layer net change layering rules layer = by_switch net change (λ s. filter (λ r. layer_of layering (rules s) r == layer) (rules s))

-- the layers in the order in which they are laid
abbrev pub laying_order : Layering → Network → List (List Rule) → List ℕ
laying_order ByRank net new = reverse (ranks net new)
laying_order ByDepth net new = depths net new

-- the layers in the order in which they are taken away
abbrev pub taking_order : Layering → Network → List (List Rule) → List ℕ
taking_order ByRank net new = ranks net new
taking_order ByDepth net new = reverse (depths net new)

-- how many layers there are
abbrev pub layer_count : Layering → Network → List (List Rule) → ℕ
layer_count ByRank net new = length (ranks net new)
layer_count ByDepth net new = depth_count net new

-- the layer of an ingress rule
abbrev pub ingress_layer : Layering → Network → List (List Rule) → SwitchId → Rule → ℕ
ingress_layer layering net new s r = layer_of layering (ingress_rules net s (rules_at new s)) r

-- the rounds of the plan with these layers
abbrev pub rounds_by : Layering → Network → List (List Rule) → List (List Rule) → List (List Change)
rounds_by layering net old new = layered_rounds net old new (ingress_layer layering net new) (laying_order layering net new) (taking_order layering net new)

-- how the rules of all switches have layers, how many lists there are, and what they hold
abbrev pub layering_of : Layers → Layering
layering_of (Ranks lists) = ByRank
layering_of (Depths lists) = ByDepth

abbrev pub list_count : Layers → ℕ
list_count (Ranks lists) = length lists
list_count (Depths lists) = length lists

abbrev pub AreLayered : Network → (SwitchId → List Rule) → Layers → Type 0
AreLayered net rules (Ranks lists) = AreOrdered net rules lists
AreLayered net rules (Depths lists) = AreDeep net rules lists
