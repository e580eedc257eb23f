use Rattle.std.proofs.Common.{◌≡◌, ◌++◌, List, map, take}
use Rattle.net_base.specs.declared.ids.SwitchId.{SwitchId}
use Rattle.flow_rules.specs.declared.rules.Rule.{Rule}
use Rattle.two_phase.specs.SwitchRules.{change_by}
use Rattle.two_phase.specs.Layers.{AreLayered, by_layer, layering_of}
use Rattle.two_phase.proofs.rounds.add_layers.Given as goal

abbrev pub invariant-loop-layer : goal.invariant-loop-layer
invariant-loop-layer l =
    (rules : SwitchId → List Rule) → AreLayered l.net rules l.ingress
    → l.rounds ≡ l.initial.rounds ++ map (by_layer l.net (change_by l.step) (layering_of l.ingress) rules) (take l.layer-index l.layers)
