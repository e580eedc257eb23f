use Rattle.std.proofs.Common.{List, [], ◌∷◌, ◌∙◌, ap}
use Rattle.std.specs.Prelude.{filter, not, reverse}
use Rattle.net_base.specs.declared.ids.SwitchId.{SwitchId}
use Rattle.flow_rules.specs.declared.rules.Rule.{Rule}
use Rattle.flow_rules.specs.Tables.{rules_of_all, rules_at}
use Rattle.update_model.specs.Mixtures.{is_insert}
use Rattle.update_model.specs.Remaining.{remaining_changes}
use Rattle.update_model.specs.declared.Change.{Change}
use Rattle.update_model.specs.declared.Change.TheVariants.{Insert, Delete}
use Rattle.two_phase.specs.TwoPhasePlan.{tagged_rules, ingress_rules, by_switch}
use Rattle.two_phase.specs.Layers.{by_layer, laying_order, layering_of, taking_order}
use Rattle.two_phase.proofs.LayeringLaws.{taking_reversed}
use Rattle.two_phase.proofs.RoundsLaws.{rounds_joined}
use Rattle.two_phase.proofs.rounds.rounds_in_order.Goals as goal

pub returns : goal.returns
returns c =
    let net = c.args.net.now in
    let old = rules_of_all c.args.old.now in
    let new = rules_of_all c.args.new.now in
    let layering = layering_of c.args.bands.now.ingress.now in
    let tagged : SwitchId → List Rule = λ s. tagged_rules net s (rules_at new s) in
    let ingress : SwitchId → List Rule = λ s. ingress_rules net s (rules_at new s) in
    let exchange : List (List Change) = filter (λ c. not (is_insert c)) (remaining_changes old new) ∷ filter is_insert (remaining_changes old new) ∷ [] in
    rounds_joined (by_switch net Insert tagged) (by_switch net Delete tagged) exchange (by_layer net Insert layering ingress) (by_layer net Delete layering ingress)
    c.args.layers.now (laying_order layering net new) (taking_order layering net new)
    c.in_ok-rounds.rounds c.add_laying.new.rounds c.add_exchange.new.rounds c.add_taking.new.rounds c.in_ok-rounds.ensures
    (c.in_ok-add_laying.ensures tagged ingress c.requires.tagged c.requires.ingress) c.in_ok-add_exchange.ensures (c.in_ok-add_taking.ensures tagged ingress c.requires.tagged c.requires.ingress)
    c.requires.layers (ap reverse c.requires.layers ∙ taking_reversed layering net new)
