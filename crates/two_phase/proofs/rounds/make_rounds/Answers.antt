use Rattle.std.proofs.Common.{◌∙◌, ap}
use Rattle.std.proofs.lemmas.Result.{IfOk-weaker}
use Rattle.flow_rules.specs.Tables.{rules_of_all}
use Rattle.two_phase.specs.Layers.{layer_count, rounds_by}
use Rattle.two_phase.proofs.rounds.make_rounds.Goals as goal

pub rounds_from_bands-rounds-requires-clause-tagged : goal.rounds_from_bands-rounds-requires-clause-tagged
rounds_from_bands-rounds-requires-clause-tagged c = c.in_ok-tagged.ensures.ordered

pub returns-clause-rounds : goal.returns-clause-rounds
returns-clause-rounds c =
    IfOk-weaker c.rounds_from_bands-rounds.result _ _
    (λ r is. is ∙ ap (λ layering. rounds_by layering c.args.net.now (rules_of_all c.args.old.now) (rules_of_all c.args.new.now)) c.in_ok-ingress.ensures.layering)
    c.rounds_from_bands-rounds.ensures.rounds

pub returns-clause-layers : goal.returns-clause-layers
returns-clause-layers c =
    IfOk-weaker c.rounds_from_bands-rounds.result _ _ (λ r is. is ∙ ap (λ layering. layer_count layering c.args.net.now (rules_of_all c.args.new.now)) c.in_ok-ingress.ensures.layering)
    c.rounds_from_bands-rounds.ensures.layers
