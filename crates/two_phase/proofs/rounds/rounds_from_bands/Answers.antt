use Rattle.std.proofs.Common.{sym, ◌∙◌, ap, length}
use Rattle.flow_rules.specs.Tables.{rules_of_all}
use Rattle.two_phase.specs.Layers.{layering_of}
use Rattle.two_phase.proofs.LayeringLaws.{layering_is}
use Rattle.two_phase.proofs.rounds.rounds_from_bands.Goals as goal

pub rounds_in_order-rounds-requires-clause-layers : goal.rounds_in_order-rounds-requires-clause-layers
rounds_in_order-rounds-requires-clause-layers c = c.deref.ensures.value ∙ c.in_ok-layers.ensures c.args.net.now (rules_of_all c.args.new.now) c.requires.ingress

pub returns-clause-layers : goal.returns-clause-layers
returns-clause-layers c =
    let net = c.args.net.now in
    let new = rules_of_all c.args.new.now in
    c.len-count.ensures ∙ sym c.deref.ensures.len ∙ ap length (c.deref.ensures.value ∙ c.in_ok-layers.ensures net new c.requires.ingress)
    ∙ (layering_is (layering_of c.args.bands.now.ingress.now) net new).laid_count
