use Rattle.std.proofs.Common.{refl, get_or}
use Rattle.two_phase.specs.SwitchRules.{change_by}
use Rattle.two_phase.specs.Layers.{by_layer, layering_of}
use Rattle.two_phase.proofs.StepLaws.{map_added}
use Rattle.two_phase.proofs.rounds.add_layers.Goals as goal

pub loop-layer-preserved : goal.loop-layer-preserved
loop-layer-preserved c = λ rules o.
    let layers = c.args.layers.now in
    map_added (by_layer c.args.net.now (change_by c.args.step) (layering_of c.args.ingress.now) rules) layers c.loop-layer.layer-index (get_or layers c.loop-layer.layer-index 0) 0 c.loop-layer-test.true refl
    c.args.rounds.now c.loop-layer.rounds c.push_round.new.self c.in_ok-round.field-0.items (c.loop-layer.invariant rules o) (c.in_ok-round.ensures rules o) c.in_ok-push_round.ensures.ok
