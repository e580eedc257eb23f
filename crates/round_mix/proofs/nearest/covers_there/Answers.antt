use Rattle.std.proofs.Common.{sym, ◌∙◌, ap}
use Rattle.path_walk.specs.Outcomes.{header_at}
use Rattle.flow_rules.specs.Patterns.{covers}
use Rattle.round_mix.specs.declared.MarkedRule.{MarkedRule}
use Rattle.round_mix.proofs.NearestLaws.{there_of}
use Rattle.round_mix.proofs.nearest.covers_there.Goals as goal

pub returns : goal.returns
returns c =
    let h = header_at c.args.packet.place c.args.packet.dst in
    let m = c.index-rules-position.result in
    c.covers.ensures ∙ sym (ap (λ (x : MarkedRule). covers x.rule.key.pattern h) c.index-rules-position.is) ∙ sym (there_of h c.args.rules.now c.args.position m c.requires c.index-rules-position.is)
