use Rattle.std.proofs.Common.{List, [], ◌∷◌, ◌++◌, map, take, ap, sym, ◌∙◌}
use Rattle.std.proofs.lemmas.List.{take_all, map_more}
use Rattle.net_base.specs.declared.prefix.Prefix.{Prefix}
use Rattle.demands.specs.Duties.{DemandView}
use Rattle.demands.proofs.policy.prefixes_of.Goals as goal

pub loop-demand-preserved : goal.loop-demand-preserved
loop-demand-preserved c =
    let i = c.loop-demand.demand-index in
    let ds : List DemandView = c.args.demands.now in
    let dst = λ (d : DemandView). d.dst in
    c.in_ok-push.ensures.items ∙ ap (λ (v : List Prefix). v ++ c.demand.inside.cover.dst ∷ []) c.loop-demand.invariant
    ∙ ap (λ (d : DemandView). map dst (take i ds) ++ d.dst ∷ []) (c.demand.view_is ∙ c.demand-item.is) ∙ sym (map_more dst ds i c.demand-item.result c.loop-demand-test.true)

pub returns : goal.returns
returns c = c.loop-demand.invariant ∙ ap (map (λ (d : DemandView). d.dst)) (take_all c.loop-demand.demand-index c.args.demands.now c.loop-demand-test.false)
