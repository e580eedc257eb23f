use Rattle.std.proofs.Common.{List, [], ◌∷◌, ◌++◌, take, ap, sym, ◌∙◌}
use Rattle.std.proofs.lemmas.List.{take_all, take_more}
use Rattle.demands.specs.Duties.{DemandView}
use Rattle.demands.proofs.policy.copies_of.Goals as goal

pub loop-demand-preserved : goal.loop-demand-preserved
loop-demand-preserved c =
    let i = c.loop-demand.demand-index in
    let ds : List DemandView = c.args.demands.now in
    c.in_ok-push.ensures.items ∙ ap (λ (v : List DemandView). v ++ c.in_ok-copy.field-0 ∷ []) c.loop-demand.invariant
    ∙ ap (λ (d : DemandView). take i ds ++ d ∷ []) (c.in_ok-copy.ensures ∙ c.demand-item.is) ∙ sym (take_more ds i c.demand-item.result c.loop-demand-test.true)

pub returns : goal.returns
returns c = c.loop-demand.invariant ∙ take_all c.loop-demand.demand-index c.args.demands.now c.loop-demand-test.false
