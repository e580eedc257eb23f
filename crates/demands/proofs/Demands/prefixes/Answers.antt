use Rattle.std.proofs.Common.{◌≡◌, List, map, ap, ◌∙◌}
use Rattle.std.proofs.lemmas.Result.{IfOk-weaker}
use Rattle.demands.specs.Duties.{DemandView}
use Rattle.demands.proofs.RowLaws.{covered_by}
use Rattle.demands.proofs.Demands.prefixes.Goals as goal

pub returns-clause-covered : goal.returns-clause-covered
returns-clause-covered c =
    let same : c.as_slice.result.now ≡ c.args.self.now = c.as_slice.ensures.value ∙ c.self.view_is in
    IfOk-weaker c.prefixes_of.result _ _ (λ v e. covered_by c.args.self.now v.items (e ∙ ap (λ (ds : List DemandView). map (λ (d : DemandView). d.dst) ds) same)) c.prefixes_of.ensures
