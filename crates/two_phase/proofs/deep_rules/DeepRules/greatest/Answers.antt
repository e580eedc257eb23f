use Rattle.std.proofs.Common.{◌≡◌, ◌∷◌, ◌∙◌, ap, map, length, arith}
use Rattle.two_phase.specs.Depths.{greatest}
use Rattle.two_phase.proofs.DeepLaws.{depths_in, greatest_listed, all_listed}
use Rattle.two_phase.proofs.deep_rules.DeepRules.greatest.Goals as goal

pub loop-rules-preserved : goal.loop-rules-preserved
loop-rules-preserved c =
    greatest_listed (λ v. v.items) c.deref-rules-items.result.now c.loop-rules.rules-index c.rules-item.result c.rules-item.result c.loop-rules-test.true c.rules-item.is c.loop-rules.greatest
    c.greatest_depth-greatest.result c.loop-rules.invariant (c.greatest_depth-greatest.ensures ∙ ap (λ ds. greatest (c.loop-rules.greatest ∷ depths_in ds)) c.deref.ensures.value)

pub returns : goal.returns
returns c =
    let e : c.loop-rules.rules-index ≡ length c.deref-rules-items.result.now = omega arith in
    c.loop-rules.invariant ∙ all_listed (λ v. v.items) c.deref-rules-items.result.now c.loop-rules.rules-index e c.args.self.now (ap (map (λ v. v.items)) c.deref-rules-items.ensures.value ∙ c.self.view_is)
