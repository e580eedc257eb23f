use Rattle.std.proofs.Common.{ℕ, ◌<◌, subst, arith, inl, inr}
use Rattle.flow_rules.specs.Overlaps.{IsClashAt}
use Rattle.flow_rules.proofs.overlaps.least_clash.Goals as goal
use Rattle.net_base.proofs.ItemLaws.{past_end}

pub returns-in-Some : goal.returns-in-Some
returns-in-Some c =
    let found = c.in-Some.ensures in
    record {
      ordered = found.ordered;
      clash = found.clash;
      least = λ k l lt before at. elim before [
        | inl less ↦ c.loop-i.invariant k less l lt at
        | inr (e, below) ↦ found.first l (subst (λ (n : ℕ). n < l) e lt) below (subst (λ (n : ℕ). IsClashAt c.args.rules.now n l) e at)
      ];
    }

pub returns : goal.returns
returns c i j above at =
    let within = past_end c.args.rules.now i at.one at.one_at in
    let end = c.loop-i-test.false in
    c.loop-i.invariant i (omega arith) j above at
