use Rattle.std.proofs.Common.{subst, [], arith}
use Rattle.std.proofs.lemmas.List.{get_or_default}
use Rattle.std.specs.List.{AllByRecursion}
use Rattle.update_model.specs.Ranges.{IsPlanChange}
use Rattle.certificates.proofs.Chains.{granted, all_from}
use Rattle.certificates.proofs.validity.are_plan_rounds.Goals as goal

pub returns : goal.returns
returns c =
    let P = AllByRecursion (IsPlanChange c.args.net.now) in
    granted (all_from P c.args.rounds.now (λ k d lt. subst P (get_or_default c.args.rounds.now k [] d lt) (c.loop-k.invariant k (omega arith))))
