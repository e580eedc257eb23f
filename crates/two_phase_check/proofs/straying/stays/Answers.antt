use Rattle.certificates.specs.Updates.{rollout}
use Rattle.std.proofs.Common.{List, sym, subst}
use Rattle.path_walk.specs.declared.Outcome.{Outcome}
use Rattle.two_phase_check.specs.Agreements.{AreAllFound}
use Rattle.two_phase_check.proofs.StrayLaws.{alone_by}
use Rattle.two_phase_check.proofs.straying.stays.Goals as goal

pub returns-clause-exact : goal.returns-clause-exact
returns-clause-exact c =
    let u = (rollout c.args.round.now.task) in
    let k = c.args.round.now.number in
    alone_by u k c.args.dst c.args.place c.args.expected c.list.result.now c.are_all.result
    (subst (λ (xs : List Outcome). AreAllFound u k c.args.dst c.args.place xs) (sym c.list.ensures) c.find_outcomes.ensures.all) c.are_all.ensures
