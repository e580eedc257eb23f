use Rattle.std.proofs.Common.{subst}
use Rattle.certificates.specs.Updates.{rollout}
use Rattle.round_tables.specs.Loading.{IsFirstRoundFault}
use Rattle.round_tables.specs.declared.loading.RoundFault.{RoundFault}
use Rattle.plan_checker.proofs.FirstReasons.{bad_first, unclear_first}
use Rattle.plan_checker.proofs.tables.fault_reason.Goals as goal

pub returns-in-BadChange-clause-first : goal.returns-in-BadChange-clause-first
returns-in-BadChange-clause-first c =
    let case = c.args.case.now in
    let k = c.args.k in
    bad_first case.task case.evidence k c.in-BadChange.switch c.in-BadChange.change
    (subst (λ (f : RoundFault). IsFirstRoundFault (rollout case.task) k f) c.in-BadChange.is c.requires.first) c.round_number-round.result c.round_number-round.ensures

pub returns-in-Unclear-clause-first : goal.returns-in-Unclear-clause-first
returns-in-Unclear-clause-first c =
    let case = c.args.case.now in
    let k = c.args.k in
    unclear_first case.task case.evidence k c.in-Unclear.switch c.requires.round
    (subst (λ (f : RoundFault). IsFirstRoundFault (rollout case.task) k f) c.in-Unclear.is c.requires.first) c.round_number-round.result c.round_number-round.ensures
