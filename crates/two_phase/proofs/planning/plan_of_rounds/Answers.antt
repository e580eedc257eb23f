use Rattle.std.proofs.Common.{ap, ◌∷◌, [], ◌+◌}
use Rattle.certificates.specs.declared.Evidence.TheVariants.{TwoPhase}
use Rattle.certificates.specs.declared.Plan.{Plan}
use Rattle.certificates.specs.declared.TwoPhaseEvidence.{TwoPhaseEvidence}
use Rattle.two_phase.specs.TwoPhasePlan.{label_tables}
use Rattle.two_phase.proofs.ValidPlans.{same_evidence}
use Rattle.two_phase.proofs.planning.plan_of_rounds.Goals as goal

pub returns-in-Ok : goal.returns-in-Ok
returns-in-Ok c =
    let plan : TwoPhaseEvidence → Plan = λ e. record { rounds = c.args.rounds; evidence = TwoPhase e } in
    ap (λ e. plan e)
    (same_evidence c.in-Ok.evidence (label_tables c.args.net.now) (record { round = 1; labels = 0 } ∷ record { round = c.args.layers + 2; labels = 1 } ∷ []) c.args.tried.now
    c.in-Ok.ensures.labels c.in-Ok.ensures.picks c.in-Ok.ensures.tried)
