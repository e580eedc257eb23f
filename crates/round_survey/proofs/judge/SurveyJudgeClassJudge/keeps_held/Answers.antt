use Rattle.round_survey.specs.Rounds.{round_rollout}
use Rattle.round_survey.proofs.SeenLaws.{missed_known}
use Rattle.round_survey.proofs.judge.SurveyJudgeClassJudge.keeps_held.Goals as goal

pub returns-clause-unmet : goal.returns-clause-unmet
returns-clause-unmet c n class came is unmet held =
    let judge = c.args.self.now in
    let round = c.requires.prepared in
    let known =
    missed_known (round_rollout judge.round) round.good round.clear round.is.keeps_old judge.round.number round.is.keeps round.within judge.duties.now.demands class came unmet.stands unmet.unmet held
    (λ j less. c.requires.before j less n class is) in
    record { walks = known.0; held = known.1 }
